-- What a catalog keeps, one fact longer and one shorter.
use Rattle.std.proofs.Common.{◌≡◌, ℕ, ◌+◌, ◌-◌, ◌<◌, List, [], ◌∷◌, ◌++◌, length, take, ap, sym, ◌∙◌, subst, arith}
use Rattle.std.proofs.lemmas.List.{map-append, take_all, take_more}
use Rattle.std.proofs.lemmas.Option.{slice_get_within, get_or_from_slice_get}
use Rattle.std.specs.Prelude.{Option, Some, slice_get}
use Rattle.std.specs.Ordering.{nat_cmp}
use Rattle.std.specs.Cmp.Lexicographic.{slice_cmp}
use Rattle.sia_ledger.specs.declared.chains.Chains.{Chains}
use Rattle.sia_ledger.specs.declared.fact.Fact.{Fact}
use Rattle.sia_ledger.specs.Cataloged.{paid_address, set_end, addresses_of, ends_of, IsCataloged}
use Rattle.sia_ledger.specs.Chained.{IsChained}

pub addresses-push : (facts : List Fact) (x : Fact) → addresses_of (facts ++ x ∷ []) ≡ addresses_of facts ++ paid_address x.deed ∷ []
addresses-push facts x = map-append (λ (y : Fact). paid_address y.deed) facts (x ∷ [])

pub ends-push : (facts : List Fact) (x : Fact) → ends_of (facts ++ x ∷ []) ≡ ends_of facts ++ set_end x.deed ∷ []
ends-push facts x = map-append (λ (y : Fact). set_end y.deed) facts (x ∷ [])

-- one fact more
pub cataloged_more : (addresses : Chains (List ℕ)) (ends : Chains ℕ) (facts : List Fact) (x : Fact) → IsChained (slice_cmp nat_cmp) addresses (addresses_of facts ++ paid_address x.deed ∷ []) → IsChained nat_cmp ends (ends_of facts ++ set_end x.deed ∷ []) → IsCataloged addresses ends (facts ++ x ∷ [])
cataloged_more addresses ends facts x paid ended = record {
  paid = subst (IsChained (slice_cmp nat_cmp) addresses) (sym (addresses-push facts x)) paid;
  ended = subst (IsChained nat_cmp ends) (sym (ends-push facts x)) ended;
}

-- what is kept of the last fact and those before it
pub paid_last : (addresses : Chains (List ℕ)) (ends : Chains ℕ) (facts : List Fact) (x : Fact) → IsCataloged addresses ends (facts ++ x ∷ []) → IsChained (slice_cmp nat_cmp) addresses (addresses_of facts ++ paid_address x.deed ∷ [])
paid_last addresses ends facts x was = subst (IsChained (slice_cmp nat_cmp) addresses) (addresses-push facts x) was.paid

pub ended_last : (addresses : Chains (List ℕ)) (ends : Chains ℕ) (facts : List Fact) (x : Fact) → IsCataloged addresses ends (facts ++ x ∷ []) → IsChained nat_cmp ends (ends_of facts ++ set_end x.deed ∷ [])
ended_last addresses ends facts x was = subst (IsChained nat_cmp ends) (ends-push facts x) was.ended

-- keys that are pushed and taken back
pub pushed_keys : (a b : Chains (List ℕ)) (e f : Chains ℕ) (address : Option (List ℕ)) (end : Option ℕ) → ((keys : List (Option (List ℕ))) → IsChained (slice_cmp nat_cmp) a keys → IsChained (slice_cmp nat_cmp) b (keys ++ address ∷ [])) → ((keys : List (Option ℕ)) → IsChained nat_cmp e keys → IsChained nat_cmp f (keys ++ end ∷ []))
    → (facts : List Fact) (x : Fact) → paid_address x.deed ≡ address → set_end x.deed ≡ end → IsCataloged a e facts → IsCataloged b f (facts ++ x ∷ [])
pushed_keys a b e f address end paid ended facts x pays ends was =
    cataloged_more b f facts x
    (subst (λ k. IsChained (slice_cmp nat_cmp) b (addresses_of facts ++ k ∷ [])) (sym pays) (paid (addresses_of facts) was.paid))
    (subst (λ k. IsChained nat_cmp f (ends_of facts ++ k ∷ [])) (sym ends) (ended (ends_of facts) was.ended))

pub popped_keys : (a b : Chains (List ℕ)) (e f : Chains ℕ) (address : Option (List ℕ)) (end : Option ℕ) → ((keys : List (Option (List ℕ))) → IsChained (slice_cmp nat_cmp) a (keys ++ address ∷ []) → IsChained (slice_cmp nat_cmp) b keys) → ((keys : List (Option ℕ)) → IsChained nat_cmp e (keys ++ end ∷ []) → IsChained nat_cmp f keys)
    → (facts : List Fact) (x : Fact) → paid_address x.deed ≡ address → set_end x.deed ≡ end → IsCataloged a e (facts ++ x ∷ []) → IsCataloged b f facts
popped_keys a b e f address end paid ended facts x pays ends was = record {
  paid = paid (addresses_of facts) (subst (λ k. IsChained (slice_cmp nat_cmp) a (addresses_of facts ++ k ∷ [])) pays (paid_last a e facts x was));
  ended = ended (ends_of facts) (subst (λ k. IsChained nat_cmp e (ends_of facts ++ k ∷ [])) ends (ended_last a e facts x was));
}

-- addresses that stay as they were
pub kept_paid : (a b : Chains (List ℕ)) (e f : Chains ℕ) (facts : List Fact) → ((keys : List (Option (List ℕ))) → IsChained (slice_cmp nat_cmp) a keys → IsChained (slice_cmp nat_cmp) b keys) → ((keys : List (Option ℕ)) → IsChained nat_cmp e keys → IsChained nat_cmp f keys) → IsCataloged a e facts → IsCataloged b f facts
kept_paid a b e f facts paid ended was = record { paid = paid (addresses_of facts) was.paid; ended = ended (ends_of facts) was.ended }

-- the last fact of some
pub last_split : (facts : List Fact) (x : Fact) → slice_get facts (length facts - 1) ≡ Some x → facts ≡ take (length facts - 1) facts ++ x ∷ []
last_split facts x is =
    let within : length facts - 1 < length facts = slice_get_within facts (length facts - 1) x is in
    let all : length facts - 1 + 1 ≡ length facts = omega (arith, within) in
    sym (take_all (length facts) facts (omega arith)) ∙ ap (λ n. take n facts) (sym all) ∙ take_more facts (length facts - 1) x within ∙ ap (λ y. take (length facts - 1) facts ++ y ∷ []) (get_or_from_slice_get facts (length facts - 1) x x is)
