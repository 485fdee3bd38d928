-- How identifiers are made one by one: each is known by the text that makes it, and one that is made a second time by two texts.
use Rattle.std.proofs.Common.{◌≡◌, ℕ, ◌+◌, ◌<◌, ◌≤◌, Bool, true, false, List, [], ◌∷◌, ◌++◌, length, refl, ap, sym, ◌∙◌, subst, arith, inl, inr}
use Rattle.std.specs.Prelude.{◌||◌, ◌&&◌, ◌==◌, ◌⊎◌, ◌≢◌, ◌^◌, not, Option, Some, None, if◌then◌else◌}
use Rattle.std.specs.List.{All}
use Rattle.std.proofs.lemmas.List.Elements.{All-head, All-tail}
use Rattle.std.specs.Option.{option_or}
use Rattle.std.specs.Str.{bytes_eq}
use Rattle.std.specs.Cmp.Lexicographic.{same_text}
use Rattle.sia_blake.specs.Blake2b.{blake2b_256}
use Rattle.sia_types.specs.declared.coins.CoinOutput.{CoinOutput}
use Rattle.sia_ids.specs.Transactions.{settlement_id, settlement_text}
use Rattle.sia_ledger.specs.declared.fact.Fact.{Fact}
use Rattle.sia_ledger.specs.declared.fact.Deed.{Deed}
use Rattle.sia_ledger.specs.declared.fact.Deed.TheVariants as deed
use Rattle.sia_ledger.specs.Facts.{fact, is_known, last_deed}
use Rattle.sia_ledger.specs.State.{State, makes, add, add_all, numbered}
use Rattle.sia_ledger.specs.Effects.{is_paying, settlement_facts}
use Rattle.sia_ledger.specs.Texts.{IsNumbered, IsTwice}
use Rattle.sia_ledger.specs.Paying.{AllDeeds}
use Rattle.sia_ledger.proofs.Held.{known-push, unknown}
use Rattle.sia_ledger.proofs.Keeps.{all-push, back}

-- a text that makes an identifier
pub record MakesBy (T : List ℕ → Type 0) (id : List ℕ) : Type 0 where
  pub text : List ℕ
  pub kind : T text
  pub makes : blake2b_256 text ≡ id

-- a contract's lists of outputs are shorter than 2^64
abbrev pub IsShort : Deed → Type 0
IsShort (deed.Formed terms) = (length terms.valid < 2 ^ 64) × (length terms.missed < 2 ^ 64)
IsShort (deed.Revised terms) = (length terms.valid < 2 ^ 64) × (length terms.missed < 2 ^ 64)
IsShort other = Unit {0}

-- each identifier that facts are about is made by such a text; and where one was made twice, two texts show it
pub record IsCovered (Text T : List ℕ → Type 0) (s : State) : Type 0 where
  pub known : s.twice ≡ None → (id : List ℕ) → is_known s.facts id ≡ true → MakesBy T id
  pub twice : (id : List ℕ) → s.twice ≡ Some id → IsTwice Text id
  pub short : AllDeeds IsShort s.facts

-- texts that are more
pub covered_as : (Text T U : List ℕ → Type 0) (s : State) → (s.twice ≡ None → (text : List ℕ) → T text → U text) → IsCovered Text T s → IsCovered Text U s
covered_as Text T U s more was = record {
  known = λ none id is. let made = was.known none id is in record { text = made.text; kind = more none made.text made.kind; makes = made.makes };
  twice = was.twice;
  short = was.short;
}

either_known : (facts : List Fact) (x : Fact) (id : List ℕ) → is_known (facts ++ x ∷ []) id ≡ true → (is_known facts id ≡ true) ⊎ (x.id ≡ id)
either_known facts x id is = by (is_known facts id) refl (bytes_eq x.id id) refl (sym (known-push facts x id) ∙ is)
  where
    by : (k : Bool) → is_known facts id ≡ k → (b : Bool) → bytes_eq x.id id ≡ b → (k || b) ≡ true → (is_known facts id ≡ true) ⊎ (x.id ≡ id)
    by true old b same e = inl old
    by false old true same e = inr (same_text x.id id (sym same))
    by false old false same e = cc

-- what has a last deed is known
pub last_known : (facts : List Fact) (id : List ℕ) (what : Deed) → last_deed facts id ≡ Some what → is_known facts id ≡ true
last_known facts id what last = by (is_known facts id) refl
  where
    none_some : None ≡ Some what → ⊥
    none_some e = cc

    by : (k : Bool) → is_known facts id ≡ k → is_known facts id ≡ true
    by true is = is
    by false is = absurd (none_some (sym (unknown facts id is) ∙ last))

-- a fact about what is known
pub covered_name : (Text T : List ℕ → Type 0) (s : State) (x : Fact) → is_known s.facts x.id ≡ true → IsShort x.deed → IsCovered Text T s → IsCovered Text T (record s { facts = s.facts ++ x ∷ [] })
covered_name Text T s x there short was = record {
  known = λ none id is. by id (either_known s.facts x id is) none;
  twice = was.twice;
  short = all-push IsShort s.facts x was.short short;
}
  where
    by : (id : List ℕ) → (is_known s.facts id ≡ true) ⊎ (x.id ≡ id) → s.twice ≡ None → MakesBy T id
    by id (inl old) none = was.known none id old
    by id (inr same) none = subst (MakesBy T) same (was.known none x.id there)

some_same : (a b : List ℕ) → Some a ≡ Some b → a ≡ b
some_same a b e = cc

some_none : (a : List ℕ) → Some a ≡ None → ⊥
some_none a e = cc

-- a text is new, and of those that are told
pub record IsFresh (Text T : List ℕ → Type 0) (w : List ℕ) : Type 0 where
  pub own : Text w
  pub inside : (text : List ℕ) → T text → Text text
  pub new : (text : List ℕ) → T text → text ≢ w

-- a making fact by a new text
pub covered_make : (Text T : List ℕ → Type 0) (s : State) (x : Fact) (w : List ℕ) → makes x.deed ≡ true → IsShort x.deed → x.id ≡ blake2b_256 w → (s.twice ≡ None → IsFresh Text T w) → IsCovered Text T s → IsCovered Text (λ text. T text ⊎ (text ≡ w)) (add s x)
unfolding add
covered_make Text T s x w is short id_is fresh was = by (makes x.deed) (is_known s.facts x.id) refl is
  where
    U : List ℕ → Type 0
    U text = T text ⊎ (text ≡ w)

    more : (id : List ℕ) → (is_known s.facts id ≡ true) ⊎ (x.id ≡ id) → s.twice ≡ None → MakesBy U id
    more id (inl old) none = let made = was.known none id old in record { text = made.text; kind = inl made.kind; makes = made.makes }
    more id (inr same) none = record { text = w; kind = inr refl; makes = sym id_is ∙ same }

    again : (found : Option (List ℕ)) → s.twice ≡ found → is_known s.facts x.id ≡ true → (id : List ℕ) → option_or found (Some x.id) ≡ Some id → IsTwice Text id
    again (Some first) before there id e = was.twice id (before ∙ e)
    again None before there id e =
        let made = was.known before x.id there in
        let same : x.id ≡ id = some_same x.id id e in
        let are = fresh before in
        record {
          first = made.text;
          second = w;
          first_of = are.inside made.text made.kind;
          second_of = are.own;
          makes = sym id_is ∙ same;
          collision = record { differ = are.new made.text made.kind; one_digest = made.makes ∙ id_is };
        }

    never : (found : Option (List ℕ)) → option_or found (Some x.id) ≡ None → ⊥
    never (Some first) e = some_none first e
    never None e = some_none x.id e

    by : (m k : Bool) → is_known s.facts x.id ≡ k → m ≡ true → IsCovered Text U (if m && k then record s { twice = option_or s.twice (Some x.id) } else record s { facts = s.facts ++ x ∷ [] })
    by true true there e = record { known = λ none. absurd (never s.twice none); twice = again s.twice refl there; short = was.short }
    by true false there e = record { known = λ none id known. more id (either_known s.facts x id known) none; twice = was.twice; short = all-push IsShort s.facts x was.short short }
    by false k there e = cc

-- numbered texts, of which each is new
pub record IsNew (Text T : List ℕ → Type 0) (w : ℕ → List ℕ) (end : ℕ) : Type 0 where
  pub own : (i : ℕ) → i < end → Text (w i)
  pub inside : (text : List ℕ) → T text → Text text
  pub new : (text : List ℕ) → T text → (i : ℕ) → i < end → text ≢ w i
  pub differ : (i j : ℕ) → i < j → j < end → w i ≢ w j

one_fresh : (Text T : List ℕ → Type 0) (w : ℕ → List ℕ) (end i : ℕ) → i < end → IsNew Text T w end → IsFresh Text (λ text. T text ⊎ IsNumbered w i text) (w i)
one_fresh Text T w end i low are = record { own = are.own i low; inside = inside; new = new }
  where
    inside : (text : List ℕ) → T text ⊎ IsNumbered w i text → Text text
    inside text (inl old) = are.inside text old
    inside text (inr (j, below, is)) = let fits : j < end = omega (arith, below, low) in subst Text (sym is) (are.own j fits)

    new : (text : List ℕ) → T text ⊎ IsNumbered w i text → text ≢ w i
    new text (inl old) same = are.new text old i low same
    new text (inr (j, below, is)) same = are.differ j i below low (sym is ∙ same)

one_more : (T : List ℕ → Type 0) (w : ℕ → List ℕ) (i : ℕ) (text : List ℕ) → (T text ⊎ IsNumbered w i text) ⊎ (text ≡ w i) → T text ⊎ IsNumbered w (i + 1) text
one_more T w i text (inl (inl old)) = inl old
one_more T w i text (inl (inr (j, below, is))) = inr (j, omega (arith, below), is)
one_more T w i text (inr is) = inr (i, omega arith, is)

up_to : (T : List ℕ → Type 0) (w : ℕ → List ℕ) (i end : ℕ) → i ≤ end → (text : List ℕ) → T text ⊎ IsNumbered w i text → T text ⊎ IsNumbered w end text
up_to T w i end low text (inl old) = inl old
up_to T w i end low text (inr (j, below, is)) = inr (j, omega (arith, below, low), is)

-- one of the numbered texts
covered_one : (Text T : List ℕ → Type 0) (w : ℕ → List ℕ) (end i : ℕ) (s : State) (x : Fact) → (s.twice ≡ None → IsNew Text T w end) → i < end → makes x.deed ≡ true → IsShort x.deed → x.id ≡ blake2b_256 (w i) → IsCovered Text (λ text. T text ⊎ IsNumbered w i text) s → IsCovered Text (λ text. T text ⊎ IsNumbered w (i + 1) text) (add s x)
covered_one Text T w end i s x are low is short id_is was =
    covered_as Text (λ text. (T text ⊎ IsNumbered w i text) ⊎ (text ≡ w i)) (λ text. T text ⊎ IsNumbered w (i + 1) text) (add s x) (λ none text kind. one_more T w i text kind)
    (covered_make Text (λ text. T text ⊎ IsNumbered w i text) s x (w i) is short id_is (λ none. one_fresh Text T w end i low (are none)) was)

-- facts that are made by numbered texts
pub covered_numbered : {X : Type 0} (Text T : List ℕ → Type 0) (w : ℕ → List ℕ) (mk : ℕ → X → Fact) (P : X → Type 0) (end : ℕ) → ((i : ℕ) (x : X) → makes (mk i x).deed ≡ true) → ((i : ℕ) (x : X) → P x → IsShort (mk i x).deed) → ((i : ℕ) (x : X) → (mk i x).id ≡ blake2b_256 (w i)) → (i : ℕ) (xs : List X) (s : State) → All P xs → i + length xs ≤ end → (s.twice ≡ None → IsNew Text T w end)
    → IsCovered Text (λ text. T text ⊎ IsNumbered w i text) s → IsCovered Text (λ text. T text ⊎ IsNumbered w end text) (add_all s (numbered mk i xs))
covered_numbered Text T w mk P end is short ids i [] s all count are was = covered_as Text _ (λ text. T text ⊎ IsNumbered w end text) s (λ none text kind. up_to T w i end (omega (arith, count)) text kind) was
covered_numbered Text T w mk P end is short ids i (x ∷ xs) s all count are was =
    covered_numbered Text T w mk P end is short ids (i + 1) xs (add s (mk i x)) (All-tail P x xs all) (omega (arith, count)) (λ none. are (back s (mk i x) none))
    (covered_one Text T w end i s (mk i x) are (omega (arith, count)) (is i x) (short i x (All-head P x xs all)) (ids i x) was)

-- the outputs of a settled contract, but those of value 0
pub covered_settlement : (Text T : List ℕ → Type 0) (from : ℕ) (contract : List ℕ) (valid : Bool) (end : ℕ) (i : ℕ) (outputs : List CoinOutput) (s : State) → i + length outputs ≤ end → (s.twice ≡ None → IsNew Text T (settlement_text contract valid) end)
    → IsCovered Text (λ text. T text ⊎ IsNumbered (settlement_text contract valid) i text) s → IsCovered Text (λ text. T text ⊎ IsNumbered (settlement_text contract valid) end text) (add_all s (settlement_facts from contract valid i outputs))
unfolding settlement_id
covered_settlement Text T from contract valid end i [] s count are was = covered_as Text _ (λ text. T text ⊎ IsNumbered (settlement_text contract valid) end text) s (λ none text kind. up_to T (settlement_text contract valid) i end (omega (arith, count)) text kind) was
covered_settlement Text T from contract valid end i (output ∷ outputs) s count are was =
    by (is_paying output) (λ t back_to here. covered_settlement Text T from contract valid end (i + 1) outputs t (omega (arith, count)) (λ none. are (back_to none)) here)
  where
    x : Fact
    x = fact (settlement_id contract valid i) (deed.Coin output from)

    by : (b : Bool) → ((t : State) → (t.twice ≡ None → s.twice ≡ None) → IsCovered Text (λ text. T text ⊎ IsNumbered (settlement_text contract valid) (i + 1) text) t → IsCovered Text (λ text. T text ⊎ IsNumbered (settlement_text contract valid) end text) (add_all t (settlement_facts from contract valid (i + 1) outputs)))
        → IsCovered Text (λ text. T text ⊎ IsNumbered (settlement_text contract valid) end text) (add_all s (if b then x ∷ settlement_facts from contract valid (i + 1) outputs else settlement_facts from contract valid (i + 1) outputs))
    by true later = later (add s x) (back s x) (covered_one Text T (settlement_text contract valid) end i s x are (omega (arith, count)) refl tt refl was)
    by false later = later s (λ none. none) (covered_as Text _ (λ text. T text ⊎ IsNumbered (settlement_text contract valid) (i + 1) text) s (λ none text kind. up_to T (settlement_text contract valid) i (i + 1) (omega arith) text kind) was)
