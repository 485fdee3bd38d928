-- What is known of the texts of identifiers that were made: none of them is made again by what may follow.
use Rattle.std.proofs.Common.{◌≡◌, ℕ, ◌+◌, ◌<◌, ◌≤◌, Bool, true, false, List, [], ◌∷◌, ◌++◌, length, refl, ap, sym, ◌∙◌, subst, arith, inl, inr}
use Rattle.std.specs.Prelude.{◌||◌, ◌⊎◌, ◌≢◌, take, Option, Some, None, if◌then◌else◌}
use Rattle.std.specs.List.{list_any}
use Rattle.std.specs.Str.{bytes_eq}
use Rattle.std.specs.Cmp.Lexicographic.{same_text}
use Rattle.sia_types.specs.declared.block.Block.{Block}
use Rattle.sia_types.specs.declared.terms.Terms.{Terms}
use Rattle.sia_types.specs.declared.transaction.Transaction.{Transaction}
use Rattle.sia_encoding.specs.Spelling.{spelled_u64}
use Rattle.sia_ids.specs.Identifiers.{block_text, block_root, payout_text}
use Rattle.sia_ids.specs.Transactions.{made_text}
use Rattle.sia_ledger.specs.declared.fact.Fact.{Fact}
use Rattle.sia_ledger.specs.declared.fact.Deed.{Deed}
use Rattle.sia_ledger.specs.declared.fact.Deed.TheVariants as deed
use Rattle.sia_ledger.specs.Facts.{fact, is_known, last_deed, terms_in, terms_at}
use Rattle.sia_ledger.specs.State.{makes}
use Rattle.sia_ledger.proofs.Always.{Stays}
use Rattle.sia_ledger.proofs.Consumed.{Consumes, Made, Claimed, Settling, IsMade, front, consumes-length, same_consumed}
use Rattle.sia_ledger.proofs.Covering.{last_known}
use Rattle.sia_ledger.proofs.Held.{known-push, last-push, unknown, same-self}
use Rattle.sia_ledger.proofs.Keeps.{other_last}
use Rattle.sia_ledger.proofs.Lengths.{length-block_text, length-payout_text, length-claim_text, length-settlement_text}

-- an output is spent, or a contract settled, where this happened last
abbrev pub is_over : Option Deed → Bool
is_over (Some deed.Spent) = true
is_over (Some (deed.Settled valid)) = true
is_over other = false

-- one of these is over
abbrev pub some_over : List Fact → List (List ℕ) → Bool
some_over facts ids = list_any (λ id. is_over (last_deed facts id)) ids

-- what is known stays known, and what is over stays over
pub record Later (before after : List Fact) : Type 0 where
  pub known : (id : List ℕ) → is_known before id ≡ true → is_known after id ≡ true
  pub over : (id : List ℕ) → is_over (last_deed before id) ≡ true → is_over (last_deed after id) ≡ true

pub later_same : (facts : List Fact) → Later facts facts
later_same facts = record { known = λ id is. is; over = λ id is. is }

pub later_then : (a b c : List Fact) → Later a b → Later b c → Later a c
later_then a b c one two = record { known = λ id is. two.known id (one.known id is); over = λ id is. two.over id (one.over id is) }

or_left : (a b : Bool) → a ≡ true → (a || b) ≡ true
or_left true b e = refl
or_left false b e = cc

true_false : true ≡ false → ⊥
true_false e = cc

-- one fact more keeps what is over over, where it is about something that isn't, or is over itself
pub later_push : (facts : List Fact) (x : Fact) → (is_over (last_deed facts x.id) ≡ true → is_over (Some x.deed) ≡ true) → Later facts (facts ++ x ∷ [])
later_push facts x still = record {
  known = λ id is. known-push facts x id ∙ or_left (is_known facts id) (bytes_eq x.id id) is;
  over = λ id is. by id (bytes_eq x.id id) refl is;
}
  where
    by : (id : List ℕ) (b : Bool) → bytes_eq x.id id ≡ b → is_over (last_deed facts id) ≡ true → is_over (last_deed (facts ++ x ∷ []) id) ≡ true
    by id false other is = ap is_over (other_last facts x id other) ∙ is
    by id true same is =
        let e : x.id ≡ id = same_text x.id id (sym same) in
        let last : last_deed (facts ++ x ∷ []) id ≡ Some x.deed = last-push facts x id ∙ ap (λ b. if b then Some x.deed else last_deed facts id) same in
        ap is_over last ∙ still (ap (λ i. is_over (last_deed facts i)) e ∙ is)

-- what runs isn't over
pub runs_on : (found : Option Deed) (terms : Terms) → terms_in found ≡ Some terms → is_over found ≡ false
runs_on None terms e = refl
runs_on (Some deed.Block) terms e = refl
runs_on (Some (deed.Coin output from)) terms e = refl
runs_on (Some (deed.Fund output)) terms e = refl
runs_on (Some (deed.Formed t)) terms e = refl
runs_on (Some deed.Spent) terms e = cc
runs_on (Some (deed.Revised t)) terms e = refl
runs_on (Some (deed.Settled valid)) terms e = cc

-- so it is along every way of adding facts
pub later_stays : (before : List Fact) → Stays (Later before)
later_stays before = record {
  made = λ facts x is new was. later_then before facts _ was (later_push facts x (λ over. absurd (true_false (sym over ∙ ap is_over (unknown facts x.id new)))));
  spends = λ facts id was. later_then before facts _ was (later_push facts (fact id deed.Spent) (λ over. refl));
  revises = λ facts id terms new runs was. later_then before facts _ was (later_push facts (fact id (deed.Revised new)) (λ over. absurd (true_false (sym over ∙ runs_on (last_deed facts id) terms runs))));
  settles = λ facts id valid terms runs was. later_then before facts _ was (later_push facts (fact id (deed.Settled valid)) (λ over. refl));
}

pub some_over-later : (before after : List Fact) → Later before after → (ids : List (List ℕ)) → some_over before ids ≡ true → some_over after ids ≡ true
some_over-later before after later [] is = is
some_over-later before after later (id ∷ ids) is = by (is_over (last_deed before id)) refl is (some_over-later before after later ids)
  where
    right : (a b : Bool) → b ≡ true → (a || b) ≡ true
    right true b e = refl
    right false b e = e

    by : (b : Bool) → is_over (last_deed before id) ≡ b → (b || some_over before ids) ≡ true → (some_over before ids ≡ true → some_over after ids ≡ true) → some_over after (id ∷ ids) ≡ true
    by true here e rest = or_left (is_over (last_deed after id)) (some_over after ids) (later.over id here)
    by false here e rest = right (is_over (last_deed after id)) (some_over after ids) (rest e)

-- no text of a genesis is as long as that of a block, a payout, a claim or a settlement
abbrev pub IsGenesisLong : ℕ → Type 0
IsGenesisLong n = (n ≡ 74) ⊎ (120 ≤ n) ⊎ (n ≡ 56)

-- what is known of the text of an identifier that was made, where the tip is this
pub data Told (tip : List ℕ) (facts : List Fact) (text : List ℕ) : Type 0 where
  OfGenesis : IsGenesisLong (length text) → ((what : List ℕ) (tx : Transaction) (i : ℕ) → IsMade what → text ≢ made_text what tx i) → Told tip facts text
  OfBlock : (block : Block) → length block.parent ≡ 32 → length block.nonce ≡ 8 → text ≡ block_text block → is_known facts block.parent ≡ true → block.parent ≢ tip → Told tip facts text
  OfPayout : (block : List ℕ) (i : ℕ) → length block ≡ 32 → text ≡ payout_text block i → is_known facts block ≡ true → Told tip facts text
  OfUse : (ids : List (List ℕ)) → Consumes text ids → some_over facts ids ≡ true → Told tip facts text

-- it stays so
pub told_later : (tip : List ℕ) (before after : List Fact) (text : List ℕ) → Later before after → Told tip before text → Told tip after text
told_later tip before after text later (OfGenesis long not_made) = OfGenesis long not_made
told_later tip before after text later (OfBlock block parent nonce is known older) = OfBlock block parent nonce is (later.known block.parent known) older
told_later tip before after text later (OfPayout block i long is known) = OfPayout block i long is (later.known block known)
told_later tip before after text later (OfUse ids uses over) = OfUse ids uses (some_over-later before after later ids over)

-- a text's lengths differ
pub lengths : (n : ℕ) → (96 ≤ n) ⊎ (n ≡ 48) ⊎ (n ≡ 57) → (n ≡ 80) ⊎ (n ≡ 40) → ⊥
lengths n (inl a) (inl b) = omega (arith, a, b)
lengths n (inl a) (inr b) = omega (arith, a, b)
lengths n (inr (inl a)) (inl b) = omega (arith, a, b)
lengths n (inr (inl a)) (inr b) = omega (arith, a, b)
lengths n (inr (inr a)) (inl b) = omega (arith, a, b)
lengths n (inr (inr a)) (inr b) = omega (arith, a, b)

genesis_lengths : (n : ℕ) → IsGenesisLong n → (n ≡ 80) ⊎ (n ≡ 40) ⊎ (n ≡ 48) ⊎ (n ≡ 57) → ⊥
genesis_lengths n (inl a) (inl b) = omega (arith, a, b)
genesis_lengths n (inl a) (inr (inl b)) = omega (arith, a, b)
genesis_lengths n (inl a) (inr (inr (inl b))) = omega (arith, a, b)
genesis_lengths n (inl a) (inr (inr (inr b))) = omega (arith, a, b)
genesis_lengths n (inr (inl a)) (inl b) = omega (arith, a, b)
genesis_lengths n (inr (inl a)) (inr (inl b)) = omega (arith, a, b)
genesis_lengths n (inr (inl a)) (inr (inr (inl b))) = omega (arith, a, b)
genesis_lengths n (inr (inl a)) (inr (inr (inr b))) = omega (arith, a, b)
genesis_lengths n (inr (inr a)) (inl b) = omega (arith, a, b)
genesis_lengths n (inr (inr a)) (inr (inl b)) = omega (arith, a, b)
genesis_lengths n (inr (inr a)) (inr (inr (inl b))) = omega (arith, a, b)
genesis_lengths n (inr (inr a)) (inr (inr (inr b))) = omega (arith, a, b)

pub block_long : (text : List ℕ) (block : Block) → length block.parent ≡ 32 → length block.nonce ≡ 8 → text ≡ block_text block → length text ≡ 80
block_long text block parent nonce is = ap length is ∙ length-block_text block parent nonce

pub payout_long : (text block : List ℕ) (i : ℕ) → length block ≡ 32 → text ≡ payout_text block i → length text ≡ 40
payout_long text block i long is = ap length is ∙ length-payout_text block i long

pub not_both : (n : ℕ) → n ≡ 80 → n ≡ 40 → ⊥
not_both n one other = omega (arith, one, other)

-- a text that consumes what isn't over is new
pub not_used : (tip : List ℕ) (facts : List Fact) (text : List ℕ) (ids : List (List ℕ)) → Told tip facts text → Consumes text ids → some_over facts ids ≡ false → ⊥
not_used tip facts text ids (OfGenesis long not_made) (Made what tx i kind fits is are) fresh = not_made what tx i kind is
not_used tip facts text ids (OfGenesis long not_made) (Claimed fund sized is are) fresh = genesis_lengths (length text) long (inr (inr (inl (ap length is ∙ length-claim_text fund sized))))
not_used tip facts text ids (OfGenesis long not_made) (Settling contract valid i sized is are) fresh = genesis_lengths (length text) long (inr (inr (inr (ap length is ∙ length-settlement_text contract valid i sized))))
not_used tip facts text ids (OfBlock block parent nonce is known older) uses fresh = lengths (length text) (consumes-length text ids uses) (inl (block_long text block parent nonce is))
not_used tip facts text ids (OfPayout block i long is known) uses fresh = lengths (length text) (consumes-length text ids uses) (inr (payout_long text block i long is))
not_used tip facts text ids (OfUse others used over) uses fresh = true_false (sym over ∙ ap (some_over facts) (same_consumed text others ids used uses) ∙ fresh)

same_parent : (a b : Block) → length a.parent ≡ 32 → length b.parent ≡ 32 → block_text a ≡ block_text b → a.parent ≡ b.parent
unfolding block_text
same_parent a b a_long b_long e = front a.parent b.parent _ _ 32 a_long b_long e

-- the text of a block on the tip is new
pub not_block : (tip : List ℕ) (facts : List Fact) (text : List ℕ) (block : Block) → Told tip facts text → length block.parent ≡ 32 → length block.nonce ≡ 8 → block.parent ≡ tip → text ≢ block_text block
not_block tip facts text block (OfGenesis long not_made) parent nonce on same = genesis_lengths (length text) long (inl (block_long text block parent nonce same))
not_block tip facts text block (OfBlock other other_parent other_nonce is known older) parent nonce on same = older (same_parent other block other_parent parent (sym is ∙ same) ∙ on)
not_block tip facts text block (OfPayout other i long is known) parent nonce on same = not_both (length text) (block_long text block parent nonce same) (payout_long text other i long is)
not_block tip facts text block (OfUse ids uses over) parent nonce on same = lengths (length text) (consumes-length text ids uses) (inl (block_long text block parent nonce same))

same_block : (a b : List ℕ) (i j : ℕ) → length a ≡ 32 → length b ≡ 32 → payout_text a i ≡ payout_text b j → a ≡ b
unfolding payout_text
same_block a b i j a_long b_long e = front a b (spelled_u64 i) (spelled_u64 j) 32 a_long b_long e

-- the text of a payout of a new block is new
pub not_payout : (tip : List ℕ) (facts : List Fact) (text block : List ℕ) (i : ℕ) → Told tip facts text → length block ≡ 32 → is_known facts block ≡ false → text ≢ payout_text block i
not_payout tip facts text block i (OfGenesis long not_made) sized new same = genesis_lengths (length text) long (inr (inl (payout_long text block i sized same)))
not_payout tip facts text block i (OfBlock other parent nonce is known older) sized new same = not_both (length text) (block_long text other parent nonce is) (payout_long text block i sized same)
not_payout tip facts text block i (OfPayout other j long is known) sized new same = true_false (sym known ∙ ap (is_known facts) (same_block other block j i long sized (sym is ∙ same)) ∙ new)
not_payout tip facts text block i (OfUse ids uses over) sized new same = lengths (length text) (consumes-length text ids uses) (inr (payout_long text block i sized same))
