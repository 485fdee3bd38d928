-- The marks of slots that are freed one by one.
use Rattle.std.proofs.Common.{◌≡◌, ◌≢◌, ◌⊎◌, inl, inr, ⊎_elim, ℕ, ◌+◌, ◌<◌, ◌≤◌, List, length, set, refl, sym, ap, subst, ◌∙◌, arith}
use Rattle.std.specs.Prelude.{slice_index_or}
use Rattle.std.specs.List.{Contains}
use Rattle.std.proofs.Math.ListN.{get_or-eq_default}
use Rattle.std.proofs.lemmas.Bool.{cases_lt}
use Rattle.std.proofs.lemmas.Bool.Decides.{eqb_tells}
use Rattle.std.proofs.lemmas.List.{get_or-set_same, get_or-set_other, get_or_default}
use Rattle.sia_shelf.specs.declared.mark.Mark.{Mark}
use Rattle.sia_shelf.specs.declared.mark.Mark.TheVariants as mark
use Rattle.sia_shelf.specs.Shelf.{mark_of}
use Rattle.sia_store.specs.Lying.{NamedOnce}

-- a live slot is one of the slots
pub in_range : (marks : List Mark) (slot : ℕ) → mark_of marks slot ≡ mark.Live → slot < length marks
in_range marks slot live = ⊎_elim (λ lt. lt)
    (λ le. let none : mark_of marks slot ≡ mark.Free = get_or-eq_default marks mark.Free le in let clash : mark.Live ≡ mark.Free = sym live ∙ none in absurd (cc))
    (cases_lt slot (length marks))

-- the slots so far are free
pub freed_more : (marks : List Mark) (slots : List ℕ) (i : ℕ) → i < length slots → NamedOnce slots → slice_index_or slots i 0 < length marks
    → ((k : ℕ) → k < i → k < length slots → mark_of marks (slice_index_or slots k 0) ≡ mark.Free)
    → (k : ℕ) → k < i + 1 → k < length slots → mark_of (set marks (slice_index_or slots i 0) mark.Free) (slice_index_or slots k 0) ≡ mark.Free
freed_more marks slots i is once here freed k lt within = ⊎_elim
    (λ yes. ap (λ n. mark_of (set marks (slice_index_or slots i 0) mark.Free) (slice_index_or slots n 0)) yes.1 ∙ get_or-set_same marks (slice_index_or slots i 0) mark.Free mark.Free here)
    (λ no.
    let before : k < i = omega (arith, lt, no.1) in
    get_or-set_other marks (slice_index_or slots i 0) (slice_index_or slots k 0) mark.Free mark.Free (λ same. once k i 0 before is same) ∙ freed k before within)
    (eqb_tells k i)

-- and the later ones are live
pub live_more : (marks : List Mark) (slots : List ℕ) (i : ℕ) → NamedOnce slots
    → ((k : ℕ) → i ≤ k → k < length slots → mark_of marks (slice_index_or slots k 0) ≡ mark.Live)
    → (k : ℕ) → i + 1 ≤ k → k < length slots → mark_of (set marks (slice_index_or slots i 0) mark.Free) (slice_index_or slots k 0) ≡ mark.Live
live_more marks slots i once live k le within =
    get_or-set_other marks (slice_index_or slots i 0) (slice_index_or slots k 0) mark.Free mark.Free (λ same. once i k 0 (omega (arith, le)) within (sym same)) ∙ live k (omega (arith, le)) within

-- and those that aren't named stay as they were
pub unfreed_more : (old marks : List Mark) (slots : List ℕ) (i : ℕ) → i < length slots
    → ((other : ℕ) → (Contains slots other → ⊥) → mark_of marks other ≡ mark_of old other)
    → (other : ℕ) → (Contains slots other → ⊥) → mark_of (set marks (slice_index_or slots i 0) mark.Free) other ≡ mark_of old other
unfreed_more old marks slots i lt others other not =
    get_or-set_other marks (slice_index_or slots i 0) other mark.Free mark.Free (λ same. not (i, lt, get_or_default slots i other 0 lt ∙ sym same)) ∙ others other not
