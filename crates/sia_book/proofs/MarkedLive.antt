-- The marks of slots that are made live one by one.
use Rattle.std.proofs.Common.{◌≡◌, ◌≢◌, ◌⊎◌, ◌↔◌, inl, inr, ⊎_elim, ℕ, ◌+◌, ◌<◌, List, length, set, Bool, true, false, IsTrue, refl, sym, ap, subst, ◌∙◌, arith}
use Rattle.std.specs.Prelude.{slice_index_or}
use Rattle.std.specs.List.{Contains}
use Rattle.std.proofs.lemmas.Bool.{false≢true}
use Rattle.std.proofs.lemmas.Bool.Decides.{eqb_tells}
use Rattle.std.proofs.lemmas.List.{length-set, get_or-set_same, get_or-set_other, get_or_default}
use Rattle.sia_shelf.specs.declared.mark.Mark.{Mark}
use Rattle.sia_shelf.specs.declared.mark.Mark.TheVariants as mark
use Rattle.sia_shelf.specs.Shelf.{ShelfState, mark_of, with_mark}

-- what a call that marks a slot leaves
pub record Marked {D : Type 0} (old new : ShelfState D) (slot : ℕ) : Type 0 where
  pub disk : new.disk ≡ old.disk
  pub sector : new.sector ≡ old.sector
  pub count : length new.marks ≡ length old.marks
  pub live : mark_of new.marks slot ≡ mark.Live
  pub others : (other : ℕ) → other ≢ slot → mark_of new.marks other ≡ mark_of old.marks other

abbrev IsFreeOrLive : List Mark → Type 0
IsFreeOrLive marks = (slot : ℕ) → (mark_of marks slot ≡ mark.Free) ⊎ (mark_of marks slot ≡ mark.Live)

pub marked : {D : Type 0} (old new : ShelfState D) (slot : ℕ) (result : Bool) → slot < length old.marks → IsFreeOrLive old.marks
    → (IsTrue result → new ≡ with_mark old slot mark.Live) → (result ≡ false → new ≡ old) → (IsTrue result ↔ ((slot < length old.marks) × (mark_of old.marks slot ≢ mark.Live)))
    → Marked old new slot
marked {D} old new slot true lt either set_ kept exact =
    let P : ShelfState D → Type 0 = λ s. Marked old s slot in
    subst P (sym (set_ refl)) (record {
      disk = refl;
      sector = refl;
      count = length-set old.marks slot mark.Live;
      live = get_or-set_same old.marks slot mark.Live mark.Free lt;
      others = λ other not. get_or-set_other old.marks slot other mark.Live mark.Free not;
    })
marked {D} old new slot false lt either set_ kept exact =
    let P : ShelfState D → Type 0 = λ s. Marked old s slot in
    let live : mark_of old.marks slot ≡ mark.Live = ⊎_elim
    (λ free. absurd (false≢true (exact.1 (lt, λ live. let clash : mark.Free ≡ mark.Live = sym free ∙ live in cc))))
    (λ live. live) (either slot) in
    subst P (sym (kept refl)) (record { disk = refl; sector = refl; count = refl; live = live; others = λ other not. refl })

-- the slots so far are live, and the marks are free or live
pub live_more : {D : Type 0} (old new : ShelfState D) (live : List ℕ) (i : ℕ) → Marked old new (slice_index_or live i 0)
    → ((k : ℕ) → k < i → k < length live → mark_of old.marks (slice_index_or live k 0) ≡ mark.Live)
    → (k : ℕ) → k < i + 1 → k < length live → mark_of new.marks (slice_index_or live k 0) ≡ mark.Live
live_more old new live i m before k lt within = ⊎_elim
    (λ yes. ap (λ n. mark_of new.marks (slice_index_or live n 0)) yes.1 ∙ m.live)
    (λ no. ⊎_elim
    (λ same. ap (mark_of new.marks) same.1 ∙ m.live)
    (λ other. m.others (slice_index_or live k 0) other.1 ∙ before k (omega (arith, lt, no.1)) within)
    (eqb_tells (slice_index_or live k 0) (slice_index_or live i 0)))
    (eqb_tells k i)

pub either_more : {D : Type 0} (old new : ShelfState D) (slot : ℕ) → Marked old new slot → IsFreeOrLive old.marks → IsFreeOrLive new.marks
either_more old new slot m either other = ⊎_elim
    (λ same. inr (ap (mark_of new.marks) same.1 ∙ m.live))
    (λ no. ⊎_elim (λ free. inl (m.others other no.1 ∙ free)) (λ live. inr (m.others other no.1 ∙ live)) (either other))
    (eqb_tells other slot)

-- a slot that isn't named stays free
pub free_still : {D : Type 0} (old new : ShelfState D) (live : List ℕ) (i : ℕ) → i < length live → Marked old new (slice_index_or live i 0)
    → ((slot : ℕ) → (Contains live slot → ⊥) → mark_of old.marks slot ≡ mark.Free)
    → (slot : ℕ) → (Contains live slot → ⊥) → mark_of new.marks slot ≡ mark.Free
free_still old new live i lt m free slot not =
    m.others slot (λ same. not (i, lt, get_or_default live i slot 0 lt ∙ sym same)) ∙ free slot not
