-- What a write of a slot leaves in the slots, whole or cut short by a crash.
use Rattle.std.proofs.Common.{◌≡◌, ℕ, ◌+◌, ◌-◌, ◌*◌, ◌<◌, ◌≤◌, min, List, length, take, drop, arith, sym, ap, ◌∙◌, inl, inr, subst}
use Rattle.std.proofs.lemmas.Bool.{cases_lt}
use Rattle.std.proofs.lemmas.List.{take-take, drop-take, drop-drop, length-take, length-drop}
use Rattle.std.proofs.Math.Nat.{mul-le-mul_right}
use Rattle.sia_edge.specs.declared.disk.Did.{Did}
use Rattle.sia_edge.specs.declared.disk.Did.TheVariants as did
use Rattle.sia_edge.specs.Disk.{Standing, Torn, Changes, Overwrites}
use Rattle.sia_edge.proofs.Runs.{weaken}
use Rattle.sia_edge.proofs.Tears.{torn_all}
use Rattle.sia_shelf.specs.Slots.{Has, KeepsOthers}

-- a range within the first n bytes
pub within_front : (at size n : ℕ) (xs : List ℕ) → at + size ≤ n → take size (drop at (take n xs)) ≡ take size (drop at xs)
within_front at size n xs inside =
    let split : n ≡ at + (n - at) = omega arith in
    ap (λ k. take size (drop at (take k xs))) split
    ∙ ap (take size) (drop-take at (n - at) xs)
    ∙ take-take size (n - at) (drop at xs) (omega arith)

-- two lists that are the same behind a place are the same behind a later one
pub same_behind : (place at : ℕ) (xs ys : List ℕ) → place ≤ at → drop place xs ≡ drop place ys → drop at xs ≡ drop at ys
same_behind place at xs ys before same =
    let split : at ≡ place + (at - place) = omega arith in
    ap (λ k. drop k xs) split
    ∙ sym (drop-drop (at - place) place xs)
    ∙ ap (drop (at - place)) same
    ∙ drop-drop (at - place) place ys
    ∙ ap (λ k. drop k ys) (sym split)

-- an image that holds a sector in a slot doesn't end before the slot does
pub holds_whole : (sector slot : ℕ) (bytes image : List ℕ) → 0 < sector → Has sector slot bytes image → slot * sector + sector ≤ length image
holds_whole sector slot bytes image some has =
    omega (arith, has.size, ap length has.is, length-take sector (drop (slot * sector) image), length-drop (slot * sector) image)

-- slots don't overlap
pub apart : (sector low high : ℕ) → low < high → low * sector + sector ≤ high * sector
apart sector low high lt =
    let more : (low + 1) * sector ≤ high * sector = mul-le-mul_right sector (omega arith) in
    omega (arith, more)

pub torn_keeps_others : (sector slot : ℕ) (old new : List ℕ) → 0 < sector → Torn (slot * sector) sector old new → KeepsOthers sector slot old new
torn_keeps_others sector slot old new some torn = λ other bytes differs has.
    let whole = holds_whole sector other bytes old some has in
    record {
      size = has.size;
      is = elim (cases_lt other slot) [
        | inl lt ↦
            let before = apart sector other slot lt in
            let least = min (slot * sector) (length old) in
            sym (within_front (other * sector) sector least new (omega arith))
            ∙ ap (λ xs. take sector (drop (other * sector) xs)) torn.before
            ∙ within_front (other * sector) sector (slot * sector) old before
            ∙ has.is
        | inr le ↦
            let behind = apart sector slot other (omega (arith, le, differs)) in
            ap (take sector) (same_behind (slot * sector + sector) (other * sector) new old behind torn.after) ∙ has.is
      ];
    }

-- the same of a write at a place that is the slot's
module _ (slot place : ℕ) (bytes : List ℕ) (at : place ≡ slot * length bytes) where
  pub slot_torn : (old new : List ℕ) → 0 < length bytes → Torn place (length bytes) old new → KeepsOthers (length bytes) slot old new
  slot_torn old new some torn =
      let P : ℕ → Type 0 = λ k. Torn k (length bytes) old new in
      torn_keeps_others (length bytes) slot old new some (subst P at torn)

  pub write_keeps_others : (answer : Did) (old new : List ℕ) → 0 < length bytes → place ≤ length old → Overwrites answer place bytes old new
      → KeepsOthers (length bytes) slot old new
  write_keeps_others did.Done old new some inside written =
      let P : List ℕ → Type 0 = λ xs. Torn place (length bytes) old xs in
      slot_torn old new some (subst P (sym written) (torn_all place bytes old inside))
  write_keeps_others did.Failed old new some inside torn = slot_torn old new some torn

  pub images_keep_others : {old new : Standing} → 0 < length bytes → Changes (Torn place (length bytes)) old new
      → Changes (KeepsOthers (length bytes) slot) old new
  images_keep_others some changes = weaken changes (λ image from. (from.0, from.1, slot_torn from.0 image some from.2))
