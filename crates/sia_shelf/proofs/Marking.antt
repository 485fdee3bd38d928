-- How the marks of slots change.
use Rattle.std.proofs.Common.{◌≡◌, ◌≢◌, ℕ, ◌+◌, ◌-◌, ◌*◌, ◌^◌, ◌<◌, ◌≤◌, List, length, map, set, replicate, arith, sym, ap, ◌∙◌, inl, inr, get_or-set_same, get_or-set_other, subst}
use Rattle.std.proofs.lemmas.Bool.{cases_lt, cases_eq}
use Rattle.std.proofs.lemmas.List.{get_or_past, get_or-replicate, length-replicate, length-set, length-map}
use Rattle.std.proofs.lemmas.Nat.{pow_pos}
use Rattle.std.proofs.Math.ListN.{get_or-map}
use Rattle.std.proofs.Math.Nat.{pow-le-pow_right}
use Rattle.sia_edge.specs.Disk.{Standing, Changes, EachImage, Leaves}
use Rattle.sia_edge.proofs.Runs.{weaken}
use Rattle.sia_shelf.specs.Slots.{IsSectorSize, Has, KeepsOthers, end_of}
use Rattle.sia_shelf.specs.Shelf.{IsShelf, LowerTaken, mark_of, settled}
use Rattle.sia_shelf.specs.declared.mark.Mark.{Mark}
use Rattle.sia_shelf.specs.declared.mark.Mark.TheVariants as mark

-- one slot gets another mark
pub marked_fits : (sector : ℕ) (marks : List Mark) (old new slot : ℕ) (to : Mark) → IsShelf sector marks old → old ≤ new
    → (slot < length marks → to ≢ mark.Free → end_of sector slot ≤ new) → IsShelf sector (set marks slot to) new
marked_fits sector marks old new slot to shelf longer ends = record {
  some = shelf.some;
  small = shelf.small;
  few = omega (arith, shelf.few, length-set marks slot to);
  fits = λ at taken. elim (cases_eq at slot) [
    | inl same ↦ elim (cases_lt slot (length marks)) [
      | inl lt ↦
          let is : mark_of (set marks slot to) at ≡ to = ap (mark_of (set marks slot to)) same ∙ get_or-set_same marks slot to mark.Free lt in
          let P : ℕ → Type 0 = λ k. end_of sector k ≤ new in
          subst P (sym same) (ends lt (λ free. taken (is ∙ free)))
      | inr le ↦
          absurd (taken (get_or_past (set marks slot to) at mark.Free (omega (arith, le, same, length-set marks slot to))))
    ]
    | inr differs ↦
        let is : mark_of (set marks slot to) at ≡ mark_of marks at = get_or-set_other marks slot at to mark.Free differs in
        let before = shelf.fits at (λ free. taken (is ∙ free)) in
        omega (arith, before, longer)
  ];
}

pub settled_fits : (sector : ℕ) (marks : List Mark) (old new : ℕ) → IsShelf sector marks old → old ≤ new → IsShelf sector (map settled marks) new
settled_fits sector marks old new shelf longer = record {
  some = shelf.some;
  small = shelf.small;
  few = omega (arith, shelf.few, length-map marks settled);
  fits = λ at taken.
      let before = shelf.fits at (λ free. taken (get_or-map settled marks at mark.Free ∙ ap settled free)) in
      omega (arith, before, longer);
}

pub longer_fits : (sector : ℕ) (marks : List Mark) (old new : ℕ) → IsShelf sector marks old → old ≤ new → IsShelf sector marks new
longer_fits sector marks old new shelf longer = record {
  some = shelf.some;
  small = shelf.small;
  few = shelf.few;
  fits = λ at taken. let before = shelf.fits at taken in omega (arith, before, longer);
}

pub mark_of-free : (slots slot : ℕ) → mark_of (replicate slots mark.Free) slot ≡ mark.Free
mark_of-free slots slot = elim (cases_lt slot slots) [
  | inl lt ↦ get_or-replicate slots slot mark.Free mark.Free lt
  | inr le ↦ get_or_past (replicate slots mark.Free) slot mark.Free (omega (arith, le, length-replicate slots mark.Free))
]

pub fresh_fits : (sector slots end : ℕ) → IsSectorSize sector → slots ≤ 2 ^ 20 → IsShelf sector (replicate slots mark.Free) end
fresh_fits sector slots end size few =
    let some : 0 < 2 ^ size.0 = pow_pos size.0 in
    let most : 2 ^ size.0 ≤ 2 ^ 16 = pow-le-pow_right {n = 2} (omega arith) {i = size.0} {j = 16} size.1 in
    record {
      some = omega (arith, some, size.2);
      small = omega (arith, most, size.2);
      few = omega (arith, few, length-replicate slots mark.Free);
      fits = λ at taken. absurd (taken (mark_of-free slots at));
    }

-- the slot above the taken ones begins at or before the end
pub begins_within : (sector slot end : ℕ) (marks : List Mark) → IsShelf sector marks end → LowerTaken marks slot → slot * sector ≤ end
begins_within sector slot end marks shelf lower = elim (cases_lt 0 slot) [
  | inl lt ↦
      let last : ℕ = slot - 1 in
      let before : (slot - 1 + 1) * sector ≤ end = shelf.fits (slot - 1) (lower (slot - 1) (omega arith)) in
      let same : slot - 1 + 1 ≡ slot = omega (arith, lt) in
      let P : ℕ → Type 0 = λ k. k * sector ≤ end in
      subst P same before
  | inr le ↦ let none : slot ≡ 0 = omega (arith, le) in rw none (omega arith)
]

-- A write of a free slot keeps what the live ones hold.
pub keeps_live : {old new : Standing} (sector slot : ℕ) (marks : List Mark) (put : List ℕ) → length put ≡ sector
    → mark_of marks slot ≡ mark.Free → Changes (KeepsOthers (length put) slot) old new
    → (at : ℕ) (bytes : List ℕ) → mark_of marks at ≡ mark.Live → EachImage (Has sector at bytes) old → Leaves (Has sector at bytes) old new
keeps_live {old} {new} sector slot marks put size free changes at bytes live each =
    let P : ℕ → Type 0 = λ k. Changes (KeepsOthers k slot) old new in
    weaken (subst P size changes) (λ image from.
    from.2 at bytes (λ same. let clash : mark.Live ≡ mark.Free = sym live ∙ ap (mark_of marks) same ∙ free in cc) (each from.0 from.1))
