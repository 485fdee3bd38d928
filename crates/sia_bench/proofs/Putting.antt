-- What putting and syncing a slot changes.
use Rattle.std.proofs.Common.{◌≡◌, ◌≢◌, ℕ, suc, ◌+◌, ◌<◌, ◌≤◌, List, [], ◌∷◌, length, map, set, arith, sym, ap, ◌∙◌, refl, inl, inr, get_or-set_same, get_or-set_other, subst}
use Rattle.std.proofs.lemmas.Bool.{cases_eq}
use Rattle.std.proofs.Math.ListN.{get_or-map}
use Rattle.sia_edge.specs.Disk.{Standing, EachImage}
use Rattle.sia_shelf.specs.Slots.{Has, KeepsOthers}
use Rattle.sia_shelf.specs.Shelf.{mark_of, settled, free_from}
use Rattle.sia_shelf.specs.declared.mark.Mark.{Mark}
use Rattle.sia_shelf.specs.declared.mark.Mark.TheVariants as mark

-- the slot that was put is live after the sync
put_live : (marks : List Mark) (slot : ℕ) → slot < length marks → mark_of (map settled (set marks slot mark.Put)) slot ≡ mark.Live
put_live marks slot there = get_or-map settled (set marks slot mark.Put) slot mark.Free ∙ ap settled (get_or-set_same marks slot mark.Put mark.Free there)

-- another slot that is free or live stays so
others_stay : (marks : List Mark) (slot other : ℕ) (to : Mark) → other ≢ slot → mark_of marks other ≡ to → settled to ≡ to
    → mark_of (map settled (set marks slot mark.Put)) other ≡ to
others_stay marks slot other to differs was stays =
    get_or-map settled (set marks slot mark.Put) other mark.Free ∙ ap settled (get_or-set_other marks slot other mark.Put mark.Free differs ∙ was) ∙ stays

pub live_more : (marks : List Mark) (slot : ℕ) → slot < length marks → ((k : ℕ) → k < slot → mark_of marks k ≡ mark.Live)
    → (k : ℕ) → k < slot + 1 → mark_of (map settled (set marks slot mark.Put)) k ≡ mark.Live
live_more marks slot there below k under = elim (cases_eq k slot) [
  | inl same ↦ ap (mark_of (map settled (set marks slot mark.Put))) same ∙ put_live marks slot there
  | inr differs ↦ others_stay marks slot k mark.Live differs (below k (omega (arith, differs, under))) refl
]

pub free_above : (marks : List Mark) (slot : ℕ) → ((k : ℕ) → slot ≤ k → mark_of marks k ≡ mark.Free)
    → (k : ℕ) → slot + 1 ≤ k → mark_of (map settled (set marks slot mark.Put)) k ≡ mark.Free
free_above marks slot above k over =
    let differs : k ≢ slot = omega (arith, over) in
    others_stay marks slot k mark.Free differs (above k (omega (arith, over))) refl

-- each slot so far keeps its bytes
pub kept_more : (sector old put slot : ℕ) (bytes before after : List ℕ) (synced : Standing)
    → old ≡ sector → put ≡ old → synced.seen ≡ after → Has old slot bytes after → KeepsOthers old slot before after
    → ((k : ℕ) (held : List ℕ) → Has put k held after → EachImage (Has put k held) synced)
    → ((k : ℕ) → k < slot → Has sector k bytes before)
    → (k : ℕ) → k < slot + 1 → Has sector k bytes synced.seen × EachImage (Has sector k bytes) synced
kept_more sector old put slot bytes before after synced is stays same wrote others kept below k under =
    let Before : ℕ → Type 0 = λ size. Has size k bytes before in
    let After : ℕ → Type 0 = λ size. Has size k bytes after in
    let At : ℕ → Type 0 = λ at. Has old at bytes after in
    let Synced : List ℕ → Type 0 = λ image. Has sector k bytes image in
    let Each : ℕ → Type 0 = λ size. EachImage (Has size k bytes) synced in
    let has : Has old k bytes after = elim (cases_eq k slot) [
      | inl last ↦ subst At (sym last) wrote
      | inr differs ↦ others k bytes differs (subst Before (sym is) (below k (omega (arith, differs, under))))
    ] in
    (subst Synced (sym same) (subst After is has), subst Each (stays ∙ is) (kept k bytes (subst After (sym stays) has)))

-- where each slot is live, none is free
pub none_free : (first : ℕ) (marks : List Mark) → ((slot : ℕ) → slot < length marks → mark_of marks slot ≡ mark.Live) → free_from first marks ≡ []
none_free first [] each = refl
none_free first (mark.Free ∷ rest) each = absurd (let clash : mark.Free ≡ mark.Live = each 0 (omega arith) in cc)
none_free first (mark.Put ∷ rest) each = absurd (let clash : mark.Put ≡ mark.Live = each 0 (omega arith) in cc)
none_free first (mark.Live ∷ rest) each = none_free (first + 1) rest (λ slot lt. each (suc slot) (omega (arith, lt)))
