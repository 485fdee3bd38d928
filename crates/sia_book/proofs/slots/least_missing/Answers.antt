use Rattle.std.proofs.Common.{◌≡◌, ◌+◌, ◌++◌, ◌∷◌, [], ℕ, List, Option, sym, subst, take}
use Rattle.std.specs.Prelude.{slice_index_or}
use Rattle.std.proofs.lemmas.List.{take_more, take_all}
use Rattle.sia_book.specs.Opening.{IsLeastMissing, is_missing, least_missing_with}
use Rattle.sia_book.proofs.Missing.{least_more}
use Rattle.sia_book.proofs.slots.least_missing.Goals as goal

pub loop-slot-preserved : goal.loop-slot-preserved
loop-slot-preserved c =
    let i = c.loop-slot.slot-index in
    let live = c.args.live.now in
    let slot = slice_index_or live i 0 in
    let P : Option ℕ → Type 0 = λ least. IsLeastMissing c.args.sector c.args.slots c.args.end (take (i + 1) live) least in
    let Q : List ℕ → Type 0 = λ l. IsLeastMissing c.args.sector c.args.slots c.args.end l (least_missing_with c.loop-slot.least slot c.is_missing-missing.result) in
    subst P (sym c.least_with-least.ensures) (subst Q (sym (take_more live i 0 c.loop-slot-test.true))
    (least_more c.args.sector c.args.slots c.args.end (take i live) slot c.is_missing-missing.result (sym c.is_missing-missing.ensures) c.loop-slot.least c.loop-slot.invariant))
