use Rattle.std.proofs.Common.{◌≡◌, ◌<◌, ◌≤◌, ◌+◌, ◌-◌, ◌++◌, ◌∷◌, [], take, drop, get_or, length, length-append, arith, ap, sym, ◌∙◌}
use Rattle.std.proofs.lemmas.List.{drop_more}
use Rattle.sia_shelf.proofs.Finding.{free_here, taken_here, one_found}
use Rattle.sia_shelf.specs.Shelf.{free_from}
use Rattle.sia_shelf.specs.declared.mark.Mark.TheVariants as mark
use Rattle.sia_shelf.proofs.marks.first_free.Goals as goal
use Rattle.sia_shelf.proofs.marks.first_free.Goals.{then-is_free+in_ok-push, else-is_free}

pub loop-at-preserved : goal.loop-at-preserved
loop-at-preserved c =
    let within : c.loop-at.at < length c.args.marks.now = omega (arith, c.loop-at-test.true) in
    let few : length c.loop-at.slots < c.args.more = omega (arith, c.loop-at.invariant.0, c.len.ensures, c.if-len-more.false) in
    let here = drop_more c.args.marks.now c.loop-at.at mark.Free within in
    let slot = c.args.first + c.loop-at.at in
    let rest = drop (c.loop-at.at + 1) c.args.marks.now in
    let next : slot + 1 ≡ c.args.first + (c.loop-at.at + 1) = omega arith in
    elim c.if-is_free.branch [
      | then-is_free+in_ok-push w ↦
          let step = ap (free_from slot) here ∙ free_here slot (get_or c.args.marks.now c.loop-at.at mark.Free) rest (sym c.is_free.ensures ∙ w.if-is_free.true) ∙ ap (λ k. slot ∷ free_from k rest) next in
          let bound : length (c.loop-at.slots ++ slot ∷ []) ≤ c.args.more = omega (arith, few, length-append c.loop-at.slots (slot ∷ [])) in
          rw (w.slots-is, w.in_ok-push.ensures.ok) (
            bound,
            one_found c.loop-at.slots (free_from (c.args.first + (c.loop-at.at + 1)) rest) (take c.args.more (free_from c.args.first c.args.marks.now)) c.args.more slot few
                (ap (λ l. c.loop-at.slots ++ take (c.args.more - length c.loop-at.slots) l) (sym step) ∙ c.loop-at.invariant.1),
          )
      | else-is_free w ↦
          let step = ap (free_from slot) here ∙ taken_here slot (get_or c.args.marks.now c.loop-at.at mark.Free) rest (sym c.is_free.ensures ∙ w.if-is_free.false) ∙ ap (λ k. free_from k rest) next in
          rw w.slots-is (c.loop-at.invariant.0, ap (λ l. c.loop-at.slots ++ take (c.args.more - length c.loop-at.slots) l) (sym step) ∙ c.loop-at.invariant.1)
    ]
