use Rattle.std.proofs.Common.{◌<◌, ◌-◌, refl, arith, get_or, length, sym, ◌∙◌}
use Rattle.std.proofs.lemmas.Bool.{eqb-true}
use borrow.Rule.Slice.PartMut.{put_mid}
use Rattle.sia_pieces.proofs.SolveSteps.{solve_step, solve_ready, solved_none, below_rest, length_rest, not_empty}
use Rattle.sia_pieces.proofs.solve.+solve.Goals as goal

pub returns-then-is_empty : goal.returns-then-is_empty
returns-then-is_empty t c = solved_none c.args.pieces.now c.args.values.now c.requires.same (eqb-true (length c.args.pieces.now) 0 (sym c.is_empty.ensures ∙ c.if-is_empty.true))

pub put_slopes-requires-clause-within : goal.put_slopes-requires-clause-within
put_slopes-requires-clause-within t c = below_rest 16 c.args.pieces.now c.requires.within

pub solve-requires : goal.solve-requires
solve-requires t c =
    let some : 0 < length c.args.pieces.now = not_empty (length c.args.pieces.now) c.is_empty.result c.is_empty.ensures c.if-is_empty.false in (
      omega (arith, length_rest c.args.pieces.now),
      (
        solve_ready c.args.pieces.now c.args.values.now c.put_slopes.new.values
            (get_or c.args.pieces.now 0 c.index-pieces-0.result).place (get_or c.args.values.now 0 0) c.requires.same some c.put_slopes.ensures,
        below_rest 16 c.args.pieces.now c.requires.within,
      ),
    )

pub returns : goal.returns
returns t c =
    let some : 0 < length c.args.pieces.now = not_empty (length c.args.pieces.now) c.is_empty.result c.is_empty.ensures c.if-is_empty.false in
    solve_step c.args.pieces.now c.args.values.now
    (put_mid 1 (length c.args.values.now - 1) c.args.values.now c.put_slopes.new.values)
    c.put_slopes.new.values c.solve.new.values c.raise.new.values
    (get_or c.args.pieces.now 0 c.index-pieces-0.result).place (get_or c.args.values.now 0 0) c.index-pieces-0.result
    c.requires.same some refl refl c.put_slopes.ensures refl c.solve.ensures c.raise.ensures
