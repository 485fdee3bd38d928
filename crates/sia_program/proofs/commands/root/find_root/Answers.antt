use Rattle.std.proofs.Common.{◌≡◌, ◌+◌, ℕ, List, Ok, arith, subst, sym}
use Rattle.std.specs.Prelude.{IfSome}
use Rattle.sia_program.specs.Commands.Root.{root_found}
use Rattle.sia_program.proofs.Soaked.{soaked_over, soaked_all, soaked_end}
use Rattle.sia_program.proofs.commands.root.find_root.Goals as goal

pub returns-then-size-gt-INPUT_BOUND-clause-told : goal.returns-then-size-gt-INPUT_BOUND-clause-told
returns-then-size-gt-INPUT_BOUND-clause-told g c =
    soaked_over _ (g.S.Source.left c.loop.input) (g.S.Source.left c.fill_from.new.source) c.loop.stack c.fill_from.new.buffer c.in-Ok.count
    c.loop.invariant.so_far c.in-Ok.ensures.bytes (omega (arith, c.loop.invariant.pushed, c.if-size-gt-INPUT_BOUND.true))

pub returns-then-count-lt-PIECE-clause-told : goal.returns-then-count-lt-PIECE-clause-told
returns-then-count-lt-PIECE-clause-told g c =
    subst (λ (root : List ℕ). IfSome (g.S.Source.left c.args.input.now) (λ file. root_found file ≡ Ok (root, c.loop.size + c.in-Ok.count))) (sym c.root.ensures)
    (soaked_all _ (g.S.Source.left c.loop.input) (g.S.Source.left c.fill_from.new.source) c.loop.stack _ c.fill_from.new.buffer c.in-Ok.count (c.loop.size + c.in-Ok.count)
    c.loop.invariant.so_far c.in-Ok.ensures.bytes c.split_at.ensures.front (omega (arith, c.if-count-lt-PIECE.true)) (omega (arith, c.loop.invariant.pushed)) (omega (arith, c.if-size-gt-INPUT_BOUND.false)))

pub returns-then-count-lt-PIECE-clause-ended : goal.returns-then-count-lt-PIECE-clause-ended
returns-then-count-lt-PIECE-clause-ended g c =
    soaked_end _ (g.S.Source.left c.loop.input) (g.S.Source.left c.fill_from.new.source) c.loop.stack c.fill_from.new.buffer c.in-Ok.count
    c.loop.invariant.so_far c.in-Ok.ensures.bytes (omega (arith, c.if-count-lt-PIECE.true))
