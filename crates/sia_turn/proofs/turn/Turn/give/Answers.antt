-- The value stands for the longer list, so the rule is kept when the slot is given back.
use Rattle.std.proofs.Common.{rules, ap, ◌∷◌, Some}
use Rattle.atomic_table.specs.Table.{rest}
use Rattle.sia_turn.proofs.Passing.{passes}
use Rattle.sia_turn.proofs.turn.Turn.give.Goals as goal

pub fetch_add-served-requires : goal.fetch_add-served-requires
fetch_add-served-requires g c =
    let is = c.exchange.ensures.3 in
    rw is (search rules, search rules, passes _ _ _ _ _ _ c.requires.inside.0 c.args.value c.requires.inside.1 (ap (λ xs. (0, Some c.args.value) ∷ rest xs) c.requires.inside.2) c.requires.value)
