use Rattle.sia_ledger.proofs.Grown.{kept_applied}
use Rattle.sia_ledger.proofs.ledger.Ledger.apply.Goals as goal

pub invariant_of-self-2 : goal.invariant_of-self-2
invariant_of-self-2 g c =
    let judged = c.in_ok-judged.ensures in
    let pushed = c.in_ok-push_block.ensures in
    rw (pushed.blocks, pushed.ids, pushed.facts, pushed.marks, c.in_ok-copy.ensures, judged.id)
    (kept_applied g.C.SigCheck.verdict _ _ _ _ c.args.block.now _ c.self.invariant judged.typed (rw (← c.self.view_is) at judged.judged) (rw (← c.self.view_is) at judged.made))
