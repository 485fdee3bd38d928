use Rattle.sia_ledger.proofs.ledger.Ledger.sums.Goals as goal

pub sum_of_immature-requires : goal.sum_of_immature-requires
sum_of_immature-requires c = rw (c.height-height.ensures, c.young.ensures) (c.base-base.ensures.totals.immature_fits _)
