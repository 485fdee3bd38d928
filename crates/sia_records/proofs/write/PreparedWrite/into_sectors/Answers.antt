use Rattle.std.proofs.Common.{◌≡◌, false, true, ◌∙◌}
use Rattle.sia_records.proofs.Preparing.{none_prepared, sectors_are}
use Rattle.sia_records.proofs.write.PreparedWrite.into_sectors.Goals as goal

pub unreachable-requires : goal.unreachable-requires
unreachable-requires c =
    let wrong : false ≡ true = none_prepared c.requires.0 _ _ _ _ c.in-None.is c.self.invariant c.self.view_is ∙ c.requires.1 in cc

pub returns : goal.returns
returns c = rw (← sectors_are _ _ _ _ _ c.in-Some.is c.self.invariant c.self.view_is) c.merge.ensures
