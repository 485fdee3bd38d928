use Rattle.std.proofs.Common.{◌≡◌, ◌^◌, ◌<◌, length, arith, rules}
use Rattle.sia_edge.proofs.Runs.{started}
use Rattle.sia_journal.specs.Listed.{HEADER}
use Rattle.sia_journal.proofs.Preparing.{reopened_few, reopened_mid}
use Rattle.sia_journal.proofs.journal.Journal.open.Goals as goal

pub returns-in_default-clause-crash : goal.returns-in_default-clause-crash
returns-in_default-clause-crash g c = λ told records payload each. started (g.D.Disk.standing c.args.disk) _ each

pub returns-in_default-clause-few : goal.returns-in_default-clause-few
returns-in_default-clause-few g c = λ told each. started (g.D.Disk.standing c.args.disk) _ each

pub returns-in-Ok-prepare-clause-crash : goal.returns-in-Ok-prepare-clause-crash
returns-in-Ok-prepare-clause-crash g c =
    let size : length c.args.header.now ≡ HEADER = search rules in
    let small : c.args.limit < 2 ^ 64 = omega (arith, c.requires.high) in
    rw (← c.new-disk.ensures) (λ told records payload each.
    reopened_mid c.args.header.now size c.args.limit small records payload each (g.met.D.Disk.as_read c.new-disk.result told) (c.prepare.ensures.images told))

pub returns-in-Ok-prepare-clause-few : goal.returns-in-Ok-prepare-clause-few
returns-in-Ok-prepare-clause-few g c =
    let size : length c.args.header.now ≡ HEADER = search rules in
    let small : c.args.limit < 2 ^ 64 = omega (arith, c.requires.high) in
    rw (← c.new-disk.ensures) (λ told each.
    reopened_few c.args.header.now size c.args.limit small each (g.met.D.Disk.as_read c.new-disk.result told) (c.prepare.ensures.images told))

pub returns-in-Err-clause-crash : goal.returns-in-Err-clause-crash
returns-in-Err-clause-crash g c =
    let size : length c.args.header.now ≡ HEADER = search rules in
    let small : c.args.limit < 2 ^ 64 = omega (arith, c.requires.high) in
    rw (← c.new-disk.ensures, c.into_disk.ensures) (λ told records payload each.
    reopened_mid c.args.header.now size c.args.limit small records payload each (g.met.D.Disk.as_read c.new-disk.result told) (c.prepare.ensures.images told))

pub returns-in-Err-clause-few : goal.returns-in-Err-clause-few
returns-in-Err-clause-few g c =
    let size : length c.args.header.now ≡ HEADER = search rules in
    let small : c.args.limit < 2 ^ 64 = omega (arith, c.requires.high) in
    rw (← c.new-disk.ensures, c.into_disk.ensures) (λ told each.
    reopened_few c.args.header.now size c.args.limit small each (g.met.D.Disk.as_read c.new-disk.result told) (c.prepare.ensures.images told))
