use Rattle.std.proofs.Common.{◌≡◌, ◌++◌, ◌^◌, ◌<◌, ◌≤◌, inl, inr, length, arith, rules, sym, ap, ◌∙◌}
use Rattle.sia_edge.proofs.Runs.{quiet_on, quiet_only, goes_on, weaken}
use Rattle.sia_journal.specs.Listed.{HEADER, FRESH, frames}
use Rattle.sia_journal.proofs.Preparing.{settled, reopened_end, front_found, split_found, opened, opened_fresh, few_undamaged, found_undamaged}
use Rattle.sia_journal.proofs.opening.prepare.Goals as goal

pub returns-in_err-done-clause-images : goal.returns-in_err-done-clause-images
returns-in_err-done-clause-images g c = λ told.
    weaken c.sync.ensures.quiet.leaves (λ file was. inl was)

pub returns-in_err-make_fresh-clause-images : goal.returns-in_err-make_fresh-clause-images
returns-in_err-make_fresh-clause-images g c = λ told.
    let few : length (g.D.Disk.standing c.sync.new.self).seen ≤ FRESH = omega (arith, c.length.ensures, c.if-length.true) in
    let only = settled (g.D.Disk.standing c.sync.new.self) c.in_ok-done.ensures.ok c.sync.ensures.settled in
    goes_on (weaken c.sync.ensures.quiet.leaves (λ file was. inl was)) (c.make_fresh.ensures.few (λ file left. omega (arith, few, ap length (only file left))))
    (λ file made. inr (inl (omega (arith, few, ap length c.sync.ensures.quiet.same), made)))

pub returns-then-length-clause-images : goal.returns-then-length-clause-images
returns-then-length-clause-images g c = λ told.
    let few : length (g.D.Disk.standing c.sync.new.self).seen ≤ FRESH = omega (arith, c.length.ensures, c.if-length.true) in
    let only = settled (g.D.Disk.standing c.sync.new.self) c.in_ok-done.ensures.ok c.sync.ensures.settled in
    goes_on (weaken c.sync.ensures.quiet.leaves (λ file was. inl was)) (c.make_fresh.ensures.few (λ file left. omega (arith, few, ap length (only file left))))
    (λ file made. inr (inl (omega (arith, few, ap length c.sync.ensures.quiet.same), made)))

pub returns-in_err-last-clause-images : goal.returns-in_err-last-clause-images
returns-in_err-last-clause-images g c = λ told.
    weaken (quiet_on c.sync.ensures.quiet c.find_last.ensures.quiet).leaves (λ file was. inl was)

pub returns-in_err-repair-clause-images : goal.returns-in_err-repair-clause-images
returns-in_err-repair-clause-images g c = λ told.
    let size : length c.args.header.now ≡ HEADER = search rules in
    let small : c.args.limit < 2 ^ 64 = omega (arith, c.requires.high) in
    let found = c.in_ok-last.ensures.found told in
    let front = front_found c.args.header.now size c.args.limit small _ _ found in
    let split = c.find_last.ensures.quiet.same ∙ split_found c.args.header.now size c.args.limit small _ _ found in
    let only = settled (g.D.Disk.standing c.sync.new.self) c.in_ok-done.ensures.ok c.sync.ensures.settled in
    reopened_end c.args.header.now size c.args.limit small (g.D.Disk.standing c.sync.new.self) found c.sync.ensures.quiet.same (quiet_on c.sync.ensures.quiet c.find_last.ensures.quiet)
    (omega (arith, c.length.ensures, c.if-length.false)) c.in_ok-last.ensures.within.2
    (c.repair.ensures.images told (c.args.header.now ++ frames found.ends.records) found.ends.behind front split
    (λ bytes left. quiet_only c.find_last.ensures.quiet only bytes left ∙ sym c.find_last.ensures.quiet.same))

pub returns-clause-images : goal.returns-clause-images
returns-clause-images g c = λ told.
    let size : length c.args.header.now ≡ HEADER = search rules in
    let small : c.args.limit < 2 ^ 64 = omega (arith, c.requires.high) in
    let found = c.in_ok-last.ensures.found told in
    let front = front_found c.args.header.now size c.args.limit small _ _ found in
    let split = c.find_last.ensures.quiet.same ∙ split_found c.args.header.now size c.args.limit small _ _ found in
    let only = settled (g.D.Disk.standing c.sync.new.self) c.in_ok-done.ensures.ok c.sync.ensures.settled in
    reopened_end c.args.header.now size c.args.limit small (g.D.Disk.standing c.sync.new.self) found c.sync.ensures.quiet.same (quiet_on c.sync.ensures.quiet c.find_last.ensures.quiet)
    (omega (arith, c.length.ensures, c.if-length.false)) c.in_ok-last.ensures.within.2
    (c.repair.ensures.images told (c.args.header.now ++ frames found.ends.records) found.ends.behind front split
    (λ bytes left. quiet_only c.find_last.ensures.quiet only bytes left ∙ sym c.find_last.ensures.quiet.same))

pub returns-then-length-clause-listed : goal.returns-then-length-clause-listed
returns-then-length-clause-listed g c = λ told.
    let size : length c.args.header.now ≡ HEADER = search rules in
    let small : c.args.limit < 2 ^ 64 = omega (arith, c.requires.high) in
    let few : length (g.D.Disk.standing c.sync.new.self).seen ≤ FRESH = omega (arith, c.length.ensures, c.if-length.true) in
    opened_fresh c.args.header.now size c.args.limit small (omega (arith, few, ap length c.sync.ensures.quiet.same)) (c.in_ok-make_fresh.ensures.kept told)

pub returns-clause-listed : goal.returns-clause-listed
returns-clause-listed g c = λ told.
    let size : length c.args.header.now ≡ HEADER = search rules in
    let small : c.args.limit < 2 ^ 64 = omega (arith, c.requires.high) in
    let found = c.in_ok-last.ensures.found told in
    let front = front_found c.args.header.now size c.args.limit small _ _ found in
    let split = c.find_last.ensures.quiet.same ∙ split_found c.args.header.now size c.args.limit small _ _ found in
    opened c.args.header.now size c.args.limit small (g.D.Disk.standing c.args.disk.now) (g.D.Disk.standing c.sync.new.self) (g.D.Disk.standing c.repair.new.disk) found c.sync.ensures.quiet.same c.in_ok-last.ensures.within.2
    (c.in_ok-repair.ensures.kept told (c.args.header.now ++ frames found.ends.records) found.ends.behind front split) c.in_ok-repair.ensures.settled

pub returns-in_err-make_fresh-clause-damaged : goal.returns-in_err-make_fresh-clause-damaged
returns-in_err-make_fresh-clause-damaged g c = λ told damaged.
    let size : length c.args.header.now ≡ HEADER = search rules in
    let small : c.args.limit < 2 ^ 64 = omega (arith, c.requires.high) in
    let few : length (g.D.Disk.standing c.sync.new.self).seen ≤ FRESH = omega (arith, c.length.ensures, c.if-length.true) in
    absurd (few_undamaged c.args.header.now size c.args.limit small (g.D.Disk.standing c.args.disk.now) (g.D.Disk.standing c.sync.new.self) c.sync.ensures.quiet.same few damaged)

pub returns-then-length-clause-damaged : goal.returns-then-length-clause-damaged
returns-then-length-clause-damaged g c = λ told damaged.
    let size : length c.args.header.now ≡ HEADER = search rules in
    let small : c.args.limit < 2 ^ 64 = omega (arith, c.requires.high) in
    let few : length (g.D.Disk.standing c.sync.new.self).seen ≤ FRESH = omega (arith, c.length.ensures, c.if-length.true) in
    absurd (few_undamaged c.args.header.now size c.args.limit small (g.D.Disk.standing c.args.disk.now) (g.D.Disk.standing c.sync.new.self) c.sync.ensures.quiet.same few damaged)

pub returns-in_err-repair-clause-damaged : goal.returns-in_err-repair-clause-damaged
returns-in_err-repair-clause-damaged g c = λ told damaged.
    let size : length c.args.header.now ≡ HEADER = search rules in
    let small : c.args.limit < 2 ^ 64 = omega (arith, c.requires.high) in
    absurd (found_undamaged c.args.header.now size c.args.limit small (g.D.Disk.standing c.args.disk.now) (g.D.Disk.standing c.sync.new.self) (c.in_ok-last.ensures.found told) c.sync.ensures.quiet.same c.in_ok-last.ensures.within.2 damaged)

pub returns-clause-damaged : goal.returns-clause-damaged
returns-clause-damaged g c = λ told damaged.
    let size : length c.args.header.now ≡ HEADER = search rules in
    let small : c.args.limit < 2 ^ 64 = omega (arith, c.requires.high) in
    absurd (found_undamaged c.args.header.now size c.args.limit small (g.D.Disk.standing c.args.disk.now) (g.D.Disk.standing c.sync.new.self) (c.in_ok-last.ensures.found told) c.sync.ensures.quiet.same c.in_ok-last.ensures.within.2 damaged)
