use Rattle.std.proofs.Common.{length, rules, ◌∙◌}
use Rattle.sia_edge.proofs.Runs.{goes_on, left_last}
use Rattle.sia_journal.proofs.Exits.{on_ok_both}
use Rattle.sia_journal.proofs.Repairing.{fresh_written, few_cut, few_written}
use Rattle.sia_journal.proofs.opening.make_fresh.Goals as goal

pub returns-in_err-cut_to-clause-few : goal.returns-in_err-cut_to-clause-few
returns-in_err-cut_to-clause-few g c = λ few. few_cut 0 few c.cut_to.ensures.changes

pub returns-clause-kept : goal.returns-clause-kept
returns-clause-kept g c = λ told. on_ok_both c.store.result (λ kept only.
    let is = fresh_written (g.D.Disk.standing c.args.disk.now).seen (g.D.Disk.standing c.cut_to.new.disk).seen (g.D.Disk.standing c.store.new.disk).seen c.fresh_file.result c.in_ok-cut_to.ensures.kept kept ∙ c.fresh_file.ensures in
    record { sized = search rules; is = is; only = λ file left. only file left ∙ is }) (c.store.ensures.kept told) c.store.ensures.settled

pub returns-clause-few : goal.returns-clause-few
returns-clause-few g c = λ few.
    let run = few_cut 0 few c.cut_to.ensures.changes in
    goes_on run (few_written (length c.fresh_file.result) (search rules) (left_last run) c.store.ensures.changes) (λ file left. left)
