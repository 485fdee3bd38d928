use Rattle.std.proofs.Common.{◌+◌, ap, take, ◌∙◌}
use Rattle.sia_edge.proofs.Runs.{goes_on}
use Rattle.sia_journal.proofs.Exits.{on_ok}
use Rattle.sia_journal.proofs.Repairing.{was_closed, now_closed, cut_done, cut_leaves, gate_leaves}
use Rattle.sia_journal.proofs.opening.repair.Goals as goal

pub returns-then-last-eq0-clause-images : goal.returns-then-last-eq0-clause-images
returns-then-last-eq0-clause-images g c = λ told front behind size is only.
    cut_leaves front behind c.args.last.place c.args.last.gate size (was_closed front behind c.args.last.place c.args.last.gate size _ is c.if-last-eq0.true) only c.cut_to.ensures.changes

pub returns-then-last-eq0-clause-kept : goal.returns-then-last-eq0-clause-kept
returns-then-last-eq0-clause-kept g c = λ told. on_ok c.cut_to.result (λ kept front behind size is.
    kept ∙ ap (take (c.args.last.place + 1)) (was_closed front behind c.args.last.place c.args.last.gate size _ is c.if-last-eq0.true) ∙ cut_done front behind c.args.last.place c.args.last.gate size) c.cut_to.ensures.kept

pub returns-in_err-store-clause-images : goal.returns-in_err-store-clause-images
returns-in_err-store-clause-images g c = λ told front behind size is only. gate_leaves front behind c.args.last.place c.args.last.gate size is c.if-last-eq0.false only c.store.ensures.changes

pub returns-clause-images : goal.returns-clause-images
returns-clause-images g c = λ told front behind size is only.
    goes_on (gate_leaves front behind c.args.last.place c.args.last.gate size is c.if-last-eq0.false only c.store.ensures.changes)
    (cut_leaves front behind c.args.last.place c.args.last.gate size (now_closed front behind c.args.last.place c.args.last.gate size _ _ is (c.in_ok-store.ensures.kept told)) c.in_ok-store.ensures.settled c.cut_to-2.ensures.changes)
    (λ file left. left)

pub returns-clause-kept : goal.returns-clause-kept
returns-clause-kept g c = λ told. on_ok c.cut_to-2.result (λ kept front behind size is.
    kept ∙ ap (take (c.args.last.place + 1)) (now_closed front behind c.args.last.place c.args.last.gate size _ _ is (c.in_ok-store.ensures.kept told)) ∙ cut_done front behind c.args.last.place c.args.last.gate size) c.cut_to-2.ensures.kept
