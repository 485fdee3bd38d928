use Rattle.std.proofs.Common.{◌≡◌, ap, sym, ◌∙◌}
use Rattle.std.proofs.lemmas.Result.{err_from_is_err_and}
use Rattle.sia_encoding.specs.Answer.{unless}
use Rattle.sia_encoding.proofs.Answering.{handed_on, unless_ok}
use Rattle.sia_sign.proofs.FirstFault.{first_decides, second_decides}
use Rattle.sia_rules.specs.Answers.{block_told}
use Rattle.sia_rules.specs.Shape.{shape_fault}
use Rattle.sia_ledger.specs.Judging.{state_refusal}
use Rattle.sia_ledger.specs.Known.{state_in}
use Rattle.sia_ledger.proofs.Halves.{in_two, shape_none}
use Rattle.sia_ledger.proofs.transactions.judge_transaction.Goals as goal

pub judge_state-requires-clause-once : goal.judge_state-requires-clause-once
judge_state-requires-clause-once g c = shape_none c.args.t c.args.tx.now (unless_ok _ c.in_ok-shape.ensures)

pub returns-in_err-shape : goal.returns-in_err-shape
returns-in_err-shape g c =
    let p = err_from_is_err_and c.from_residual.result c.from_residual.ensures.1 in
    let s = state_in c.args.draft.now in
    rw (p.1, p.2)
    (handed_on block_told c.in_err-shape.field-0.0 _ _
    (λ e is. ap unless (in_two g.C.SigCheck.verdict s c.args.t c.args.tx.now ∙ first_decides (shape_fault c.args.t c.args.tx.now) (state_refusal g.C.SigCheck.verdict s c.args.t c.args.tx.now) e is))
    c.in_err-shape.ensures)

pub returns : goal.returns
returns g c =
    let s = state_in c.args.draft.now in
    rw (in_two g.C.SigCheck.verdict s c.args.t c.args.tx.now ∙ second_decides (shape_fault c.args.t c.args.tx.now) (state_refusal g.C.SigCheck.verdict s c.args.t c.args.tx.now) c.in_ok-shape.ensures) c.judge_state.ensures
