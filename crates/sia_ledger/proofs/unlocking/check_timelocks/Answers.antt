use Rattle.std.proofs.Common.{◌≡◌, ◌+◌, ◌-◌, ◌^◌, min, sym, map, ◌++◌, length}
use Rattle.std.proofs.lemmas.List.{length-map}
use Rattle.std.proofs.lemmas.Result.{err_from_is_err_and}
use Rattle.sia_encoding.proofs.Answering.{handed_on}
use Rattle.sia_sign.specs.Needs.{coin_need, revision_need, fund_need}
use Rattle.sia_rules.specs.Answers.{block_told}
use Rattle.sia_ledger.specs.Known.{state_in}
use Rattle.sia_ledger.specs.Rules.{locked, wrong_conditions}
use Rattle.sia_ledger.proofs.NeedFaults.{timelocks_as_one, fault_in_first, fault_in_second, none_in_two}
use Rattle.sia_ledger.proofs.unlocking.check_timelocks.Goals as goal

pub returns-in_err-check_list : goal.returns-in_err-check_list
returns-in_err-check_list c =
    let p = err_from_is_err_and c.from_residual.result c.from_residual.ensures.1 in
    rw (p.1, p.2) (handed_on block_told c.in_err-check_list.field-0.0 _ _ (λ e is. fault_in_first (locked c.args.height c.args.t) (map coin_need c.args.tx.now.coin_inputs) ((map revision_need c.args.tx.now.revisions) ++ (map fund_need c.args.tx.now.fund_inputs)) 0 e is) c.in_err-check_list.ensures)

pub returns-in_err-check_list-2 : goal.returns-in_err-check_list-2
returns-in_err-check_list-2 c =
    let p = err_from_is_err_and c.from_residual-in_err-check_list-2.result c.from_residual-in_err-check_list-2.ensures.1 in
    let at : c.len-coins.result ≡ length (map coin_need c.args.tx.now.coin_inputs) = rw length-map c.len-coins.ensures in
    rw (p.1, p.2) (handed_on block_told c.in_err-check_list-2.field-0.0 _ _ (λ e is. fault_in_second (locked c.args.height c.args.t) (map coin_need c.args.tx.now.coin_inputs) (map revision_need c.args.tx.now.revisions) (map fund_need c.args.tx.now.fund_inputs) c.len-coins.result e at c.in_ok-check_list.ensures is) c.in_err-check_list-2.ensures)

pub returns : goal.returns
returns c =
    let at : c.len-coins.result ≡ length (map coin_need c.args.tx.now.coin_inputs) = rw length-map c.len-coins.ensures in
    let behind : c.saturating_add.result ≡ min (c.len-coins.result + length (map revision_need c.args.tx.now.revisions)) (2 ^ 64 - 1) = rw (length-map, sym c.len-revisions.ensures) c.saturating_add.ensures in
    rw (none_in_two (locked c.args.height c.args.t) (timelocks_as_one c.args.height c.args.t) (map coin_need c.args.tx.now.coin_inputs) (map revision_need c.args.tx.now.revisions) (map fund_need c.args.tx.now.fund_inputs) c.len-coins.result c.saturating_add.result at behind c.in_ok-check_list.ensures c.in_ok-check_list-2.ensures) c.check_list-3.ensures
