-- The contract is changed alone, if it is there.
use Rattle.std.proofs.Common.{sym}
use Rattle.sia_kept.specs.State.{revised_contract}
use Rattle.sia_kept.proofs.Revised.{fit_found, revised_on, unfound}
use Rattle.sia_kept.proofs.revising.revise_kept.Goals as goal

pub returns-in-Some-clause-ok : goal.returns-in-Some-clause-ok
returns-in-Some-clause-ok c =
    revised_on c.revise_at.result c.args.signed.revision c.args.signed.renter c.args.signed.host _ c.args.signed.changes c.args.contracts.now c.revise_at.new.contracts c.in-Some.place c.requires.apart (sym c.in-Some.ensures) c.in_ok-signatures.ensures c.revise_at.ensures.ok

pub returns-in-None-clause-ok : goal.returns-in-None-clause-ok
returns-in-None-clause-ok c = unfound c.args.signed.revision.parent (revised_contract c.args.signed.revision c.args.signed.renter c.args.signed.host c.args.signed.changes) c.args.contracts.now (sym c.in-None.ensures)

pub revise_at-requires-clause-fit : goal.revise_at-requires-clause-fit
revise_at-requires-clause-fit c = (λ d. fit_found c.args.signed.revision c.args.signed.changes c.args.contracts.now c.in-Some.place d c.requires.apart (sym c.in-Some.ensures) c.requires.fit)
