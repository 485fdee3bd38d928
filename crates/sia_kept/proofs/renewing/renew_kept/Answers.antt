-- With no revision or no contract of it nothing changes, and else the contract that is found is renewed.
use Rattle.std.proofs.Common.{◌≡◌, ◌∙◌, [], ◌∷◌, Some, ap, sym}
use Rattle.std.specs.Prelude.{slice_get}
use Rattle.sia_kept.specs.State.{signature_for}
use Rattle.sia_kept.proofs.Renewed.{no_contract, renewed_on}
use Rattle.sia_kept.proofs.renewing.renew_kept.Goals as goal

pub returns-in_default-place_of-clause-ok : goal.returns-in_default-place_of-clause-ok
returns-in_default-place_of-clause-ok c =
    let at : slice_get c.args.tx.revisions 0 ≡ Some c.in-Some.revision.now = sym c.in-Some.ensures in
    no_contract c.args.host_key.now c.args.tx c.args.contracts.now c.args.tx.revisions c.in-Some.revision.now at (sym c.in_default-place_of.ensures)

pub returns-clause-ok : goal.returns-clause-ok
returns-clause-ok c =
    let at : slice_get c.args.tx.revisions 0 ≡ Some c.in-Some.revision.now = sym c.in-Some.ensures in
    let both = c.in_ok-signatures.ensures ∙ ap (λ ss. signature_for c.in-Some.revision.now.parent 0 ss ∷ signature_for c.in-Some.revision.now.parent 1 ss ∷ []) c.as_slice.ensures in
    renewed_on c.renew_at.result c.args.host_key.now c.args.tx c.in-Some.revision.now c.in_ok-newest.newest c.in_ok-signatures.signatures c.args.contracts.now c.renew_at.new.contracts c.in-Some-place_of.place
    c.requires at c.in_ok-newest.ensures (sym c.in-Some-place_of.ensures) both c.renew_at.ensures.ok
