use Rattle.std.proofs.Common.{◌∙◌, ◌<◌, ◌^◌, ℕ, [], refl, ap, sym, subst, append-nil}
use Rattle.sia_ledger.specs.Facts.{claim_at}
use Rattle.sia_ledger.proofs.Claimed.{claims_later}
use Rattle.sia_ledger.proofs.draft.Draft.claim.Goals as goal

pub returns-then-knows : goal.returns-then-knows
returns-then-knows c =
    let fresh = c.self.inside.fresh in
    let id = c.args.id.now in
    let all = claims_later c.self.inside.kept.now fresh id (sym c.if-knows.ensures) in
    let alone = ap (λ facts. claim_at facts id) (append-nil fresh) in
    let fits = subst (λ (n : ℕ). n < 2 ^ 128) (all ∙ sym alone) (rw (← c.self.view_is) at c.requires) in
    rw (← c.self.view_is) (c.claim.ensures [] refl refl fits ∙ alone ∙ sym all)

pub returns : goal.returns
returns c = rw (← c.self.view_is) (c.claim-2.ensures c.self.inside.fresh c.shares.ensures (sym c.if-knows.ensures) (rw (← c.self.view_is) at c.requires))
