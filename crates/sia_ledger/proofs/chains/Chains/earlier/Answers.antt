use Rattle.std.proofs.Common.{◌≡◌, ap, sym, ◌∙◌, Option, Some, None}
use Rattle.sia_ledger.proofs.Chaining.{link_found}
use Rattle.sia_ledger.proofs.chains.Chains.earlier.Goals as goal

inside : {X : Type 0} (x y : X) → Some x ≡ Some y → x ≡ y
inside x y e = cc

nothing : {X : Type 0} (x : X) → None ≡ Some x → ⊥
nothing x e = cc

pub returns-in-Some : goal.returns-in-Some
returns-in-Some g c = λ keys key is has. inside _ _ (link_found g.K.Ord.cmp c.args.self.now keys c.args.place key (Some c.in-Some.link.now) is has c.in-Some.ensures)

pub returns-in-None : goal.returns-in-None
returns-in-None g c = λ keys key is has. absurd (nothing _ (link_found g.K.Ord.cmp c.args.self.now keys c.args.place key None is has c.in-None.ensures))
