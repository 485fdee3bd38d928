use Rattle.std.proofs.Common.{◌≡◌, ◌+◌, ◌-◌, ◌*◌, ◌^◌, ◌<◌, ℕ, suc, arith, subst, ap}
use Rattle.sia_roottree.proofs.NodePlaces.{level_low, place_within}
use Rattle.sia_roottree.proofs.places.node_place.Goals as goal

pub power-requires : goal.power-requires
power-requires c = let low = level_low (c.args.below + 1) c.args.index c.requires in omega arith

pub returns-clause-inside : goal.returns-clause-inside
returns-clause-inside c =
    let up : suc c.args.below ≡ c.args.below + 1 = omega arith in
    let within = subst (λ (l : ℕ). (2 * c.args.index + 1) * 2 ^ c.args.below - 1 < (c.args.index + 1) * 2 ^ l) up (place_within c.args.below c.args.index) in
    let made = ap (λ (w : ℕ). (2 * c.args.index + 1) * w - 1) c.power.ensures in
    omega (arith, within, made)
