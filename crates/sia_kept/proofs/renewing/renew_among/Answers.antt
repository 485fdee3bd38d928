-- The sectors pass on to the contract that is formed.
use Rattle.std.proofs.Common.{◌≡◌, ◌∙◌, ◌++◌, get_or, set, map, subst, ap}
use Rattle.std.specs.Option.{option_to_list}
use Rattle.sia_kept.specs.State.{Kept}
use Rattle.sia_kept.proofs.Renewed.{renewed_in_place}
use Rattle.sia_kept.proofs.renewing.renew_among.Goals as goal

pub returns-clause-ok : goal.returns-clause-ok
returns-clause-ok c =
    let items = c.args.items.now.items in
    let was = c.in_ok-reserve.ensures.items in
    let old : c.index_mut.result.now ≡ get_or items c.args.place c.index_mut.result.now = subst (λ xs. c.index_mut.result.now ≡ get_or xs c.args.place c.index_mut.result.now) was c.index_mut.ensures.value in
    let other : c.index.result.now ≡ get_or items c.args.place c.index.result.now = subst (λ xs. c.index.result.now ≡ get_or xs c.args.place c.index.result.now) was c.index.ensures in
    renewed_in_place c.args.host_key.now c.behind-items.inside.renter_key c.args.tx c.args.newest c.args.signatures items c.put_renewed.new.items.items c.args.place c.index_mut.result.now c.index.result.now c.clear_one-sectors.new.contract c.clear_one-sectors.result c.in_ok-formed.formed
    c.requires old other (ap (λ (k : Kept). k.renter_key) c.behind-items.view_is) c.clear_one-sectors.ensures.cleared c.clear_one-sectors.ensures.gives c.in_ok-formed.ensures
    (c.put_renewed.ensures ∙ ap (λ xs. set xs c.args.place c.clear_one-sectors.new.contract ++ map (λ (k : Kept). record k { sectors = c.clear_one-sectors.result }) (option_to_list c.in_ok-formed.formed)) was)
