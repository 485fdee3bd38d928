-- The root is put in its place.
use Rattle.std.proofs.Common.{◌∙◌, ap, sym, slice_set}
use Rattle.std.proofs.lemmas.List.{map-set}
use Rattle.sia_records.specs.Stored.{Stored}
use Rattle.sia_kept.proofs.sectors.set.Goals as goal

pub returns-clause-tree : goal.returns-clause-tree
returns-clause-tree g c =
    ap (λ t. t.hashes) c.set.ensures.tree ∙ ap (λ hashes. slice_set hashes c.args.place c.args.root.now) c.requires.tree
    ∙ sym (map-set (λ (sector : Stored). sector.root) c.args.stored.now.items c.args.place (record { root = c.args.root.now; slot = c.args.slot }))
