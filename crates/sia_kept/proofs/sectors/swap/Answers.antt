-- The roots are in each other's place.
use Rattle.std.proofs.Common.{◌≡◌, ◌∙◌, [], ap, sym, rules, slice_set, slice_index_or}
use Rattle.sia_records.specs.Stored.{no_sector}
use Rattle.sia_kept.proofs.Changed.{roots, swapped}
use Rattle.sia_kept.proofs.sectors.swap.Goals as goal

pub returns-clause-tree : goal.returns-clause-tree
returns-clause-tree g c =
    let items : c.swap-2.new.self.items ≡ slice_set (slice_set c.args.stored.now.items c.args.one (slice_index_or c.args.stored.now.items c.args.other no_sector)) c.args.other (slice_index_or c.args.stored.now.items c.args.one no_sector) = search rules in
    ap (λ t. t.hashes) c.swap.ensures.tree ∙ ap (λ hashes. slice_set (slice_set hashes c.args.one (slice_index_or hashes c.args.other [])) c.args.other (slice_index_or hashes c.args.one [])) c.requires.tree
    ∙ swapped c.args.stored.now.items c.args.one c.args.other ∙ ap roots (sym items)
