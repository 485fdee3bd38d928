use Rattle.std.proofs.Common.{◌≡◌, ◌+◌, ◌-◌, ◌^◌, ◌∷◌, [], ◌++◌, suc, arith, ap, sym, ◌∙◌, append-nil}
use Rattle.std.specs.Prelude.{◌/◌}
use Rattle.sia_merkle.specs.Segments.{cover_within, segment_root, segment_roots}
use Rattle.sia_cover.proofs.Covers.{cover_one, cover_clear, cover_lower, cover_both, on_ok, roots_both}
use Rattle.sia_cover.proofs.Joins.{mixed_above}
use Rattle.sia_cover.proofs.cover.+append_cover.Goals as goal

pub returns-then-is_full : goal.returns-then-is_full
returns-then-is_full g t c =
    c.in_ok-push.ensures.ok
    ∙ ap (λ root. c.args.roots.now ++ root ∷ []) (c.node-root.ensures ∙ ap (λ width. segment_root (g.N.Nodes.hashes c.args.nodes.now) c.args.height (c.args.low / width)) c.power.ensures)
    ∙ sym (ap (λ cover. c.args.roots.now ++ segment_roots (g.N.Nodes.hashes c.args.nodes.now) cover)
    (cover_one (g.P.PlaceSet.holds c.args.set.now) c.args.count c.args.height c.args.low (sym c.is_full.ensures ∙ c.if-is_full.true)))

pub returns-then-is_clear : goal.returns-then-is_clear
returns-then-is_clear g t c =
    sym (ap (λ cover. c.args.roots.now ++ segment_roots (g.N.Nodes.hashes c.args.nodes.now) cover)
    (cover_clear (g.P.PlaceSet.holds c.args.set.now) c.args.count c.args.height c.args.low (sym c.is_clear.ensures ∙ c.if-is_clear.true)) ∙ append-nil c.args.roots.now)

pub returns-then-count-low : goal.returns-then-count-low
returns-then-count-low g t c =
    let above = mixed_above (g.P.PlaceSet.holds c.args.set.now) c.args.count c.args.height c.args.low c.requires.low (sym c.is_full.ensures ∙ c.if-is_full.false) (sym c.is_clear.ensures ∙ c.if-is_clear.false) in
    let is : c.args.height ≡ suc (c.args.height - 1) = omega arith in
    c.in_ok-append_cover.ensures ∙ sym (ap (λ cover. c.args.roots.now ++ segment_roots (g.N.Nodes.hashes c.args.nodes.now) cover)
    (cover_lower (g.P.PlaceSet.holds c.args.set.now) c.args.count c.args.height (c.args.height - 1) c.args.low is
    (omega (arith, c.power-half.ensures)) c.requires.low (sym c.is_full.ensures ∙ c.if-is_full.false)))

pub returns : goal.returns
returns g t c =
    let above = mixed_above (g.P.PlaceSet.holds c.args.set.now) c.args.count c.args.height c.args.low c.requires.low (sym c.is_full.ensures ∙ c.if-is_full.false) (sym c.is_clear.ensures ∙ c.if-is_clear.false) in
    let is : c.args.height ≡ suc (c.args.height - 1) = omega arith in
    on_ok c.append_cover-2.result (λ done. done
    ∙ ap (λ roots. roots ++ segment_roots (g.N.Nodes.hashes c.args.nodes.now) (cover_within (g.P.PlaceSet.holds c.args.set.now) c.args.count (c.args.height - 1) (c.args.low + c.power-half.result))) c.in_ok-append_cover.ensures
    ∙ ap (λ h. (c.args.roots.now ++ segment_roots (g.N.Nodes.hashes c.args.nodes.now) (cover_within (g.P.PlaceSet.holds c.args.set.now) c.args.count (c.args.height - 1) c.args.low))
    ++ segment_roots (g.N.Nodes.hashes c.args.nodes.now) (cover_within (g.P.PlaceSet.holds c.args.set.now) c.args.count (c.args.height - 1) (c.args.low + h))) c.power-half.ensures
    ∙ roots_both (g.N.Nodes.hashes c.args.nodes.now) c.args.roots.now (cover_within (g.P.PlaceSet.holds c.args.set.now) c.args.count (c.args.height - 1) c.args.low)
    (cover_within (g.P.PlaceSet.holds c.args.set.now) c.args.count (c.args.height - 1) (c.args.low + 2 ^ (c.args.height - 1)))
    (cover_within (g.P.PlaceSet.holds c.args.set.now) c.args.count c.args.height c.args.low)
    (cover_both (g.P.PlaceSet.holds c.args.set.now) c.args.count c.args.height (c.args.height - 1) c.args.low is (sym c.is_full.ensures ∙ c.if-is_full.false))) c.append_cover-2.ensures
