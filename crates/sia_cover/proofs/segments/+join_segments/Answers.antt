use Rattle.std.proofs.Common.{◌≡◌, ◌+◌, ◌-◌, ◌^◌, ◌≤◌, ◌<◌, suc, length, take, drop, arith, ap, sym, ◌∙◌, rules}
use Rattle.sia_merkle.specs.Computations.{hash_of}
use Rattle.sia_merkle.specs.Roots.{node_digest, first_hash}
use Rattle.sia_merkle.specs.Segments.{cover_within, joined_segments_within, others}
use Rattle.sia_cover.proofs.Covers.{cover_one, cover_lower, left_len, right_len}
use Rattle.sia_cover.proofs.Joins.{first_of, hash_given, mixed_above}
use Rattle.sia_cover.proofs.SegmentJoins.{segments_inner, segments_outer, segments_lower, segments_both}
use Rattle.sia_cover.proofs.segments.+join_segments.Goals as goal

pub bounds-inner-0 : goal.bounds-inner-0
bounds-inner-0 g t c =
    let one = ap length (cover_one (g.P.PlaceSet.holds c.args.set.now) c.args.count c.args.height c.args.low (sym c.is_full.ensures ∙ c.if-is_full.true)) in
    let some : 0 < length c.args.inner.now = omega (arith, one, c.requires.inner) in
    search rules

pub returns-then-is_full : goal.returns-then-is_full
returns-then-is_full g t c =
    let one = ap length (cover_one (g.P.PlaceSet.holds c.args.set.now) c.args.count c.args.height c.args.low (sym c.is_full.ensures ∙ c.if-is_full.true)) in
    let some : 0 < length c.args.inner.now = omega (arith, one, c.requires.inner) in
    first_of c.args.inner.now some ∙ sym (ap hash_of (segments_inner (g.P.PlaceSet.holds c.args.set.now) c.args.count c.args.height c.args.low c.args.inner.now c.args.outer.now
    (sym c.is_full.ensures ∙ c.if-is_full.true)) ∙ hash_given (first_hash c.args.inner.now))

pub bounds-outer-0 : goal.bounds-outer-0
bounds-outer-0 g t c =
    let one = ap length (cover_one (others (g.P.PlaceSet.holds c.args.set.now)) c.args.count c.args.height c.args.low (sym c.is_clear.ensures ∙ c.if-is_clear.true)) in
    let some : 0 < length c.args.outer.now = omega (arith, one, c.requires.outer) in
    search rules

pub returns-then-is_clear : goal.returns-then-is_clear
returns-then-is_clear g t c =
    let one = ap length (cover_one (others (g.P.PlaceSet.holds c.args.set.now)) c.args.count c.args.height c.args.low (sym c.is_clear.ensures ∙ c.if-is_clear.true)) in
    let some : 0 < length c.args.outer.now = omega (arith, one, c.requires.outer) in
    first_of c.args.outer.now some ∙ sym (ap hash_of (segments_outer (g.P.PlaceSet.holds c.args.set.now) c.args.count c.args.height c.args.low c.args.inner.now c.args.outer.now
    (sym c.is_full.ensures ∙ c.if-is_full.false) (sym c.is_clear.ensures ∙ c.if-is_clear.true)) ∙ hash_given (first_hash c.args.outer.now))

pub join_segments-requires : goal.join_segments-requires
join_segments-requires g t c =
    let above = mixed_above (g.P.PlaceSet.holds c.args.set.now) c.args.count c.args.height c.args.low c.requires.low (sym c.is_full.ensures ∙ c.if-is_full.false) (sym c.is_clear.ensures ∙ c.if-is_clear.false) in
    let is : c.args.height ≡ suc (c.args.height - 1) = omega arith in
    let past : c.args.count ≤ c.args.low + 2 ^ (c.args.height - 1) = omega (arith, c.power-half.ensures) in
    let inner : length c.args.inner.now ≡ length (cover_within (g.P.PlaceSet.holds c.args.set.now) c.args.count (c.args.height - 1) c.args.low) =
    c.requires.inner ∙ ap length (cover_lower (g.P.PlaceSet.holds c.args.set.now) c.args.count c.args.height (c.args.height - 1) c.args.low is past c.requires.low (sym c.is_full.ensures ∙ c.if-is_full.false)) in
    let outer : length c.args.outer.now ≡ length (cover_within (others (g.P.PlaceSet.holds c.args.set.now)) c.args.count (c.args.height - 1) c.args.low) =
    c.requires.outer ∙ ap length (cover_lower (others (g.P.PlaceSet.holds c.args.set.now)) c.args.count c.args.height (c.args.height - 1) c.args.low is past c.requires.low (sym c.is_clear.ensures ∙ c.if-is_clear.false)) in
    search rules

pub returns-then-count-low : goal.returns-then-count-low
returns-then-count-low g t c =
    let above = mixed_above (g.P.PlaceSet.holds c.args.set.now) c.args.count c.args.height c.args.low c.requires.low (sym c.is_full.ensures ∙ c.if-is_full.false) (sym c.is_clear.ensures ∙ c.if-is_clear.false) in
    let is : c.args.height ≡ suc (c.args.height - 1) = omega arith in
    c.join_segments.ensures ∙ sym (ap hash_of (segments_lower (g.P.PlaceSet.holds c.args.set.now) c.args.count c.args.height (c.args.height - 1) c.args.low c.args.inner.now c.args.outer.now is
    (sym c.is_full.ensures ∙ c.if-is_full.false) (sym c.is_clear.ensures ∙ c.if-is_clear.false) (omega (arith, c.power-half.ensures))))

pub split_at-requires : goal.split_at-requires
split_at-requires g t c =
    let above = mixed_above (g.P.PlaceSet.holds c.args.set.now) c.args.count c.args.height c.args.low c.requires.low (sym c.is_full.ensures ∙ c.if-is_full.false) (sym c.is_clear.ensures ∙ c.if-is_clear.false) in
    let is : c.args.height ≡ suc (c.args.height - 1) = omega arith in
    omega (
      arith,
      c.cover_len_within-inner_len.ensures,
      left_len (g.P.PlaceSet.holds c.args.set.now) c.args.count c.args.height (c.args.height - 1) c.args.low c.args.inner.now is (sym c.is_full.ensures ∙ c.if-is_full.false) c.requires.inner,
    )

pub split_at-requires-2 : goal.split_at-requires-2
split_at-requires-2 g t c =
    let above = mixed_above (g.P.PlaceSet.holds c.args.set.now) c.args.count c.args.height c.args.low c.requires.low (sym c.is_full.ensures ∙ c.if-is_full.false) (sym c.is_clear.ensures ∙ c.if-is_clear.false) in
    let is : c.args.height ≡ suc (c.args.height - 1) = omega arith in
    omega (
      arith,
      c.cover_len_within-outer_len.ensures,
      left_len (others (g.P.PlaceSet.holds c.args.set.now)) c.args.count c.args.height (c.args.height - 1) c.args.low c.args.outer.now is (sym c.is_clear.ensures ∙ c.if-is_clear.false) c.requires.outer,
    )

pub join_segments-second-requires : goal.join_segments-second-requires
join_segments-second-requires g t c =
    let above = mixed_above (g.P.PlaceSet.holds c.args.set.now) c.args.count c.args.height c.args.low c.requires.low (sym c.is_full.ensures ∙ c.if-is_full.false) (sym c.is_clear.ensures ∙ c.if-is_clear.false) in
    let is : c.args.height ≡ suc (c.args.height - 1) = omega arith in
    let inner : length c.split_at.result.1.now ≡ length (cover_within (g.P.PlaceSet.holds c.args.set.now) c.args.count (c.args.height - 1) (c.args.low + c.power-half.result)) =
    right_len (g.P.PlaceSet.holds c.args.set.now) c.args.count c.args.height (c.args.height - 1) c.args.low c.power-half.result c.cover_len_within-inner_len.result c.args.inner.now c.split_at.result.1.now is
    (sym c.is_full.ensures ∙ c.if-is_full.false) c.requires.inner c.power-half.ensures c.cover_len_within-inner_len.ensures c.split_at.ensures.back in
    let outer : length c.split_at-2.result.1.now ≡ length (cover_within (others (g.P.PlaceSet.holds c.args.set.now)) c.args.count (c.args.height - 1) (c.args.low + c.power-half.result)) =
    right_len (others (g.P.PlaceSet.holds c.args.set.now)) c.args.count c.args.height (c.args.height - 1) c.args.low c.power-half.result c.cover_len_within-outer_len.result c.args.outer.now c.split_at-2.result.1.now is
    (sym c.is_clear.ensures ∙ c.if-is_clear.false) c.requires.outer c.power-half.ensures c.cover_len_within-outer_len.ensures c.split_at-2.ensures.back in
    search rules

pub returns : goal.returns
returns g t c =
    let some = mixed_above (g.P.PlaceSet.holds c.args.set.now) c.args.count c.args.height c.args.low c.requires.low (sym c.is_full.ensures ∙ c.if-is_full.false) (sym c.is_clear.ensures ∙ c.if-is_clear.false) in
    let is : c.args.height ≡ suc (c.args.height - 1) = omega arith in
    let above : c.args.low + 2 ^ (c.args.height - 1) < c.args.count = omega (arith, c.power-half.ensures) in
    let chosen = g.P.PlaceSet.holds c.args.set.now in
    c.node.ensures
    ∙ ap (λ hash. node_digest hash c.join_segments-second.result) c.join_segments-first.ensures
    ∙ ap (node_digest (hash_of (joined_segments_within chosen c.args.count (c.args.height - 1) c.args.low c.split_at.result.0.now c.split_at-2.result.0.now)))
    (c.join_segments-second.ensures ∙ ap (λ h. hash_of (joined_segments_within chosen c.args.count (c.args.height - 1) (c.args.low + h) c.split_at.result.1.now c.split_at-2.result.1.now)) c.power-half.ensures)
    ∙ segments_both chosen c.args.count c.args.height (c.args.height - 1) c.args.low c.args.inner.now c.args.outer.now
    c.split_at.result.0.now c.split_at.result.1.now c.split_at-2.result.0.now c.split_at-2.result.1.now is (sym c.is_full.ensures ∙ c.if-is_full.false) (sym c.is_clear.ensures ∙ c.if-is_clear.false) above
    (c.split_at.ensures.front ∙ ap (λ n. take n c.args.inner.now) c.cover_len_within-inner_len.ensures) (c.split_at.ensures.back ∙ ap (λ n. drop n c.args.inner.now) c.cover_len_within-inner_len.ensures)
    (c.split_at-2.ensures.front ∙ ap (λ n. take n c.args.outer.now) c.cover_len_within-outer_len.ensures) (c.split_at-2.ensures.back ∙ ap (λ n. drop n c.args.outer.now) c.cover_len_within-outer_len.ensures)
