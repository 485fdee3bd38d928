use Rattle.std.proofs.Common.{◌≡◌, ◌+◌, ◌-◌, ◌^◌, ◌<◌, suc, length, map, take, drop, arith, ap, sym, ◌∙◌, rules}
use Rattle.sia_merkle.specs.Computations.{hash_of}
use Rattle.sia_merkle.specs.Computations.Tree.{Given}
use Rattle.sia_merkle.specs.Roots.{first_hash, node_digest}
use Rattle.sia_merkle.specs.Segments.{cover_within, joined_within, others}
use Rattle.sia_cover.specs.Joined.{count_below}
use Rattle.sia_cover.proofs.Covers.{cover_one, cover_lower, left_len, right_len}
use Rattle.sia_cover.proofs.FullJoins.{join_both, row_joined, row_reaches}
use Rattle.sia_cover.proofs.Joins.{first_of, hash_given, join_given, join_lower, mixed_above}
use Rattle.sia_cover.proofs.joining.+join_within.Goals as goal

pub bounds-outer-0 : goal.bounds-outer-0
bounds-outer-0 g t c =
    let one = ap length (cover_one (others (g.P.PlaceSet.holds c.args.set.now)) c.args.count c.args.height c.args.low (sym c.is_clear.ensures ∙ c.if-is_clear.true)) in
    let some : 0 < length c.args.outer.now = omega (arith, one, c.requires.outer) in
    search rules

pub returns-then-is_clear : goal.returns-then-is_clear
returns-then-is_clear g t c =
    let one = ap length (cover_one (others (g.P.PlaceSet.holds c.args.set.now)) c.args.count c.args.height c.args.low (sym c.is_clear.ensures ∙ c.if-is_clear.true)) in
    let some : 0 < length c.args.outer.now = omega (arith, one, c.requires.outer) in
    first_of c.args.outer.now some ∙ sym (ap hash_of (join_given (g.P.PlaceSet.holds c.args.set.now) c.args.count c.args.height c.args.low
    (drop (count_below (g.P.PlaceSet.holds c.args.set.now) c.args.low) (map Given (g.R.Row.hashes c.args.row.now))) c.args.outer.now (sym c.is_clear.ensures ∙ c.if-is_clear.true)) ∙ hash_given (first_hash c.args.outer.now))

pub root_from-requires : goal.root_from-requires
root_from-requires g t c =
    row_reaches (g.P.PlaceSet.holds c.args.set.now) c.args.count c.args.height c.args.low c.below.result (length (g.R.Row.hashes c.args.row.now)) (sym c.is_full.ensures ∙ c.if-is_full.true) c.below.ensures c.requires.row

pub returns-then-is_full : goal.returns-then-is_full
returns-then-is_full g t c =
    c.root_from.ensures ∙ row_joined (g.P.PlaceSet.holds c.args.set.now) c.args.count c.args.height c.args.low c.below.result (g.R.Row.hashes c.args.row.now) c.args.outer.now
    (sym c.is_full.ensures ∙ c.if-is_full.true) c.below.ensures c.requires.row

pub join_within-requires : goal.join_within-requires
join_within-requires g t c =
    let above = mixed_above (g.P.PlaceSet.holds c.args.set.now) c.args.count c.args.height c.args.low c.requires.low (sym c.is_full.ensures ∙ c.if-is_full.false) (sym c.is_clear.ensures ∙ c.if-is_clear.false) in
    let is : c.args.height ≡ suc (c.args.height - 1) = omega arith in
    let cut : length c.args.outer.now ≡ length (cover_within (others (g.P.PlaceSet.holds c.args.set.now)) c.args.count (c.args.height - 1) c.args.low) =
    c.requires.outer ∙ ap length (cover_lower (others (g.P.PlaceSet.holds c.args.set.now)) c.args.count c.args.height (c.args.height - 1) c.args.low is
    (omega (arith, c.power-half.ensures)) c.requires.low (sym c.is_clear.ensures ∙ c.if-is_clear.false)) in
    search rules

pub returns-then-count-low : goal.returns-then-count-low
returns-then-count-low g t c =
    let above = mixed_above (g.P.PlaceSet.holds c.args.set.now) c.args.count c.args.height c.args.low c.requires.low (sym c.is_full.ensures ∙ c.if-is_full.false) (sym c.is_clear.ensures ∙ c.if-is_clear.false) in
    let is : c.args.height ≡ suc (c.args.height - 1) = omega arith in
    c.join_within.ensures ∙ sym (ap hash_of (join_lower (g.P.PlaceSet.holds c.args.set.now) c.args.count c.args.height (c.args.height - 1) c.args.low
    (drop (count_below (g.P.PlaceSet.holds c.args.set.now) c.args.low) (map Given (g.R.Row.hashes c.args.row.now))) c.args.outer.now is (sym c.is_clear.ensures ∙ c.if-is_clear.false) (omega (arith, c.power-half.ensures))))

pub split_at-requires : goal.split_at-requires
split_at-requires g t c =
    let above = mixed_above (g.P.PlaceSet.holds c.args.set.now) c.args.count c.args.height c.args.low c.requires.low (sym c.is_full.ensures ∙ c.if-is_full.false) (sym c.is_clear.ensures ∙ c.if-is_clear.false) in
    let is : c.args.height ≡ suc (c.args.height - 1) = omega arith in
    omega (
      arith,
      c.cover_len_within-left_len.ensures,
      left_len (others (g.P.PlaceSet.holds c.args.set.now)) c.args.count c.args.height (c.args.height - 1) c.args.low c.args.outer.now is (sym c.is_clear.ensures ∙ c.if-is_clear.false) c.requires.outer,
    )

pub join_within-second-requires : goal.join_within-second-requires
join_within-second-requires g t c =
    let above = mixed_above (g.P.PlaceSet.holds c.args.set.now) c.args.count c.args.height c.args.low c.requires.low (sym c.is_full.ensures ∙ c.if-is_full.false) (sym c.is_clear.ensures ∙ c.if-is_clear.false) in
    let is : c.args.height ≡ suc (c.args.height - 1) = omega arith in
    let cut : length c.split_at.result.1.now ≡ length (cover_within (others (g.P.PlaceSet.holds c.args.set.now)) c.args.count (c.args.height - 1) (c.args.low + c.power-half.result)) =
    right_len (others (g.P.PlaceSet.holds c.args.set.now)) c.args.count c.args.height (c.args.height - 1) c.args.low c.power-half.result c.cover_len_within-left_len.result c.args.outer.now c.split_at.result.1.now is
    (sym c.is_clear.ensures ∙ c.if-is_clear.false) c.requires.outer c.power-half.ensures c.cover_len_within-left_len.ensures c.split_at.ensures.back in
    search rules

pub returns : goal.returns
returns g t c =
    let some = mixed_above (g.P.PlaceSet.holds c.args.set.now) c.args.count c.args.height c.args.low c.requires.low (sym c.is_full.ensures ∙ c.if-is_full.false) (sym c.is_clear.ensures ∙ c.if-is_clear.false) in
    let is : c.args.height ≡ suc (c.args.height - 1) = omega arith in
    let above : c.args.low + 2 ^ (c.args.height - 1) < c.args.count = omega (arith, c.power-half.ensures) in
    let chosen = g.P.PlaceSet.holds c.args.set.now in
    let inner = map Given (g.R.Row.hashes c.args.row.now) in
    c.node.ensures
    ∙ ap (λ hash. node_digest hash c.join_within-second.result) c.join_within-first.ensures
    ∙ ap (node_digest (hash_of (joined_within chosen c.args.count (c.args.height - 1) c.args.low (drop (count_below chosen c.args.low) inner) c.split_at.result.0.now)))
    (c.join_within-second.ensures ∙ ap (λ h. hash_of (joined_within chosen c.args.count (c.args.height - 1) (c.args.low + h) (drop (count_below chosen (c.args.low + h)) inner) c.split_at.result.1.now)) c.power-half.ensures)
    ∙ join_both chosen c.args.count c.args.height (c.args.height - 1) c.args.low inner c.args.outer.now c.split_at.result.0.now c.split_at.result.1.now
    is (sym c.is_clear.ensures ∙ c.if-is_clear.false) above
    (c.split_at.ensures.front ∙ ap (λ n. take n c.args.outer.now) c.cover_len_within-left_len.ensures) (c.split_at.ensures.back ∙ ap (λ n. drop n c.args.outer.now) c.cover_len_within-left_len.ensures)
