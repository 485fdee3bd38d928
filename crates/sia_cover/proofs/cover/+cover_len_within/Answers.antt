use Rattle.std.proofs.Common.{◌≡◌, ◌+◌, ◌-◌, ◌^◌, ◌<◌, suc, length, arith, ap, sym, ◌∙◌, length-append}
use Rattle.sia_merkle.specs.Segments.{cover_within}
use Rattle.sia_cover.proofs.Covers.{cover_one, cover_clear, cover_lower, cover_both, cover_fits}
use Rattle.sia_cover.proofs.Joins.{mixed_above}
use Rattle.sia_cover.proofs.cover.+cover_len_within.Goals as goal

pub returns-then-is_full : goal.returns-then-is_full
returns-then-is_full g t c = sym (ap length (cover_one (g.P.PlaceSet.holds c.args.set.now) c.args.count c.args.height c.args.low (sym c.is_full.ensures ∙ c.if-is_full.true)))

pub returns-then-is_clear : goal.returns-then-is_clear
returns-then-is_clear g t c = sym (ap length (cover_clear (g.P.PlaceSet.holds c.args.set.now) c.args.count c.args.height c.args.low (sym c.is_clear.ensures ∙ c.if-is_clear.true)))

pub returns-then-count-low : goal.returns-then-count-low
returns-then-count-low g t c =
    let above = mixed_above (g.P.PlaceSet.holds c.args.set.now) c.args.count c.args.height c.args.low c.requires.low (sym c.is_full.ensures ∙ c.if-is_full.false) (sym c.is_clear.ensures ∙ c.if-is_clear.false) in
    let is : c.args.height ≡ suc (c.args.height - 1) = omega arith in
    c.cover_len_within-left.ensures ∙ sym (ap length (cover_lower (g.P.PlaceSet.holds c.args.set.now) c.args.count c.args.height (c.args.height - 1) c.args.low is
    (omega (arith, c.power-half.ensures)) c.requires.low (sym c.is_full.ensures ∙ c.if-is_full.false)))

pub overflow_add-result : goal.overflow_add-result
overflow_add-result g t c =
    let above : c.args.low + 2 ^ (c.args.height - 1) < c.args.count = omega (arith, c.power-half.ensures) in
    let right : c.cover_len_within-right.result ≡ length (cover_within (g.P.PlaceSet.holds c.args.set.now) c.args.count (c.args.height - 1) (c.args.low + 2 ^ (c.args.height - 1))) =
    c.cover_len_within-right.ensures ∙ ap (λ h. length (cover_within (g.P.PlaceSet.holds c.args.set.now) c.args.count (c.args.height - 1) (c.args.low + h))) c.power-half.ensures in
    omega (arith, c.cover_len_within-left.ensures, cover_fits (g.P.PlaceSet.holds c.args.set.now) c.args.count (c.args.height - 1) c.args.low above)

pub returns : goal.returns
returns g t c =
    let above = mixed_above (g.P.PlaceSet.holds c.args.set.now) c.args.count c.args.height c.args.low c.requires.low (sym c.is_full.ensures ∙ c.if-is_full.false) (sym c.is_clear.ensures ∙ c.if-is_clear.false) in
    let is : c.args.height ≡ suc (c.args.height - 1) = omega arith in
    let right : c.cover_len_within-right.result ≡ length (cover_within (g.P.PlaceSet.holds c.args.set.now) c.args.count (c.args.height - 1) (c.args.low + 2 ^ (c.args.height - 1))) =
    c.cover_len_within-right.ensures ∙ ap (λ h. length (cover_within (g.P.PlaceSet.holds c.args.set.now) c.args.count (c.args.height - 1) (c.args.low + h))) c.power-half.ensures in
    let whole = ap length (cover_both (g.P.PlaceSet.holds c.args.set.now) c.args.count c.args.height (c.args.height - 1) c.args.low is (sym c.is_full.ensures ∙ c.if-is_full.false)) in
    omega (
      arith,
      whole,
      right,
      c.cover_len_within-left.ensures,
      length-append (cover_within (g.P.PlaceSet.holds c.args.set.now) c.args.count (c.args.height - 1) c.args.low)
          (cover_within (g.P.PlaceSet.holds c.args.set.now) c.args.count (c.args.height - 1) (c.args.low + 2 ^ (c.args.height - 1))),
    )
