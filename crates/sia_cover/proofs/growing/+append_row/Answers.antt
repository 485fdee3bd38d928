use Rattle.std.proofs.Common.{◌≡◌, ◌+◌, ◌-◌, ◌*◌, ◌^◌, suc, length, sym, ◌∙◌, ap, arith}
use Rattle.sia_cover.proofs.Covers.{on_ok}
use Rattle.sia_cover.proofs.Joins.{mixed_above}
use Rattle.sia_merkle.proofs.Windows.{first_half, second_half}
use Rattle.sia_cover.proofs.RowCovers.{row_both, row_clear, row_full, row_low}
use Rattle.sia_cover.proofs.growing.+append_row.Goals as goal

pub returns-then-is_full : goal.returns-then-is_full
returns-then-is_full g t c = λ hashes index aligned behind all.
    on_ok c.push.result (λ done. done ∙ row_full (g.P.PlaceSet.holds c.args.set.now) (c.args.base + c.len.result) c.args.base c.args.at c.args.height index hashes (g.R.Row.hashes c.args.row.now) c.args.roots.now c.root_from-root.result
    (record { behind = behind; all = all ∙ ap (λ n. c.args.base + n) (sym c.len.ensures) }) aligned (sym c.is_full.ensures ∙ c.if-is_full.true) c.root_from-root.ensures) c.push.ensures.ok

pub returns-then-is_clear : goal.returns-then-is_clear
returns-then-is_clear g t c = λ hashes index aligned behind all.
    row_clear (g.P.PlaceSet.holds c.args.set.now) (c.args.base + c.len.result) c.args.base (c.args.base + c.args.at) c.args.height hashes (g.R.Row.hashes c.args.row.now) c.args.roots.now
    (record { behind = behind; all = all ∙ ap (λ n. c.args.base + n) (sym c.len.ensures) }) (sym c.is_clear.ensures ∙ c.if-is_clear.true)

pub returns-then-count-low : goal.returns-then-count-low
returns-then-count-low g t c = λ hashes index aligned behind all.
    let above = mixed_above (g.P.PlaceSet.holds c.args.set.now) (c.args.base + c.len.result) c.args.height (c.args.base + c.args.at) (omega (arith, c.len.ensures)) (sym c.is_full.ensures ∙ c.if-is_full.false) (sym c.is_clear.ensures ∙ c.if-is_clear.false) in
    let is : c.args.height ≡ suc (c.args.height - 1) = omega arith in
    row_low (g.P.PlaceSet.holds c.args.set.now) (c.args.base + c.len.result) c.args.base (c.args.base + c.args.at) c.args.height (c.args.height - 1) hashes (g.R.Row.hashes c.args.row.now) c.args.roots.now c.append_row.new.roots
    (record { behind = behind; all = all ∙ ap (λ n. c.args.base + n) (sym c.len.ensures) }) is (omega (arith, c.power-half.ensures)) (omega (arith, c.len.ensures)) (sym c.is_full.ensures ∙ c.if-is_full.false)
    (c.in_ok-append_row.ensures hashes (index * 2) (first_half (c.args.base + c.args.at) c.args.height (c.args.height - 1) index is aligned) behind all)

pub returns : goal.returns
returns g t c = λ hashes index aligned behind all.
    let above = mixed_above (g.P.PlaceSet.holds c.args.set.now) (c.args.base + c.len.result) c.args.height (c.args.base + c.args.at) (omega (arith, c.len.ensures)) (sym c.is_full.ensures ∙ c.if-is_full.false) (sym c.is_clear.ensures ∙ c.if-is_clear.false) in
    let is : c.args.height ≡ suc (c.args.height - 1) = omega arith in
    let there : c.args.base + (c.args.at + c.power-half.result) ≡ (c.args.base + c.args.at) + 2 ^ (c.args.height - 1) = omega (arith, c.power-half.ensures) in
    on_ok c.append_row-2.result (row_both (g.P.PlaceSet.holds c.args.set.now) (c.args.base + c.len.result) c.args.base (c.args.base + c.args.at) c.args.height (c.args.height - 1) (c.args.base + (c.args.at + c.power-half.result))
    hashes (g.R.Row.hashes c.args.row.now) c.args.roots.now c.append_row.new.roots c.append_row-2.new.roots
    (record { behind = behind; all = all ∙ ap (λ n. c.args.base + n) (sym c.len.ensures) }) is there (sym c.is_full.ensures ∙ c.if-is_full.false)
    (c.in_ok-append_row.ensures hashes (index * 2) (first_half (c.args.base + c.args.at) c.args.height (c.args.height - 1) index is aligned) behind all))
    (c.append_row-2.ensures hashes (index * 2 + 1) (second_half (c.args.base + c.args.at) c.args.height (c.args.height - 1) index (c.args.base + (c.args.at + c.power-half.result)) is aligned there) behind all)
