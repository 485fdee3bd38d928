use Rattle.std.proofs.Common.{◌≡◌, ◌+◌, ◌∙◌, ◌++◌, length, sym, ap, arith}
use Rattle.sia_merkle.specs.Segments.{cover_within, segment_roots}
use Rattle.sia_cover.proofs.Covers.{on_ok}
use Rattle.sia_cover.proofs.RowCovers.{whole_full, whole_none}
use Rattle.sia_cover.proofs.growing.append_own.Goals as goal

pub returns-then-is_full : goal.returns-then-is_full
returns-then-is_full g c = λ hashes index aligned behind all.
    on_ok c.push.result (λ done. done ∙ whole_full (g.P.PlaceSet.holds c.args.set.now) (c.args.base + c.len.result) c.args.base c.args.level index hashes (g.R.Row.hashes c.args.row.now) c.args.roots.now c.args.root.now
    (record { behind = behind; all = all ∙ ap (λ n. c.args.base + n) (sym c.len.ensures) }) aligned c.requires.part (sym c.is_full.ensures ∙ c.if-is_full.true) c.requires.root) c.push.ensures.ok

pub returns-then-len-eq0 : goal.returns-then-len-eq0
returns-then-len-eq0 g c = λ hashes index aligned behind all.
    whole_none (g.P.PlaceSet.holds c.args.set.now) (c.args.base + c.len.result) c.args.base c.args.level hashes (g.R.Row.hashes c.args.row.now) c.args.roots.now
    (record { behind = behind; all = all ∙ ap (λ n. c.args.base + n) (sym c.len.ensures) }) (omega (arith, c.len.ensures, c.len-2.ensures, c.if-len-eq0.true))

pub returns : goal.returns
returns g c = λ hashes index aligned behind all.
    let same : c.args.base + 0 ≡ c.args.base = omega arith in
    on_ok c.append_row.result (λ done. done ∙ ap (λ at. c.args.roots.now ++ segment_roots hashes (cover_within (g.P.PlaceSet.holds c.args.set.now) (length hashes) c.args.level at)) same)
    (c.append_row.ensures hashes index (same ∙ aligned) behind all)
