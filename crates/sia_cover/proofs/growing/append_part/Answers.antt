use Rattle.std.proofs.Common.{◌≡◌, ◌+◌, ◌*◌, ◌^◌, ◌<◌, ◌++◌, length, drop, sym, ◌∙◌, ap, arith}
use Rattle.sia_merkle.specs.Segments.{cover_within, segment_roots}
use Rattle.sia_cover.proofs.RowCovers.{grown_roots}
use Rattle.sia_cover.proofs.growing.append_part.Goals as goal

pub returns-else-len-power : goal.returns-else-len-power
returns-else-len-power g c = λ hashes behind all was.
    let same : c.args.before * c.power.result ≡ c.args.before * 2 ^ c.args.level = ap (λ width. c.args.before * width) c.power.ensures in
    let own = c.in_ok-append_own.ensures hashes c.args.before same (ap (λ base. drop base hashes) same ∙ behind) (all ∙ ap (λ base. base + length (g.R.Row.hashes c.args.row.now)) (sym same)) in
    grown_roots (g.P.PlaceSet.holds c.args.set.now) c.args.level c.args.before (length (g.R.Row.hashes c.args.row.now)) hashes c.args.roots.now c.append_own.new.roots all (omega (arith, c.requires.part, c.len.ensures, c.power-2.ensures, c.if-len-power.false)) was
    (own ∙ ap (λ base. c.args.roots.now ++ segment_roots hashes (cover_within (g.P.PlaceSet.holds c.args.set.now) (length hashes) c.args.level base)) same)
