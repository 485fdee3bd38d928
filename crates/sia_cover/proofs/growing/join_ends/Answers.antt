use Rattle.std.proofs.Common.{◌≡◌, ℕ, ◌+◌, ◌*◌, ◌/◌, ◌%◌, ◌^◌, ◌<◌, ◌≤◌, List, length, sym, ◌∙◌, ap, arith, true, false, subst, rules}
use Rattle.sia_merkle.specs.Segments.{is_covered}
use Rattle.sia_cover.proofs.Growth.{ends_joined, ends_kept, halved, roots_end}
use Rattle.sia_cover.proofs.growing.join_ends.Goals as goal
use Rattle.sia_cover.proofs.growing.join_ends.Goals.{then-is_full+in_ok-join_last, else-is_full}

pub returns-then-rest-eq0 : goal.returns-then-rest-eq0
returns-then-rest-eq0 g c = λ hashes all was.
    let counted : length hashes ≡ (c.args.before + 1) * c.power.result = all ∙ ap (λ width. (c.args.before + 1) * width) (sym c.power.ensures) in
    roots_end (g.P.PlaceSet.holds c.args.set.now) hashes c.loop-height.roots c.loop-height.height c.loop-height.rest (counted ∙ c.loop-height.invariant.full) c.if-rest-eq0.true (c.loop-height.invariant.ends hashes counted was)

pub overflow_mul-rest : goal.overflow_mul-rest
overflow_mul-rest g c =
    let odd : c.loop-height.rest % 2 ≡ 1 = omega (arith, c.if-rest-eq0.false) in
    let wide : c.loop-height.rest / 2 * c.power-in-loop-height.result ≡ c.loop-height.rest / 2 * 2 ^ (c.loop-height.height + 1) = ap (λ width. c.loop-height.rest / 2 * width) c.power-in-loop-height.ensures in
    let room : (c.args.before + 1) * c.power.result ≡ (c.args.before + 1) * 2 ^ c.args.level = ap (λ width. (c.args.before + 1) * width) c.power.ensures in
    let more : (c.loop-height.rest / 2 + 1) * 2 ^ (c.loop-height.height + 1) ≡ c.loop-height.rest / 2 * 2 ^ (c.loop-height.height + 1) + 2 ^ (c.loop-height.height + 1) = omega arith in
    omega (arith, c.loop-height.invariant.full, halved c.loop-height.rest c.loop-height.height odd, c.requires.room)

pub loop-height-preserved : goal.loop-height-preserved
loop-height-preserved g c =
    let odd : c.loop-height.rest % 2 ≡ 1 = omega (arith, c.if-rest-eq0.false) in
    record {
      full = c.loop-height.invariant.full ∙ halved c.loop-height.rest c.loop-height.height odd;
      ends = λ hashes counted was.
          let low : c.loop-height.rest / 2 * c.power-in-loop-height.result ≡ c.loop-height.rest / 2 * 2 ^ (c.loop-height.height + 1) = ap (λ width. c.loop-height.rest / 2 * width) c.power-in-loop-height.ensures in
          let told : is_covered (g.P.PlaceSet.holds c.args.set.now) (length hashes) (c.loop-height.height + 1) (c.loop-height.rest / 2 * 2 ^ (c.loop-height.height + 1)) ≡ c.is_full.result =
          ap (λ n. is_covered (g.P.PlaceSet.holds c.args.set.now) n (c.loop-height.height + 1) (c.loop-height.rest / 2 * 2 ^ (c.loop-height.height + 1))) counted
          ∙ ap (is_covered (g.P.PlaceSet.holds c.args.set.now) ((c.args.before + 1) * c.power.result) (c.loop-height.height + 1)) (sym low) ∙ sym c.is_full.ensures in
          elim c.if-is_full.branch [
            | then-is_full+in_ok-join_last w ↦ rw w.roots-is (ends_joined (g.P.PlaceSet.holds c.args.set.now) hashes c.loop-height.roots w.join_last.new.roots c.loop-height.height c.loop-height.rest
                (counted ∙ c.loop-height.invariant.full) odd (c.loop-height.invariant.ends hashes counted was) (told ∙ w.if-is_full.true) w.in_ok-join_last.ensures)
            | else-is_full w ↦ rw w.roots-is (ends_kept (g.P.PlaceSet.holds c.args.set.now) hashes c.loop-height.roots c.loop-height.height c.loop-height.rest
                (counted ∙ c.loop-height.invariant.full) odd (c.loop-height.invariant.ends hashes counted was) (told ∙ w.if-is_full.false))
          ];
    }

pub returns : goal.returns
returns g c = λ hashes all was.
    let high : c.loop-height.height ≡ 64 = omega arith in
    let full : (c.args.before + 1) * c.power.result ≡ (c.loop-height.rest + 1) * 2 ^ 64 = c.loop-height.invariant.full ∙ ap (λ h. (c.loop-height.rest + 1) * 2 ^ h) high in
    let room : (c.args.before + 1) * c.power.result ≡ (c.args.before + 1) * 2 ^ c.args.level = ap (λ width. (c.args.before + 1) * width) c.power.ensures in
    absurd (omega (arith, c.requires.room))
