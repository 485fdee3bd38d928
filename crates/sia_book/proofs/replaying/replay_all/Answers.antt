use Rattle.std.proofs.Common.{arith, rules, ◌≡◌, ℕ, List, [], ◌∷◌, ◌++◌, Bool, true, false, IfErr, Ok, Err, refl, sym, ap, subst, ◌∙◌, length}
use Rattle.sia_edge.proofs.Runs.{quiet_on, quiet_start}
use Rattle.sia_journal.specs.Journal.{Holds}
use Rattle.sia_host.specs.Answered.{Host}
use Rattle.sia_host.specs.Replaying.{ReplaysPayload}
use Rattle.sia_book.specs.Opening.{Replayed}
use Rattle.sia_book.proofs.Playing.{still_holds, replayed_more, read_on, read_all, same_run}
use Rattle.sia_book.proofs.replaying.replay_all.Goals as goal

pub loop-payload-preserved : goal.loop-payload-preserved
loop-payload-preserved g c =
    let accepts = g.C.SigCheck.verdict in
    let was : c.in_ok-read_next.field-0 ≡ true = search (rules, c.if-branch.true) in
    let fits : c.in_ok-replay.field-0 ≡ true = search (rules, c.if-not-branch.false) in
    let P : Bool → Type 0 = λ b. ReplaysPayload accepts c.loop-payload.core c.as_slice.result.now b c.replay.new.self in
    let Q : List ℕ → Type 0 = λ p. ReplaysPayload accepts c.loop-payload.core p true c.replay.new.self in
    let next = subst Q c.as_slice.ensures (subst P fits c.in_ok-replay.ensures.replays) in
    let after = same_run accepts c.args.core.now c.loop-payload.core c.replay.new.self c.read_next.new.out c.loop-payload.invariant.run next in
    record {
      ready = c.read_next.ensures.ready;
      limit = c.read_next.ensures.limit ∙ c.loop-payload.invariant.limit;
      within = c.read_next.ensures.place;
      same = refl;
      run = after.0;
      settled = after.1;
      quiet = quiet_on c.loop-payload.invariant.quiet c.read_next.ensures.quiet;
      made = λ told header records holds.
          let so_far = c.loop-payload.invariant.made told header records holds in
          let now = still_holds header records c.loop-payload.invariant.quiet holds in
          let H : List (List ℕ) → Type 0 = λ all. Holds header all (g.D.Disk.standing c.loop-payload.journal.disk) in
          let answer = c.in_ok-read_next.ensures.next told header so_far.0 so_far.1 (subst H so_far.2 now) so_far.3 in
          let on = read_on so_far.0 so_far.1 records c.read_next.new.place c.read_next.new.out c.in_ok-read_next.field-0 so_far.2 was answer in
          (so_far.0 ++ c.read_next.new.out ∷ [], on.0, on.1, on.3, replayed_more accepts c.args.core.now c.loop-payload.core c.replay.new.self so_far.0 c.read_next.new.out so_far.4 next);
    }
