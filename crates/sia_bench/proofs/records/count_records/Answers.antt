use Rattle.std.proofs.Common.{◌≡◌, ◌≤◌, ℕ, List, [], true, rules, arith, ap, ◌∙◌, length, subst}
use Rattle.sia_edge.proofs.Runs.{quiet_only}
use Rattle.sia_journal.specs.Journal.{Holds}
use Rattle.sia_bench.proofs.Counting.{read_more, fewer_records}
use Rattle.sia_bench.proofs.records.count_records.Goals as goal

pub loop-count-preserved : goal.loop-count-preserved
loop-count-preserved g c = (
  c.in_ok-read_next.ensures.ready,
  c.in_ok-read_next.ensures.place,
  λ told header records holds.
      let so_far = c.loop-count.invariant.2 told header records holds in
      let Parts : List (List ℕ) → Type 0 = λ all. Holds header all (g.D.Disk.standing c.loop-count.journal.disk) in
      let parts = subst Parts so_far.2 so_far.5 in
      let next = c.in_ok-read_next.ensures.next told header so_far.0 so_far.1 parts so_far.4 in
      let was : c.in_ok-read_next.field-0 ≡ true = search (rules, c.if-not-branch.false) in
      let more = read_more so_far.0 so_far.1 records c.loop-count.count c.read_next.new.place [] c.read_next.new.out c.in_ok-read_next.field-0 so_far.2 so_far.3 was next in
      let quiet = c.in_ok-read_next.ensures.quiet in (
        more.0,
        more.1,
        more.2,
        more.3,
        more.4,
        record {
          sized = so_far.5.sized;
          is = quiet.same ∙ so_far.5.is;
          only = quiet_only quiet so_far.5.only;
        },
      ),
)

pub returns : goal.returns
returns g c = record {
  count = λ told header records holds.
      let so_far = c.loop-count.invariant.2 told header records holds in
      let whole : c.length-most.result ≡ length (g.D.Disk.standing c.args.journal.now.disk).seen = c.length-most.ensures in
      let over : c.length-most.result ≤ c.loop-count.count = omega (arith, c.loop-count-test.false) in
      absurd (fewer_records header records so_far.0 so_far.1 c.length-most.result c.loop-count.count so_far.2 so_far.3 (whole ∙ ap length holds.is) over);
}
