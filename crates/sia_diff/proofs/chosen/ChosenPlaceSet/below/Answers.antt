use Rattle.std.proofs.Common.{rules, ◌-◌, sym, arith, ◌∙◌, nat_lt, ℕ}
use Rattle.std.specs.List.{range_with_len, filter}
use Rattle.std.proofs.lemmas.List.Sorted.{IsPartitionPoint-from_clause}
use Rattle.sia_diff.specs.Chosen.{ArePlaces, is_listed}
use Rattle.sia_diff.proofs.Below.{below_old, below_new, few_touched, cut_at, parted, touched_parts, front_low, rest_high}
use Rattle.sia_diff.proofs.chosen.ChosenPlaceSet.below.Goals as goal

pub overflow_add-result : goal.overflow_add-result
overflow_add-result c =
    let places : ArePlaces c.args.self.now.old c.args.self.now.touched.now = search rules in
    let few = few_touched c.args.self.now.old c.args.self.now.touched.now places in
    search rules

pub returns-then-place-self : goal.returns-then-place-self
returns-then-place-self c =
    let places : ArePlaces c.args.self.now.old c.args.self.now.touched.now = search rules in
    sym (below_new c.args.self.now.old c.args.self.now.touched.now c.args.place places (omega (arith, c.if-place-self.true)))

pub returns-else-place-self : goal.returns-else-place-self
returns-else-place-self c =
    let places : ArePlaces c.args.self.now.old c.args.self.now.touched.now = search rules in
    let front = filter (is_listed c.args.self.now.touched.now) (range_with_len 0 c.args.place) in
    let rest = filter (is_listed c.args.self.now.touched.now) (range_with_len c.args.place (c.args.self.now.old - c.args.place)) in
    let is = touched_parts c.args.self.now.old c.args.self.now.touched.now c.args.place places c.if-place-self.false in
    let low = λ (k d : ℕ). front_low c.args.self.now.touched.now c.args.place k d in
    let high = λ (k d : ℕ). rest_high c.args.self.now.touched.now c.args.place (c.args.self.now.old - c.args.place) k d in
    let point = IsPartitionPoint-from_clause (λ y. nat_lt y c.args.place) _ _ c.partition_point.ensures.partitioned (parted c.args.place c.args.self.now.touched.now front rest is low high) (λ a r q k. search rules) in
    cut_at c.args.place c.partition_point.result c.args.self.now.touched.now front rest is low high c.partition_point.ensures.bound point
    ∙ sym (below_old c.args.self.now.old c.args.self.now.touched.now c.args.place c.if-place-self.false)
