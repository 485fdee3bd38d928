-- Runs of calls of a disk. A proof carries a run from one call to the next by one line a call.
use Rattle.std.proofs.Common.{ℕ, List, inl, inr, arith, refl, subst, ◌∙◌}
use Rattle.sia_edge.specs.Disk.{Standing, TimePasses, Leaves, Changes, Quiet, Only, images_of, images_since}

-- no call passed
pub stays : (disk : Standing) → TimePasses disk disk
stays disk = record { later = omega arith; none_else = λ t image le left. inl left; keeps = λ t image le left. left; counted = omega arith }

-- what a crash left after two calls, where the second one leaves it from the moment of the first
pub passes_on : {old mid new : Standing} → TimePasses old mid → TimePasses mid new → TimePasses old new
passes_on {old} {mid} {new} front back = record {
  later = omega (arith, front.later, back.later);
  none_else = λ t image le left. elim (back.none_else t image (omega (arith, front.later)) left) [
    | inl before ↦ elim (front.none_else t image le before) [ inl was ↦ inl was | inr during ↦ inr (back.keeps old.moment image front.later during) ]
    | inr after ↦ inr (new.earlier old.moment mid.moment image front.later back.later after)
  ];
  keeps = λ t image le left. back.keeps t image (omega (arith, front.later)) (front.keeps t image le left);
  counted = omega (arith, front.counted, back.counted);
}

-- an image of now is one since any earlier standing
pub now_since : {old new : Standing} → TimePasses old new → (image : List ℕ) → images_of new image → images_since old new image
now_since {old} {new} passes image left = new.earlier old.moment new.moment image passes.later (omega arith) left

-- a run of no call, where each image has P already
pub started : (disk : Standing) (P : List ℕ → Type 0) → ((image : List ℕ) → images_of disk image → P image) → Leaves P disk disk
started disk P each = record { time = stays disk; images = each }

-- what has P has Q
pub weaken : {old new : Standing} {P Q : List ℕ → Type 0} → Leaves P old new → ((image : List ℕ) → P image → Q image) → Leaves Q old new
weaken run each = record { time = run.time; images = λ image left. each image (run.images image left) }

-- a call more, whose images have P
pub goes_on : {old mid new : Standing} {P Q : List ℕ → Type 0} → Leaves P old mid → Leaves Q mid new → ((image : List ℕ) → Q image → P image) → Leaves P old new
goes_on {old} {mid} {new} run on each = record {
  time = passes_on run.time on.time;
  images = λ image left. elim (on.time.none_else old.moment image run.time.later left) [
    | inl before ↦ run.images image before
    | inr after ↦ each image (on.images image after)
  ];
}

-- what each image since the run began has, each image at its end has
pub left_last : {old new : Standing} {P : List ℕ → Type 0} → Leaves P old new → (image : List ℕ) → images_of new image → P image
left_last run image left = run.images image (now_since run.time image left)

-- a call more that leaves no image that wasn't there
pub quiet_run : {old mid new : Standing} {P : List ℕ → Type 0} → Leaves P old mid → Quiet mid new → Leaves P old new
quiet_run run quiet = goes_on run quiet.leaves (left_last run)

-- no call changes nothing
pub quiet_start : (disk : Standing) → Quiet disk disk
quiet_start disk = record { same = refl; leaves = started disk (images_of disk) (λ image left. left) }

-- two calls that change nothing
pub quiet_on : {old mid new : Standing} → Quiet old mid → Quiet mid new → Quiet old new
quiet_on one two = record { same = two.same ∙ one.same; leaves = quiet_run one.leaves two }

-- a call that changes nothing leaves the only image
pub quiet_only : {old new : Standing} {bytes : List ℕ} → Quiet old new → Only bytes (images_of old) → Only bytes (images_of new)
quiet_only quiet only image left = only image (left_last quiet.leaves image left)

-- each image of a step from the only one
pub step_of_only : {bytes : List ℕ} {step : List ℕ → List ℕ → Type 0} {old new : Standing} → Only bytes (images_of old) → Changes step old new → Leaves (step bytes) old new
step_of_only {bytes} {step} only steps =
    weaken steps (λ image from. let P : List ℕ → Type 0 = λ before. step before image in subst P (only from.0 from.1) from.2)
