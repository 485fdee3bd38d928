use Rattle.std.proofs.Common.{◌≡◌, ◌∙◌, ◌+◌, false, take, length, replicate, ap, sym}
use Rattle.std.specs.List.{filter, range_with_len}
use Rattle.sia_host.specs.Marks.{is_unmarked}
use Rattle.std.proofs.lemmas.List.{length-replicate}
use Rattle.sia_host.proofs.Marking.{least_are_free, whole_again}
use Rattle.sia_host.proofs.least_slots.least_free.Goals as goal

pub returns : goal.returns
returns c =
    let begins : c.as_mut_slice.result.now ≡ replicate (length c.args.live.now + c.args.count) false = c.as_mut_slice.ensures.value ∙ c.in_ok-marks.ensures.items_if_clones_equal (λ y is. is) in
    let sized = c.mark.ensures.size in
    let all : c.as_slice.result.now ≡ c.mark.new.marks = c.as_slice.ensures.value ∙ whole_again c.mark.new.marks c.in_ok-marks.marks.items _ (c.in_ok-marks.ensures.len ∙ sym (ap length (c.in_ok-marks.ensures.items_if_clones_equal (λ y is. is)) ∙ length-replicate (length c.args.live.now + c.args.count) false)) (sized ∙ ap length c.as_mut_slice.ensures.value) in
    least_are_free c.args.live.now c.args.count c.as_mut_slice.result.now c.mark.new.marks c.truncate.new.self.items begins sized c.mark.ensures.marked
    (c.truncate.ensures.items ∙ ap (take c.args.count) (c.in_ok-free.ensures ∙ ap (λ marks. filter (is_unmarked marks) (range_with_len 0 (length marks))) all))
