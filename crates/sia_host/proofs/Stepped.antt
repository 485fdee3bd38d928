-- A step that is answered, with the phase that follows.
use Rattle.std.proofs.Common.{◌≡◌, ◌∙◌, ℕ, Bool, true, false, List, [], ◌∷◌, ◌++◌, length, Option, Some, None, if◌then◌else◌, refl, sym, ap, subst, arith}
use Rattle.std.specs.Prelude.{nat_lt}
use Rattle.std.specs.Option.{option_to_list}
use Rattle.std.proofs.lemmas.Bool.{ltb-true, ltb-false}
use Rattle.std.proofs.lemmas.List.{append-nil, length-append}
use Rattle.sia_commands.specs.declared.event.Event.{Event}
use Rattle.sia_commands.specs.declared.step.Step.{Step}
use Rattle.sia_host.specs.declared.phase.Past.{Past}
use Rattle.sia_host.specs.declared.phase.Phase.{Phase}
use Rattle.sia_host.specs.declared.phase.Phase.TheVariants as phase
use Rattle.sia_host.specs.Answered.{Gives, Host, IsReaction, Reaction, after_answer}
use Rattle.sia_host.specs.Spoiling.{HasLast, IsStep, is_spoiled, past_of, phase_after, phase_with}

-- whether an event was noted tells which phase follows
phase_by : (h : Host) (noted : Option Event) (p : Phase) (b : Bool) → b ≡ nat_lt (length h.events) (length (h.events ++ option_to_list noted)) → p ≡ (if b then phase_after h.phase (past_of h) else h.phase) → p ≡ phase_with h noted
phase_by h None p true longer is =
    let same : length (h.events ++ []) ≡ length h.events = ap length (append-nil h.events) in
    absurd (omega (arith, ltb-true (length h.events) (length (h.events ++ [])) (sym longer), same))
phase_by h None p false longer is = is
phase_by h (Some event) p true longer is = is
phase_by h (Some event) p false longer is =
    absurd (omega (arith, ltb-false (length h.events) (length (h.events ++ event ∷ [])) (sym longer), length-append h.events (event ∷ [])))

-- a step is answered, and the phase follows
pub stepped_one : (Fits : Reaction → Type 0) (h mid : Host) (step : Step) (past : Past) (b : Bool) (p : Phase)
    → Gives Fits h step mid → past ≡ past_of h → b ≡ nat_lt (length h.events) (length mid.events) → p ≡ (if b then phase_after mid.phase past else mid.phase)
    → IsStep Fits h step (record mid { phase = p })
stepped_one Fits h mid step past b p gives before longer is =
    let a = gives.0 in
    let reaction = gives.2 in
    let same : mid ≡ after_answer h a = reaction.host in
    let longer_so : b ≡ nat_lt (length h.events) (length (h.events ++ option_to_list a.event)) = longer ∙ ap (λ (m : Host). nat_lt (length h.events) (length m.events)) same in
    let is_so : p ≡ (if b then phase_after h.phase (past_of h) else h.phase) =
    is ∙ ap (λ (m : Host). if b then phase_after m.phase past else m.phase) same ∙ ap (λ q. if b then phase_after h.phase q else h.phase) before in
    let own : IsReaction h a step (after_answer h a) = subst (λ m. IsReaction h a step m) same reaction in
    (a, gives.1, subst (λ (m : Host). IsReaction h a step (record m { phase = h.phase })) (sym same) own, phase_by h a.event p b longer_so is_so)

-- a phase that follows is spoiled where the one before it is
pub spoiled_after : (p : Phase) (past : Past) (b : Bool) → is_spoiled (if b then phase_after p past else p) ≡ is_spoiled p
spoiled_after phase.Settled past true = refl
spoiled_after (phase.Stepped earlier) past true = refl
spoiled_after (phase.Spoiled first) past true = refl
spoiled_after p past false = refl

-- and has an event where it has to
pub has_last_after : (p : Phase) (past : Past) (b : Bool) (before : ℕ) (events : List Event) → b ≡ nat_lt before (length events) → HasLast p events → HasLast (if b then phase_after p past else p) events
has_last_after phase.Settled past true before events longer has = omega (arith, ltb-true before (length events) (sym longer))
has_last_after (phase.Stepped earlier) past true before events longer has = has
has_last_after (phase.Spoiled first) past true before events longer has = tt
has_last_after p past false before events longer has = has
