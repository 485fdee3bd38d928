-- How far the session of a link has come, and how it ends.
use Rattle.std.proofs.Common.{◌≡◌, ◌^◌, ◌+◌, ◌-◌, ℕ, List, [], ◌++◌, length, take, drop, Option, None, Some, Result, Ok, Err, refl, sym, ap, subst, ◌∙◌, append_assoc}
use Rattle.std.specs.Prelude.{IfSome}
use Rattle.std.proofs.lemmas.List.{append-nil, take-append-drop}
use Rattle.sia_rhp.specs.declared.frames.FrameFault.{FrameFault}
use Rattle.sia_rhp.specs.declared.frames.FrameFault.TheVariants as fault
use Rattle.sia_rhp.specs.Frames.{frame_of, frames_of, frame_at, FrameStream}
use Rattle.sia_rhp.specs.Taking.{TakesOff}
use Rattle.sia_commands.specs.declared.stop.Stop.{Stop}
use Rattle.sia_session.specs.declared.serve.Ended.{Ended}
use Rattle.sia_session.specs.declared.serve.Ended.TheVariants as ended
use Rattle.sia_session.specs.declared.state.Done.{Done}
use Rattle.sia_session.specs.declared.state.State.{State}
use Rattle.sia_session.specs.declared.state.Taken.{Taken}
use Rattle.sia_session.specs.declared.state.Taken.TheVariants as taken
use Rattle.sia_session.specs.Acts.{Act}
use Rattle.sia_session.specs.Script.{Script, Ends, say, and_then, after, sent_of, Runs, Cuts}
use Rattle.sia_session.specs.Served.{Standing, Conversed, Exchanged, ReadsAll, SentBy, Takes, ended_at, goes_on, script_for, talk_in, talk_over}
use Rattle.sia_session.specs.Talk.{limit_of}
use Rattle.sia_session.specs.Told.{Grows, IsPrefix, Loses}
use Rattle.sia_session.proofs.Scripts.{say_say, sent_said, runs_said, cuts_said, after_said, runs_on, cuts_on, after_on, runs_then, cuts_then, after_then, runs_cuts}
use Rattle.sia_session.proofs.Following.{say_nothing, grows_both, grows_so}
use Rattle.sia_session.proofs.Streams.{frames_more, frames_fault, frames_none, none_read, too_long_read, long_read}

-- a script after some acts: what was sent, and what is left
abbrev pub Here : Script Ended → Script Ended → List Act → List ℕ → Type 0
Here script rest done sent = Runs script done × (after script done ≡ say sent rest)

-- how a session may end that has this left
abbrev pub CanEnd : Script Ended → Ended → Type 0
CanEnd rest ended.Link = Unit {0}
CanEnd rest (ended.Stop why) = Unit {0}
CanEnd rest how = rest ≡ Ends [] how

finished : (how : Ended) (script rest : Script Ended) (done : List Act) (sent : List ℕ) → rest ≡ Ends [] how → Here script rest done sent → Runs script done × (after script done ≡ Ends sent how)
finished how script rest done sent ends here = (here.0, here.1 ∙ ap (say sent) ends ∙ ap (λ xs. Ends xs how) (append-nil sent))

-- a front part of what it sends
pub held : (script rest : Script Ended) (done : List Act) (sent : List ℕ) → Here script rest done sent → Runs script done × IsPrefix sent (sent_of (after script done))
held script rest done sent here = (here.0, (sent_of rest, ap sent_of here.1 ∙ sent_said sent rest))

pub conversed_at : (how : Ended) (script rest : Script Ended) (done : List Act) (sent : List ℕ) → CanEnd rest how → Here script rest done sent → Conversed script how done sent
conversed_at ended.Link script rest done sent can here = held script rest done sent here
conversed_at (ended.Stop why) script rest done sent can here = let h = held script rest done sent here in (runs_cuts script done h.0, h.1)
conversed_at ended.End script rest done sent can here = finished ended.End script rest done sent can here
conversed_at ended.Exit script rest done sent can here = finished ended.Exit script rest done sent can here
conversed_at ended.Long script rest done sent can here = finished ended.Long script rest done sent can here
conversed_at (ended.TooLong n) script rest done sent can here = finished (ended.TooLong n) script rest done sent can here

-- what is told, so far: whatever comes behind the bytes that were read
abbrev pub SoFar : Standing → (List ℕ → Script Ended) → Option (List ℕ) → Option (List ℕ) → Option (List Act) → Option (List Act) → Option (List ℕ) → Option (List ℕ) → Type 0
SoFar begun rest_for left_then left acts_then acts taken_then taken_now =
    Loses left_then left (λ read rest. Grows acts_then acts (λ done. Grows taken_then taken_now (λ sent.
    (more : List ℕ) → Here (talk_in begun (2 ^ 40) (read ++ more)) (rest_for more) done sent)))

-- the session ended so
abbrev pub Talked : Standing → Option (List ℕ) → Option (List ℕ) → Option (List Act) → Option (List Act) → Option (List ℕ) → Option (List ℕ) → Ended → Type 0
Talked begun left_then left acts_then acts taken_then taken_now how =
    Loses left_then left (λ read rest. Grows acts_then acts (λ done. Grows taken_then taken_now (λ sent. Conversed (talk_in begun (2 ^ 40) read) how done sent × ReadsAll how rest)))

-- at the beginning

pub at_first : (begun : Standing) (left : Option (List ℕ)) (acts : Option (List Act)) (taken_now : Option (List ℕ)) → SoFar begun (talk_in begun (2 ^ 40)) left left acts acts taken_now taken_now
at_first begun None acts taken_now = tt
at_first begun (Some bytes) acts taken_now = ([], bytes, refl, refl, first acts)
  where
    second : (taken_now : Option (List ℕ)) → Grows taken_now taken_now (λ sent. (more : List ℕ) → Here (talk_in begun (2 ^ 40) more) (talk_in begun (2 ^ 40) more) [] sent)
    second None = tt
    second (Some sent) = ([], sym (append-nil sent), λ more. (tt, sym (say_nothing (talk_in begun (2 ^ 40) more))))

    first : (acts : Option (List Act)) → Grows acts acts (λ done. Grows taken_now taken_now (λ sent. (more : List ℕ) → Here (talk_in begun (2 ^ 40) more) (talk_in begun (2 ^ 40) more) done sent))
    first None = tt
    first (Some done) = ([], sym (append-nil done), second taken_now)

-- at the end of what can be read

-- some bytes more were read, behind which the session may end so
pub record Closes (now : Standing) (room : ℕ) (how : Ended) (rest : List ℕ) (left : Option (List ℕ)) : Type 0 where
  pub read : List ℕ
  pub back : List ℕ
  pub parts : rest ≡ read ++ back
  pub left_is : left ≡ Some back
  pub can : CanEnd (talk_in now room read) how
  pub all : ReadsAll how back

talk_fault : (now : Standing) (room : ℕ) (bytes : List ℕ) (e : FrameFault) (how : Ended) → frame_at (limit_of now.sector) room bytes ≡ Err e → talk_over now.number now.sector now.state (record { bodies = []; last = Rattle.sia_rhp.specs.Frames.Faulty e }) ≡ Ends [] how → talk_in now room bytes ≡ Ends [] how
talk_fault now room bytes e how is ends = ap (talk_over now.number now.sector now.state) (frames_fault (limit_of now.sector) room bytes e is) ∙ ends

pub closes_fault : (now : Standing) (room : ℕ) (e : FrameFault) (rest : List ℕ) (left : Option (List ℕ)) → TakesOff (λ (body : List ℕ). 8 + length body) room (Err e) (frame_at (limit_of now.sector) room rest) rest left → Closes now room (ended_at e) rest left
closes_fault now room (fault.TooLong n) rest left off = record {
  read = take 8 rest;
  back = drop 8 rest;
  parts = sym (take-append-drop 8 rest);
  left_is = off.1;
  can = talk_fault now room (take 8 rest) (fault.TooLong n) (ended.TooLong n) (too_long_read (limit_of now.sector) room n rest off.0) refl;
  all = tt;
}
closes_fault now room fault.Short rest left off = record {
  read = rest;
  back = [];
  parts = sym (append-nil rest);
  left_is = off.1;
  can = talk_fault now room rest fault.Short ended.End off.0 refl;
  all = refl;
}
closes_fault now room fault.Long rest left off = record {
  read = take room rest;
  back = drop room rest;
  parts = sym (take-append-drop room rest);
  left_is = off.1;
  can = talk_fault now room (take room rest) fault.Long ended.Long (long_read (limit_of now.sector) room rest off.0) refl;
  all = tt;
}
closes_fault now room fault.Link rest left off = record { read = off.0; back = off.1; parts = off.2; left_is = off.3; can = tt; all = tt }
closes_fault now room fault.Memory rest left off = record { read = off.0; back = off.1; parts = off.2; left_is = off.3; can = tt; all = tt }

pub closes_none : (now : Standing) (room : ℕ) (rest : List ℕ) (left : Option (List ℕ)) → TakesOff (λ (body : List ℕ). 8 + length body) room (Ok None) (frame_at (limit_of now.sector) room rest) rest left → Closes now room ended.End rest left
closes_none now room rest left off =
    let none : rest ≡ [] = none_read (limit_of now.sector) room rest off.0 in
    record {
      read = [];
      back = rest;
      parts = refl;
      left_is = off.1;
      can = ap (talk_over now.number now.sector now.state) (frames_none (limit_of now.sector) room [] (ap (frame_at (limit_of now.sector) room) (sym none) ∙ off.0));
      all = none;
    }

-- the same of what a link has left, where the reader's limit is the session's

of_limit : (limit mine room : ℕ) (result : Result (Option (List ℕ)) FrameFault) (left left_new : Option (List ℕ)) → limit ≡ mine
    → IfSome left (λ bytes. TakesOff (λ (body : List ℕ). 8 + length body) room result (frame_at limit room bytes) bytes left_new) → IfSome left (λ bytes. TakesOff (λ (body : List ℕ). 8 + length body) room result (frame_at mine room bytes) bytes left_new)
of_limit limit mine room result left left_new same off =
    let P : ℕ → Type 0 = λ l. IfSome left (λ bytes. TakesOff (λ (body : List ℕ). 8 + length body) room result (frame_at l room bytes) bytes left_new) in
    subst P same off

pub close_fault : (now : Standing) (limit room : ℕ) (e : FrameFault) (left left_new : Option (List ℕ)) → limit ≡ limit_of now.sector
    → IfSome left (λ bytes. TakesOff (λ (body : List ℕ). 8 + length body) room (Err e) (frame_at limit room bytes) bytes left_new) → IfSome left (λ rest. Closes now room (ended_at e) rest left_new)
close_fault now limit room e None left_new same off = tt
close_fault now limit room e (Some rest) left_new same off = closes_fault now room e rest left_new (of_limit limit (limit_of now.sector) room (Err e) (Some rest) left_new same off)

pub close_none : (now : Standing) (limit room : ℕ) (left left_new : Option (List ℕ)) → limit ≡ limit_of now.sector
    → IfSome left (λ bytes. TakesOff (λ (body : List ℕ). 8 + length body) room (Ok None) (frame_at limit room bytes) bytes left_new) → IfSome left (λ rest. Closes now room ended.End rest left_new)
close_none now limit room None left_new same off = tt
close_none now limit room (Some rest) left_new same off = closes_none now room rest left_new (of_limit limit (limit_of now.sector) room (Ok None) (Some rest) left_new same off)

pub closes : (begun now : Standing) (room : ℕ) (how : Ended) (left_then left left_new : Option (List ℕ)) (acts_then acts : Option (List Act)) (taken_then taken_now taken_new : Option (List ℕ))
    → SoFar begun (talk_in now room) left_then left acts_then acts taken_then taken_now → IfSome left (λ rest. Closes now room how rest left_new) → taken_new ≡ taken_now
    → Talked begun left_then left_new acts_then acts taken_then taken_new how
closes begun now room how None left left_new acts_then acts taken_then taken_now taken_new so_far close same = tt
closes begun now room how (Some bytes) left left_new acts_then acts taken_then taken_now taken_new so_far close same =
    let read = so_far.0 in
    let rest = so_far.1 in
    let C : Option (List ℕ) → Type 0 = λ l. IfSome l (λ rest. Closes now room how rest left_new) in
    let c : Closes now room how rest left_new = subst C so_far.3 close in (
      read ++ c.read,
      c.back,
      so_far.2 ∙ ap (λ xs. read ++ xs) c.parts ∙ sym (append_assoc read c.read c.back),
      c.left_is,
      grows_so acts_then acts _ _ (λ done grows.
          let G : Option (List ℕ) → Type 0 = λ t. Grows taken_then t (λ sent. Conversed (talk_in begun (2 ^ 40) (read ++ c.read)) how done sent × ReadsAll how c.back) in
          subst G (sym same) (grows_so taken_then taken_now _ _ (λ sent here.
          (conversed_at how (talk_in begun (2 ^ 40) (read ++ c.read)) (talk_in now room c.read) done sent c.can (here c.read), c.all)) grows)) so_far.4,
    )

-- a body

-- what is left behind a body, in the state that it leads to
abbrev pub others_for : Standing → ℕ → List ℕ → State → Script Ended
others_for now room more state = talk_over now.number now.sector state (frames_of (limit_of now.sector) room more)

-- a body was read, and nothing done for it
abbrev pub rest_in_body : Standing → ℕ → List ℕ → List ℕ → Script Ended
rest_in_body now room body more = and_then (script_for now body) (goes_on (others_for now room more))

in_body_so : (begun now : Standing) (room room_new : ℕ) (body : List ℕ) (left_then left left_new : Option (List ℕ)) (acts_then acts : Option (List Act)) (taken_then taken_now taken_new : Option (List ℕ))
    → SoFar begun (talk_in now room) left_then left acts_then acts taken_then taken_now
    → IfSome left (λ rest. TakesOff (λ (body : List ℕ). 8 + length body) room (Ok (Some body)) (frame_at (limit_of now.sector) room rest) rest left_new)
    → room_new ≡ room - (8 + length body) → taken_new ≡ taken_now
    → SoFar begun (rest_in_body now room_new body) left_then left_new acts_then acts taken_then taken_new
in_body_so begun now room room_new body None left left_new acts_then acts taken_then taken_now taken_new so_far off rooms same = tt
in_body_so begun now room room_new body (Some bytes) left left_new acts_then acts taken_then taken_now taken_new so_far off rooms same =
    let read = so_far.0 in
    let rest = so_far.1 in
    let size = 8 + length body in
    let O : Option (List ℕ) → Type 0 = λ l. IfSome l (λ rest. TakesOff (λ (body : List ℕ). 8 + length body) room (Ok (Some body)) (frame_at (limit_of now.sector) room rest) rest left_new) in
    let here : (frame_at (limit_of now.sector) room rest ≡ Ok (Some body)) × (left_new ≡ Some (drop size rest)) = subst O so_far.3 off in (
      read ++ take size rest,
      drop size rest,
      so_far.2 ∙ ap (λ xs. read ++ xs) (sym (take-append-drop size rest)) ∙ sym (append_assoc read (take size rest) (drop size rest)),
      here.1,
      grows_so acts_then acts _ _ (λ done grows.
          let G : Option (List ℕ) → Type 0 = λ t. Grows taken_then t (λ sent. (more : List ℕ) → Here (talk_in begun (2 ^ 40) ((read ++ take size rest) ++ more)) (rest_in_body now room_new body more) done sent) in
          subst G (sym same) (grows_so taken_then taken_now _ _ (λ sent here_for. λ more.
          let whole : (read ++ take size rest) ++ more ≡ read ++ (take size rest ++ more) = append_assoc read (take size rest) more in
          let step : talk_in now room (take size rest ++ more) ≡ rest_in_body now room_new body more =
          ap (talk_over now.number now.sector now.state) (frames_more (limit_of now.sector) room rest body more here.0)
          ∙ ap (λ r. rest_in_body now r body more) (sym rooms) in
          let H : List ℕ → Type 0 = λ xs. Here (talk_in begun (2 ^ 40) xs) (rest_in_body now room_new body more) done sent in
          let at = here_for (take size rest ++ more) in
          subst H (sym whole) (at.0, at.1 ∙ ap (say sent) step)) grows)) so_far.4,
    )

pub in_body : (begun now : Standing) (limit room room_new : ℕ) (body : List ℕ) (left_then left left_new : Option (List ℕ)) (acts_then acts : Option (List Act)) (taken_then taken_now taken_new : Option (List ℕ))
    → SoFar begun (talk_in now room) left_then left acts_then acts taken_then taken_now → limit ≡ limit_of now.sector
    → IfSome left (λ rest. TakesOff (λ (body : List ℕ). 8 + length body) room (Ok (Some body)) (frame_at limit room rest) rest left_new)
    → room_new ≡ room - (8 + length body) → taken_new ≡ taken_now
    → SoFar begun (rest_in_body now room_new body) left_then left_new acts_then acts taken_then taken_new
in_body begun now limit room room_new body left_then left left_new acts_then acts taken_then taken_now taken_new so_far limits off rooms same =
    in_body_so begun now room room_new body left_then left left_new acts_then acts taken_then taken_now taken_new so_far
    (of_limit limit (limit_of now.sector) room (Ok (Some body)) left left_new limits off) rooms same

-- what was done for it

module _ (script : Script Ended) (part : Script Done) (more : State → Script Ended) (done acts : List Act) (sent : List ℕ) (here : Here script (and_then part (goes_on more)) done sent) where
  part_runs : Runs part acts → Runs (after script done) acts
  part_runs runs = let P : Script Ended → Type 0 = λ s. Runs s acts in subst P (sym here.1) (runs_said sent (and_then part (goes_on more)) acts (runs_then part (goes_on more) acts runs))

  part_cuts : Cuts part acts → Cuts (after script done) acts
  part_cuts cuts = let P : Script Ended → Type 0 = λ s. Cuts s acts in subst P (sym here.1) (cuts_said sent (and_then part (goes_on more)) acts (cuts_then part (goes_on more) acts cuts))

  part_after : Runs part acts → (d : Done) → after part acts ≡ Ends [] d → after script (done ++ acts) ≡ say sent (goes_on more d)
  part_after runs d is =
      after_on script done acts here.0 ∙ ap (λ s. after s acts) here.1 ∙ after_said sent (and_then part (goes_on more)) acts
      ∙ ap (say sent) (after_then part (goes_on more) acts runs ∙ ap (λ s. and_then s (goes_on more)) is ∙ say_nothing (goes_on more d))

  -- the answer was sent
  pub part_sent : (body : List ℕ) (now : State) → Takes part now (Ok (taken.Send body)) acts → Here script (more now) (done ++ acts) (sent ++ frame_of body)
  part_sent body now takes =
      (runs_on script done acts here.0 (part_runs takes.0), part_after takes.0 (record { taken = taken.Send body; state = now }) takes.1 ∙ sym (say_say sent (frame_of body) (more now)))

  -- some of it was
  pub part_held : (body front : List ℕ) (now : State) → Takes part now (Ok (taken.Send body)) acts → IsPrefix front (frame_of body) → Runs script (done ++ acts) × IsPrefix (sent ++ front) (sent_of (after script (done ++ acts)))
  part_held body front now takes some =
      let whole = part_sent body now takes in (
        whole.0,
        (
          some.0 ++ sent_of (more now),
          ap sent_of whole.1 ∙ sent_said (sent ++ frame_of body) (more now)
              ∙ ap (λ xs. (sent ++ xs) ++ sent_of (more now)) some.1
              ∙ ap (λ xs. xs ++ sent_of (more now)) (sym (append_assoc sent front some.0))
              ∙ append_assoc (sent ++ front) some.0 (sent_of (more now)),
        ),
      )

  -- the session ended
  pub part_exit : (now : State) → Takes part now (Ok taken.Exit) acts → Runs script (done ++ acts) × (after script (done ++ acts) ≡ Ends sent ended.Exit)
  part_exit now takes = (runs_on script done acts here.0 (part_runs takes.0), part_after takes.0 (record { taken = taken.Exit; state = now }) takes.1 ∙ ap (λ xs. Ends xs ended.Exit) (append-nil sent))

  -- a stop came
  pub part_stopped : Cuts part acts → Cuts script (done ++ acts) × IsPrefix sent (sent_of (after script (done ++ acts)))
  part_stopped cuts = (
    cuts_on script done acts here.0 (part_cuts cuts),
    (
      sent_of (after (and_then part (goes_on more)) acts),
      ap sent_of (after_on script done acts here.0 ∙ ap (λ s. after s acts) here.1 ∙ after_said sent (and_then part (goes_on more)) acts) ∙ sent_said sent (after (and_then part (goes_on more)) acts),
    ),
  )

  -- the session goes on
  sent_on : (what : Taken) (now : State) (front : List ℕ) → Takes part now (Ok what) acts → SentBy what None front → Here script (more now) (done ++ acts) (sent ++ front)
  sent_on (taken.Send body) now front takes by =
      let P : List ℕ → Type 0 = λ xs. Here script (more now) (done ++ acts) (sent ++ xs) in
      subst P (sym by) (part_sent body now takes)
  sent_on taken.Exit now front takes by = absurd by

  pub exchanged_on : (now : State) (front : List ℕ) → Exchanged part now None acts front → Here script (more now) (done ++ acts) (sent ++ front)
  exchanged_on now front exchanged = sent_on exchanged.0 now front exchanged.1 exchanged.2

  -- or it ends
  sent_last : (what : Taken) (how : Ended) (now : State) (front rest : List ℕ) → Takes part now (Ok what) acts → SentBy what (Some how) front → Conversed script how (done ++ acts) (sent ++ front) × ReadsAll how rest
  sent_last (taken.Send body) ended.Link now front rest takes by = (part_held body front now takes by, tt)
  sent_last taken.Exit ended.Exit now front rest takes by =
      let P : List ℕ → Type 0 = λ xs. Conversed script ended.Exit (done ++ acts) xs in
      (subst P (ap (λ xs. sent ++ xs) (sym by) ∙ refl) (subst P (sym (append-nil sent)) (part_exit now takes)), tt)
  sent_last (taken.Send body) ended.End now front rest takes by = absurd by
  sent_last (taken.Send body) ended.Exit now front rest takes by = absurd by
  sent_last (taken.Send body) ended.Long now front rest takes by = absurd by
  sent_last (taken.Send body) (ended.TooLong n) now front rest takes by = absurd by
  sent_last (taken.Send body) (ended.Stop why) now front rest takes by = absurd by
  sent_last taken.Exit ended.Link now front rest takes by = absurd by
  sent_last taken.Exit ended.End now front rest takes by = absurd by
  sent_last taken.Exit ended.Long now front rest takes by = absurd by
  sent_last taken.Exit (ended.TooLong n) now front rest takes by = absurd by
  sent_last taken.Exit (ended.Stop why) now front rest takes by = absurd by

  stopped_last : (why : Stop) (front : List ℕ) → Cuts part acts → front ≡ [] → Conversed script (ended.Stop why) (done ++ acts) (sent ++ front)
  stopped_last why front cuts none =
      let P : List ℕ → Type 0 = λ xs. Conversed script (ended.Stop why) (done ++ acts) xs in
      subst P (ap (λ xs. sent ++ xs) (sym none)) (subst P (sym (append-nil sent)) (part_stopped cuts))

  pub exchanged_last : (how : Ended) (now : State) (front rest : List ℕ) → Exchanged part now (Some how) acts front → Conversed script how (done ++ acts) (sent ++ front) × ReadsAll how rest
  exchanged_last (ended.Stop why) now front rest exchanged = (stopped_last why front exchanged.0 exchanged.1, tt)
  exchanged_last ended.Link now front rest exchanged = sent_last exchanged.0 ended.Link now front rest exchanged.1 exchanged.2
  exchanged_last ended.Exit now front rest exchanged = sent_last exchanged.0 ended.Exit now front rest exchanged.1 exchanged.2
  exchanged_last ended.End now front rest exchanged = sent_last exchanged.0 ended.End now front rest exchanged.1 exchanged.2
  exchanged_last ended.Long now front rest exchanged = sent_last exchanged.0 ended.Long now front rest exchanged.1 exchanged.2
  exchanged_last (ended.TooLong n) now front rest exchanged = sent_last exchanged.0 (ended.TooLong n) now front rest exchanged.1 exchanged.2

-- the same, over what is told

module _ (begun now new : Standing) (room : ℕ) (body : List ℕ) (left_then left left_new : Option (List ℕ)) (acts_then acts acts_new : Option (List Act)) (taken_then taken_now taken_new : Option (List ℕ))
    (so_far : SoFar begun (rest_in_body now room body) left_then left acts_then acts taken_then taken_now) where
  pub goes_further : Grows acts acts_new (λ done. Grows taken_now taken_new (λ sent. Exchanged (script_for now body) new.state None done sent)) → left_new ≡ left → new.number ≡ now.number → new.sector ≡ now.sector
      → SoFar begun (talk_in new room) left_then left_new acts_then acts_new taken_then taken_new
  goes_further exchanged same number sector = told left_then so_far
    where
      told : (left_then : Option (List ℕ)) → SoFar begun (rest_in_body now room body) left_then left acts_then acts taken_then taken_now → SoFar begun (talk_in new room) left_then left_new acts_then acts_new taken_then taken_new
      told None so_far = tt
      told (Some bytes) so_far = (
        so_far.0,
        so_far.1,
        so_far.2,
        same ∙ so_far.3,
        grows_both acts_then acts acts_new _ _ _ so_far.4 exchanged (λ before done grows exchanged.
            grows_both taken_then taken_now taken_new _ _ _ grows exchanged (λ sent front here one. λ more.
            let script = talk_in begun (2 ^ 40) (so_far.0 ++ more) in
            let at = exchanged_on script (script_for now body) (others_for now room more) before done sent (here more) new.state front one in
            let T : ℕ → ℕ → Script Ended = λ n s. talk_over n s new.state (frames_of (limit_of s) room more) in
            let is : others_for now room more new.state ≡ talk_in new room more = ap (λ n. T n now.sector) (sym number) ∙ ap (λ s. T new.number s) (sym sector) in
            (at.0, at.1 ∙ ap (say (sent ++ front)) is))),
      )

  pub goes_no_further : (how : Ended) → Grows acts acts_new (λ done. Grows taken_now taken_new (λ sent. Exchanged (script_for now body) new.state (Some how) done sent)) → left_new ≡ left
      → Talked begun left_then left_new acts_then acts_new taken_then taken_new how
  goes_no_further how exchanged same = told left_then so_far
    where
      told : (left_then : Option (List ℕ)) → SoFar begun (rest_in_body now room body) left_then left acts_then acts taken_then taken_now → Talked begun left_then left_new acts_then acts_new taken_then taken_new how
      told None so_far = tt
      told (Some bytes) so_far = (
        so_far.0,
        so_far.1,
        so_far.2,
        same ∙ so_far.3,
        grows_both acts_then acts acts_new _ _ _ so_far.4 exchanged (λ before done grows exchanged.
            grows_both taken_then taken_now taken_new _ _ _ grows exchanged (λ sent front here one.
            let read = so_far.0 in
            let H : List ℕ → Type 0 = λ xs. Here (talk_in begun (2 ^ 40) xs) (rest_in_body now room body []) before sent in
            exchanged_last (talk_in begun (2 ^ 40) read) (script_for now body) (others_for now room []) before done sent (subst H (append-nil read) (here [])) how new.state front so_far.1 one)),
      )
