-- The session of a link, from Enter to Leave.
use Rattle.std.proofs.Common.{◌≡◌, ◌^◌, ℕ, List, [], ◌∷◌, ◌++◌, Option, None, Some, Result, Ok, Err, true, false, refl, sym, ap, subst, ◌∙◌, append_assoc}
use Rattle.std.specs.Io.KnownBytes.{Appends}
use Rattle.sia_edge.specs.Whole.{AppendsSomeOf}
use Rattle.sia_rhp.specs.Frames.{frame_of, frames_of}
use Rattle.sia_commands.specs.declared.command.Command.TheVariants as command
use Rattle.sia_commands.specs.declared.reply.Reply.{Reply}
use Rattle.sia_commands.specs.declared.reply.Reply.TheVariants as reply
use Rattle.sia_commands.specs.declared.stop.Stop.{Stop}
use Rattle.sia_commands.specs.declared.stop.Stop.TheVariants as stop
use Rattle.sia_session.specs.declared.serve.Ended.{Ended}
use Rattle.sia_session.specs.declared.serve.Ended.TheVariants as ended
use Rattle.sia_session.specs.Acts.{Act, Acted, IsOfKind, LeavesLive, act, told, live_after}
use Rattle.sia_session.specs.Script.{Script, Asks, say, after, sent_of}
use Rattle.sia_session.specs.Served.{Standing, Begins, Conversed, LeftWhere, ReadsAll, Served, begun_as, entered, talk_in}
use Rattle.sia_session.specs.Talk.{limit_of}
use Rattle.sia_session.specs.Told.{Grows, IsPrefix, Loses}
use Rattle.sia_session.proofs.Following.{say_nothing, grows_both, grows_so, none_more}
use Rattle.sia_session.proofs.Quiet.{quiet_said, quiet_talk, live_then}
use Rattle.sia_session.proofs.Scripts.{runs_said, cuts_said, after_said, sent_said}

loses_so : (old new : Option (List ℕ)) (P Q : List ℕ → List ℕ → Type 0) → ((read rest : List ℕ) → P read rest → Q read rest) → Loses old new P → Loses old new Q
loses_so None new P Q so loses = tt
loses_so (Some old) new P Q so loses = (loses.0, loses.1, loses.2, loses.3, so loses.0 loses.1 loses.4)

loses_none : (old new : Option (List ℕ)) (P : List ℕ → List ℕ → Type 0) → new ≡ old → ((rest : List ℕ) → P [] rest) → Loses old new P
loses_none None new P same holds = tt
loses_none (Some old) new P same holds = ([], old, refl, same, holds old)

-- what was written

pub grows_appends : (old new : Option (List ℕ)) (bytes : List ℕ) → Appends old new bytes → Grows old new (λ more. more ≡ bytes)
grows_appends None new bytes appends = tt
grows_appends (Some old) None bytes appends = absurd appends
grows_appends (Some old) (Some new) bytes appends = (bytes, appends, refl)

pub grows_some : (old new : Option (List ℕ)) (piece : List ℕ) → AppendsSomeOf old new piece → Grows old new (λ more. IsPrefix more piece)
grows_some None new piece some = tt
grows_some (Some old) None piece some = absurd some.3
grows_some (Some old) (Some new) piece some = (some.0, some.3, (some.1, some.2))

-- the challenge was sent, or some of it

prefix_said : (p sent : List ℕ) (s : Script Ended) (acts : List Act) → IsPrefix sent (sent_of (after s acts)) → IsPrefix (p ++ sent) (sent_of (after (say p s) acts))
prefix_said p sent s acts is = (is.0, ap sent_of (after_said p s acts) ∙ sent_said p (after s acts) ∙ ap (λ xs. p ++ xs) is.1 ∙ sym (append_assoc p sent is.0))

conversed_said : (how : Ended) (p : List ℕ) (s : Script Ended) (acts : List Act) (sent : List ℕ) → Conversed s how acts sent → Conversed (say p s) how acts (p ++ sent)
conversed_said ended.Link p s acts sent talk = (runs_said p s acts talk.0, prefix_said p sent s acts talk.1)
conversed_said (ended.Stop why) p s acts sent talk = (cuts_said p s acts talk.0, prefix_said p sent s acts talk.1)
conversed_said ended.End p s acts sent talk = (runs_said p s acts talk.0, after_said p s acts ∙ ap (say p) talk.1)
conversed_said ended.Exit p s acts sent talk = (runs_said p s acts talk.0, after_said p s acts ∙ ap (say p) talk.1)
conversed_said ended.Long p s acts sent talk = (runs_said p s acts talk.0, after_said p s acts ∙ ap (say p) talk.1)
conversed_said (ended.TooLong n) p s acts sent talk = (runs_said p s acts talk.0, after_said p s acts ∙ ap (say p) talk.1)

pub greeted : (how : Ended) (script : List ℕ → Script Ended) (challenge : List ℕ) (left left_new : Option (List ℕ)) (acts acts_new : Option (List Act)) (taken_then taken_now taken_new : Option (List ℕ)) → Appends taken_then taken_now (frame_of challenge)
    → Loses left left_new (λ read rest. Grows acts acts_new (λ done. Grows taken_now taken_new (λ sent. Conversed (script read) how done sent × ReadsAll how rest)))
    → Loses left left_new (λ read rest. Grows acts acts_new (λ done. Grows taken_then taken_new (λ sent. Conversed (say (frame_of challenge) (script read)) how done sent × ReadsAll how rest)))
greeted how script challenge left left_new acts acts_new taken_then taken_now taken_new sent talk =
    loses_so left left_new _ _ (λ read rest grows.
    grows_so acts acts_new _ _ (λ done grows.
    grows_both taken_then taken_now taken_new (λ xs. xs ≡ frame_of challenge) _ _ (grows_appends taken_then taken_now (frame_of challenge) sent) grows (λ xs ys is talk.
    let P : List ℕ → Type 0 = λ zs. Conversed (say (frame_of challenge) (script read)) how done (zs ++ ys) in
    (subst P (sym is) (conversed_said how (frame_of challenge) (script read) done ys talk.0), talk.1))) grows) talk

pub greeted_some : (script : List ℕ → Script Ended) (challenge : List ℕ) (left left_new : Option (List ℕ)) (acts : Option (List Act)) (taken_then taken_now : Option (List ℕ)) → left_new ≡ left → AppendsSomeOf taken_then taken_now (frame_of challenge)
    → Loses left left_new (λ read rest. Grows acts acts (λ done. Grows taken_then taken_now (λ sent. Conversed (say (frame_of challenge) (script read)) ended.Link done sent × ReadsAll ended.Link rest)))
greeted_some script challenge left left_new acts taken_then taken_now same some =
    loses_none left left_new _ same (λ rest.
    none_more acts acts _ refl (grows_so taken_then taken_now _ _ (λ xs parts.
    ((tt, (parts.0 ++ sent_of (script []), sent_said (frame_of challenge) (script []) ∙ ap (λ ys. ys ++ sent_of (script [])) parts.1 ∙ append_assoc xs parts.0 (sent_of (script [])))), tt)) (grows_some taken_then taken_now (frame_of challenge) some)))

-- Leave

pub left_where : (size n : ℕ) (old new : Option (List Act)) (result : Result Reply Stop) → Acted old new n command.Leave result → LeavesLive old n command.Leave result → IsOfKind size command.Leave result → Grows old new (LeftWhere n old)
left_where size n None new result acted live kind = tt
left_where size n (Some old) None result acted live kind = absurd acted
left_where size n (Some old) (Some new) (Err why) acted live kind = absurd kind
left_where size n (Some old) (Some new) (Ok said) acted live kind =
    (told n command.Leave (Ok said), acted, λ is. let e : said ≡ reply.Applied = live is in ap (λ r. told n command.Leave (Ok r)) e)

-- Enter first

prefix_entered : (s : Script Ended) (sent : List ℕ) → IsPrefix sent (sent_of s) → IsPrefix sent (sent_of (say [] s))
prefix_entered s sent is = (is.0, ap sent_of (say_nothing s) ∙ is.1)

conversed_entered : (how : Ended) (next : Reply → Script Ended) (r : Reply) (acts : List Act) (sent : List ℕ) → Conversed (next r) how acts sent → Conversed (Asks [] 0 command.Enter next) how (act 0 command.Enter (Some r) ∷ acts) sent
conversed_entered ended.Link next r acts sent talk = ((refl, refl, talk.0), prefix_entered (after (next r) acts) sent talk.1)
conversed_entered (ended.Stop why) next r acts sent talk = ((refl, refl, talk.0), prefix_entered (after (next r) acts) sent talk.1)
conversed_entered ended.End next r acts sent talk = ((refl, refl, talk.0), say_nothing (after (next r) acts) ∙ talk.1)
conversed_entered ended.Exit next r acts sent talk = ((refl, refl, talk.0), say_nothing (after (next r) acts) ∙ talk.1)
conversed_entered ended.Long next r acts sent talk = ((refl, refl, talk.0), say_nothing (after (next r) acts) ∙ talk.1)
conversed_entered (ended.TooLong n) next r acts sent talk = ((refl, refl, talk.0), say_nothing (after (next r) acts) ∙ talk.1)

-- the talk behind Enter
abbrev pub whole_talk : Standing → List ℕ → List ℕ → Script Ended
whole_talk standing challenge read = say (frame_of challenge) (talk_in standing (2 ^ 40) read)

module _ (sector : ℕ) (standing : Standing) (challenge : List ℕ) (how : Ended) (read : List ℕ) (before run leave : List Act) (begins : standing ≡ begun_as sector standing.number) where
  first : Act
  first = act 0 command.Enter (Some (reply.Entered standing.number challenge))

  pub live : (sent : List ℕ) → Conversed (whole_talk standing challenge read) how run sent → live_after standing.number false (before ++ (act 0 command.Enter (Some (reply.Entered standing.number challenge)) ∷ run)) ≡ true
  live sent conversed =
      let stream = frames_of (limit_of standing.sector) (2 ^ 40) read in
      live_then standing.number challenge before run how (whole_talk standing challenge read) sent
      (quiet_said (frame_of challenge) (talk_in standing (2 ^ 40) read) (quiet_talk standing.number standing.sector standing.state stream.bodies stream.last)) conversed

  pub served_so : (sent : List ℕ) → Conversed (whole_talk standing challenge read) how run sent → leave ≡ act standing.number command.Leave (Some reply.Applied) ∷ [] → Served sector read how (act 0 command.Enter (Some (reply.Entered standing.number challenge)) ∷ (run ++ leave)) sent
  served_so sent conversed left =
      let S : Standing → Type 0 = λ s. Conversed (whole_talk s challenge read) how run sent in
      record {
        run = act 0 command.Enter (Some (reply.Entered standing.number challenge)) ∷ run;
        leave = leave;
        acted = refl;
        conversed = conversed_entered how (entered sector read) (reply.Entered standing.number challenge) run sent (subst S begins conversed);
        left = left;
      }

pub served : (sector : ℕ) (standing : Standing) (challenge : List ℕ) (how : Ended) (number : ℕ) (left left_new : Option (List ℕ)) (acts0 acts1 acts2 acts3 : Option (List Act)) (taken_then taken_now : Option (List ℕ))
    → Grows acts0 acts1 (Begins sector (Ok (standing, challenge)))
    → Loses left left_new (λ read rest. Grows acts1 acts2 (λ done. Grows taken_then taken_now (λ sent. Conversed (whole_talk standing challenge read) how done sent × ReadsAll how rest)))
    → Grows acts2 acts3 (LeftWhere number acts2) → number ≡ standing.number
    → Loses left left_new (λ read rest. Grows acts0 acts3 (λ done. Grows taken_then taken_now (λ sent. Served sector read how done sent × ReadsAll how rest)))
served sector standing challenge how number left left_new acts0 acts1 acts2 acts3 taken_then taken_now begun talk left_by same =
    loses_so left left_new _ _ (λ read rest grows. told_by acts0 acts1 acts2 acts3 read rest begun grows left_by) talk
  where
    told_by : (acts0 acts1 acts2 acts3 : Option (List Act)) (read rest : List ℕ) → Grows acts0 acts1 (Begins sector (Ok (standing, challenge)))
        → Grows acts1 acts2 (λ done. Grows taken_then taken_now (λ sent. Conversed (whole_talk standing challenge read) how done sent × ReadsAll how rest))
        → Grows acts2 acts3 (LeftWhere number acts2)
        → Grows acts0 acts3 (λ done. Grows taken_then taken_now (λ sent. Served sector read how done sent × ReadsAll how rest))
    told_by None acts1 acts2 acts3 read rest begun talk left_by = tt
    told_by (Some a0) None acts2 acts3 read rest begun talk left_by = absurd begun
    told_by (Some a0) (Some a1) None acts3 read rest begun talk left_by = absurd talk
    told_by (Some a0) (Some a1) (Some a2) None read rest begun talk left_by = absurd left_by
    told_by (Some a0) (Some a1) (Some a2) (Some a3) read rest begun talk left_by =
        let enter : Act = act 0 command.Enter (Some (reply.Entered standing.number challenge)) in
        let run = talk.0 in
        let leave = left_by.0 in
        let there : a2 ≡ a0 ++ (enter ∷ run) = talk.1 ∙ ap (λ xs. xs ++ run) (begun.1 ∙ ap (λ xs. a0 ++ xs) begun.2.0) ∙ append_assoc a0 (enter ∷ []) run in
        let W : ℕ → Type 0 = λ n. LeftWhere n (Some a2) leave in (
          enter ∷ (run ++ leave),
          left_by.1 ∙ ap (λ xs. xs ++ leave) there ∙ append_assoc a0 (enter ∷ run) leave,
          grows_so taken_then taken_now _ _ (λ sent conversed. (
            served_so sector standing challenge how read a0 run leave begun.2.1 sent conversed.0
                (subst W same left_by.2 (ap (live_after standing.number false) there ∙ live sector standing challenge how read a0 run leave begun.2.1 sent conversed.0)),
            conversed.1,
          )) talk.2,
        )

not_served : (sector : ℕ) (why : Stop) (acts : List Act) → acts ≡ told 0 command.Enter (Err why) → Served sector [] (ended.Stop why) acts []
not_served sector stop.Disk acts is = record { run = told 0 command.Enter (Err stop.Disk); leave = []; acted = is; conversed = ((refl, refl, refl), ([], refl)); left = refl }
not_served sector stop.Memory acts is = record { run = []; leave = []; acted = is; conversed = (tt, ([], refl)); left = refl }
not_served sector stop.Halted acts is = record { run = []; leave = []; acted = is; conversed = (tt, ([], refl)); left = refl }
not_served sector stop.EventsFull acts is = record { run = []; leave = []; acted = is; conversed = (tt, ([], refl)); left = refl }

pub not_entered : (sector : ℕ) (why : Stop) (left : Option (List ℕ)) (acts0 acts1 : Option (List Act)) (taken_now : Option (List ℕ)) → Grows acts0 acts1 (Begins sector (Err why))
    → Loses left left (λ read rest. Grows acts0 acts1 (λ done. Grows taken_now taken_now (λ sent. Served sector read (ended.Stop why) done sent × ReadsAll (ended.Stop why) rest)))
not_entered sector why left acts0 acts1 taken_now begun =
    loses_none left left _ refl (λ rest. grows_so acts0 acts1 (Begins sector (Err why)) _ (λ acts begins. none_more taken_now taken_now _ refl (not_served sector why acts begins, tt)) begun)
