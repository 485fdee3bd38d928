-- Sectors that are asked for one by one.
use Rattle.std.proofs.Common.{◌≡◌, ℕ, ◌+◌, ◌<◌, ◌≤◌, List, [], ◌∷◌, ◌++◌, length, get_or, drop, Option, Ok, Err, refl, subst, add-one}
use Rattle.std.proofs.Math.Seq.{drop-cons}
use Rattle.std.proofs.lemmas.List.{drop_all}
use Rattle.sia_commands.specs.declared.command.Command.{Command}
use Rattle.sia_commands.specs.declared.command.Command.TheVariants as command
use Rattle.sia_commands.specs.declared.reply.Reply.{Reply}
use Rattle.sia_commands.specs.declared.reply.Reply.TheVariants as reply
use Rattle.sia_commands.specs.declared.stop.Stop.{Stop}
use Rattle.sia_commands.specs.declared.want.Want.{Want}
use Rattle.sia_session.specs.declared.fetching.Fetched.{Fetched}
use Rattle.sia_session.specs.declared.fetching.Fetched.TheVariants as fetched
use Rattle.sia_session.specs.Acts.{Act, Acted}
use Rattle.sia_session.specs.Script.{Script, Ends, Asks, Follows}
use Rattle.sia_session.specs.Talk.{fetch, with_sector}
use Rattle.sia_session.specs.Told.{Grows}
use Rattle.sia_session.proofs.Following.{Leads, led, leads_more, stopped, asked_cut, asked_done}

fetch_next : (n i : ℕ) (wants : List Want) (none : Want) (got : List (List ℕ)) → i < length wants
    → fetch n (drop i wants) got ≡ Asks [] n (command.Fetch (get_or wants i none)) (with_sector (λ bytes. fetch n (drop (i + 1) wants) (got ++ bytes ∷ [])))
fetch_next n i wants none got within = rw (add-one, drop-cons wants i none) refl

with_other : (more : List ℕ → Script Fetched) (r : Reply) → ((bytes : List ℕ) → r ≡ reply.Sector bytes → ⊥) → with_sector more r ≡ Ends [] (fetched.Refused r)
with_other more (reply.Sector bytes) other = absurd (other bytes refl)
with_other more _ other = refl

module _ (old mid new : Option (List Act)) (n i : ℕ) (wants : List Want) (none : Want) (got : List (List ℕ)) (led_here : Grows old mid (Leads (fetch n wants []) (fetch n (drop i wants) got))) where
  next : Reply → Script Fetched
  next = with_sector (λ bytes. fetch n (drop (i + 1) wants) (got ++ bytes ∷ []))

  wanted : Command
  wanted = command.Fetch (get_or wants i none)

  here : i < length wants → Grows old mid (Leads (fetch n wants []) (Asks [] n wanted next))
  unfolding next wanted
  here within = let P : Script Fetched → Type 0 = λ t. Grows old mid (Leads (fetch n wants []) t) in subst P (fetch_next n i wants none got within) led_here

  no_leave : wanted ≡ command.Leave → ⊥
  unfolding wanted
  no_leave is = cc

  pub fetch_stopped : (why t : Stop) → i < length wants → Acted mid new n (command.Fetch (get_or wants i none)) (Err why) → Grows old new (Follows (fetch n wants []) (Err t))
  unfolding wanted
  fetch_stopped why t within acted = led old mid new (fetch n wants []) (Asks [] n wanted next) (Err t) (here within) (stopped n wanted next mid new why t acted)

  pub fetch_cut : (r : Reply) (t : Stop) → i < length wants → Acted mid new n (command.Fetch (get_or wants i none)) (Ok r) → Grows old new (Follows (fetch n wants []) (Err t))
  unfolding wanted
  fetch_cut r t within acted = led old mid new (fetch n wants []) (Asks [] n wanted next) (Err t) (here within) (asked_cut n wanted next mid new r t no_leave acted)

  pub fetch_done : (r : Reply) → i < length wants → ((bytes : List ℕ) → r ≡ reply.Sector bytes → ⊥) → Acted mid new n (command.Fetch (get_or wants i none)) (Ok r) → Grows old new (Follows (fetch n wants []) (Ok (fetched.Refused r)))
  unfolding wanted next
  fetch_done r within other acted = led old mid new (fetch n wants []) (Asks [] n wanted next) (Ok (fetched.Refused r)) (here within)
      (asked_done n wanted next mid new r (fetched.Refused r) no_leave acted (with_other (λ bytes. fetch n (drop (i + 1) wants) (got ++ bytes ∷ [])) r other))

  pub fetch_more : (bytes : List ℕ) → i < length wants → Acted mid new n (command.Fetch (get_or wants i none)) (Ok (reply.Sector bytes)) → Grows old new (Leads (fetch n wants []) (fetch n (drop (i + 1) wants) (got ++ bytes ∷ [])))
  unfolding wanted next
  fetch_more bytes within acted = leads_more old mid new (fetch n wants []) n wanted next (reply.Sector bytes) no_leave (here within) acted

  pub fetch_over : length wants ≤ i → Grows old mid (Follows (fetch n wants []) (Ok (fetched.All got)))
  fetch_over over =
      let P : List Want → Type 0 = λ ws. Grows old mid (Leads (fetch n wants []) (fetch n ws got)) in
      subst P (drop_all i wants over) led_here
