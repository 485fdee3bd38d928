-- One body, and what it leads to.
use Rattle.std.proofs.Common.{◌≡◌, List, ℕ, Option, None, Some, Ok, Err, refl}
use Rattle.sia_commands.specs.declared.stop.Stop.{Stop}
use Rattle.sia_session.specs.declared.serve.Ended.{Ended}
use Rattle.sia_session.specs.declared.serve.Ended.TheVariants as ended
use Rattle.sia_session.specs.declared.state.Done.{Done}
use Rattle.sia_session.specs.declared.state.State.{State}
use Rattle.sia_session.specs.declared.state.Taken.{Taken}
use Rattle.sia_session.specs.Acts.{Act}
use Rattle.sia_session.specs.Script.{Script}
use Rattle.sia_session.specs.Served.{Exchanged, SentBy, Takes}
use Rattle.sia_session.specs.Told.{Grows}
use Rattle.sia_session.proofs.Following.{grows_so, none_more}

-- a stop came
pub exchanged_stop : (script : Script Done) (now : State) (why : Stop) (acts acts_new : Option (List Act)) (taken_now : Option (List ℕ)) → Grows acts acts_new (Takes script now (Err why))
    → Grows acts acts_new (λ done. Grows taken_now taken_now (λ sent. Exchanged script now (Some (ended.Stop why)) done sent))
exchanged_stop script now why acts acts_new taken_now takes =
    grows_so acts acts_new (Takes script now (Err why)) _ (λ done cuts. none_more taken_now taken_now (λ sent. Exchanged script now (Some (ended.Stop why)) done sent) refl (cuts, refl)) takes

made : (script : Script Done) (now : State) (what : Taken) (how : Option Ended) (done : List Act) (sent : List ℕ) → ((why : Stop) → how ≡ Some (ended.Stop why) → ⊥) → Takes script now (Ok what) done → SentBy what how sent → Exchanged script now how done sent
made script now what None done sent no_stop takes by = (what, takes, by)
made script now what (Some (ended.Stop why)) done sent no_stop takes by = absurd (no_stop why refl)
made script now what (Some ended.End) done sent no_stop takes by = (what, takes, by)
made script now what (Some ended.Exit) done sent no_stop takes by = (what, takes, by)
made script now what (Some ended.Link) done sent no_stop takes by = (what, takes, by)
made script now what (Some ended.Long) done sent no_stop takes by = (what, takes, by)
made script now what (Some (ended.TooLong n)) done sent no_stop takes by = (what, takes, by)

-- what it led to was sent, or some of it
pub exchanged_sent : (script : Script Done) (now : State) (what : Taken) (how : Option Ended) (acts acts_new : Option (List Act)) (taken_now taken_new : Option (List ℕ)) → Grows acts acts_new (Takes script now (Ok what))
    → ((why : Stop) → how ≡ Some (ended.Stop why) → ⊥) → Grows taken_now taken_new (SentBy what how)
    → Grows acts acts_new (λ done. Grows taken_now taken_new (λ sent. Exchanged script now how done sent))
exchanged_sent script now what how acts acts_new taken_now taken_new takes no_stop sends =
    grows_so acts acts_new (Takes script now (Ok what)) _ (λ done took. grows_so taken_now taken_new (SentBy what how) _ (λ sent by. made script now what how done sent no_stop took by) sends) takes
