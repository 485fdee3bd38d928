-- A session neither enters nor leaves while it talks, so it stays live.
use Rattle.std.proofs.Common.{◌≡◌, ◌^◌, ℕ, Bool, true, false, nat_lt, ◌-◌, if◌then◌else◌, List, [], ◌∷◌, ◌++◌, length, Option, None, Some, Result, Ok, Err, refl, ap, ◌∙◌}
use Rattle.std.proofs.lemmas.Bool.{eq-eqb}
use Rattle.sia_encoding.specs.declared.limits.TheConstants.{ACTIONS}
use Rattle.sia_rhp.specs.declared.message_fault.MessageFault.{MessageFault}
use Rattle.sia_rhp.specs.declared.message_fault.MessageFault.TheVariants as wrong
use Rattle.sia_rhp.specs.declared.request.Request.{Request}
use Rattle.sia_rhp.specs.declared.request.Request.TheVariants as requests
use Rattle.sia_rhp.specs.declared.request_bodies.ReadRequest.{ReadRequest}
use Rattle.sia_rhp.specs.declared.request_bodies.WriteRequest.{WriteRequest}
use Rattle.sia_rhp.specs.Frames.{frame_of, StreamEnd}
use Rattle.sia_commands.specs.declared.command.Command.{Command}
use Rattle.sia_commands.specs.declared.command.Command.TheVariants as command
use Rattle.sia_commands.specs.declared.reply.Reply.{Reply}
use Rattle.sia_commands.specs.declared.reply.Reply.TheVariants as reply
use Rattle.sia_commands.specs.declared.want.Want.{Want}
use Rattle.sia_commands.specs.declared.want.Want.TheVariants as want
use Rattle.sia_session.specs.declared.fetching.Fetched.{Fetched}
use Rattle.sia_session.specs.declared.fetching.Fetched.TheVariants as fetched
use Rattle.sia_session.specs.declared.serve.Ended.{Ended}
use Rattle.sia_session.specs.declared.serve.Ended.TheVariants as ended
use Rattle.sia_session.specs.declared.state.Done.{Done}
use Rattle.sia_session.specs.declared.state.Kept.{Kept}
use Rattle.sia_session.specs.declared.state.Kept.TheVariants as proposal
use Rattle.sia_session.specs.declared.state.State.{State}
use Rattle.sia_session.specs.declared.state.State.TheVariants as state
use Rattle.sia_session.specs.declared.state.Taken.{Taken}
use Rattle.sia_session.specs.declared.state.Taken.TheVariants as taken
use Rattle.sia_session.specs.Acts.{Act, act, live_by, live_after}
use Rattle.sia_session.specs.Script.{Script, Ends, Asks, say, and_then, Cuts, WithReply}
use Rattle.sia_session.specs.Served.{Conversed, goes_on, sends_or_ends, talk}
use Rattle.sia_session.specs.Talk.{answered, asked_of, asks_in, fetch, limit_of, read_with, reads, refused, request_in, sectors_changed, sectors_read, signed_of, taken_of, with_fetched, with_sector, write_with, writes}
use Rattle.sia_session.proofs.Scripts.{runs_cuts}

-- neither Enter nor Leave
abbrev pub IsPlain : Command → Type 0
IsPlain command.Enter = ⊥
IsPlain command.Leave = ⊥
IsPlain _ = Unit {0}

-- a script that asks nothing else
abbrev pub IsQuiet : {A : Type 0} → Script A → Type 0
IsQuiet (Ends sent result) = Unit {0}
IsQuiet (Asks sent session asked next) = IsPlain asked × ((said : Reply) → IsQuiet (next said))

pub quiet_said : {A : Type 0} (p : List ℕ) (s : Script A) → IsQuiet s → IsQuiet (say p s)
quiet_said p (Ends sent result) quiet = tt
quiet_said p (Asks sent session asked next) quiet = quiet

quiet_then : {A B : Type 0} (s : Script A) (more : A → Script B) → IsQuiet s → ((a : A) → IsQuiet (more a)) → IsQuiet (and_then s more)
quiet_then (Ends sent result) more quiet all = quiet_said sent (more result) (all result)
quiet_then (Asks sent session asked next) more quiet all = (quiet.0, λ r. quiet_then (next r) more (quiet.1 r) all)

quiet_if : {A : Type 0} (b : Bool) (s t : Script A) → IsQuiet s → IsQuiet t → IsQuiet (if b then s else t)
quiet_if true s t first second = first
quiet_if false s t first second = second

quiet_sector : (more : List ℕ → Script Fetched) (r : Reply) → ((bytes : List ℕ) → IsQuiet (more bytes)) → IsQuiet (with_sector more r)
quiet_sector more (reply.Sector bytes) all = all bytes
quiet_sector more _ all = tt

quiet_fetch : (session : ℕ) (wants : List Want) (got : List (List ℕ)) → IsQuiet (fetch session wants got)
quiet_fetch session [] got = tt
quiet_fetch session (wanted ∷ wants) got = (tt, λ r. quiet_sector (λ bytes. fetch session wants (got ++ bytes ∷ [])) r (λ bytes. quiet_fetch session wants (got ++ bytes ∷ [])))

quiet_fetched : (now : State) (more : List (List ℕ) → Script Done) (got : Fetched) → ((sectors : List (List ℕ)) → IsQuiet (more sectors)) → IsQuiet (with_fetched now more got)
quiet_fetched now more (fetched.All sectors) all = all sectors
quiet_fetched now more (fetched.Refused said) all = tt

quiet_read : (now : State) (session sector : ℕ) (read : ReadRequest) → IsQuiet (reads now session sector read)
quiet_read now session sector read =
    quiet_then (fetch session (sectors_read sector read.sections) []) (with_fetched now (read_with now session read)) (quiet_fetch session (sectors_read sector read.sections) [])
    (λ got. quiet_fetched now (read_with now session read) got (λ sectors. let q : IsQuiet (read_with now session read sectors) = (tt, λ r. tt) in q))

quiet_write : (now : State) (session sector : ℕ) (write : WriteRequest) → IsQuiet (writes now session sector write)
quiet_write now session sector write =
    quiet_if (nat_lt ACTIONS (length write.actions)) (asks_in now session (command.Fetch (want.Place (2 ^ 64 - 1)))) (and_then (fetch session (sectors_changed sector write.actions) []) (with_fetched now (write_with now session write)))
    (let q : IsQuiet (asks_in now session (command.Fetch (want.Place (2 ^ 64 - 1)))) = (tt, λ r. tt) in q)
    (quiet_then (fetch session (sectors_changed sector write.actions) []) (with_fetched now (write_with now session write)) (quiet_fetch session (sectors_changed sector write.actions) [])
    (λ got. quiet_fetched now (write_with now session write) got (λ sectors. let q : IsQuiet (write_with now session write sectors) = (tt, λ r. tt) in q)))

quiet_asked : (now : State) (session sector : ℕ) (asked : Request) → IsQuiet (asked_of now session sector asked)
quiet_asked now session sector (requests.Write write) = quiet_write now session sector write
quiet_asked now session sector (requests.Read read) = quiet_read now session sector read
quiet_asked now session sector (requests.FormSign signatures) = tt
quiet_asked now session sector (requests.WriteSign signature) = tt
quiet_asked now session sector (requests.RenewSign signatures) = tt
quiet_asked now session sector requests.LoopExit = tt
quiet_asked now session sector _ = (tt, λ r. tt)

quiet_signed : (made : Kept) (session : ℕ) (asked : Request) → IsQuiet (signed_of made session asked)
quiet_signed (proposal.Form form) session (requests.FormSign signatures) = (tt, λ r. tt)
quiet_signed (proposal.Write write) session (requests.WriteSign signature) = (tt, λ r. tt)
quiet_signed (proposal.Renew tx) session (requests.RenewSign signatures) = (tt, λ r. tt)
quiet_signed _ session _ = tt

quiet_answered : (now : State) (session sector : ℕ) (asked : Request) → IsQuiet (answered now session sector asked)
quiet_answered (state.Proposed made) session sector asked = quiet_signed made session asked
quiet_answered state.Idle session sector asked = quiet_asked state.Idle session sector asked
quiet_answered state.Locked session sector asked = quiet_asked state.Locked session sector asked

quiet_refused : (now : State) (why : MessageFault) → IsQuiet (refused now why)
quiet_refused now wrong.UnknownRpc = tt
quiet_refused now _ = tt

quiet_taken : (now : State) (session sector : ℕ) (read : Result Request MessageFault) → IsQuiet (taken_of now session sector read)
quiet_taken now session sector (Err why) = quiet_refused now why
quiet_taken now session sector (Ok asked) = quiet_answered now session sector asked

quiet_sends : (more : Script Ended) (what : Taken) → IsQuiet more → IsQuiet (sends_or_ends more what)
quiet_sends more (taken.Send body) quiet = quiet_said (frame_of body) more quiet
quiet_sends more taken.Exit quiet = tt

pub quiet_talk : (session sector : ℕ) (now : State) (bodies : List (List ℕ)) (last : StreamEnd) → IsQuiet (talk session sector now bodies last)
quiet_talk session sector now [] last = tt
quiet_talk session sector now (body ∷ bodies) last =
    quiet_then (taken_of now session sector (request_in (limit_of sector) body)) (goes_on (λ next. talk session sector next bodies last)) (quiet_taken now session sector (request_in (limit_of sector) body))
    (λ d. quiet_sends (talk session sector d.state bodies last) d.taken (quiet_talk session sector d.state bodies last))

-- so it stays live

still : (n : ℕ) (c : Command) (given : ℕ) (r : Option Reply) → IsPlain c → live_by n true c given r ≡ true
still n command.Enter given r plain = absurd plain
still n command.Leave given r plain = absurd plain
still n _ given r plain = refl

cut_reply : (n : ℕ) (next : Reply → Script Ended) (acts : List Act) (o : Option Reply) → ((r : Reply) → Cuts (next r) acts → IsQuiet (next r) → live_after n true acts ≡ true) → WithReply o (acts ≡ []) (λ r. Cuts (next r) acts) → ((r : Reply) → IsQuiet (next r)) → live_after n true acts ≡ true
cut_reply n next acts None again cuts quiet = ap (live_after n true) cuts
cut_reply n next acts (Some r) again cuts quiet = again r cuts (quiet r)

stays_live : (n : ℕ) (s : Script Ended) (acts : List Act) → Cuts s acts → IsQuiet s → live_after n true acts ≡ true
stays_live n s [] cuts quiet = refl
stays_live n (Ends sent result) (a ∷ acts) cuts quiet = absurd cuts
stays_live n (Asks sent session asked next) (a ∷ acts) cuts quiet =
    ap (λ c. live_after n (live_by n true c a.session a.reply) acts) cuts.1 ∙ ap (λ b. live_after n b acts) (still n asked a.session a.reply quiet.0)
    ∙ cut_reply n next acts a.reply (λ r one two. stays_live n (next r) acts one two) cuts.2 quiet.1

live_on : (n : ℕ) (b : Bool) (xs ys : List Act) → live_after n b (xs ++ ys) ≡ live_after n (live_after n b xs) ys
live_on n b [] ys = refl
live_on n b (x ∷ xs) ys = live_on n (live_by n b x.command x.session x.reply) xs ys

conversed_cuts : (how : Ended) (s : Script Ended) (acts : List Act) (sent : List ℕ) → Conversed s how acts sent → Cuts s acts
conversed_cuts ended.Link s acts sent talk = runs_cuts s acts talk.0
conversed_cuts (ended.Stop why) s acts sent talk = talk.0
conversed_cuts ended.End s acts sent talk = runs_cuts s acts talk.0
conversed_cuts ended.Exit s acts sent talk = runs_cuts s acts talk.0
conversed_cuts ended.Long s acts sent talk = runs_cuts s acts talk.0
conversed_cuts (ended.TooLong n) s acts sent talk = runs_cuts s acts talk.0

entered_live : (n : ℕ) (challenge : List ℕ) (b : Bool) (acts : List Act) → live_after n b (act 0 command.Enter (Some (reply.Entered n challenge)) ∷ acts) ≡ live_after n true acts
entered_live n challenge b acts = ap (λ t. live_after n (if t then true else b) acts) (eq-eqb n n refl)

pub live_then : (n : ℕ) (challenge : List ℕ) (before acts : List Act) (how : Ended) (s : Script Ended) (sent : List ℕ) → IsQuiet s → Conversed s how acts sent → live_after n false (before ++ act 0 command.Enter (Some (reply.Entered n challenge)) ∷ acts) ≡ true
live_then n challenge before acts how s sent quiet talk =
    live_on n false before (act 0 command.Enter (Some (reply.Entered n challenge)) ∷ acts) ∙ entered_live n challenge (live_after n false before) acts ∙ stays_live n s acts (conversed_cuts how s acts sent talk) quiet
