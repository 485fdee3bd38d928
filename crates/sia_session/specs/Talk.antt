-- What a session asks for one body, and what it sends, given the replies (RHP2; siad's modules/host).
use Rattle.std.specs.Prelude.{ℕ, ◌+◌, ◌-◌, ◌*◌, ◌^◌, nat_lt, if◌then◌else◌, List, [], ◌∷◌, ◌++◌, map, length, Option, Some, None, option_map, Result, Ok, Err}
use Rattle.std.specs.List.{filter_map}
use Rattle.sia_encoding.specs.declared.limits.TheConstants.{ACTIONS}
use Rattle.sia_rhp.specs.declared.action.Action.{Action}
use Rattle.sia_rhp.specs.declared.action.Action.TheVariants as actions
use Rattle.sia_rhp.specs.declared.answer.Answer.TheVariants as answers
use Rattle.sia_rhp.specs.declared.message_fault.MessageFault.{MessageFault}
use Rattle.sia_rhp.specs.declared.message_fault.MessageFault.TheVariants as wrong
use Rattle.sia_rhp.specs.declared.request.Request.{Request}
use Rattle.sia_rhp.specs.declared.request.Request.TheVariants as requests
use Rattle.sia_rhp.specs.declared.request_bodies.ReadRequest.{ReadRequest}
use Rattle.sia_rhp.specs.declared.request_bodies.Section.{Section}
use Rattle.sia_rhp.specs.declared.request_bodies.WriteRequest.{WriteRequest}
use Rattle.sia_rhp.specs.Answers.{spelled_answer}
use Rattle.sia_rhp.specs.Messages.{message_in}
use Rattle.sia_rhp.specs.Requests.{request}
use Rattle.sia_records.specs.Fitting.{range_fits, sections_fit}
use Rattle.sia_records.specs.Reads.{Read}
use Rattle.sia_records.specs.Writes.{Prepared}
use Rattle.sia_commands.specs.declared.command.Command.{Command}
use Rattle.sia_commands.specs.declared.command.Command.TheVariants as command
use Rattle.sia_commands.specs.declared.reply.Reply.{Reply}
use Rattle.sia_commands.specs.declared.reply.Reply.TheVariants as reply
use Rattle.sia_commands.specs.declared.want.Want.{Want}
use Rattle.sia_commands.specs.declared.want.Want.TheVariants as want
use Rattle.sia_session.specs.declared.fetching.Fetched.{Fetched}
use Rattle.sia_session.specs.declared.fetching.Fetched.TheVariants as fetched
use Rattle.sia_session.specs.declared.state.Done.{Done}
use Rattle.sia_session.specs.declared.state.Kept.{Kept}
use Rattle.sia_session.specs.declared.state.Kept.TheVariants as proposal
use Rattle.sia_session.specs.declared.state.State.{State}
use Rattle.sia_session.specs.declared.state.State.TheVariants as state
use Rattle.sia_session.specs.declared.state.Taken.TheVariants as taken
use Rattle.sia_session.specs.Replies.{spelled_reply, form_in, write_in, renewal_in, state_before, dropped, after_lock, after_unlock, after_proposal}
use Rattle.sia_session.specs.Script.{Script, Ends, Asks, and_then}

-- the greatest length of a body, and of what it holds
abbrev pub limit_of : ℕ → ℕ
limit_of sector = 4 * sector + 65536

-- the request that a body spells, or what is wrong with it
unfoldable pub request_in : ℕ → List ℕ → Result Request MessageFault
request_in limit body = message_in request body limit

-- this is sent, and nothing asked
abbrev pub sends : List ℕ → State → Script Done
sends body now = Ends [] (record { taken = taken.Send body; state = now })

-- a code is
abbrev pub says : ℕ → State → Script Done
says code now = sends (spelled_answer (answers.Error code)) now

-- the session ends, and nothing more is sent
abbrev pub exits : State → Script Done
exits now = Ends [] (record { taken = taken.Exit; state = now })

-- one command, and its reply; the state may change by it
abbrev pub asks : ℕ → Command → (Reply → State) → Script Done
asks session asked behind = Asks [] session asked (λ said. sends (spelled_reply said) (behind said))

-- one that doesn't change the state
abbrev pub asks_in : State → ℕ → Command → Script Done
asks_in now session asked = asks session asked (λ said. now)

-- sectors that are asked for one by one; the first refusal ends it

-- a sector, or a refusal
abbrev pub with_sector : (List ℕ → Script Fetched) → Reply → Script Fetched
with_sector more (reply.Sector bytes) = more bytes
with_sector more said = Ends [] (fetched.Refused said)

-- these sectors, behind those that were got
abbrev pub fetch : ℕ → List Want → List (List ℕ) → Script Fetched
fetch session [] got = Ends [] (fetched.All got)
fetch session (wanted ∷ others) got =
    Asks [] session (command.Fetch wanted) (with_sector (λ bytes. fetch session others (got ++ bytes ∷ [])))

-- what is done with the sectors; a refusal is sent
abbrev pub with_fetched : State → (List (List ℕ) → Script Done) → Fetched → Script Done
with_fetched now more (fetched.All sectors) = more sectors
with_fetched now more (fetched.Refused said) = sends (spelled_reply said) now

-- a read

-- the sector that a section is of
abbrev pub root_wanted : Section → Want
root_wanted section = want.Root section.root

-- the sectors that it needs: one for each section, or none where its own numbers refuse it
abbrev pub sectors_read : ℕ → List Section → List Want
sectors_read sector sections = if sections_fit sector sections then map root_wanted sections else []

-- the read, with its sectors
abbrev pub read_with : State → ℕ → ReadRequest → List (List ℕ) → Script Done
read_with now session read sectors =
    let paid : Read = record { request = read; fetched = sectors } in
    asks_in now session (command.Read paid)

-- its sectors, and then the read
abbrev pub reads : State → ℕ → ℕ → ReadRequest → Script Done
reads now session sector read = and_then (fetch session (sectors_read sector read.sections) []) (with_fetched now (read_with now session read))

-- a write

-- the sector that an action needs: one for each update whose range is fit
abbrev pub sector_changed : ℕ → Action → Option Want
sector_changed sector (actions.Update place offset bytes) = if range_fits sector offset (length bytes) then Some (want.Place place) else None
sector_changed sector _ = None

-- the sectors that a write needs
abbrev pub sectors_changed : ℕ → List Action → List Want
sectors_changed sector steps = filter_map (sector_changed sector) steps

-- the write, with its sectors
abbrev pub write_with : State → ℕ → WriteRequest → List (List ℕ) → Script Done
write_with now session write sectors =
    let prepared : Prepared = record { request = write; fetched = sectors } in
    asks session (command.Write prepared) (after_proposal (proposal.Write prepared) now)

-- its sectors, and then the write; where it has too many actions, its refusal alone
abbrev pub writes : State → ℕ → ℕ → WriteRequest → Script Done
writes now session sector write =
    if nat_lt ACTIONS (length write.actions) then asks_in now session (command.Fetch (want.Place (2 ^ 64 - 1)))
    else and_then (fetch session (sectors_changed sector write.actions) []) (with_fetched now (write_with now session write))

-- a request while no proposal waits
abbrev pub asked_of : State → ℕ → ℕ → Request → Script Done
asked_of now session sector requests.Settings = asks_in now session command.Settings
asked_of now session sector (requests.FormContract form) = asks session (command.Form form) (after_proposal (proposal.Form form) now)
asked_of now session sector (requests.FormSign signatures) = says 4 now
asked_of now session sector (requests.Lock lock) = asks session (command.Lock lock) (after_lock now)
asked_of now session sector requests.Unlock = asks session command.Unlock (after_unlock now)
asked_of now session sector (requests.Write write) = writes now session sector write
asked_of now session sector (requests.WriteSign signature) = says 4 now
asked_of now session sector (requests.Read read) = reads now session sector read
asked_of now session sector (requests.Roots roots) = asks_in now session (command.Roots roots)
asked_of now session sector (requests.Renew tx) = asks session (command.Renew tx) (after_proposal (proposal.Renew tx) now)
asked_of now session sector (requests.RenewSign signatures) = says 4 now
asked_of now session sector requests.LoopExit = exits now

-- a request that has no signatures: the proposal is dropped
abbrev pub unsigned : State → Request → Script Done
unsigned before requests.LoopExit = exits before
unsigned before _ = says 4 before

-- signatures: they use the proposal up where they are for it, and else it is dropped
abbrev pub signs : State → ℕ → Option Command → Script Done
signs before session (Some asked) = asks_in before session asked
signs before session None = says 4 before

-- a request while a proposal waits
abbrev pub signed_of : Kept → ℕ → Request → Script Done
signed_of made session (requests.FormSign signatures) = signs (state_before made) session (option_map (λ form. command.FormSign form signatures) (form_in made))
signed_of made session (requests.WriteSign signature) = signs (state_before made) session (option_map (λ write. command.WriteSign write signature) (write_in made))
signed_of made session (requests.RenewSign signatures) = signs (state_before made) session (option_map (λ tx. command.RenewSign tx signatures) (renewal_in made))
signed_of made session asked = unsigned (state_before made) asked

-- a request
abbrev pub answered : State → ℕ → ℕ → Request → Script Done
answered (state.Proposed made) session sector asked = signed_of made session asked
answered now session sector asked = asked_of now session sector asked

-- a body that is no request
abbrev pub refused : State → MessageFault → Script Done
refused now wrong.UnknownRpc = says 1 (dropped now)
refused now _ = says 2 (dropped now)

-- one body
abbrev pub taken_of : State → ℕ → ℕ → Result Request MessageFault → Script Done
taken_of now session sector (Err why) = refused now why
taken_of now session sector (Ok asked) = answered now session sector asked
