-- What a host answers to one that proposes to form a contract, and to one that signs it (RHP2; siad's modules/host and
-- modules/negotiate.go; Sia whitepaper).
use Rattle.std.specs.Prelude.{◌≡◌, ℕ, Bool, true, false, List, [], nat_le, nat_lt, not, ◌&&◌, Option, Some, None, MatchOption, Result, Ok, Err}
use Rattle.std.specs.List.{filter, list_any}
use Rattle.std.specs.Str.{bytes_eq}
use Rattle.sia_encoding.specs.Answer.{◌>>=◌, unless}
use Rattle.sia_encoding.specs.Firsts.{broken, ◌or_else◌}
use Rattle.sia_types.specs.declared.coin.Coin.{Coin}
use Rattle.sia_types.specs.declared.coins.CoinInput.{CoinInput}
use Rattle.sia_types.specs.declared.signature.Signature.{Signature}
use Rattle.sia_types.specs.declared.transaction.Transaction.{Transaction}
use Rattle.sia_rhp.specs.declared.answer.Answer.TheVariants as answer
use Rattle.sia_rhp.specs.declared.request_bodies.FormRequest.{FormRequest}
use Rattle.sia_ids.specs.Transactions.{contract_id}
use Rattle.sia_rules.specs.declared.fault.BlockFault.{BlockFault}
use Rattle.sia_rules.specs.declared.fault.BlockFault.TheVariants as block_fault
use Rattle.sia_ledger.specs.Holdings.{coins_at}
use Rattle.sia_ledger.specs.Refusal.{set_refusal}
use Rattle.sia_forms.specs.declared.fault.FormFault.{FormFault}
use Rattle.sia_forms.specs.declared.funding.Additions.{Additions}
use Rattle.sia_forms.specs.Building.{finished}
use Rattle.sia_forms.specs.Checks.{form_answer}
use Rattle.sia_forms.specs.Choices.{AreAdded, worth_of}
use Rattle.sia_records.specs.declared.host_record.HostRecord.TheVariants as records
use Rattle.sia_commands.specs.declared.call.Call.{Call}
use Rattle.sia_commands.specs.declared.codes.TheConstants.{BAD_CONTRACT, BAD_SIGNATURE, NO_FUNDS, STORE_FULL}
use Rattle.sia_commands.specs.declared.event.Kind.TheVariants as kind
use Rattle.sia_commands.specs.declared.event.Outcome.TheVariants as outcome
use Rattle.sia_commands.specs.declared.reply.Reply.TheVariants as reply
use Rattle.sia_commands.specs.declared.step.Room.{Room}
use Rattle.sia_kept.specs.Signing.{AreSignedInputs}
use Rattle.sia_kept.specs.State.{Kept, is_among}
use Rattle.sia_host.specs.Answered.{Reaction, Host, answered, idle_now, lacks_room, next_height, refused, settings_now}

-- the host's coins

-- a transaction spends the coin with this identifier
abbrev pub spends : List ℕ → Transaction → Bool
spends id tx = list_any (λ (input : CoinInput). bytes_eq input.parent id) tx.coin_inputs

-- a contract's formation or renewal spends it
abbrev pub is_named : List Kept → List ℕ → Bool
is_named contracts id = list_any (λ (c : Kept). spends id c.formation) contracts

-- a coin can be spent in a next block at this height, and none of these contracts' formations spends it
abbrev pub is_free_coin : List Kept → ℕ → Coin → Bool
is_free_coin contracts next coin = nat_le coin.from next && not (is_named contracts coin.id)

-- the host's free coins
unfoldable pub free_coins : Host → List Coin
free_coins h = filter (is_free_coin h.state.contracts (next_height h)) (coins_at h.state.chain h.settings.address)

-- the proposal

-- the code by which a contract's terms are refused
abbrev pub by_terms : Result ℕ FormFault → Result ℕ ℕ
by_terms (Ok collateral) = Ok collateral
by_terms (Err fault) = Err BAD_CONTRACT

-- the collateral, for which the host's free coins are to suffice
abbrev pub funded : Host → ℕ → Result ℕ ℕ
funded h collateral = unless (broken (nat_lt (worth_of (free_coins h)) collateral) NO_FUNDS) >>= (λ _. Ok collateral)

-- the collateral by the terms of a formation; or the code of the first of these: the session isn't live, or holds a contract; the
-- terms aren't what the host asks for
abbrev pub form_terms : Host → ℕ → FormRequest → Result ℕ ℕ
form_terms h session request =
    idle_now h session >>= (λ live. by_terms (form_answer request.transaction request.renter_key (settings_now h)))

-- the collateral that the host is to give in a formation, or the code; at last its free coins are to suffice
abbrev pub form_judged : Host → ℕ → FormRequest → Result ℕ ℕ
form_judged h session request = form_terms h session request >>= funded h

-- a transaction with what the host adds, and without signatures
abbrev pub with_additions : Transaction → Additions → Transaction
with_additions tx added = finished tx added [] []

-- it forms a contract that the host knows already
abbrev pub is_formed : Host → Transaction → Additions → Bool
is_formed h tx added = is_among (contract_id (with_additions tx added) 0) h.state.contracts

-- What the host adds for a collateral: free coins of its own, and its change.
abbrev pub AreHosts : Host → ℕ → Additions → Type 0
AreHosts h collateral added = AreAdded (free_coins h) collateral h.settings.host_key h.settings.address added

-- A proposal by one of the two ways to a new contract is answered so: refused by the judgement or since the contract that it comes
-- to is known, or else by what follows from what the host adds.
abbrev pub IsProposed : Host → Call → Option (List ℕ) → Transaction → Result ℕ ℕ → (Additions → Reaction → Type 0) → Reaction → Type 0
IsProposed h call held tx (Err code) Follows a = a ≡ refused h call held code
IsProposed h call held tx (Ok collateral) Follows a =
    (added : Additions) × AreHosts h collateral added × MatchOption (broken (is_formed h tx added) BAD_CONTRACT) (Follows added a) (λ code. a ≡ refused h call held code)

-- the answer to a proposal of a formation: what the host adds
abbrev pub form_added : Host → Call → Additions → Reaction
form_added h call added = answered h call None outcome.Fine (reply.Said (answer.Form added.inputs added.outputs)) None

-- a proposal of a formation is answered so
abbrev pub IsFormed : Host → ℕ → ℕ → FormRequest → Reaction → Type 0
IsFormed h worker session request a =
    let call : Call = record { worker = worker; session = session; kind = kind.Form } in
    IsProposed h call None request.transaction (form_judged h session request) (λ added a. a ≡ form_added h call added) a

-- whether a fault of a transaction is one of its signatures
abbrev pub is_unsigned : Option BlockFault → Bool
is_unsigned (Some (block_fault.Signature t fault)) = true
is_unsigned other = false

-- whether it is another one
abbrev pub breaks_rule : Option BlockFault → Bool
breaks_rule None = false
breaks_rule (Some (block_fault.Signature t fault)) = false
breaks_rule (Some fault) = true

-- why a signed transaction isn't kept, the first of these: a rule of the chain is broken; the journal is full; a signature isn't
-- accepted
abbrev pub keeping_fault : Bool → Option BlockFault → Option ℕ
keeping_fault full fault =
    broken (breaks_rule fault) BAD_CONTRACT
    or_else broken full STORE_FULL
    or_else broken (is_unsigned fault) BAD_SIGNATURE

-- a formation that isn't kept for this, or is
abbrev pub form_unless : Host → Call → List ℕ → Transaction → List Signature → Option ℕ → Reaction
form_unless h call renter_key tx signatures (Some code) = refused h call None code
form_unless h call renter_key tx signatures None =
    answered h call (Some (contract_id tx 0)) outcome.Fine (reply.Said (answer.FormSign signatures)) (Some (records.Formed renter_key tx))

-- a signed formation, by its whole transaction and the signatures in it that are the host's
abbrev pub form_kept : (List ℕ → List ℕ → List ℕ → Bool) → Host → Room → Call → List ℕ → Transaction → List Signature → Reaction
form_kept accepts h room call renter_key tx signatures =
    form_unless h call renter_key tx signatures (keeping_fault (lacks_room room (records.Formed renter_key tx)) (set_refusal accepts h.state.chain tx))

-- a formation is signed and answered so, with what the host adds: the host signs its inputs
abbrev pub FormsSigned : (List ℕ → List ℕ → List ℕ → Bool) → (List ℕ → List ℕ → Type 0) → Host → Room → Call → FormRequest → List Signature → Additions → Reaction → Type 0
FormsSigned accepts Signs h room call request renter added a =
    (host : List Signature) × AreSignedInputs Signs (with_additions request.transaction added) added.inputs host
    × (a ≡ form_kept accepts h room call request.renter_key (finished request.transaction added renter host) host)

-- A formation is signed and answered so, on what the host finds now: its proposal is judged again.
abbrev pub IsFormSigned : (List ℕ → List ℕ → List ℕ → Bool) → (List ℕ → List ℕ → Type 0) → Host → Room → ℕ → ℕ → FormRequest → List Signature → Reaction → Type 0
IsFormSigned accepts Signs h room worker session request renter a =
    let call : Call = record { worker = worker; session = session; kind = kind.FormSign } in
    IsProposed h call None request.transaction (form_judged h session request) (FormsSigned accepts Signs h room call request renter) a
