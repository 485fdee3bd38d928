-- What a host asks of the transaction that forms or renews a contract (siad's modules/host/negotiateformcontract.go and
-- negotiaterenewcontract.go; Sia whitepaper).
use Rattle.std.specs.Prelude.{ℕ, ◌+◌, ◌-◌, Bool, true, false, List, [], ◌∷◌, length, nat_lt, nat_le, ◌==◌, ◌&&◌, not, Option, Some, None, Result, Ok, Err}
use Rattle.std.specs.Str.{bytes_eq}
use Rattle.sia_encoding.specs.Answer.{◌>>=◌, unless}
use Rattle.sia_encoding.specs.Codec.{Codec}
use Rattle.sia_encoding.specs.Firsts.{broken, ◌or_else◌}
use Rattle.sia_types.specs.declared.coins.CoinOutput.{CoinOutput}
use Rattle.sia_types.specs.declared.file_contracts.FileContract.{FileContract}
use Rattle.sia_types.specs.declared.file_contracts.Revision.{Revision}
use Rattle.sia_types.specs.declared.settings.Settings.{Settings}
use Rattle.sia_types.specs.declared.transaction.Transaction.{Transaction}
use Rattle.sia_types.specs.FileContracts.{revision}
use Rattle.sia_forms.specs.declared.fault.FormFault.{FormFault}
use Rattle.sia_forms.specs.declared.fault.FormFault.TheVariants as form_fault
use Rattle.sia_forms.specs.Parties.{both_address, zero_hash}
use Rattle.sia_forms.specs.Renewing.{clearing, least_renewed, risk_of}

-- the fault that is told; want of memory tells none
abbrev pub form_told : FormFault → Option FormFault
form_told form_fault.Memory = None
form_told fault = Some fault

-- two values are one: they are spelled alike
abbrev pub is_spelled_as : {A : Type 0} → Codec A → A → A → Bool
is_spelled_as codec one other = bytes_eq (codec.spelled one) (codec.spelled other)

-- the tests of a transaction

-- it has nothing but siacoins, fees, contracts and revisions, and isn't signed yet
abbrev pub has_no_other_part : Transaction → Bool
has_no_other_part tx =
    (length tx.proofs == 0)
    && (length tx.fund_inputs == 0)
    && (length tx.fund_outputs == 0)
    && (length tx.notes == 0)
    && (length tx.signatures == 0)

-- its one revision clears the newest one
abbrev pub is_cleared : Revision → List Revision → Bool
is_cleared newest (only ∷ []) = is_spelled_as revision only (clearing newest)
is_cleared newest revisions = false

-- the tests of its contract

-- it stores these bytes from the start, is new, and has this unlock hash
abbrev pub begins_with : ℕ → List ℕ → List ℕ → FileContract → Bool
begins_with size root address c =
    (c.size == size) && bytes_eq c.root root && (c.number == 0) && bytes_eq c.address address

-- it pays the renter and the host where it is proved, and the renter, the host and the void where it isn't: the renter at one
-- address and the others at theirs, and where it isn't proved so much less to the host, which the void has
abbrev pub pays_parties : Settings → ℕ → List CoinOutput → List CoinOutput → Bool
pays_parties s risk (renter ∷ host ∷ []) (missed_renter ∷ missed_host ∷ void ∷ []) =
    bytes_eq missed_renter.address renter.address
    && bytes_eq host.address s.address
    && bytes_eq missed_host.address s.address
    && bytes_eq void.address zero_hash
    && (missed_renter.value == renter.value)
    && (missed_host.value == host.value - risk)
    && (void.value == risk)
pays_parties s risk valid missed = false

-- its window begins late enough, is long enough, and ends early enough for the host
abbrev pub keeps_window : Settings → FileContract → Bool
keeps_window s c =
    nat_lt (s.height + 1) c.start
    && nat_le (c.start + s.window) c.end
    && nat_le c.end (s.height + s.max_duration)

-- the host's valid value
abbrev pub host_value_of : List CoinOutput → ℕ
host_value_of [] = 0
host_value_of (renter ∷ []) = 0
host_value_of (renter ∷ host ∷ more) = host.value

-- the host's valid value is at least this, and what is above it is a collateral that the host gives
abbrev pub pays_host : Settings → ℕ → ℕ → Bool
pays_host s least host_value = nat_le least host_value && nat_le (host_value - least) s.max_collateral

-- what a host asks of a contract: the bytes that it begins with, its unlock hash, the host's least valid value, and how much of
-- that value goes to the void where it isn't proved
pub record Asked : Type 0 where
  pub size : ℕ
  pub root : List ℕ
  pub address : List ℕ
  pub least : ℕ
  pub risk : ℕ

-- of a formation's contract: it begins with nothing, and nothing of the host's value is at risk
abbrev pub asked_to_form : Settings → List ℕ → Asked
asked_to_form s address = record { size = 0; root = zero_hash; address = address; least = s.prices.contract_price; risk = 0 }

-- of a renewal's contract: it begins with what the old one stores
abbrev pub asked_to_renew : Settings → Revision → FileContract → Asked
asked_to_renew s newest c = record { size = newest.size; root = newest.root; address = newest.address; least = least_renewed s c.end newest; risk = risk_of s c.end newest (host_value_of c.valid) }

-- the points, in order

-- the first of the points 1 to 3 that fails, where `begins` says whether point 1 holds
unfoldable pub terms_fault : Settings → Bool → ℕ → FileContract → Option FormFault
terms_fault s begins risk c =
    broken (not begins) (form_fault.BadContract 1)
    or_else broken (not (pays_parties s risk c.valid c.missed)) (form_fault.BadContract 2)
    or_else broken (not (keeps_window s c)) (form_fault.BadContract 3)

-- the collateral that a host gives, or point 4 where its value isn't within its limits
unfoldable pub collateral_within : Settings → ℕ → ℕ → Result ℕ FormFault
collateral_within s least host_value =
    unless (broken (not (pays_host s least host_value)) (form_fault.BadContract 4)) >>= (λ _. Ok (host_value - least))

-- the collateral of a contract, or the first of the points 1 to 4 that fails
unfoldable pub contract_answer : Settings → Asked → FileContract → Result ℕ FormFault
contract_answer s asked c =
    unless (terms_fault s (begins_with asked.size asked.root asked.address c) asked.risk c)
    >>= (λ _. collateral_within s asked.least (host_value_of c.valid))

-- the one contract of a transaction whose other parts are fit, or point 0
abbrev pub one_contract : Bool → List FileContract → Result FileContract FormFault
one_contract true (c ∷ []) = Ok c
one_contract fit contracts = Err (form_fault.BadContract 0)

-- what a host answers to a formation: its collateral, or the first point that fails
unfoldable pub form_answer : Transaction → List ℕ → Settings → Result ℕ FormFault
form_answer tx renter_key s =
    one_contract ((length tx.revisions == 0) && has_no_other_part tx) tx.contracts
    >>= (λ c. contract_answer s (asked_to_form s (both_address renter_key s.host_key)) c)

-- what a host answers to a renewal
unfoldable pub renew_answer : Transaction → Revision → Settings → Result ℕ FormFault
renew_answer tx newest s =
    one_contract (is_cleared newest tx.revisions && has_no_other_part tx) tx.contracts
    >>= (λ c. contract_answer s (asked_to_renew s newest c) c)
