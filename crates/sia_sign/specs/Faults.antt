-- The first fault of a transaction's signatures: of the first signature that has one, and else of the first need that isn't met
-- (siad's types/signatures.go; siad's doc/Consensus.md).
use Rattle.std.specs.Prelude.{ℕ, ◌-◌, ◌^◌, min, Bool, List, [], take, Option, Some, None, slice_get, nat_lt, not}
use Rattle.std.specs.Option.{option_map_or}
use Rattle.sia_encoding.specs.Firsts.{broken, ◌or_else◌, first_at}
use Rattle.sia_types.specs.declared.conditions.PublicKey.{PublicKey}
use Rattle.sia_types.specs.declared.conditions.UnlockConditions.{UnlockConditions}
use Rattle.sia_types.specs.declared.signature.Signature.{Signature}
use Rattle.sia_types.specs.declared.transaction.Transaction.{Transaction}
use Rattle.sia_types.specs.declared.sig_fault.SigFault.{SigFault}
use Rattle.sia_types.specs.declared.sig_fault.SigFault.TheVariants as sig_fault
use Rattle.sia_sign.specs.Needs.{Need, needs, need_of, count_for}
use Rattle.sia_sign.specs.SignedText.{signed_hash}
use Rattle.sia_sign.specs.Frivolous.{is_frivolous}

-- the fault that is told; want of memory tells none
abbrev pub sig_told : SigFault → Option SigFault
sig_told sig_fault.Memory = None
sig_told fault = Some fault

-- the bytes of the key at an index, and none past the end
abbrev pub key_at : UnlockConditions → ℕ → List ℕ
key_at conditions i = option_map_or (λ (k : PublicKey). k.key) (slice_get conditions.keys i) []

-- the fault of the signature at an index, where these stand before it and this is its need
unfoldable pub fault_under : (List ℕ → List ℕ → List ℕ → Bool) → ℕ → Transaction → List Signature → ℕ → Signature → UnlockConditions → Option SigFault
fault_under accepts height tx earlier i s conditions =
    broken (is_frivolous tx earlier conditions s) (sig_fault.Frivolous i)
    or_else broken (nat_lt height s.timelock) (sig_fault.Timelock i)
    or_else broken (not (accepts (key_at conditions s.key_index) (signed_hash tx s) s.signature)) (sig_fault.BadSig i)

-- a signature for which there is no need is frivolous
abbrev pub fault_for : (List ℕ → List ℕ → List ℕ → Bool) → ℕ → Transaction → List Signature → ℕ → Signature → Option Need → Option SigFault
fault_for accepts height tx earlier i s None = Some (sig_fault.Frivolous i)
fault_for accepts height tx earlier i s (Some need) = fault_under accepts height tx earlier i s need.conditions

-- the fault of the signature at an index, in a block at this height, where `accepts` judges key, hash and signature
unfoldable pub signature_fault : (List ℕ → List ℕ → List ℕ → Bool) → ℕ → Transaction → ℕ → Signature → Option SigFault
signature_fault accepts height tx i s = fault_for accepts height tx (take i tx.signatures) i s (need_of s.parent (needs tx))

-- a need has fewer signatures than it requires
abbrev pub lacks : List Signature → Need → Bool
lacks signatures need = nat_lt (count_for need.parent signatures) need.conditions.required

-- a need that lacks signatures isn't met; an index that no integer of 64 bits holds is told as the greatest
unfoldable pub missing_fault : List Signature → ℕ → Need → Option SigFault
missing_fault signatures i need = broken (lacks signatures need) (sig_fault.MissingSig (min i (2 ^ 64 - 1)))

-- the first fault of a transaction's signatures
unfoldable pub signatures_fault : (List ℕ → List ℕ → List ℕ → Bool) → ℕ → Transaction → Option SigFault
signatures_fault accepts height tx =
    first_at (signature_fault accepts height tx) 0 tx.signatures
    or_else first_at (missing_fault tx.signatures) 0 (needs tx)
