-- Which contracts a host has to act for on the chain, and by what: a revision that is to be mined before the window, and the storage
-- proof in the window (Sia whitepaper, "Storage proofs"; siad's modules/host).
use Rattle.std.specs.Prelude.{ℕ, ◌-◌, ◌/◌, Bool, false, List, [], ◌∷◌, find, length, nat_le, nat_lt, not, ◌==◌, ◌&&◌, ◌||◌, Option, slice_index_or}
use Rattle.std.specs.List.{filter, list_any}
use Rattle.std.specs.Option.{option_map, option_map_or, unwrap_or}
use Rattle.std.specs.Ordering.{nat_cmp, is_lt}
use Rattle.std.specs.Cmp.Lexicographic.{slice_cmp}
use Rattle.std.specs.Str.{bytes_eq}
use Rattle.sia_merkle.specs.Roots.{leaf_count}
use Rattle.sia_prover.specs.Proofs.{chosen_leaf, sector_proof}
use Rattle.sia_types.specs.declared.file_contracts.Revision.{Revision}
use Rattle.sia_types.specs.declared.terms.Terms.{Terms}
use Rattle.sia_types.specs.declared.transaction.Transaction.{Transaction}
use Rattle.sia_ledger.specs.Holdings.{id_at, terms_of}
use Rattle.sia_ledger.specs.Order.{ascending_by}
use Rattle.sia_records.specs.Stored.{no_sector}
use Rattle.sia_commands.specs.OutJobs.{proof_alone}
use Rattle.sia_kept.specs.Signing.{whole_signature}
use Rattle.sia_kept.specs.State.{Kept, roots_of}
use Rattle.sia_host.specs.Paying.{revision_alone}
use Rattle.sia_host.specs.Answered.{Host, next_height}

-- a contract that runs on the chain by these terms is stale: its window is near, and its newest revision isn't mined
abbrev pub is_stale_by : Host → Kept → Terms → Bool
is_stale_by h c terms = nat_le (terms.start - h.margin) (next_height h) && nat_lt (next_height h) terms.start && nat_lt terms.number c.newest.number

-- it is due: the next block is in its window, it stores something, and the chain knows its newest size and root
abbrev pub is_due_by : Host → Kept → Terms → Bool
is_due_by h c terms =
    not (c.newest.size == 0) && nat_le terms.start (next_height h) && nat_le (next_height h) terms.end
    && (terms.size == c.newest.size) && bytes_eq terms.root c.newest.root

-- whether a contract is stale
abbrev pub is_stale : Host → Kept → Bool
is_stale h c = option_map_or (is_stale_by h c) (terms_of h.state.chain c.id) false

-- whether a contract is due
abbrev pub is_due : Host → Kept → Bool
is_due h c = option_map_or (is_due_by h c) (terms_of h.state.chain c.id) false

-- contracts by ascending identifiers
abbrev pub in_order : List Kept → List Kept
in_order contracts = ascending_by (λ (c : Kept). c.id) contracts

-- the stale contracts
unfoldable pub stale_contracts : Host → List Kept
stale_contracts h = filter (is_stale h) (in_order h.state.contracts)

-- the due contracts
unfoldable pub due_contracts : Host → List Kept
due_contracts h = filter (is_due h) (in_order h.state.contracts)

-- an identifier is above another
abbrev pub is_above : List ℕ → List ℕ → Bool
is_above id other = is_lt (slice_cmp nat_cmp other id)

-- the first of these contracts, or the first whose identifier is above this one
abbrev pub next_after : List ℕ → Bool → List Kept → Option Kept
next_after id first contracts = find (λ (c : Kept). first || is_above c.id id) contracts

-- the jobs

-- a transaction renews a contract: its revision is of this contract
abbrev pub renews : List ℕ → Transaction → Bool
renews id tx = list_any (λ (r : Revision). bytes_eq r.parent id) tx.revisions

-- the renewal that a contract's newest revision stands in, if it stands in one
abbrev pub renewal_of : List Kept → List ℕ → Option Transaction
renewal_of contracts id = option_map (λ (c : Kept). c.formation) (find (λ (c : Kept). renews id c.formation) contracts)

-- a revision with the signatures of both parties
abbrev pub signed_alone : Revision → List (List ℕ) → Transaction
signed_alone revision signatures = record (revision_alone revision) {
  signatures = whole_signature revision.parent 0 (slice_index_or signatures 0 []) ∷ whole_signature revision.parent 1 (slice_index_or signatures 1 []) ∷ [];
}

-- what a stale contract is to be mined by: the renewal, or its newest revision
unfoldable pub stale_job : Host → Kept → Transaction
stale_job h c = unwrap_or (renewal_of h.state.contracts c.id) (signed_alone c.newest c.signatures)

-- the identifier of the block before the window
abbrev pub trigger_of : Host → Terms → List ℕ
trigger_of h terms = unwrap_or (id_at h.state.chain (terms.start - 1)) []

-- the place of the sector that has the leaf that is asked for
abbrev pub asked_place : Host → Kept → Terms → ℕ
asked_place h c terms = chosen_leaf (trigger_of h terms) c.id (length c.sectors) h.settings.sector / leaf_count h.settings.sector

-- the slot of that sector
abbrev pub asked_slot : Host → Kept → Terms → ℕ
asked_slot h c terms = (slice_index_or c.sectors (asked_place h c terms) no_sector).slot

-- a transaction that has a storage proof alone, where `bytes` gives the sector of a slot
unfoldable pub due_job_by : (ℕ → List ℕ) → Host → Kept → Terms → Transaction
due_job_by bytes h c terms = proof_alone (sector_proof (bytes (asked_slot h c terms)) (asked_place h c terms) (roots_of c) (trigger_of h terms) c.id)

-- the job of a due contract
abbrev pub due_job : (ℕ → List ℕ) → Host → Kept → Option Transaction
due_job bytes h c = option_map (due_job_by bytes h c) (terms_of h.state.chain c.id)
