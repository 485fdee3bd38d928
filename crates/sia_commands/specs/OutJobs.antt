-- Jobs for the outbox: the transactions that are to be mined for a host's contracts (Sia whitepaper, "Storage proofs"; siad's
-- modules/host).
use Rattle.std.specs.Prelude.{◌≡◌, ℕ, ◌*◌, ◌/◌, ◌^◌, ◌<◌, List, [], ◌∷◌, length}
use Rattle.sia_merkle.specs.Roots.{leaf_count}
use Rattle.sia_prover.specs.Proofs.{chosen_leaf, sector_proof}
use Rattle.sia_types.specs.declared.file_contracts.StorageProof.{StorageProof}
use Rattle.sia_types.specs.declared.transaction.Transaction.{Transaction}
use Rattle.sia_commands.specs.declared.out_job.AskedProof.{AskedProof}
use Rattle.sia_commands.specs.declared.out_job.Stage.{Stage}
use Rattle.sia_commands.specs.declared.out_job.Stage.TheVariants as stage

-- a transaction that has a storage proof alone
abbrev pub proof_alone : StorageProof → Transaction
proof_alone proof = record {
  coin_inputs = [];
  coin_outputs = [];
  contracts = [];
  revisions = [];
  proofs = proof ∷ [];
  fund_inputs = [];
  fund_outputs = [];
  fees = [];
  notes = [];
  signatures = [];
}

-- a job as it is handed out: the transaction that it stands for, or a storage proof that still lacks the bytes of its sector
pub data Job : Type 0 where
  Whole : Transaction → Job
  Lacking : AskedProof → Job

-- the transaction of a storage proof, with the bytes of the sector
unfoldable pub proved_by : AskedProof → List ℕ → Transaction
proved_by asked sector = proof_alone (sector_proof sector asked.place asked.roots asked.trigger asked.contract)

-- a job with the bytes of the sector that it lacks
abbrev pub filled_job : Job → List ℕ → Job
filled_job (Whole tx) sector = Whole tx
filled_job (Lacking asked) sector = Whole (proved_by asked sector)

-- A sector is one that the job lacks, if it lacks any: it has so many bytes as are asked for.
abbrev pub FitsJob : Job → List ℕ → Type 0
FitsJob (Whole tx) sector = Unit {0}
FitsJob (Lacking asked) sector = length sector ≡ asked.size

-- The sector at the place has the leaf that is asked for: sectors are of 64 bytes times a power of two, and all leaves have numbers of
-- 64 bits.
pub record IsAsked (asked : AskedProof) : Type 0 where
  pub whole : (level : ℕ) × (asked.size ≡ 64 * 2 ^ level)
  pub room : length asked.roots * asked.size < 2 ^ 64
  pub place : asked.place < length asked.roots
  pub chosen : chosen_leaf asked.trigger asked.contract (length asked.roots) asked.size / leaf_count asked.size ≡ asked.place

-- what is asked for

-- the place of the sector that has the leaf that is chosen
abbrev pub place_asked : List ℕ → List ℕ → ℕ → ℕ → ℕ
place_asked trigger contract count size = chosen_leaf trigger contract count size / leaf_count size

-- the storage proof that is asked for of a contract with these roots, where sectors have so many bytes
abbrev pub asked_of : List ℕ → List (List ℕ) → ℕ → List ℕ → AskedProof
asked_of contract roots size trigger = record { contract = contract; trigger = trigger; roots = roots; place = place_asked trigger contract (length roots) size; size = size }

-- how far a job has come

-- what it is
abbrev pub job_at : Stage → Job
job_at (stage.Whole tx) = Whole tx
job_at (stage.Unread asked) = Lacking asked
job_at (stage.Read asked sector) = Whole (proved_by asked sector)

-- what is known of it
abbrev pub IsAt : Stage → Type 0
IsAt (stage.Whole tx) = Unit {0}
IsAt (stage.Unread asked) = IsAsked asked
IsAt (stage.Read asked sector) = IsAsked asked × (length sector ≡ asked.size)
