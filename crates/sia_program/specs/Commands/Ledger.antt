-- `ledger CONFIG FEED`: a feed's blocks applied and reverted in turn, behind the genesis of a configuration, and the sums of the
-- chain that they make (siad's doc/Consensus.md).
use Rattle.std.specs.Prelude.{ℕ, zero, suc, ◌+◌, ◌^◌, Bool, List, [], ◌∷◌, ◌++◌, length, codes, decimal, nat_eq, ◌==◌, if◌then◌else◌, Option, Some, None, Result, Ok, Err}
use Rattle.std.specs.Cmp.Lexicographic.{pointwise}
use Rattle.hex.specs.Hex.{encode_lower}
use Rattle.sia_encoding.specs.Answer.{◌>>=◌}
use Rattle.sia_encoding.specs.Reading.{Spot}
use Rattle.sia_rules.specs.declared.fault.BlockFault.{BlockFault}
use Rattle.sia_types.specs.declared.block.Block.{Block}
use Rattle.sia_config.specs.Config.{config_of}
use Rattle.sia_ledger.specs.declared.sums.Sums.{Sums}
use Rattle.sia_ledger.specs.Chain.{Chain, height, begun, extended, shortened}
use Rattle.sia_ledger.specs.Holdings.{tip, sums_of}
use Rattle.sia_ledger.specs.Refusal.{refusal as refusal_of}
use Rattle.sia_program.specs.declared.feed.FeedRecord.{FeedRecord}
use Rattle.sia_program.specs.declared.feed.FeedRecord.TheVariants as feed_record
use Rattle.sia_program.specs.declared.form.FilePlaces.{FilePlaces}
use Rattle.sia_program.specs.declared.form.Form.{Form}
use Rattle.sia_program.specs.declared.form.Form.TheVariants as form
use Rattle.sia_program.specs.declared.stop.Refusal.{Refusal}
use Rattle.sia_program.specs.declared.stop.Refusal.TheVariants as refusal
use Rattle.sia_program.specs.declared.stop.Stop.{Stop}
use Rattle.sia_program.specs.Feed.{first_spot, record_at}
use Rattle.sia_program.specs.Inputs.{within}
use Rattle.sia_program.specs.Lines.{line}
use Rattle.sia_program.specs.Told.{or_config_refused, or_refused}

-- `ledger`, a configuration and a feed
abbrev pub ledger_form : List (List ℕ) → Option Form
ledger_form (command ∷ config ∷ feed ∷ []) = if pointwise nat_eq command (codes "ledger") then Some form.Ledger else None
ledger_form _ = None

-- both are files
abbrev pub ledger_files : FilePlaces
ledger_files = record { config = Some 1; input = Some 2 }

-- a block behind a chain, or the rule of which it is judged that it breaks it
abbrev pub judged : Chain → Block → Option BlockFault → Result Chain Refusal
judged chain block None = Ok (extended chain block)
judged chain block (Some rule) = Err (refusal.Block (height chain) rule)

-- which signatures are accepted, by key, hash and signature
abbrev pub Verdict : Type 0
Verdict = List ℕ → List ℕ → List ℕ → Bool

-- a block behind a chain, or the first rule that it breaks there
unfoldable pub applied : Verdict → Chain → Block → Result Chain Refusal
applied verdict chain block = judged chain block (refusal_of verdict chain block)

-- a chain without its last block, if it has one
unfoldable pub reverted : Chain → Result Chain Refusal
reverted chain = if height chain == 0 then Err refusal.NoBlock else Ok (shortened chain)

-- what one record of a feed makes of a chain
abbrev pub after_record : Verdict → Chain → FeedRecord → Result Chain Refusal
after_record verdict chain (feed_record.Apply block) = applied verdict chain block
after_record verdict chain feed_record.Revert = reverted chain

-- the next record of a feed, read and then done
unfoldable pub done_at : Verdict → Spot → Chain → Result (Chain × Spot) Refusal
done_at verdict s chain = do
  first ← record_at s
  next ← after_record verdict chain first.0
  Ok (next, first.1)

-- What a feed makes of a chain from a spot on: each record is read and then done, and the first that can't be read or is refused
-- decides. There are at most so many records less one; the first case is never reached.
unfoldable pub run_at : Verdict → ℕ → Spot → Chain → Result Chain Refusal
run_at verdict zero s chain = Err (refusal.Feed s.at)
run_at verdict (suc most) s chain =
    if length s.left == 0 then Ok chain else do
      next ← done_at verdict s chain
      run_at verdict most next.1 next.0

-- what a whole feed makes of a chain. A record has at least one byte, so there are no more records than bytes.
unfoldable pub run : Verdict → Chain → List ℕ → Result Chain Refusal
run verdict chain feed = run_at verdict (length feed + 1) (first_spot feed) chain

-- the chain that a configuration of at most 65,536 bytes begins. All its keys are judged.
unfoldable pub begin : List ℕ → Result Chain Stop
begin config = do
  bytes ← within 65536 config
  read ← or_config_refused (config_of bytes)
  Ok (begun read.host.params)

-- the lines of a chain's sums and its tip
unfoldable pub sums_text : Sums → List ℕ → List ℕ
sums_text sums tip =
    line (codes "height") (decimal sums.height) ++
    line (codes "tip") (encode_lower tip) ++
    line (codes "outputs") (decimal sums.outputs) ++
    line (codes "immature") (decimal sums.immature) ++
    line (codes "escrow") (decimal sums.escrow) ++
    line (codes "pool") (decimal sums.pool) ++
    line (codes "unclaimed") (decimal sums.unclaimed) ++
    line (codes "issued") (decimal sums.issued)

-- the lines of the chain that a feed of at most 2^30 bytes makes of another
unfoldable pub finish : Verdict → Chain → List ℕ → Result (List ℕ) Stop
finish verdict first feed = do
  bytes ← within (2 ^ 30) feed
  chain ← or_refused (run verdict first bytes)
  Ok (sums_text (sums_of chain) (tip chain))

-- the text that `ledger` prints, or why there is none. The configuration is read and judged before the feed.
unfoldable pub ledger_outcome : Verdict → List ℕ → List ℕ → Result (List ℕ) Stop
ledger_outcome verdict config feed = do
  chain ← begin config
  finish verdict chain feed
