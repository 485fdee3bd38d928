-- A feed: a list of records without a count, of which each is read and then done. A record is byte 1 and a block, or byte 2 for a
-- revert of the last block.
use Rattle.std.specs.Prelude.{ℕ, List, slice_index, ◌==◌, if◌then◌else◌, Result, Ok, Err}
use Rattle.sia_encoding.specs.Answer.{◌>>=◌}
use Rattle.sia_encoding.specs.declared.limits.TheConstants.{BLOCK_BYTES}
use Rattle.sia_encoding.specs.Reading.{Spot, fixed_at}
use Rattle.sia_types.specs.Block.{block as block_codec}
use Rattle.sia_program.specs.declared.feed.FeedRecord.{FeedRecord}
use Rattle.sia_program.specs.declared.feed.FeedRecord.TheVariants as feed_record
use Rattle.sia_program.specs.declared.stop.Refusal.{Refusal}
use Rattle.sia_program.specs.declared.stop.Refusal.TheVariants as refusal
use Rattle.sia_program.specs.Told.{or_refused_at}

-- a block, as a record
unfoldable pub block_record_at : Spot → Result (FeedRecord × Spot) Refusal
block_record_at s = do
  read ← or_refused_at refusal.Feed (block_codec.reading s)
  Ok (feed_record.Apply read.0, read.1)

-- a record, by its first byte
unfoldable pub record_at : Spot → Result (FeedRecord × Spot) Refusal
record_at s = do
  kind ← or_refused_at refusal.Feed (fixed_at 1 s)
  if slice_index kind.0 0 == 1 then block_record_at kind.1
      else if slice_index kind.0 0 == 2 then Ok (feed_record.Revert, kind.1)
      else Err (refusal.Feed s.at)

-- where a feed begins
abbrev pub first_spot : List ℕ → Spot
first_spot feed = record { at = 0; left = feed; limit = BLOCK_BYTES }
