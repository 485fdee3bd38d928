-- What a cover is, in the subject's own words: which segments it may have, and which places they hold.
use Rattle.std.specs.Prelude.{ℕ, suc, ◌+◌, ◌*◌, ◌/◌, ◌^◌, Bool, not, ◌&&◌, List, count_by}
use Rattle.sia_merkle.specs.Segments.{Segment, is_covered, places_between}

-- whether a segment is in the tree over so many hashes and holds chosen places alone, and the one twice as wide that it is
-- a half of is not or does not
abbrev pub is_largest : (ℕ → Bool) → ℕ → Segment → Bool
is_largest chosen count segment =
    is_covered chosen count segment.level (segment.index * 2 ^ segment.level) && not (is_covered chosen count (suc segment.level) (segment.index / 2 * 2 ^ suc segment.level))

-- whether a segment holds a place
abbrev pub is_over : ℕ → Segment → Bool
is_over place segment = places_between (segment.index * 2 ^ segment.level) ((segment.index + 1) * 2 ^ segment.level) place

-- how many of the segments hold a place
abbrev pub segments_over : ℕ → List Segment → ℕ
segments_over place segments = count_by (is_over place) segments
