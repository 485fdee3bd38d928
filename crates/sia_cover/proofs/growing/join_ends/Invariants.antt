use Rattle.std.proofs.Common.{◌≡◌, ℕ, ◌+◌, ◌*◌, ◌^◌, List, ◌++◌, length}
use Rattle.sia_merkle.specs.Segments.{cover, cover_within, segment_roots}
use Rattle.sia_cover.proofs.growing.join_ends.Given as goal

abbrev pub invariant-loop-height : goal.invariant-loop-height
invariant-loop-height g l =
    record {
      full : l.count ≡ (l.rest + 1) * 2 ^ l.height;
      ends : (hashes : List (List ℕ)) → length hashes ≡ l.count
          → l.fn.roots ≡ segment_roots hashes (cover (g.P.PlaceSet.holds l.set) (l.before * 2 ^ l.level) ++ cover_within (g.P.PlaceSet.holds l.set) (length hashes) l.level (l.before * 2 ^ l.level))
          → l.roots ≡ segment_roots hashes (cover (g.P.PlaceSet.holds l.set) (l.rest * 2 ^ l.height) ++ cover_within (g.P.PlaceSet.holds l.set) (length hashes) l.height (l.rest * 2 ^ l.height));
    }
