-- What the checks of a join answer.
use Rattle.std.proofs.Common.{◌≡◌, ℕ, List, length, map, refl, sym, ◌∙◌}
use Rattle.std.specs.Prelude.{Bool, nat_eq, IsTrue, ◌↔◌}
use Rattle.std.specs.Cmp.Lexicographic.{pointwise, same_text}
use Rattle.std.proofs.lemmas.List.{length-map}
use Rattle.sia_merkle.specs.Computations.{hash_of}
use Rattle.sia_merkle.specs.Computations.Tree.{Given}
use Rattle.sia_merkle.specs.Segments.{cover, others, joined_within, joined_segments_within}
use Rattle.sia_merkle.proofs.Climbs.{one_text}
use Rattle.sia_cover.specs.Joined.{JoinTo, SegmentsJoinTo, count_below}

pub judged : (chosen : ℕ → Bool) (count : ℕ) (inner outer : List (List ℕ)) (root found : List ℕ) (answer : Bool) → length inner ≡ count_below chosen count → length outer ≡ length (cover (others chosen) count)
    → found ≡ hash_of (joined_within chosen count count 0 (map Given inner) outer) → answer ≡ pointwise nat_eq found root → IsTrue answer ↔ JoinTo chosen count (map Given inner) outer root
judged chosen count inner outer root found answer places segments is told = (
  (λ yes. (record { places = length-map inner Given ∙ places; segments = segments; joined = refl }, sym is ∙ same_text found root (sym (sym told ∙ yes)))),
  (λ join. told ∙ one_text found root (is ∙ join.1)),
)

-- the same of the roots of both covers
pub judged_segments : (chosen : ℕ → Bool) (count : ℕ) (inner outer : List (List ℕ)) (root found : List ℕ) (answer : Bool) → length inner ≡ length (cover chosen count) → length outer ≡ length (cover (others chosen) count)
    → found ≡ hash_of (joined_segments_within chosen count count 0 inner outer) → answer ≡ pointwise nat_eq found root → IsTrue answer ↔ SegmentsJoinTo chosen count inner outer root
judged_segments chosen count inner outer root found answer places segments is told = (
  (λ yes. (record { places = places; segments = segments; joined = refl }, sym is ∙ same_text found root (sym (sym told ∙ yes)))),
  (λ join. told ∙ one_text found root (is ∙ join.1)),
)
