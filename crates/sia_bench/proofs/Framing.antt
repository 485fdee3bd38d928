-- Frames that are sent again, and those that a link has left.
use Rattle.std.proofs.Common.{◌≡◌, ℕ, ◌+◌, ◌-◌, ◌++◌, Option, Some, None, Ok, List, [], ◌∷◌, length, drop, replicate, arith, refl, sym, ap, ◌∙◌, subst, IfSome}
use Rattle.std.specs.Io.KnownBytes.{Appends}
use Rattle.std.specs.List.{concat, sum_by}
use Rattle.std.proofs.lemmas.Grind.{replicate_next}
use Rattle.std.proofs.lemmas.List.Folds.{concat-append}
use Rattle.std.proofs.lemmas.List.Sums.{sum_by-cons}
use Rattle.sia_edge.proofs.Progress.{appends_both}
use Rattle.sia_pieces.proofs.Groups.{append_none}
use Rattle.sia_rhp.proofs.FrameLaws.{frames_follow}
use Rattle.sia_rhp.specs.Frames.{Reader, frame_at, frames_of}
use Rattle.sia_rhp.specs.Taking.{Moves, TakesOff}

-- one frame more
frames_next : (n : ℕ) (frame : List ℕ) → concat (replicate n frame) ++ frame ≡ concat (replicate (n + 1) frame)
frames_next n frame = sym (ap concat (replicate_next n frame) ∙ concat-append (replicate n frame) (frame ∷ []) ∙ ap (λ last. concat (replicate n frame) ++ last) (append_none frame))

-- one frame more was sent
pub sent_more : (n : ℕ) (frame : List ℕ) (old mid new : Option (List ℕ)) → Appends old mid (concat (replicate n frame)) → Appends mid new frame
    → Appends old new (concat (replicate (n + 1) frame))
sent_more n frame old mid new before now =
    let Sent : List ℕ → Type 0 = λ bytes. Appends old new bytes in
    subst Sent (frames_next n frame) (appends_both old mid new (concat (replicate n frame)) frame before now)

-- a frame that can be read is the first of those that are left
frame_more : (limit room : ℕ) (bytes body : List ℕ) → frame_at limit room bytes ≡ Ok (Some body)
    → (frames_of limit room bytes).bodies ≡ body ∷ (frames_of limit (room - (8 + length body)) (drop (8 + length body) bytes)).bodies
frame_more limit room bytes body is = rw (frames_follow limit room bytes, is) refl

-- what is known of bytes that are told
pub told : (Known : List ℕ → Type 0) (left : Option (List ℕ)) (bytes : List ℕ) → left ≡ Some bytes → IfSome left Known → Known bytes
told Known left bytes is known =
    let Of : Option (List ℕ) → Type 0 = λ left. IfSome left Known in
    subst Of is known

pub if_told : (Known : List ℕ → Type 0) (left : Option (List ℕ)) → ((bytes : List ℕ) → left ≡ Some bytes → Known bytes) → IfSome left Known
if_told Known None each = tt
if_told Known (Some bytes) each = each bytes refl

-- a reader that gave a body may take fewer bytes, and goes on
pub moved : (old new : Reader) (body : List ℕ) (found : Option (List ℕ)) → found ≡ Some body → Moves old new (Ok found)
    → (new.limit ≡ old.limit) × (new.fault ≡ None) × (new.room + (8 + length body) ≡ old.room)
moved old new body None is moves = cc
moved old new body (Some x) is moves =
    let same : x ≡ body = cc in
    let room : new.room ≡ old.room - (8 + length x) = ap (λ (reader : Reader). reader.room) moves.0 in
    (ap (λ (reader : Reader). reader.limit) moves.0, ap (λ (reader : Reader). reader.fault) moves.0, omega (arith, room, moves.1, ap length same))

-- that body is the first of those that were left
pub taken_more : (limit : ℕ) (old new : Reader) (bytes body : List ℕ) (found left : Option (List ℕ)) → old.limit ≡ limit → found ≡ Some body
    → Moves old new (Ok found) → TakesOff (λ given. 8 + length given) old.room (Ok found) (frame_at old.limit old.room bytes) bytes left
    → (rest : List ℕ) × (left ≡ Some rest) × ((frames_of limit old.room bytes).bodies ≡ body ∷ (frames_of limit new.room rest).bodies)
taken_more limit old new bytes body None left within is moves took = cc
taken_more limit old new bytes body (Some x) left within is moves took =
    let same : x ≡ body = cc in
    let room : new.room ≡ old.room - (8 + length x) = ap (λ (reader : Reader). reader.room) moves.0 in
    let rest : List ℕ = drop (8 + length x) bytes in
    let Within : ℕ → Type 0 = λ most. (frames_of most old.room bytes).bodies ≡ x ∷ (frames_of most (old.room - (8 + length x)) rest).bodies in
    let After : ℕ → Type 0 = λ left. (frames_of limit old.room bytes).bodies ≡ x ∷ (frames_of limit left rest).bodies in
    let First : List ℕ → Type 0 = λ given. (frames_of limit old.room bytes).bodies ≡ given ∷ (frames_of limit new.room rest).bodies in
    (rest, took.1, subst First same (subst After (sym room) (subst Within within (frame_more old.limit old.room bytes x took.0))))

-- at the end no body is left
pub taken_all : (limit : ℕ) (old : Reader) (bytes : List ℕ) (found left : Option (List ℕ)) → old.limit ≡ limit → found ≡ None
    → TakesOff (λ given. 8 + length given) old.room (Ok found) (frame_at old.limit old.room bytes) bytes left
    → (frames_of limit old.room bytes).bodies ≡ []
taken_all limit old bytes (Some x) left within is took = cc
taken_all limit old bytes None left within is took =
    let Within : ℕ → Type 0 = λ most. (frames_of most old.room bytes).bodies ≡ [] in
    let none : (frames_of old.limit old.room bytes).bodies ≡ [] = rw (frames_follow old.limit old.room bytes, took.0) refl in
    subst Within within none

-- the bytes of one body more
pub sum_next : (first : List ℕ) (rest all : List (List ℕ)) → all ≡ first ∷ rest → sum_by length all ≡ length first + sum_by length rest
sum_next first rest all is = ap (sum_by length) is ∙ sum_by-cons length first rest
