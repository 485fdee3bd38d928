-- Writing a frame in two parts: its length with the first bytes of the body, and then the others.
use Rattle.std.proofs.Common.{◌≡◌, ◌++◌, ℕ, List, length, Option, ap, sym, ◌∙◌, append_assoc}
use Rattle.std.specs.Io.KnownBytes.{Appends}
use Rattle.sia_edge.proofs.Progress.{appends_both}
use Rattle.sia_edge.specs.Whole.{AppendsSomeOf}
use Rattle.sia_encoding.specs.Spelling.{spelled_u64, spelled_bytes}
use Rattle.sia_rhp.specs.Frames.{frame_of}

-- the frame in its two parts
parts : (body first rest : List ℕ) → first ++ rest ≡ body → frame_of body ≡ (spelled_u64 (length body) ++ first) ++ rest
unfolding spelled_bytes
parts body first rest is = ap (λ xs. spelled_u64 (length body) ++ xs) (sym is) ∙ sym (append_assoc (spelled_u64 (length body)) first rest)

pub sent_first : (old new : Option (List ℕ)) (body first rest : List ℕ) → first ++ rest ≡ body → AppendsSomeOf old new (spelled_u64 (length body) ++ first) → AppendsSomeOf old new (frame_of body)
sent_first old new body first rest is some =
    (some.0, some.1 ++ rest, parts body first rest is ∙ ap (λ xs. xs ++ rest) some.2 ∙ append_assoc some.0 some.1 rest, some.3)

pub sent_some : (old mid new : Option (List ℕ)) (body first rest : List ℕ) → first ++ rest ≡ body → Appends old mid (spelled_u64 (length body) ++ first) → AppendsSomeOf mid new rest → AppendsSomeOf old new (frame_of body)
sent_some old mid new body first rest is all some =
    let front = spelled_u64 (length body) ++ first in
    (front ++ some.0, some.1, parts body first rest is ∙ ap (λ xs. front ++ xs) some.2 ∙ sym (append_assoc front some.0 some.1), appends_both old mid new front some.0 all some.3)

pub sent_all : (old mid new : Option (List ℕ)) (body first rest : List ℕ) → first ++ rest ≡ body → Appends old mid (spelled_u64 (length body) ++ first) → Appends mid new rest → Appends old new (frame_of body)
sent_all old mid new body first rest is one two =
    let whole = appends_both old mid new (spelled_u64 (length body) ++ first) rest one two in
    rw (parts body first rest is) whole
