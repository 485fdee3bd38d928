-- Records that are replayed one behind the other.
use Rattle.std.proofs.Common.{◌≡◌, ℕ, ◌++◌, List, [], ◌∷◌, Bool, true, false, refl, sym, ap, subst, ◌∙◌, append_assoc, append-nil}
use Rattle.std.proofs.lemmas.Bool.{false≢true}
use Rattle.sia_edge.specs.Disk.{Standing, Quiet}
use Rattle.sia_edge.proofs.Runs.{quiet_only}
use Rattle.sia_journal.specs.Listed.{place_after}
use Rattle.sia_journal.specs.Journal.{Holds, NextIs}
use Rattle.sia_records.specs.declared.host_record.HostRecord.{HostRecord}
use Rattle.sia_host.specs.Answered.{Host}
use Rattle.sia_host.specs.Spoiling.{is_spoiled}
use Rattle.sia_host.specs.Replaying.{IsPayload, ReplaysPayload, replays, with_made}
use Rattle.sia_book.specs.Opening.{BreaksOff, Replayed}
use Rattle.sia_book.specs.Books.{SameRun}

-- a quiet call leaves what a journal holds
pub still_holds : {old new : Standing} (header : List ℕ) (records : List (List ℕ)) → Quiet old new → Holds header records old → Holds header records new
still_holds header records quiet holds = record { sized = holds.sized; is = quiet.same ∙ holds.is; only = quiet_only quiet holds.only }

-- one record more
pub replayed_more : (accepts : List ℕ → List ℕ → List ℕ → Bool) (h mid after : Host) (front : List (List ℕ)) (payload : List ℕ)
    → Replayed accepts h front mid → ReplaysPayload accepts mid payload true after → Replayed accepts h (front ++ payload ∷ []) after
replayed_more accepts h mid after [] payload is next =
    let P : Host → Type 0 = λ m. Replayed accepts m (payload ∷ []) after in
    subst P is (next.0, next.1, next.2, next.3)
replayed_more accepts h mid after (p ∷ front) payload (made, spelled, follows, rest) next =
    (made, spelled, follows, replayed_more accepts (with_made h made) mid after front payload rest next)

-- what was left to be read, and now is read
pub read_on : (read left records : List (List ℕ)) (place : ℕ) (out : List ℕ) (answer : Bool) → records ≡ read ++ left → answer ≡ true → NextIs read left [] place out answer
    → (others : List (List ℕ)) × (records ≡ (read ++ out ∷ []) ++ others) × (records ≡ read ++ out ∷ others) × (place ≡ place_after (read ++ out ∷ []))
read_on read [] records place out answer is was next = absurd (false≢true (sym next ∙ was))
read_on read (payload ∷ others) records place out answer is was next =
    let Q : List ℕ → Type 0 = λ p. (others : List (List ℕ)) × (records ≡ (read ++ p ∷ []) ++ others) × (records ≡ read ++ p ∷ others) × (place ≡ place_after (read ++ p ∷ [])) in
    subst Q (sym next.1) (others, is ∙ sym (append_assoc read (payload ∷ []) others), is, next.2)

-- nothing is left
pub read_all : (read left records : List (List ℕ)) (place : ℕ) (out : List ℕ) (answer : Bool) → records ≡ read ++ left → answer ≡ false → NextIs read left [] place out answer → records ≡ read
read_all read [] records place out answer is was next = is ∙ append-nil read
read_all read (payload ∷ others) records place out answer is was next = absurd (false≢true (sym was ∙ next.0))

-- a record that was replayed leaves all but the state and the phase
pub same_run : (accepts : List ℕ → List ℕ → List ℕ → Bool) (old mid new : Host) (payload : List ℕ) → SameRun old mid → ReplaysPayload accepts mid payload true new
    → SameRun old new × (is_spoiled new.phase ≡ false)
same_run accepts old mid new payload same next =
    let P : Host → Type 0 = λ h. SameRun old h × (is_spoiled h.phase ≡ false) in
    subst P (sym next.3) (record { settings = same.settings; margin = same.margin; seed = same.seed; events = same.events }, refl)
