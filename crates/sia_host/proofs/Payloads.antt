-- Payloads, and the records that they are.
use Rattle.std.proofs.Common.{◌≡◌, ◌≢◌, ◌∙◌, ℕ, Bool, true, false, List, [], length, Some, None, Result, Ok, Err, IfOk, append-nil, sym, ap, arith}
use Rattle.std.proofs.lemmas.List.{take_all}
use Rattle.sia_encoding.specs.declared.fault.DecodeFault.{DecodeFault}
use Rattle.sia_encoding.specs.declared.fault.DecodeFault.TheVariants as fault
use Rattle.sia_encoding.specs.Decoding.{IsDecoded}
use Rattle.sia_encoding.specs.Reading.{fault_told}
use Rattle.sia_records.specs.declared.host_record.HostRecord.{HostRecord}
use Rattle.sia_records.specs.HostRecords.{host_record}
use Rattle.sia_records.specs.HostRecordLaws.{host_record_law}
use Rattle.sia_host.specs.Answered.{Host, record_payload}
use Rattle.sia_host.specs.Replaying.{IsPayload, IsReplayed, ReplaysPayload, replays}
use Rattle.sia_host.proofs.Spelled.{same_spelling}

-- what is read to the end is the record
pub read_whole : (payload : List ℕ) (made : HostRecord) (taken : ℕ) → IsDecoded host_record payload (length payload) (Ok (made, taken)) → taken ≡ length payload → IsPayload payload made
read_whole payload made taken is all = record {
  fits = is.spelled_so.0;
  whole = sym (take_all taken payload (omega arith)) ∙ is.spelled_so.1;
}

-- what is not read to the end is none
pub read_part : (payload : List ℕ) (made : HostRecord) (taken : ℕ) → IsDecoded host_record payload (length payload) (Ok (made, taken)) → taken ≢ length payload → (other : HostRecord) → ¬ IsPayload payload other
read_part payload made taken is part other spells =
    let read : (made, taken) ≡ (other, length (record_payload other)) = is.read_back other [] spells.fits (spells.whole ∙ sym (append-nil (record_payload other))) in
    part (ap (λ (r : HostRecord × ℕ). r.1) read ∙ sym (ap length spells.whole))

-- what can't be read, but for want of memory, is none
pub read_none : (payload : List ℕ) (e told : DecodeFault) → IsDecoded host_record payload (length payload) (Err e) → Some told ≡ fault_told e → (other : HostRecord) → ¬ IsPayload payload other
read_none payload e told is some other spells =
    let memory : e ≡ fault.Memory = is.read_back other [] spells.fits (spells.whole ∙ sym (append-nil (record_payload other))) in
    absurd (let none : Some told ≡ None = some ∙ ap fault_told memory in cc)

-- a payload is one record at most
one_record : (payload : List ℕ) (made other : HostRecord) → IsPayload payload made → IsPayload payload other → other ≡ made
one_record payload made other is spells = same_spelling host_record_law (length payload) other made spells.fits is.fits (sym spells.whole ∙ is.whole)

replays_by : (accepts : List ℕ → List ℕ → List ℕ → Bool) (h : Host) (payload : List ℕ) (made : HostRecord) (follows : Bool) (after : Host) → IsPayload payload made → IsReplayed accepts h made follows after → ReplaysPayload accepts h payload follows after
replays_by accepts h payload made true after is replayed = (made, is, sym replayed.judged, replayed.host)
replays_by accepts h payload made false after is replayed =
    ((λ other spells. ap (replays accepts h) (one_record payload made other is spells) ∙ sym replayed.judged), replayed.host)

-- a payload is replayed as its record is
pub payload_replays : {E : Type 0} (accepts : List ℕ → List ℕ → List ℕ → Bool) (h : Host) (payload : List ℕ) (made : HostRecord) (result : Result Bool E) (after : Host) → IsPayload payload made
    → IfOk result (λ follows. IsReplayed accepts h made follows after) → IfOk result (λ follows. ReplaysPayload accepts h payload follows after)
payload_replays accepts h payload made (Ok follows) after is replayed = replays_by accepts h payload made follows after is replayed
payload_replays accepts h payload made (Err e) after is replayed = tt

-- and what is none doesn't follow
pub none_replays : (accepts : List ℕ → List ℕ → List ℕ → Bool) (h after : Host) (payload : List ℕ) → ((made : HostRecord) → ¬ IsPayload payload made) → after ≡ h → ReplaysPayload accepts h payload false after
none_replays accepts h after payload none same = ((λ made spells. absurd (none made spells)), same)
