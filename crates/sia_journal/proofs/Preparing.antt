-- An opening, call by call.
use Rattle.std.proofs.Common.{◌≡◌, inl, inr, ℕ, ◌^◌, ◌<◌, ◌≤◌, List, [], ◌∷◌, ◌++◌, length, Result, Ok, IfOk, sym, ap, subst, ◌∙◌, arith}
use Rattle.sia_edge.specs.Disk.{Standing, IsSettled, EachImage, Leaves, Quiet, Settles, images_of}
use Rattle.sia_edge.specs.declared.disk.Did.{Did}
use Rattle.sia_edge.specs.declared.disk.Did.TheVariants as did
use Rattle.sia_edge.proofs.Runs.{goes_on, weaken}
use Rattle.sia_journal.specs.declared.scan.Last.{Last}
use Rattle.sia_journal.specs.Listed.{HEADER, FRESH, IsFew, IsDamaged, frames, at_rest, listed}
use Rattle.sia_journal.specs.Journal.{Holds, HoldsListed, MidAppend}
use Rattle.sia_journal.specs.Opening.{IsRepaired, IsFound, IsMended, IsReopened}
use Rattle.sia_journal.proofs.Listing.{listed_few}
use Rattle.sia_journal.proofs.Appending.{in_two, length-front}
use Rattle.sia_journal.proofs.Repairing.{few_records, file_found, found_listed, repair_mid}

-- a file that lists something isn't damaged
undamaged : (header : List ℕ) (limit : ℕ) (records : List (List ℕ)) (file : List ℕ) → listed header limit file ≡ Ok records → IsDamaged header limit file → ⊥
undamaged header limit records file lists damaged =
    let P : Result (List (List ℕ)) ℕ → Type 0 = λ r. IfOk r (λ all. ⊥) in
    subst P lists (subst P (sym damaged.1) tt)

-- a sync that was done leaves one image
pub settled : (disk : Standing) {result : Did} → result ≡ did.Done → Settles result disk → IsSettled disk
settled disk is given =
    let P : Did → Type 0 = λ r. Settles r disk in
    subst P is given

module _ (header : List ℕ) (size : length header ≡ HEADER) (limit : ℕ) (bounded : limit < 2 ^ 64) where
  -- what an opening leaves of a disk whose images all have P
  reopened : {P : List ℕ → Type 0} {old new : Standing} → EachImage P old → images_of old old.seen
      → (P old.seen → IsFew old.seen → (file : List ℕ) → IsFew file → P file)
      → (P old.seen → (file : List ℕ) → IsMended header limit old.seen file → P file)
      → Leaves (IsReopened header limit old) old new → Leaves P old new
  reopened {P} {old} {new} each as_read fresh mended leaves = weaken leaves (λ file left. elim left [
    | inl was ↦ each file was
    | inr made ↦ elim made [
      | inl few ↦ fresh (each old.seen as_read) few.0 file few.1
      | inr end ↦ mended (each old.seen as_read) file end
    ]
  ])

  -- few bytes stay few
  pub reopened_few : {old new : Standing} → EachImage IsFew old → images_of old old.seen → Leaves (IsReopened header limit old) old new → Leaves IsFew old new
  reopened_few {old} {new} each as_read = reopened {P = IsFew} each as_read (λ was few file made. made) (λ was file end. absurd (omega (arith, was, end.long)))

  -- what an append left midway stays so
  pub reopened_mid : (records : List (List ℕ)) (payload : List ℕ) {old new : Standing} → EachImage (MidAppend header limit records payload) old → images_of old old.seen
      → Leaves (IsReopened header limit old) old new → Leaves (MidAppend header limit records payload) old new
  reopened_mid records payload {old} {new} each as_read = reopened {P = MidAppend header limit records payload} each as_read
      (λ was few file made. inl (record { none = few_records header limit records payload old.seen size few was; few = made }))
      (λ was file end. repair_mid header size limit bounded records end.found.ends.records payload end.last.gate end.found.ends.behind old.seen end.found.ends.shut
      (file_found header size limit bounded old.seen end.last end.found) end.within end.long was file end.repaired)

  -- a repair of what was found
  pub reopened_end : {old second next : Standing} (first : Standing) {last : Last} (found : IsFound header first.seen last) → first.seen ≡ old.seen → Quiet old second
      → FRESH < length first.seen → length first.seen ≤ limit → Leaves (IsRepaired (header ++ frames found.ends.records) last.gate found.ends.behind) second next
      → Leaves (IsReopened header limit old) old next
  reopened_end {old} {second} {next} first {last} found same quiet long within leaves =
      goes_on (weaken quiet.leaves (λ file was. inl was)) leaves (λ file end.
      let P : List ℕ → Type 0 = λ seen. IsMended header limit seen file in
      inr (inr (subst P same (record { last = last; found = found; long = long; within = within; repaired = end }))))

  -- where the front of a file ends, and what stands there
  pub front_found : (file : List ℕ) (last : Last) (found : IsFound header file last) → length (header ++ frames found.ends.records) ≡ last.place
  front_found file last found = length-front header found.ends.records size ∙ sym found.ends.stands

  pub split_found : (file : List ℕ) (last : Last) (found : IsFound header file last) → file ≡ (header ++ frames found.ends.records) ++ last.gate ∷ found.ends.behind
  split_found file last found = file_found header size limit bounded file last found ∙ in_two header found.ends.records (last.gate ∷ found.ends.behind)

  pub few_undamaged : (begin first : Standing) → first.seen ≡ begin.seen → length first.seen ≤ FRESH → IsDamaged header limit begin.seen → ⊥
  few_undamaged begin first same few =
      undamaged header limit [] begin.seen (listed_few header limit begin.seen (omega (arith, few, ap length same)))

  pub found_undamaged : (begin first : Standing) {last : Last} → IsFound header first.seen last → first.seen ≡ begin.seen → length first.seen ≤ limit
      → IsDamaged header limit begin.seen → ⊥
  found_undamaged begin first {last} found same within =
      undamaged header limit found.ends.records begin.seen
      (ap (listed header limit) (sym same) ∙ found_listed header size limit bounded first.seen last found within)

  pub opened : (begin first next : Standing) {last : Last} (found : IsFound header first.seen last) → first.seen ≡ begin.seen → length first.seen ≤ limit
      → next.seen ≡ (header ++ frames found.ends.records) ++ 0 ∷ [] → IsSettled next → HoldsListed header limit begin next
  opened begin first next {last} found same within now only =
      let is : next.seen ≡ at_rest header found.ends.records = now ∙ sym (in_two header found.ends.records (0 ∷ [])) in
      record {
        records = found.ends.records;
        lists = ap (listed header limit) (sym same) ∙ found_listed header size limit bounded first.seen last found within;
        holds = record { sized = size; is = is; only = λ file left. only file left ∙ is };
      }

  pub opened_fresh : {begin next : Standing} → length begin.seen ≤ FRESH → Holds header [] next → HoldsListed header limit begin next
  opened_fresh {begin} few holds = record { records = []; lists = listed_few header limit begin.seen few; holds = holds }
