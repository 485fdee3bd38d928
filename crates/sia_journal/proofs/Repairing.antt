-- What an opening leaves.
use Rattle.std.proofs.Common.{◌≡◌, ◌≢◌, inl, inr, ℕ, ◌+◌, ◌^◌, ◌<◌, ◌≤◌, List, [], ◌∷◌, ◌++◌, length, take, drop, get_or, Result, Ok, Err, refl, sym, ap, subst, ◌∙◌, append_assoc, length-append, arith}
use Rattle.std.specs.Result.{result_unwrap_or}
use Rattle.std.proofs.lemmas.List.{append_cancel_left, take_at, take-append-drop, nil_from_length}
use Rattle.std.proofs.lemmas.Bool.{cases_eq}
use Rattle.sia_encoding.specs.Spelling.{spelled_bytes}
use Rattle.sia_edge.specs.Disk.{Standing, Torn, Shortened, overwritten, IsSettled, EachImage, Changes, Leaves}
use Rattle.sia_edge.proofs.Runs.{weaken, step_of_only}
use Rattle.sia_journal.specs.declared.scan.Last.{Last}
use Rattle.sia_journal.specs.Listed.{HEADER, FRESH, IsFew, frames, file_of, listed}
use Rattle.sia_journal.specs.Journal.{MidAppend}
use Rattle.sia_journal.specs.Opening.{IsRepaired, IsFound, BreaksAt}
use Rattle.sia_journal.proofs.Frames.{count_within}
use Rattle.sia_journal.proofs.Listing.{length-file, listed_closed, listed_broken, file_push}
use Rattle.sia_journal.proofs.Tearing.{torn_within, written_within, written_at_end, shortened_behind}
use Rattle.sia_journal.proofs.Appending.{in_two}

-- the repair of an end

module _ (front behind : List ℕ) (place gate : ℕ) (size : length front ≡ place) where
  abbrev was : List ℕ
  was = front ++ gate ∷ behind

  closed_two : (rest : List ℕ) → front ++ 0 ∷ rest ≡ (front ++ 0 ∷ []) ++ rest
  closed_two rest = sym (append_assoc front (0 ∷ []) rest)

  closed_size : length (front ++ 0 ∷ []) ≡ place + 1
  closed_size = omega (arith, size, length-append front (0 ∷ []))

  cut_torn : (file : List ℕ) → Shortened (place + 1) (front ++ 0 ∷ behind) file → IsRepaired front gate behind file
  cut_torn file short =
      let P : List ℕ → Type 0 = λ f. Shortened (place + 1) f file in
      let cut = shortened_behind (front ++ 0 ∷ []) (place + 1) closed_size behind file (subst P (closed_two behind) short) in
      inr (drop (place + 1) file, cut.0, cut.1 ∙ sym (closed_two (drop (place + 1) file)))

  pub cut_done : take (place + 1) (front ++ 0 ∷ behind) ≡ front ++ 0 ∷ []
  cut_done = ap (take (place + 1)) (closed_two behind) ∙ take_at (front ++ 0 ∷ []) behind (place + 1) closed_size

  pub was_closed : (seen : List ℕ) → seen ≡ was → gate ≡ 0 → seen ≡ front ++ 0 ∷ behind
  was_closed seen is zero_gate = is ∙ ap (λ g. front ++ g ∷ behind) zero_gate

  pub now_closed : (seen next : List ℕ) → seen ≡ was → next ≡ overwritten seen place (0 ∷ []) → next ≡ front ++ 0 ∷ behind
  now_closed seen next is wrote = wrote ∙ ap (λ f. overwritten f place (0 ∷ [])) is ∙ written_within front place size gate behind 0

  pub cut_leaves : {old new : Standing} → old.seen ≡ front ++ 0 ∷ behind → IsSettled old → Changes (Shortened (place + 1)) old new
      → Leaves (IsRepaired front gate behind) old new
  cut_leaves is only changes = weaken (step_of_only only changes) (λ file short.
      let P : List ℕ → Type 0 = λ f. Shortened (place + 1) f file in
      cut_torn file (subst P is short))

  pub gate_leaves : {old new : Standing} → old.seen ≡ was → gate ≢ 0 → IsSettled old → Changes (Torn place 1) old new
      → Leaves (IsRepaired front gate behind) old new
  gate_leaves is other only changes = weaken (step_of_only only changes) (λ file torn.
      let P : List ℕ → Type 0 = λ f. Torn place 1 f file in
      inl (get_or file place 0, other, torn_within front place size gate behind file (subst P is torn)))

-- what was found is what was appended

same_ok : (a b : List (List ℕ)) (r : Result (List (List ℕ)) ℕ) → r ≡ Ok a → r ≡ Ok b → a ≡ b
same_ok a b r first second = ap (λ s. result_unwrap_or s a) (sym first ∙ second)

tail_same : (a b : ℕ) (xs ys : List ℕ) → a ∷ xs ≡ b ∷ ys → (a ≡ b) × (xs ≡ ys)
tail_same a b xs ys same = (ap (λ (l : List ℕ). get_or l 0 0) same, ap (λ (l : List ℕ). drop 1 l) same)

pub few_records : (header : List ℕ) (limit : ℕ) (records : List (List ℕ)) (payload file : List ℕ) → length header ≡ HEADER → length file ≤ FRESH
    → MidAppend header limit records payload file → records ≡ []
few_records header limit records payload file size few (inl fresh) = fresh.none
few_records header limit records payload file size few (inr (inl closed)) =
    nil_from_length records (omega (arith, few, ap length closed.is, length-file header records (0 ∷ closed.behind) size, count_within records))
few_records header limit records payload file size few (inr (inr staged)) =
    nil_from_length records (omega (arith, few, ap length staged.is, length-file header records (staged.gate ∷ (spelled_bytes payload ++ 0 ∷ [])) size, count_within records))

module _ (header : List ℕ) (size : length header ≡ HEADER) (limit : ℕ) (bounded : limit < 2 ^ 64) where
  pub file_found : (file : List ℕ) (last : Last) (found : IsFound header file last) → file ≡ file_of header found.ends.records (last.gate ∷ found.ends.behind)
  file_found file last found =
      sym (take-append-drop HEADER file) ∙ ap (λ l. l ++ drop HEADER file) found.begins ∙ ap (λ l. header ++ l) found.ends.is

  pub found_listed : (file : List ℕ) (last : Last) (found : IsFound header file last) → length file ≤ limit → listed header limit file ≡ Ok found.ends.records
  found_listed file last found within =
      let is = file_found file last found in
      let P : List ℕ → Type 0 = λ f. length f ≤ limit in
      ap (listed header limit) is ∙ listed_closed header size limit bounded found.ends.records last.gate found.ends.behind found.ends.shut (subst P is within)

  pub breaks_listed : (file : List ℕ) (place : ℕ) (breaks : BreaksAt file place) → take HEADER file ≡ header → FRESH < length file → length file ≤ limit
      → listed header limit file ≡ Err place
  breaks_listed file place breaks begins long within =
      let is : file ≡ file_of header breaks.records breaks.behind =
      sym (take-append-drop HEADER file) ∙ ap (λ l. l ++ drop HEADER file) begins ∙ ap (λ l. header ++ l) breaks.is in
      let P : List ℕ → Type 0 = λ f. length f ≤ limit in
      let Q : List ℕ → Type 0 = λ f. FRESH < length f in
      ap (listed header limit) is ∙ listed_broken header size limit bounded breaks.records breaks.behind breaks.broken (subst Q is long) (subst P is within)
      ∙ ap Err (sym breaks.stands)

  module _ (records found : List (List ℕ)) (payload : List ℕ) (gate : ℕ) (behind file : List ℕ) (shut : gate ≢ 1)
      (is : file ≡ file_of header found (gate ∷ behind)) (within : length file ≤ limit) where
    lists : listed header limit file ≡ Ok found
    lists =
        let P : List ℕ → Type 0 = λ f. length f ≤ limit in
        ap (listed header limit) is ∙ listed_closed header size limit bounded found gate behind shut (subst P is within)

    -- another reading of the same file, behind a gate that isn't open
    same_file : (others : List (List ℕ)) (other : ℕ) (rest : List ℕ) → other ≢ 1 → file ≡ file_of header others (other ∷ rest)
        → (found ≡ others) × (gate ≡ other) × (behind ≡ rest)
    same_file others other rest closed is' =
        let P : List ℕ → Type 0 = λ f. length f ≤ limit in
        let lists' : listed header limit file ≡ Ok others =
        ap (listed header limit) is' ∙ listed_closed header size limit bounded others other rest closed (subst P is' within) in
        let same : found ≡ others = same_ok found others (listed header limit file) lists lists' in
        let files : file_of header others (gate ∷ behind) ≡ file_of header others (other ∷ rest) =
        ap (λ r. file_of header r (gate ∷ behind)) (sym same) ∙ sym is ∙ is' in
        let ends = append_cancel_left (frames others) (gate ∷ behind) (other ∷ rest) (append_cancel_left header _ _ files) in
        let both = tail_same gate other behind rest ends in
        (same, both.0, both.1)

    shorter : (file' : List ℕ) → IsRepaired (header ++ frames found) gate behind file' → length file' ≤ length file
    shorter file' (inl torn) = omega (
      arith,
      ap length torn.2,
      ap length (is ∙ in_two header found (gate ∷ behind)),
      length-append (header ++ frames found) (torn.0 ∷ behind),
      length-append (header ++ frames found) (gate ∷ behind),
    )
    shorter file' (inr cut) = omega (
      arith,
      ap length cut.2,
      ap length (is ∙ in_two header found (gate ∷ behind)),
      length-append (header ++ frames found) (0 ∷ cut.0),
      length-append (header ++ frames found) (gate ∷ behind),
      cut.1,
    )

    -- a repair of such a file is such a file
    pub repair_mid : FRESH < length file → MidAppend header limit records payload file → (file' : List ℕ)
        → IsRepaired (header ++ frames found) gate behind file' → MidAppend header limit records payload file'
    repair_mid long (inl fresh) file' repaired = absurd (omega (arith, long, fresh.few))
    repair_mid long (inr (inl closed)) file' repaired =
        let same = same_file records 0 closed.behind (omega arith) closed.is in
        elim repaired [
          | inl torn ↦ absurd (torn.1 same.1)
          | inr cut ↦ inr (inl (record {
            within = omega (arith, within, shorter file' (inr cut));
            behind = cut.0;
            is = cut.2 ∙ sym (in_two header found (0 ∷ cut.0)) ∙ ap (λ r. file_of header r (0 ∷ cut.0)) same.0;
          }))
        ]
    repair_mid long (inr (inr staged)) file' repaired = elim (cases_eq staged.gate 1) [
      | inl open_gate ↦
          let all = records ++ payload ∷ [] in
          let whole : file ≡ file_of header all (0 ∷ []) =
          staged.is ∙ ap (λ g. file_of header records (g ∷ (spelled_bytes payload ++ 0 ∷ []))) open_gate ∙ file_push header records payload (0 ∷ []) in
          let same = same_file all 0 [] (omega arith) whole in
          elim repaired [
            | inl torn ↦ absurd (torn.1 same.1)
            | inr cut ↦
                let none : cut.0 ≡ [] = nil_from_length cut.0 (omega (arith, cut.1, ap length same.2)) in
                let is' : file' ≡ file = cut.2 ∙ sym (in_two header found (0 ∷ cut.0)) ∙ ap (λ l. file_of header found (0 ∷ l)) none
                ∙ ap (λ r. file_of header r (0 ∷ [])) same.0 ∙ sym whole in
                inr (inr (record { within = omega (arith, within, shorter file' (inr cut)); gate = staged.gate; is = is' ∙ staged.is }))
          ]
      | inr closed ↦
          let same = same_file records staged.gate (spelled_bytes payload ++ 0 ∷ []) closed staged.is in
          elim repaired [
            | inl torn ↦ inr (inr (record {
              within = omega (arith, within, shorter file' (inl torn));
              gate = torn.0;
              is = torn.2 ∙ sym (in_two header found (torn.0 ∷ behind)) ∙ ap (λ r. file_of header r (torn.0 ∷ behind)) same.0 ∙ ap (λ l. file_of header records (torn.0 ∷ l)) same.2;
            }))
            | inr cut ↦ inr (inl (record {
              within = omega (arith, within, shorter file' (inr cut));
              behind = cut.0;
              is = cut.2 ∙ sym (in_two header found (0 ∷ cut.0)) ∙ ap (λ r. file_of header r (0 ∷ cut.0)) same.0;
            }))
          ]
    ]

-- few bytes stay few

pub few_cut : {old new : Standing} (len : ℕ) → EachImage IsFew old → Changes (Shortened len) old new → Leaves IsFew old new
few_cut len few changes = weaken changes (λ file from. omega (arith, few from.0 from.1, from.2.no_longer))

pub few_written : {old new : Standing} (count : ℕ) → count ≤ FRESH → EachImage IsFew old → Changes (Torn 0 count) old new → Leaves IsFew old new
few_written count small few changes = weaken changes (λ file from. omega (arith, small, few from.0 from.1, from.2.no_longer))

-- the file of no records, written
pub fresh_written : (before first last file : List ℕ) → first ≡ take 0 before → last ≡ overwritten first 0 file → last ≡ file
fresh_written before first last file cut wrote = wrote ∙ ap (λ f. overwritten f 0 file) cut ∙ written_at_end [] 0 refl file
