-- What a read makes, section by section.
use Rattle.std.proofs.Common.{◌≡◌, ℕ, ◌+◌, ◌<◌, ◌≤◌, nat_eq, true, false, List, [], ◌∷◌, ◌++◌, length, get_or, drop, Some, refl, sym, ◌∙◌, append_assoc, append-nil, add-one, drop-cons}
use Rattle.std.proofs.Math.ListN.{drop_of_length-le}
use Rattle.std.proofs.lemmas.List.{nil_from_length}
use Rattle.sia_rhp.specs.declared.answer_bodies.Part.{Part}
use Rattle.sia_rhp.specs.declared.request_bodies.Section.{Section}
use Rattle.sia_records.specs.Fitting.{section_fits}
use Rattle.sia_records.specs.Reads.{are_served, part_of, parts}
use Rattle.sia_records.specs.Making.{ArePartsMade, PartsSoFar}

-- no section
abbrev no_section : Section
no_section = record { root = []; offset = 0; length = 0 }

-- the sections that are left at a place
left_at : (sections : List Section) (i : ℕ) → i < length sections → drop i sections ≡ get_or sections i no_section ∷ drop (i + 1) sections
left_at sections i within = let front = drop-cons sections i no_section within in let next = add-one i in cc

-- one section more, at its place
pub parts_next : (sections : List Section) (i n : ℕ) (fetched rest others : List (List ℕ)) (sector : List ℕ) (made : List Part) → i < length sections → rest ≡ sector ∷ others → n ≡ length sector → true ≡ section_fits n (get_or sections i no_section) → PartsSoFar sections (drop i sections) fetched rest made → PartsSoFar sections (drop (i + 1) sections) fetched others (made ++ part_of (get_or sections i no_section) sector ∷ [])
unfolding are_served parts
parts_next sections i n fetched rest others sector made within front long fits so_far =
    let section = get_or sections i no_section in
    let fit : section_fits (length sector) section ≡ true = rw (← long) (sym fits) in
    record {
      done = so_far.done ∙ (rw (left_at sections i within, front) (sym (append_assoc made (part_of section sector ∷ []) (parts (drop (i + 1) sections) others))));
      served = so_far.served ∙ (rw (left_at sections i within, front, fit) refl);
    }

-- a section whose range isn't fit ends it
pub part_unfit : (sections : List Section) (i n : ℕ) (fetched rest others : List (List ℕ)) (sector : List ℕ) (made : List Part) → i < length sections → rest ≡ sector ∷ others → n ≡ length sector → false ≡ section_fits n (get_or sections i no_section) → PartsSoFar sections (drop i sections) fetched rest made → are_served sections fetched ≡ false
unfolding are_served
part_unfit sections i n fetched rest others sector made within front long fits so_far =
    let fit : section_fits (length sector) (get_or sections i no_section) ≡ false = rw (← long) (sym fits) in
    so_far.served ∙ (rw (left_at sections i within, front, fit) refl)

-- as does a section that no sector is left for
pub part_missing : (sections : List Section) (i : ℕ) (fetched rest : List (List ℕ)) (made : List Part) → i < length sections → length rest ≡ 0 → PartsSoFar sections (drop i sections) fetched rest made → are_served sections fetched ≡ false
unfolding are_served
part_missing sections i fetched rest made within none so_far =
    so_far.served ∙ (rw (left_at sections i within, nil_from_length rest none) refl)

-- and a sector that is left
pub part_left : (sections : List Section) (i : ℕ) (fetched rest : List (List ℕ)) (made : List Part) → length sections ≤ i → false ≡ nat_eq (length rest) 0 → PartsSoFar sections (drop i sections) fetched rest made → are_served sections fetched ≡ false
unfolding are_served
part_left sections i fetched rest made ended some so_far = so_far.served ∙ (rw (drop_of_length-le sections {i = i} ended) (sym some))

-- behind the last section all is made
pub parts_made : (sections : List Section) (i : ℕ) (fetched rest : List (List ℕ)) (made : List Part) → length sections ≤ i → true ≡ nat_eq (length rest) 0 → PartsSoFar sections (drop i sections) fetched rest made → ArePartsMade sections fetched (Some made)
unfolding are_served parts
parts_made sections i fetched rest made ended none so_far =
    let over = drop_of_length-le sections {i = i} ended in
    (so_far.served ∙ (rw over (sym none)), sym (so_far.done ∙ (rw (over, append-nil made) refl)))
