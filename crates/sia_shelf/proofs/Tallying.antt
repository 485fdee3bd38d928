-- What a shelf keeps of its marks, after each change of a mark.
use Rattle.std.proofs.Common.{◌≡◌, ◌≢◌, ℕ, zero, suc, ◌+◌, ◌-◌, ◌*◌, ◌<◌, ◌≤◌, min, max, cond, true, false, List, [], ◌∷◌, ◌++◌, get_or, length, map, set, replicate, take, drop, count_by, get_or-set_same, get_or-set_other, arith, refl, sym, ap, ◌∙◌, inl, inr}
use Rattle.std.proofs.lemmas.Bool.{cases_lt, cases_eq}
use Rattle.std.proofs.lemmas.List.{length-set, length-map, length-take, get_or_past, get_or-take, get_or-drop, drop-drop, map-append, take-append-drop, append_assoc}
use Rattle.std.proofs.lemmas.List.Sums.{sum_by-set, sum_by-cons}
use Rattle.std.proofs.lemmas.List.Folds.{sum_by-replicate}
use Rattle.std.proofs.Math.ListN.{get_or-map}
use Rattle.sia_shelf.proofs.Finding.{taken_here}
use Rattle.sia_shelf.proofs.Marking.{mark_of-free}
use Rattle.sia_shelf.specs.Shelf.{IsFirstFree, LowerTaken, free_from, is_free, mark_of, settled}
use Rattle.sia_shelf.specs.Tallies.{Tallies}
use Rattle.sia_shelf.specs.declared.mark.Mark.{Mark}
use Rattle.sia_shelf.specs.declared.mark.Mark.TheVariants as mark

-- a free mark counts one
abbrev pub one_if_free : Mark → ℕ
one_if_free it = cond (is_free it) 1 0

pub count_set : (marks : List Mark) (slot : ℕ) (to : Mark) → slot < length marks
    → count_by is_free (set marks slot to) + one_if_free (mark_of marks slot) ≡ count_by is_free marks + one_if_free to
count_set marks slot to lt = sum_by-set one_if_free marks slot to mark.Free lt

-- there is such a slot where its mark isn't that of a free one
pub is_there : (marks : List Mark) (slot : ℕ) → mark_of marks slot ≢ mark.Free → slot < length marks
is_there marks slot taken = elim (cases_lt slot (length marks)) [ inl lt ↦ lt | inr le ↦ absurd (taken (get_or_past marks slot mark.Free le)) ]

pub put_tallied : (free low from to slot : ℕ) (marks : List Mark) → Tallies free low from to marks → IsFirstFree marks slot
    → Tallies (free - 1) (slot + 1) (min from slot) (max to (slot + 1)) (set marks slot mark.Put)
put_tallied free low from to slot marks was first =
    let one : one_if_free (mark_of marks slot) ≡ 1 = ap one_if_free first.free in
    record {
      counted = omega (arith, was.counted, one, count_set marks slot mark.Put first.there);
      low_within = omega (arith, first.there, length-set marks slot mark.Put);
      lower = λ lower lt. elim (cases_eq lower slot) [
        | inl same ↦ (λ free. let is : mark.Put ≡ mark.Free = sym (get_or-set_same marks slot mark.Put mark.Free first.there) ∙ ap (mark_of (set marks slot mark.Put)) (sym same) ∙ free in cc)
        | inr other ↦ (λ free. first.lower lower (omega (arith, lt, other)) (sym (get_or-set_other marks slot lower mark.Put mark.Free other) ∙ free))
      ];
      from_within = omega (arith, was.from_within);
      to_within = omega (arith, was.to_within, first.there, length-set marks slot mark.Put);
      puts = λ at put. elim (cases_eq at slot) [
        | inl same ↦ (omega (arith, same), omega (arith, same))
        | inr other ↦
            let before = was.puts at (sym (get_or-set_other marks slot at mark.Put mark.Free other) ∙ put) in
            (omega (arith, before.0), omega (arith, before.1))
      ];
    }

pub live_tallied : (free low from to slot : ℕ) (marks : List Mark) → Tallies free low from to marks → slot < length marks
    → Tallies (free - one_if_free (mark_of marks slot)) low from to (set marks slot mark.Live)
live_tallied free low from to slot marks was there = record {
  counted = omega (arith, was.counted, count_set marks slot mark.Live there);
  low_within = omega (arith, was.low_within, length-set marks slot mark.Live);
  lower = λ lower lt. elim (cases_eq lower slot) [
    | inl same ↦ (λ free. let is : mark.Live ≡ mark.Free = sym (get_or-set_same marks slot mark.Live mark.Free there) ∙ ap (mark_of (set marks slot mark.Live)) (sym same) ∙ free in cc)
    | inr other ↦ (λ free. was.lower lower lt (sym (get_or-set_other marks slot lower mark.Live mark.Free other) ∙ free))
  ];
  from_within = was.from_within;
  to_within = omega (arith, was.to_within, length-set marks slot mark.Live);
  puts = λ at put. elim (cases_eq at slot) [
    | inl same ↦ (let is : mark.Live ≡ mark.Put = sym (get_or-set_same marks slot mark.Live mark.Free there) ∙ ap (mark_of (set marks slot mark.Live)) (sym same) ∙ put in cc)
    | inr other ↦ was.puts at (sym (get_or-set_other marks slot at mark.Live mark.Free other) ∙ put)
  ];
}

pub free_tallied : (free low from to slot : ℕ) (marks : List Mark) → Tallies free low from to marks → mark_of marks slot ≡ mark.Live
    → Tallies (free + 1) (min low slot) from to (set marks slot mark.Free)
free_tallied free low from to slot marks was live =
    let there = is_there marks slot (λ empty. let no_mark : mark.Live ≡ mark.Free = sym live ∙ empty in cc) in
    let none : one_if_free (mark_of marks slot) ≡ 0 = ap one_if_free live in
    record {
      counted = omega (arith, was.counted, none, count_set marks slot mark.Free there);
      low_within = omega (arith, was.low_within, length-set marks slot mark.Free);
      lower = λ lower lt empty. was.lower lower (omega (arith, lt)) (sym (get_or-set_other marks slot lower mark.Free mark.Free (λ same. omega (arith, lt, same))) ∙ empty);
      from_within = was.from_within;
      to_within = omega (arith, was.to_within, length-set marks slot mark.Free);
      puts = λ at put. elim (cases_eq at slot) [
        | inl same ↦ (let is : mark.Free ≡ mark.Put = sym (get_or-set_same marks slot mark.Free mark.Free there) ∙ ap (mark_of (set marks slot mark.Free)) (sym same) ∙ put in cc)
        | inr other ↦ was.puts at (sym (get_or-set_other marks slot at mark.Free mark.Free other) ∙ put)
      ];
    }

settled_free : (it : Mark) → settled it ≡ mark.Free → it ≡ mark.Free
settled_free mark.Free same = refl
settled_free mark.Put same = let is : mark.Live ≡ mark.Free = same in cc
settled_free mark.Live same = let is : mark.Live ≡ mark.Free = same in cc

settled_put : (it : Mark) → settled it ≡ mark.Put → ⊥
settled_put mark.Free same = let is : mark.Free ≡ mark.Put = same in cc
settled_put mark.Put same = let is : mark.Live ≡ mark.Put = same in cc
settled_put mark.Live same = let is : mark.Live ≡ mark.Put = same in cc

pub count_settled : (marks : List Mark) → count_by is_free (map settled marks) ≡ count_by is_free marks
count_settled [] = refl
count_settled (mark.Free ∷ rest) = omega (arith, count_settled rest, sum_by-cons one_if_free mark.Free rest, sum_by-cons one_if_free mark.Free (map settled rest))
count_settled (mark.Put ∷ rest) = omega (arith, count_settled rest, sum_by-cons one_if_free mark.Put rest, sum_by-cons one_if_free mark.Live (map settled rest))
count_settled (mark.Live ∷ rest) = omega (arith, count_settled rest, sum_by-cons one_if_free mark.Live rest, sum_by-cons one_if_free mark.Live (map settled rest))

pub settled_tallied : (free low from to : ℕ) (marks : List Mark) → Tallies free low from to marks → Tallies free low low low (map settled marks)
settled_tallied free low from to marks was = record {
  counted = omega (arith, was.counted, count_settled marks);
  low_within = omega (arith, was.low_within, length-map marks settled);
  lower = λ lower lt empty. was.lower lower lt (settled_free (mark_of marks lower) (sym (get_or-map settled marks lower mark.Free) ∙ empty));
  from_within = omega arith;
  to_within = omega (arith, was.low_within, length-map marks settled);
  puts = λ at put. absurd (settled_put (mark_of marks at) (sym (get_or-map settled marks at mark.Free) ∙ put));
}

-- where none was put a sync changes nothing
settled_none : (marks : List Mark) → ((slot : ℕ) → mark_of marks slot ≢ mark.Put) → map settled marks ≡ marks
settled_none [] none = refl
settled_none (mark.Free ∷ rest) none = ap (λ l. mark.Free ∷ l) (settled_none rest (λ slot. none (suc slot)))
settled_none (mark.Put ∷ rest) none = absurd (none 0 refl)
settled_none (mark.Live ∷ rest) none = ap (λ l. mark.Live ∷ l) (settled_none rest (λ slot. none (suc slot)))

-- the marks where those from `from` to before `to` are settled
pub settled_part : (free low from to : ℕ) (marks : List Mark) → Tallies free low from to marks
    → take from marks ++ map settled (take (to - from) (drop from marks)) ++ drop to marks ≡ map settled marks
settled_part free low from to marks was =
    let front = take from marks in
    let middle = take (to - from) (drop from marks) in
    let front_size : length front ≡ from = omega (arith, length-take from marks, was.from_within, was.to_within) in
    let split : front ++ (middle ++ drop to marks) ≡ marks =
    ap (λ l. front ++ l) (ap (λ l. middle ++ l) (let sum : from + (to - from) ≡ to = omega (arith, was.from_within) in ap (λ k. drop k marks) (sym sum) ∙ sym (drop-drop (to - from) from marks)) ∙ take-append-drop (to - from) (drop from marks))
    ∙ take-append-drop from marks in
    let first : map settled front ≡ front = settled_none front (λ slot put. elim (cases_lt slot from) [
      | inl lt ↦ (let within = (was.puts slot (sym (get_or-take from marks slot mark.Free lt) ∙ put)).0 in omega (arith, within, lt))
      | inr le ↦ (let is : mark.Free ≡ mark.Put = sym (get_or_past front slot mark.Free (omega (arith, le, front_size))) ∙ put in cc)
    ]) in
    let last : map settled (drop to marks) ≡ drop to marks = settled_none (drop to marks) (λ slot put.
    let within = (was.puts (to + slot) (sym (get_or-drop to marks slot mark.Free) ∙ put)).1 in omega (arith, within)) in
    append_assoc front (map settled middle) (drop to marks)
    ∙ ap (λ l. l ++ (map settled middle ++ drop to marks)) (sym first)
    ∙ ap (λ l. map settled front ++ (map settled middle ++ l)) (sym last)
    ∙ ap (λ l. map settled front ++ l) (sym (map-append settled middle (drop to marks)))
    ∙ sym (map-append settled front (middle ++ drop to marks))
    ∙ ap (map settled) split

pub fresh_tallied : (slots : ℕ) → Tallies slots 0 0 0 (replicate slots mark.Free)
fresh_tallied slots = record {
  counted = sym (all_free slots);
  low_within = omega arith;
  lower = λ lower lt. absurd (omega (arith, lt));
  from_within = omega arith;
  to_within = omega arith;
  puts = λ at put. let is : mark.Free ≡ mark.Put = sym (mark_of-free slots at) ∙ put in cc;
}
  where
    all_free : (slots : ℕ) → count_by is_free (replicate slots mark.Free) ≡ slots
    all_free slots = sum_by-replicate one_if_free slots mark.Free ∙ (let times : slots * 1 ≡ slots = omega arith in times)

-- no slot below is free
pub skip_taken : (low first : ℕ) (marks : List Mark) → LowerTaken marks low → low ≤ length marks → free_from (first + low) (drop low marks) ≡ free_from first marks
skip_taken zero first marks lower within = let sum : first + 0 ≡ first = omega arith in ap (λ k. free_from k marks) sum
skip_taken (suc low) first [] lower within = absurd (omega (arith, within))
skip_taken (suc low) first (mark.Free ∷ rest) lower within = absurd (lower 0 (omega arith) refl)
skip_taken (suc low) first (mark.Put ∷ rest) lower within =
    let sum : first + suc low ≡ first + 1 + low = omega arith in
    ap (λ k. free_from k (drop low rest)) sum ∙ skip_taken low (first + 1) rest (λ at lt. lower (suc at) (omega (arith, lt))) (omega (arith, within))
skip_taken (suc low) first (mark.Live ∷ rest) lower within =
    let sum : first + suc low ≡ first + 1 + low = omega arith in
    ap (λ k. free_from k (drop low rest)) sum ∙ skip_taken low (first + 1) rest (λ at lt. lower (suc at) (omega (arith, lt))) (omega (arith, within))

-- the first of the free slots
abbrev FirstOf : ℕ → List Mark → ℕ → List ℕ → Type 0
FirstOf first marks slot others =
    (at : ℕ) × (slot ≡ first + at) × IsFirstFree marks at × ((to : Mark) → to ≢ mark.Free → free_from first (set marks at to) ≡ others)

more_taken : (first : ℕ) (it : Mark) (rest : List Mark) (slot : ℕ) (others : List ℕ) → is_free it ≡ false → FirstOf (first + 1) rest slot others → FirstOf first (it ∷ rest) slot others
more_taken first it rest slot others taken found = (
  suc found.0,
  omega (arith, found.1),
  record {
    there = omega (arith, found.2.there);
    free = found.2.free;
    lower = lower_taken it rest found.0 taken found.2.lower;
  },
  λ to other. taken_here first it (set rest found.0 to) taken ∙ found.3 to other,
)
  where
    lower_taken : (it : Mark) (rest : List Mark) (at : ℕ) → is_free it ≡ false → LowerTaken rest at → LowerTaken (it ∷ rest) (suc at)
    lower_taken it rest at taken lower zero lt empty = let is : true ≡ false = sym (ap is_free empty) ∙ taken in cc
    lower_taken it rest at taken lower (suc low) lt empty = lower low (omega (arith, lt)) empty

pub first_of : (first : ℕ) (marks : List Mark) (slot : ℕ) (others : List ℕ) → free_from first marks ≡ slot ∷ others → FirstOf first marks slot others
first_of first [] slot others is = let none : [] ≡ slot ∷ others = is in cc
first_of first (mark.Free ∷ rest) slot others is =
    let here : first ∷ free_from (first + 1) rest ≡ slot ∷ others = is in (
      0,
      omega (arith, ap (λ (l : List ℕ). get_or l 0 0) here),
      record { there = omega arith; free = refl; lower = λ low lt. absurd (omega (arith, lt)) },
      λ to other. taken_here first to rest (not_free to other) ∙ ap (λ (l : List ℕ). drop 1 l) here,
    )
  where
    not_free : (to : Mark) → to ≢ mark.Free → is_free to ≡ false
    not_free mark.Free other = absurd (other refl)
    not_free mark.Put other = refl
    not_free mark.Live other = refl
first_of first (mark.Put ∷ rest) slot others is = more_taken first mark.Put rest slot others refl (first_of (first + 1) rest slot others is)
first_of first (mark.Live ∷ rest) slot others is = more_taken first mark.Live rest slot others refl (first_of (first + 1) rest slot others is)
