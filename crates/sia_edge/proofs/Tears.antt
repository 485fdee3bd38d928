-- Nothing done and all done are among what a crash leaves of a write or a cut.
use Rattle.std.proofs.Common.{◌≡◌, ◌++◌, ℕ, ◌+◌, ◌≤◌, min, max, List, length, take, drop, arith, sym, ◌∙◌, refl, inl, inr}
use Rattle.std.proofs.lemmas.Bool.{cases_lt}
use Rattle.std.proofs.lemmas.List.{take-take, take_at, drop_at, take_all, length-take, length-drop, length-append, append_assoc}
use Rattle.sia_edge.specs.Disk.{Torn, Shortened, overwritten}

pub take_least : (n : ℕ) (xs : List ℕ) → take (min n (length xs)) xs ≡ take n xs
take_least n xs = elim (cases_lt n (length xs)) [
  | inl lt ↦ let e : min n (length xs) ≡ n = omega (arith, lt) in rw e refl
  | inr le ↦ let e : min n (length xs) ≡ length xs = omega (arith, le) in rw e (take_all (length xs) xs (omega arith) ∙ sym (take_all n xs le))
]

pub torn_none : (at n : ℕ) (c : List ℕ) → Torn at n c c
torn_none at n c = record { before = take_least at c; after = refl; no_shorter = omega arith; no_longer = omega arith }

pub length-overwritten : (old bytes : List ℕ) (at : ℕ) → at ≤ length old
    → length (overwritten old at bytes) ≡ max (length old) (at + length bytes)
length-overwritten old bytes at inside =
    omega (
      arith,
      length-append (take at old ++ bytes) (drop (at + length bytes) old),
      length-append (take at old) bytes,
      length-take at old,
      length-drop (at + length bytes) old,
    )

pub torn_all : (at : ℕ) (bytes old : List ℕ) → at ≤ length old → Torn at (length bytes) old (overwritten old at bytes)
torn_all at bytes old inside =
    let front : length (take at old) ≡ at = omega (arith, length-take at old) in
    let both : length (take at old ++ bytes) ≡ at + length bytes = omega (arith, length-append (take at old) bytes, front) in
    let least : min at (length old) ≡ at = omega arith in
    record {
      before = rw (least, append_assoc (take at old) bytes (drop (at + length bytes) old)) (take_at (take at old) (bytes ++ drop (at + length bytes) old) at front);
      after = drop_at (take at old ++ bytes) (drop (at + length bytes) old) (at + length bytes) both;
      no_shorter = omega (arith, length-overwritten old bytes at inside);
      no_longer = omega (arith, length-overwritten old bytes at inside);
    }

pub shortened_none : (n : ℕ) (image : List ℕ) → Shortened n image image
shortened_none n image = record { no_shorter = omega arith; no_longer = omega arith; front = take_least n image }

pub shortened_all : (n : ℕ) (old : List ℕ) → Shortened n old (take n old)
shortened_all n old = record {
  no_shorter = omega (arith, length-take n old);
  no_longer = omega (arith, length-take n old);
  front = take-take (min n (length old)) n old (omega arith) ∙ take_least n old;
}
