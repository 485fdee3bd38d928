-- Finding the last gate: the order of the causes.
use Rattle.std.proofs.Common.{◌≡◌, ℕ, ◌^◌, ◌<◌, ◌≤◌, Bool, true, false, not, IsTrue, List, length, take, refl, sym, ap, subst, ◌∙◌, arith}
use Rattle.std.proofs.lemmas.Bool.Decides.{Decides-eqb}
use Rattle.std.proofs.lemmas.Slice.Eq.{slice_eq-Decides}
use Rattle.std.specs.Str.{bytes_eq}
use Rattle.sia_edge.specs.Disk.{Standing, Quiet}
use Rattle.sia_journal.specs.declared.fault.JournalFault.{JournalFault}
use Rattle.sia_journal.specs.declared.fault.JournalFault.TheVariants as fault
use Rattle.sia_journal.specs.Listed.{HEADER, FRESH}
use Rattle.sia_journal.specs.Journal.{OpenCause}
use Rattle.sia_journal.specs.Opening.{BreaksAt, WalkCause}
use Rattle.sia_journal.proofs.Repairing.{breaks_listed}

false_not : (b : Bool) → false ≡ not b → b ≡ true
false_not true same = refl
false_not false same = same

pub other_header : (file header front : List ℕ) (differ : Bool) → front ≡ take HEADER file → differ ≡ not (bytes_eq front header) → differ ≡ true
    → take HEADER file ≡ header → ⊥
other_header file header front differ read test is same =
    let equal : bytes_eq front header ≡ true = (slice_eq-Decides Decides-eqb front header _ refl).1 (read ∙ same) in
    let never : differ ≡ false = test ∙ ap not equal in
    cc (never, is)

pub this_header : (file header front : List ℕ) (differ : Bool) → front ≡ take HEADER file → differ ≡ not (bytes_eq front header) → differ ≡ false
    → take HEADER file ≡ header
this_header file header front differ read test is =
    sym read ∙ (slice_eq-Decides Decides-eqb front header _ refl).0 (false_not (bytes_eq front header) (sym is ∙ test))

module _ (tells : Bool) (header : List ℕ) (limit : ℕ) {old : Standing} (size : IsTrue tells → length header ≡ HEADER) (bounded : limit < 2 ^ 64)
    (begins : IsTrue tells → take HEADER old.seen ≡ header) (long : FRESH < length old.seen) (within : length old.seen ≤ limit) where
  pub walk_cause : {mid : Standing} (new : Standing) → Quiet old mid → (cause : JournalFault) → WalkCause tells mid new cause → OpenCause tells header limit old new cause
  walk_cause new quiet fault.Memory given = tt
  walk_cause new quiet fault.Disk given = omega (arith, quiet.leaves.time.counted, given)
  walk_cause new quiet (fault.Damaged place) given = λ told.
      let P : List ℕ → Type 0 = λ f. BreaksAt f place in
      breaks_listed header (size told) limit bounded old.seen place (subst P quiet.same (given told)) (begins told) long within
  walk_cause new quiet (fault.Full need most) given = given
