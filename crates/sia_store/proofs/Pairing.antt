-- What a pair of images opens as, after each step of an act.
use Rattle.std.proofs.Common.{◌≡◌, ◌≢◌, ◌⊎◌, inl, inr, ⊎_elim, ℕ, zero, suc, ◌<◌, ◌≤◌, ◌^◌, ◌==◌, List, [], ◌∷◌, ◌++◌, length, take, map, find, Bool, true, false, Option, Some, None, if◌then◌else◌, Result, Ok, Err, refl, sym, ap, subst, ◌∙◌, arith}
use Rattle.std.specs.Prelude.{slice_index_or}
use Rattle.std.specs.List.{All, Contains}
use Rattle.std.proofs.lemmas.Bool.{eq-eqb}
use Rattle.std.proofs.lemmas.Bool.Decides.{eqb_tells}
use Rattle.std.proofs.lemmas.List.Elements.{All-tail, All-head, All-contains}
use Rattle.sia_edge.specs.Disk.{Standing, Changes, Leaves, EachImage, images_of, images_since}
use Rattle.sia_edge.proofs.Runs.{started, weaken, now_since}
use Rattle.sia_journal.specs.declared.journal.Journal.{Journal}
use Rattle.sia_journal.specs.Listed.{HEADER, at_rest, listed}
use Rattle.sia_journal.specs.Journal.{Holds, IsReady, ListsEither}
use Rattle.sia_shelf.specs.Slots.{Has}
use Rattle.sia_shelf.specs.declared.mark.Mark.{Mark}
use Rattle.sia_shelf.specs.declared.mark.Mark.TheVariants as mark
use Rattle.sia_shelf.specs.Shelf.{mark_of}
use Rattle.sia_commands.specs.declared.step.PutJob.{PutJob}
use Rattle.sia_store.specs.Lying.{HoldsAll, KeepsBut, lying_over, put_slots}
use Rattle.sia_store.specs.Storing.{AreFrom, Either, EachPair, LeavesPairs, OpensWith, OpensAsEither, Stands}
use Rattle.sia_store.proofs.Marking.{slot_there}

-- the law that a whole journal within its limit lists its records
abbrev pub AtRestLists : Type 0
AtRestLists = (header : List ℕ) (limit : ℕ) (records : List (List ℕ)) → length header ≡ HEADER → limit < 2 ^ 64 → length (at_rest header records) ≤ limit
    → listed header limit (at_rest header records) ≡ Ok records

-- each file that a crash may leave of a journal that holds records lists them
pub lists_held : {J : Type 0} (standing : J → Standing) (journal : Journal J) {header : List ℕ} {records : List (List ℕ)}
    → AtRestLists → IsReady standing journal → Holds header records (standing journal.disk)
    → EachImage (λ file. listed header journal.limit file ≡ Ok records) (standing journal.disk)
lists_held standing journal {header} {records} law ready holds = λ file left.
    let within : length (at_rest header records) ≤ journal.limit = omega (arith, ap length holds.is, ready.ends, ready.within) in
    ap (listed header journal.limit) (holds.only file left) ∙ law header journal.limit records holds.sized (omega (arith, ready.bounded)) within

-- what lies in a slot, by whether the first sector is put into it
lies_first : (lies : ℕ → List ℕ) (p : PutJob) (puts : List PutJob) (slot : ℕ) → p.slot ≡ slot → lying_over lies (p ∷ puts) slot ≡ p.bytes
lies_first lies p puts slot same = rw (eq-eqb p.slot slot same) refl

lies_later : (lies : ℕ → List ℕ) (p : PutJob) (puts : List PutJob) (slot : ℕ) → p.slot ≢ slot → lying_over lies (p ∷ puts) slot ≡ lying_over lies puts slot
lies_later lies p puts slot other =
    let no : (p.slot == slot) ≡ false = ⊎_elim (λ yes. absurd (other yes.1)) (λ no. no.0) (eqb_tells p.slot slot) in
    rw no refl

-- what lies in a slot into which nothing is put
lies_still : (lies : ℕ → List ℕ) (puts : List PutJob) (slot : ℕ) → (Contains (put_slots puts) slot → ⊥) → lying_over lies puts slot ≡ lies slot
lies_still lies [] slot not = refl
lies_still lies (p ∷ puts) slot not =
    lies_later lies p puts slot (λ same. not (0, omega arith, same)) ∙ lies_still lies puts slot (λ c. not (suc c.0, omega (arith, c.1), c.2))

-- a slot that is put: of the first sector, or of one behind it
later_slot : (p : PutJob) (puts : List PutJob) (slot : ℕ) → p.slot ≢ slot → Contains (put_slots (p ∷ puts)) slot → Contains (put_slots puts) slot
later_slot p puts slot other (zero, lt, is) = absurd (other is)
later_slot p puts slot other (suc k, lt, is) = (k, omega (arith, lt), is)

-- what lies in a slot into which a sector is put
abbrev LiesPut : (ℕ → List ℕ) → List PutJob → ℕ → Type 0
LiesPut lies puts slot = (p : PutJob) × Contains puts p × (p.slot ≡ slot) × (lying_over lies puts slot ≡ p.bytes)

lies_by : (lies : ℕ → List ℕ) (p : PutJob) (puts : List PutJob) (slot : ℕ) → (p.slot ≡ slot) ⊎ (p.slot ≢ slot) → (p.slot ≢ slot → LiesPut lies puts slot) → LiesPut lies (p ∷ puts) slot
lies_by lies p puts slot (inl same) more = (p, (0, omega arith, refl), same, lies_first lies p puts slot same)
lies_by lies p puts slot (inr other) more =
    let q = more other in
    (q.0, (suc q.1.0, omega (arith, q.1.1), q.1.2), q.2, lies_later lies p puts slot other ∙ q.3)

pub lies_put : (lies : ℕ → List ℕ) (puts : List PutJob) (slot : ℕ) → Contains (put_slots puts) slot → LiesPut lies puts slot
lies_put lies [] slot there = absurd (omega (arith, there.1))
lies_put lies (p ∷ puts) slot there =
    lies_by lies p puts slot (⊎_elim (λ yes. inl yes.1) (λ no. inr no.1) (eqb_tells p.slot slot)) (λ other. lies_put lies puts slot (later_slot p puts slot other there))

module _ (sector : ℕ) (lies : ℕ → List ℕ) (puts : List PutJob) (old new : List ℕ) (apart : (slot : ℕ) → Contains old slot → Contains (put_slots puts) slot → ⊥) (from : AreFrom old (put_slots puts) new) where
  -- what lay in the slots of the records before, lies there still
  old_holds : (before image : List ℕ) → KeepsBut sector (put_slots puts) before image → HoldsAll sector lies old before → HoldsAll sector (lying_over lies puts) old image
  old_holds before image keeps holds = λ slot there.
      let P : List ℕ → Type 0 = λ bytes. Has sector slot bytes image in
      subst P (sym (lies_still lies puts slot (apart slot there))) (keeps slot (lies slot) (apart slot there) (holds slot there))

  -- and those of the new record hold theirs
  new_holds : (image : List ℕ) → HoldsAll sector (lying_over lies puts) old image → All (λ (p : PutJob). Has sector p.slot p.bytes image) puts → HoldsAll sector (lying_over lies puts) new image
  new_holds image holds put = λ slot there. ⊎_elim
      (λ was. holds slot was)
      (λ now.
      let p = lies_put lies puts slot now in
      let P : ℕ → List ℕ → Type 0 = λ s bytes. Has sector s bytes image in
      let has : P p.0.slot p.0.bytes = All-contains (λ (p : PutJob). Has sector p.slot p.bytes image) puts p.0 put p.1 in
      let Q : ℕ → Type 0 = λ s. P s p.0.bytes in
      subst (P slot) (sym p.3) (subst Q p.2 has))
      (from slot there)

  module _ (header : List ℕ) (limit : ℕ) (records : List (List ℕ)) (payload : List ℕ) where
    abbrev both : Either
    both = record { old = records; old_slots = old; new = records ++ payload ∷ []; new_slots = new }

    abbrev Opens : List ℕ → List ℕ → Type 0
    Opens = OpensAsEither header limit sector (lying_over lies puts) both

    module _ {begin end : Standing} (holds : EachImage (HoldsAll sector lies old) begin) (changes : Changes (KeepsBut sector (put_slots puts)) begin end) where
      pub still : (image : List ℕ) → images_since begin end image → HoldsAll sector (lying_over lies puts) old image
      still image left = let before = changes.images image left in old_holds before.0 image before.2 (holds before.0 before.1)

      -- the journal wasn't touched
      pub untouched : (journal : Standing) → EachImage (λ file. listed header limit file ≡ Ok records) journal → LeavesPairs Opens journal journal begin end
      untouched journal lists = record {
        first = λ file image is left. inl (record { lists = lists file is; holds = still image left });
        second = λ file image is left. inl (record { lists = lists file is; holds = still image (now_since changes.time image left) });
      }

      -- the sectors are in each image, and then the record was appended or not
      module _ (put : All (λ (p : PutJob). EachImage (Has sector p.slot p.bytes) end) puts) where
        pub after : EachImage (HoldsAll sector (lying_over lies puts) new) end
        after image left = new_holds image (still image (now_since changes.time image left)) (λ k d lt. put k d lt image left)

        pub appended : {begin_ end_ : Standing} → EachImage (λ file. listed header limit file ≡ Ok records) begin_ → Leaves (ListsEither header limit records payload) begin_ end_
            → LeavesPairs Opens begin_ end_ begin end
        appended lists either = record {
          first = λ file image is left. inl (record { lists = lists file is; holds = still image left });
          second = λ file image is left. elim (either.images file is) [
            | inl was ↦ inl (record { lists = was; holds = still image (now_since changes.time image left) })
            | inr now ↦ inr (record { lists = now; holds = after image left })
          ];
        }
