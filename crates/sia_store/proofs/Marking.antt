-- The marks of slots that are put, brought onto the disk, or freed.
use Rattle.std.proofs.Common.{◌≡◌, ◌≢◌, ◌⊎◌, inl, inr, ℕ, zero, suc, ◌+◌, ◌<◌, ◌≤◌, List, [], ◌∷◌, length, take, drop, map, set, min, Bool, true, false, refl, sym, ap, subst, ◌∙◌, arith}
use Rattle.std.specs.Prelude.{slice_index_or}
use Rattle.std.specs.List.{All, Contains}
use Rattle.std.proofs.lemmas.List.{get_or-set_same, get_or-set_other, get_or-take, get_or-map, get_or_default, length-map, length-take}
use Rattle.std.proofs.lemmas.List.Elements.{All-more}
use Rattle.std.proofs.Math.Seq.{drop-cons}
use Rattle.std.proofs.Math.ListN.{get_or-map as get_or-map_at}
use Rattle.sia_shelf.specs.declared.mark.Mark.{Mark}
use Rattle.sia_shelf.specs.declared.mark.Mark.TheVariants as mark
use Rattle.sia_shelf.specs.Shelf.{IsFirstFree, free_slots, mark_of, settled}
use Rattle.sia_commands.specs.declared.step.PutJob.{PutJob}
use Rattle.sia_store.specs.Lying.{AreLive, MarksPut, put_slots}

-- the next sector's slot is the first that is free
pub next_free : (puts : List PutJob) (free : List ℕ) (i : ℕ) (d : PutJob) → put_slots puts ≡ take (length puts) free → i < length puts
    → drop i free ≡ (slice_index_or puts i d).slot ∷ drop (i + 1) free
next_free puts free i d are lt =
    let long : length puts ≤ length free = omega (arith, ap length are, length-map puts (λ (p : PutJob). p.slot), length-take (length puts) free) in
    let here : slice_index_or free i d.slot ≡ (slice_index_or puts i d).slot =
    sym (get_or-take (length puts) free i d.slot lt) ∙ (ap (λ l. slice_index_or l i d.slot) (sym are) ∙ get_or-map_at (λ (p : PutJob). p.slot) puts i d) in
    let next : drop i free ≡ slice_index_or free i d.slot ∷ drop (suc i) free = drop-cons free i d.slot (omega (arith, lt, long)) in
    let one : suc i ≡ i + 1 = omega arith in
    next ∙ (ap (λ s. s ∷ drop (suc i) free) here ∙ ap (λ n. (slice_index_or puts i d).slot ∷ drop n free) one)

-- the law of the first free slot
abbrev pub FirstFreeLaw : Type 0
FirstFreeLaw = (marks : List Mark) (slot : ℕ) (others : List ℕ) → free_slots marks ≡ slot ∷ others
    → IsFirstFree marks slot × ((to : Mark) → to ≢ mark.Free → free_slots (set marks slot to) ≡ others)

-- the next sector's slot may be put, and then the others are free
pub can_put : FirstFreeLaw → (marks : List Mark) (puts : List PutJob) (free : List ℕ) (i : ℕ) (x : PutJob) → put_slots puts ≡ take (length puts) free → i < length puts
    → x ≡ slice_index_or puts i x → free_slots marks ≡ drop i free → IsFirstFree marks x.slot × (free_slots (set marks x.slot mark.Put) ≡ drop (i + 1) free)
can_put law marks puts free i x are lt is now =
    let next : free_slots marks ≡ x.slot ∷ drop (i + 1) free = now ∙ (next_free puts free i x are lt ∙ ap (λ (p : PutJob). p.slot ∷ drop (i + 1) free) (sym is)) in
    let by = law marks x.slot (drop (i + 1) free) next in
    (by.0, by.1 mark.Put (λ same. cc))

-- each of the free slots is free
pub are_free : FirstFreeLaw → (free : List ℕ) (marks : List Mark) → free_slots marks ≡ free → (k d : ℕ) → k < length free → mark_of marks (slice_index_or free k d) ≡ mark.Free
are_free law [] marks is k d lt = absurd (omega (arith, lt))
are_free law (slot ∷ others) marks is zero d lt = (law marks slot others is).0.free
are_free law (slot ∷ others) marks is (suc k) d lt =
    let by = law marks slot others is in
    let rest = are_free law others (set marks slot mark.Put) (by.1 mark.Put (λ same. cc)) k d (omega (arith, lt)) in
    let here = get_or-set_same marks slot mark.Put mark.Free by.0.there in
    sym (get_or-set_other marks slot (slice_index_or others k d) mark.Put mark.Free
    (λ same. let clash : mark.Put ≡ mark.Free = sym here ∙ (ap (mark_of (set marks slot mark.Put)) (sym same) ∙ rest) in cc)) ∙ rest

-- and so are the slots of the sectors
pub put_free : FirstFreeLaw → (puts : List PutJob) (marks : List Mark) → put_slots puts ≡ take (length puts) (free_slots marks)
    → (slot : ℕ) → Contains (put_slots puts) slot → mark_of marks slot ≡ mark.Free
put_free law puts marks are slot there =
    let lt : there.0 < length (take (length puts) (free_slots marks)) = omega (arith, there.1, ap length are) in
    let n : length (take (length puts) (free_slots marks)) ≡ min (length puts) (length (free_slots marks)) = length-take (length puts) (free_slots marks) in
    let at : slice_index_or (free_slots marks) there.0 slot ≡ slot =
    sym (get_or-take (length puts) (free_slots marks) there.0 slot (omega (arith, lt, n))) ∙ (ap (λ l. slice_index_or l there.0 slot) (sym are) ∙ there.2) in
    ap (mark_of marks) (sym at) ∙ are_free law (free_slots marks) marks refl there.0 slot (omega (arith, lt, n))

-- a slot that was put stays so when another one is
pub put_more : (marks : List Mark) (slot other : ℕ) → mark_of marks slot ≡ mark.Free → mark_of marks other ≡ mark.Put → mark_of (set marks slot mark.Put) other ≡ mark.Put
put_more marks slot other free put =
    get_or-set_other marks slot other mark.Put mark.Free (λ same. let clash : mark.Put ≡ mark.Free = sym put ∙ ap (mark_of marks) same ∙ free in cc) ∙ put

-- the slots of the sectors so far
pub all_put_more : (marks : List Mark) (puts : List PutJob) (i : ℕ) (d : PutJob) → i < length puts → IsFirstFree marks (slice_index_or puts i d).slot
    → All (λ (p : PutJob). mark_of marks p.slot ≡ mark.Put) (take i puts)
    → All (λ (p : PutJob). mark_of (set marks (slice_index_or puts i d).slot mark.Put) p.slot ≡ mark.Put) (take (i + 1) puts)
all_put_more marks puts i d lt first put =
    let slot = (slice_index_or puts i d).slot in
    let same : (e : PutJob) → mark_of (set marks slot mark.Put) (slice_index_or puts i e).slot ≡ mark.Put = λ e.
    ap (λ (p : PutJob). mark_of (set marks slot mark.Put) p.slot) (get_or_default puts i e d lt) ∙ get_or-set_same marks slot mark.Put mark.Free first.there in
    All-more (λ (p : PutJob). mark_of (set marks slot mark.Put) p.slot ≡ mark.Put) puts i d lt (λ k e lk. put_more marks slot (slice_index_or (take i puts) k e).slot first.free (put k e lk)) (same d)

-- a slot of a sector is one of the slots
pub slot_there : (puts : List PutJob) (i : ℕ) (d : PutJob) → i < length puts → Contains (put_slots puts) (slice_index_or puts i d).slot
slot_there puts i d lt =
    let at = (slice_index_or puts i d).slot in
    (i, omega (arith, lt, length-map puts (λ (p : PutJob). p.slot)), get_or-map (λ (p : PutJob). p.slot) puts i d at lt)

-- and the other way round
pub slot_of : (puts : List PutJob) (slot : ℕ) (d : PutJob) → ((c : Contains (put_slots puts) slot) → (c.0 < length puts) × ((slice_index_or puts c.0 d).slot ≡ slot))
slot_of puts slot d c =
    let lt : c.0 < length puts = omega (arith, c.1, length-map puts (λ (p : PutJob). p.slot)) in
    (lt, sym (get_or-map (λ (p : PutJob). p.slot) puts c.0 d slot lt) ∙ c.2)

-- other slots stay as they were
pub others_more : (old marks : List Mark) (puts : List PutJob) (i : ℕ) (d : PutJob) → i < length puts
    → ((slot : ℕ) → (Contains (put_slots puts) slot → ⊥) → mark_of marks slot ≡ mark_of old slot)
    → (slot : ℕ) → (Contains (put_slots puts) slot → ⊥) → mark_of (set marks (slice_index_or puts i d).slot mark.Put) slot ≡ mark_of old slot
others_more old marks puts i d lt others slot not =
    get_or-set_other marks (slice_index_or puts i d).slot slot mark.Put mark.Free (λ same. not (subst (Contains (put_slots puts)) (sym same) (slot_there puts i d lt))) ∙ others slot not

-- the marks after a sync
pub marks_put : (old marks : List Mark) (puts : List PutJob) → length marks ≡ length old → All (λ (p : PutJob). mark_of marks p.slot ≡ mark.Put) puts
    → ((slot : ℕ) → (Contains (put_slots puts) slot → ⊥) → mark_of marks slot ≡ mark_of old slot)
    → MarksPut (put_slots puts) old (map settled marks)
marks_put old marks puts count put others = record {
  count = length-map marks settled ∙ count;
  put = λ slot there.
      let d : PutJob = record { slot = 0; bytes = [] } in
      let at = slot_of puts slot d there in
      get_or-map_at settled marks slot mark.Free ∙ ap settled (ap (mark_of marks) (sym at.1) ∙ put there.0 d at.0);
  others = λ slot not. get_or-map_at settled marks slot mark.Free ∙ ap settled (others slot not);
}
