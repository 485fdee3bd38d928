-- What a put of sectors leaves of a shelf's images.
use Rattle.std.proofs.Common.{◌≡◌, ◌≢◌, ℕ, ◌+◌, ◌<◌, List, length, take, refl, sym, ap, subst, ◌∙◌, arith}
use Rattle.std.specs.Prelude.{slice_index_or}
use Rattle.std.specs.List.{All, Contains}
use Rattle.std.proofs.lemmas.List.Elements.{All-more}
use Rattle.sia_edge.specs.Disk.{Standing, Changed, Changes, Leaves, images_of}
use Rattle.sia_edge.proofs.Runs.{started, goes_on, left_last}
use Rattle.sia_shelf.specs.Slots.{Has, KeepsOthers}
use Rattle.sia_shelf.specs.Shelf.{mark_of}
use Rattle.sia_shelf.specs.declared.mark.Mark.{Mark}
use Rattle.sia_shelf.specs.declared.mark.Mark.TheVariants as mark
use Rattle.sia_commands.specs.declared.step.PutJob.{PutJob}
use Rattle.sia_store.specs.Lying.{KeepsBut, put_slots}

-- no put changes nothing
pub none_changed : (disk : Standing) (sector : ℕ) (slots : List ℕ) → Changes (KeepsBut sector slots) disk disk
none_changed disk sector slots = started disk (Changed (KeepsBut sector slots) (images_of disk)) (λ image left. (image, left, λ other bytes not has. has))

-- a put into one of the slots
pub one_kept : (sector slot : ℕ) (slots old new : List ℕ) → Contains slots slot → KeepsOthers sector slot old new → KeepsBut sector slots old new
one_kept sector slot slots old new there keeps = λ other bytes not has. keeps other bytes (λ same. not (subst (Contains slots) (sym same) there)) has

-- one put more
pub more_changed : {old mid new : Standing} (sector slot : ℕ) (slots : List ℕ) → Contains slots slot → Changes (KeepsBut sector slots) old mid → Changes (KeepsOthers sector slot) mid new
    → Changes (KeepsBut sector slots) old new
more_changed {old} {mid} {new} sector slot slots there run on = goes_on run on (λ image from.
    let before = left_last run from.0 from.1 in
    (before.0, before.1, λ other bytes not has. one_kept sector slot slots from.0 image there from.2 other bytes not (before.2 other bytes not has)))

-- a sync more
pub still_changed : {old mid new : Standing} (sector : ℕ) (slots : List ℕ) → Changes (KeepsBut sector slots) old mid → Leaves (images_of mid) mid new → Changes (KeepsBut sector slots) old new
still_changed sector slots run on = goes_on run on (left_last run)

-- the sectors so far lie in their slots
pub wrote_more : (sector : ℕ) (marks : List Mark) (puts : List PutJob) (i : ℕ) (d : PutJob) (old new : List ℕ) → i < length puts
    → mark_of marks (slice_index_or puts i d).slot ≡ mark.Free → All (λ (p : PutJob). mark_of marks p.slot ≡ mark.Put) (take i puts)
    → KeepsOthers sector (slice_index_or puts i d).slot old new → Has sector (slice_index_or puts i d).slot (slice_index_or puts i d).bytes new
    → All (λ (p : PutJob). Has sector p.slot p.bytes old) (take i puts)
    → All (λ (p : PutJob). Has sector p.slot p.bytes new) (take (i + 1) puts)
wrote_more sector marks puts i d old new lt free put keeps has wrote =
    All-more (λ (p : PutJob). Has sector p.slot p.bytes new) puts i d lt
    (λ k e lk.
    let p = slice_index_or (take i puts) k e in
    keeps p.slot p.bytes (λ same. let clash : mark.Put ≡ mark.Free = sym (put k e lk) ∙ (ap (mark_of marks) same ∙ free) in cc) (wrote k e lk))
    has
