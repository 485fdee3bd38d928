-- What is known of a write that isn't refused.
use Rattle.std.proofs.Common.{◌≡◌, ℕ, suc, ◌+◌, Bool, true, false, List, [], ◌∷◌, length, Result, Ok, Err, Option, Some, None, refl, sym, ap, ◌∙◌, arith}
use Rattle.std.specs.Prelude.{count_by, if◌then◌else◌}
use Rattle.std.specs.List.{flat_map}
use Rattle.std.proofs.lemmas.List.Sums.{sum_by-append}
use Rattle.sia_encoding.specs.Answer.{◌>>=◌, unless}
use Rattle.sia_diff.specs.DiffSteps.{is_fit}
use Rattle.sia_diff.proofs.Counts.{left_of_and, right_of_and}
use Rattle.sia_rhp.specs.declared.action.Action.{Action}
use Rattle.sia_rhp.specs.declared.action.Action.TheVariants as actions
use Rattle.sia_records.specs.Writes.{Prepared, is_prepared, left_behind, new_by, puts_sector, sectors_of, steps_of, with_sectors}
use Rattle.sia_commands.specs.declared.step.Room.{Room}
use Rattle.sia_host.specs.Answered.{Host}
use Rattle.sia_kept.specs.State.{Kept}
use Rattle.sia_host.specs.Paying.{unrefused}
use Rattle.sia_host.specs.Writing.{can_write, write_fault}

-- the sectors that actions put
abbrev news : List Action → List (List ℕ) → List (List ℕ)
news all fetched = flat_map (λ done. new_by done.action done.old) (with_sectors all fetched)

new_counted : (all : List Action) (fetched : List (List ℕ)) → count_by puts_sector all ≡ length (news all fetched)
unfolding with_sectors
new_counted [] fetched = refl
new_counted (actions.Append bytes ∷ others) fetched =
    let rest : count_by puts_sector others ≡ length (news others fetched) = new_counted others fetched in
    let head : count_by puts_sector (actions.Append bytes ∷ others) ≡ 0 + 1 + count_by puts_sector others = sum_by-append (λ x. if puts_sector x then 1 else 0) (actions.Append bytes ∷ []) others in
    let len : length (news (actions.Append bytes ∷ others) fetched) ≡ suc (length (news others fetched)) = refl in
    omega (arith, rest, head, len)
new_counted (actions.Trim count ∷ others) fetched =
    let rest : count_by puts_sector others ≡ length (news others fetched) = new_counted others fetched in
    let head : count_by puts_sector (actions.Trim count ∷ others) ≡ 0 + 0 + count_by puts_sector others = sum_by-append (λ x. if puts_sector x then 1 else 0) (actions.Trim count ∷ []) others in
    let len : length (news (actions.Trim count ∷ others) fetched) ≡ length (news others fetched) = refl in
    omega (arith, rest, head, len)
new_counted (actions.Swap one other ∷ others) fetched =
    let rest : count_by puts_sector others ≡ length (news others fetched) = new_counted others fetched in
    let head : count_by puts_sector (actions.Swap one other ∷ others) ≡ 0 + 0 + count_by puts_sector others = sum_by-append (λ x. if puts_sector x then 1 else 0) (actions.Swap one other ∷ []) others in
    let len : length (news (actions.Swap one other ∷ others) fetched) ≡ length (news others fetched) = refl in
    omega (arith, rest, head, len)
new_counted (actions.Update place offset bytes ∷ others) fetched =
    let behind : List (List ℕ) = left_behind (actions.Update place offset bytes) fetched in
    let rest : count_by puts_sector others ≡ length (news others behind) = new_counted others behind in
    let head : count_by puts_sector (actions.Update place offset bytes ∷ others) ≡ 0 + 1 + count_by puts_sector others = sum_by-append (λ x. if puts_sector x then 1 else 0) (actions.Update place offset bytes ∷ []) others in
    let len : length (news (actions.Update place offset bytes ∷ others) fetched) ≡ suc (length (news others behind)) = refl in
    omega (arith, rest, head, len)

-- a write puts as many sectors as its actions say
pub sectors_counted : (write : Prepared) → count_by puts_sector write.request.actions ≡ length (sectors_of write)
unfolding sectors_of
sectors_counted write = new_counted write.request.actions write.fetched

pub same_contract : (f : Option ℕ) (c contract : Kept) → (unless f >>= (λ _. Ok c)) ≡ Ok contract → c ≡ contract
same_contract None c contract is = (cc)
same_contract (Some code) c contract is = (cc)

fault_by : (h : Host) (room : Room) (write : Prepared) (c contract : Kept) (can : Bool) → can_write h c write ≡ can → unrefused (write_fault h room write) (Ok c) ≡ Ok contract → can_write h contract write ≡ true
fault_by h room write c contract true can is =
    let same : c ≡ contract = same_contract (write_fault h room write c) c contract is in
    ap (λ k. can_write h k write) (sym same) ∙ can
fault_by h room write c contract false can is =
    let code : write_fault h room write c ≡ Some 9 = rw can refl in
    let other : unrefused (write_fault h room write) (Ok c) ≡ Err 9 = rw code refl in
    absurd (cc)

-- its steps are fit
pub can_be_done : (h : Host) (room : Room) (write : Prepared) (opened : Result Kept ℕ) (contract : Kept) → unrefused (write_fault h room write) opened ≡ Ok contract → can_write h contract write ≡ true
can_be_done h room write (Err code) contract is = (cc)
can_be_done h room write (Ok c) contract is = fault_by h room write c contract (can_write h c write) refl is

-- by their numbers
pub is_ready : (h : Host) (write : Prepared) (c : Kept) → can_write h c write ≡ true → is_prepared h.settings.sector write ≡ true
is_ready h write c can = left_of_and _ _ can

-- and for the contract's sectors
pub fits_sectors : (h : Host) (write : Prepared) (c : Kept) → can_write h c write ≡ true → is_fit (length c.sectors) (steps_of write) ≡ true
fits_sectors h write c can = right_of_and _ _ can
