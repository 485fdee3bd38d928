-- A feed as a loop over its records goes through it.
use Rattle.std.proofs.Common.{◌≡◌, ℕ, suc, ◌+◌, ◌-◌, ◌<◌, true, false, ◌==◌, List, length, Result, Ok, Err, refl, sym, ◌∙◌, arith}
use Rattle.sia_encoding.specs.Answer.{Answers}
use Rattle.sia_encoding.specs.Reading.{Spot}
use Rattle.sia_ledger.specs.Chain.{Chain}
use Rattle.sia_program.specs.declared.stop.Refusal.{Refusal}
use Rattle.sia_program.specs.declared.stop.Refusal.TheVariants as refusal
use Rattle.sia_program.specs.declared.stop.Fault.{Fault}
use Rattle.sia_program.specs.declared.stop.Fault.TheVariants as fault
use Rattle.sia_program.specs.Commands.Ledger.{Verdict, done_at, run_at}
use Rattle.sia_program.specs.Told.{refusal_told}

-- no byte is left
pub run_end : (verdict : Verdict) (n i : ℕ) (s : Spot) (chain : Chain) → i < n → (length s.left == 0) ≡ true → run_at verdict (n - i) s chain ≡ Ok chain
unfolding run_at
run_end verdict n i s chain below none =
    let one : n - i ≡ suc (n - (i + 1)) = omega arith in
    rw (one, none) refl

-- one more record is read and done
pub run_more : (verdict : Verdict) (n i : ℕ) (s next : Spot) (chain now : Chain) → i < n → (length s.left == 0) ≡ false → done_at verdict s chain ≡ Ok (now, next) → run_at verdict (n - (i + 1)) next now ≡ run_at verdict (n - i) s chain
unfolding run_at
run_more verdict n i s next chain now below some done =
    let one : n - i ≡ suc (n - (i + 1)) = omega arith in
    rw (one, some, done) refl

-- a record can't be read or is refused, or memory ran out
pub run_stopped : (verdict : Verdict) (n i : ℕ) (s next : Spot) (chain now left : Chain) (met : Fault) (whole : Result Chain Refusal) → i < n → (length s.left == 0) ≡ false
    → run_at verdict (n - i) s chain ≡ whole → Answers {X = Unit {0}} (λ _. (now, next)) refusal_told (Err met) (done_at verdict s chain) → Answers {X = Unit {0}} (λ _. left) refusal_told (Err met) whole
unfolding run_at
run_stopped verdict n i s next chain now left fault.Memory whole below some is done = tt
run_stopped verdict n i s next chain now left (fault.Refused case) whole below some is done =
    let one : n - i ≡ suc (n - (i + 1)) = omega arith in
    let refused : run_at verdict (n - i) s chain ≡ Err case = rw (one, some, done) refl in
    sym is ∙ refused

-- there are more records than may be
pub run_over : (verdict : Verdict) (n i : ℕ) (s : Spot) (chain : Chain) → n ≡ i → run_at verdict (n - i) s chain ≡ Err (refusal.Feed s.at)
unfolding run_at
run_over verdict n i s chain all =
    let none : n - i ≡ 0 = omega arith in
    rw none refl
