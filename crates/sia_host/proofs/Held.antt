-- Requests about the contract that a session holds, by what their judgement comes to.
use Rattle.std.proofs.Common.{◌≡◌, ℕ, Result, Ok, Err, Option, Some, None, IfOk, MatchOption, ap, subst}
use Rattle.sia_encoding.specs.Answer.{◌>>=◌, unless}
use Rattle.sia_commands.specs.declared.call.Call.{Call}
use Rattle.sia_commands.specs.declared.step.Step.{Step}
use Rattle.sia_host.specs.Answered.{Gives, Reaction, Host, IsReaction, held_now, refused}
use Rattle.sia_kept.specs.State.{Kept}
use Rattle.sia_host.specs.Paying.{IsHeld, unrefused}

follows_by : (h : Host) (call : Call) (f : Option ℕ) (c contract : Kept) (Follows : Kept → Reaction → Type 0) (a : Reaction) → (unless f >>= (λ _. Ok c)) ≡ Ok contract → Follows contract a → MatchOption f (Follows c a) (λ code. a ≡ refused h call (held_now h call.session) code)
follows_by h call None c contract Follows a is so = let same : contract ≡ c = (cc) in subst (λ k. Follows k a) same so
follows_by h call (Some found) c contract Follows a is so = (cc)

-- what follows where a request isn't refused
follows : (h : Host) (call : Call) (opened : Result Kept ℕ) (fault : Kept → Option ℕ) (Follows : Kept → Reaction → Type 0) (contract : Kept) (a : Reaction) → unrefused fault opened ≡ Ok contract → Follows contract a → IsHeld h call opened fault Follows a
follows h call (Err code) fault Follows contract a is so = (cc)
follows h call (Ok c) fault Follows contract a is so = follows_by h call (fault c) c contract Follows a is so

refuses_by : (h : Host) (call : Call) (code : ℕ) (f : Option ℕ) (c : Kept) (Follows : Kept → Reaction → Type 0) → (unless f >>= (λ _. Ok c)) ≡ Err code → MatchOption f (Follows c (refused h call (held_now h call.session) code)) (λ found. refused h call (held_now h call.session) code ≡ refused h call (held_now h call.session) found)
refuses_by h call code None c Follows is = (cc)
refuses_by h call code (Some found) c Follows is = let same : code ≡ found = (cc) in ap (λ n. refused h call (held_now h call.session) n) same

-- a request that is refused
refuses : (h : Host) (call : Call) (opened : Result Kept ℕ) (fault : Kept → Option ℕ) (Follows : Kept → Reaction → Type 0) (code : ℕ) → unrefused fault opened ≡ Err code → IsHeld h call opened fault Follows (refused h call (held_now h call.session) code)
refuses h call (Err found) fault Follows code is = let same : code ≡ found = (cc) in ap (λ n. refused h call (held_now h call.session) n) same
refuses h call (Ok c) fault Follows code is = refuses_by h call code (fault c) c Follows is

-- a step that follows where a request isn't refused
pub follows_so : {E : Type 0} (h : Host) (call : Call) (opened : Result Kept ℕ) (fault : Kept → Option ℕ) (Follows : Kept → Reaction → Type 0) (contract : Kept) (a : Reaction) (result : Result Step E) (after : Host)
    → unrefused fault opened ≡ Ok contract → Follows contract a → IfOk result (λ step. IsReaction h a step after) → IfOk result (λ step. Gives (IsHeld h call opened fault Follows) h step after)
follows_so h call opened fault Follows contract a (Ok step) after is so given = (a, follows h call opened fault Follows contract a is so, given)
follows_so h call opened fault Follows contract a (Err e) after is so given = tt

-- a step by which a request is refused
pub refuses_so : {E : Type 0} (h : Host) (call : Call) (opened : Result Kept ℕ) (fault : Kept → Option ℕ) (Follows : Kept → Reaction → Type 0) (code : ℕ) (result : Result Step E) (after : Host)
    → unrefused fault opened ≡ Err code → IfOk result (λ step. IsReaction h (refused h call (held_now h call.session) code) step after) → IfOk result (λ step. Gives (IsHeld h call opened fault Follows) h step after)
refuses_so h call opened fault Follows code (Ok step) after is given = (refused h call (held_now h call.session) code, refuses h call opened fault Follows code is, given)
refuses_so h call opened fault Follows code (Err e) after is given = tt

-- a step by what follows where a request isn't refused
pub follows_given : {E : Type 0} (h : Host) (call : Call) (opened : Result Kept ℕ) (fault : Kept → Option ℕ) (Follows : Kept → Reaction → Type 0) (contract : Kept) (result : Result Step E) (after : Host)
    → unrefused fault opened ≡ Ok contract → IfOk result (λ step. Gives (Follows contract) h step after) → IfOk result (λ step. Gives (IsHeld h call opened fault Follows) h step after)
follows_given h call opened fault Follows contract (Ok step) after is gives = (gives.0, follows h call opened fault Follows contract gives.0 is gives.1, gives.2)
follows_given h call opened fault Follows contract (Err e) after is gives = tt
