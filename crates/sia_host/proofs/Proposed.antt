-- The answers to a proposal, by what comes of it.
use Rattle.std.proofs.Common.{◌≡◌, ℕ, true, List, Result, Ok, Err, Option, MatchOption, refl, subst, sym}
use Rattle.sia_types.specs.declared.transaction.Transaction.{Transaction}
use Rattle.sia_forms.specs.declared.funding.Additions.{Additions}
use Rattle.sia_encoding.specs.Firsts.{broken}
use Rattle.sia_commands.specs.declared.call.Call.{Call}
use Rattle.sia_commands.specs.declared.codes.TheConstants.{BAD_CONTRACT}
use Rattle.sia_host.specs.Answered.{Reaction, Host, refused}
use Rattle.sia_host.specs.Forming.{IsProposed}
use Rattle.sia_host.specs.Proposals.{IsAddition, IsRefusal}

-- what follows from what the host adds
pub follows : (h : Host) (call : Call) (held : Option (List ℕ)) (tx : Transaction) (judged : Result ℕ ℕ) (Follows : Additions → Reaction → Type 0) (added : Additions) (a : Reaction)
    → IsAddition h tx judged added → Follows added a → IsProposed h call held tx judged Follows a
follows h call held tx (Err code) Follows added a are is = elim are [ ]
follows h call held tx (Ok collateral) Follows added a are is =
    (added, are.0, subst (λ known. MatchOption (broken known BAD_CONTRACT) (Follows added a) (λ code. a ≡ refused h call held code)) (sym are.1) is)

-- a proposal that is refused
pub refuses : (h : Host) (call : Call) (held : Option (List ℕ)) (tx : Transaction) (judged : Result ℕ ℕ) (Follows : Additions → Reaction → Type 0) (code : ℕ)
    → IsRefusal h tx judged code → IsProposed h call held tx judged Follows (refused h call held code)
refuses h call held tx (Err judged) Follows code is = subst (λ c. refused h call held code ≡ refused h call held c) is refl
refuses h call held tx (Ok collateral) Follows code is =
    let a = refused h call held code in
    let by : MatchOption (broken true BAD_CONTRACT) (Follows is.1.0 a) (λ c. a ≡ refused h call held c) = subst (λ c. a ≡ refused h call held c) is.0 refl in
    (is.1.0, is.1.1, subst (λ known. MatchOption (broken known BAD_CONTRACT) (Follows is.1.0 a) (λ c. a ≡ refused h call held c)) (sym is.1.2) by)
