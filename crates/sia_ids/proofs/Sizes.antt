-- Siafund outputs whose addresses have a digest's length, one more of them.
use Rattle.std.proofs.Common.{◌≡◌, ℕ, ◌+◌, ◌<◌, List, [], ◌∷◌, ◌++◌, length, take, get_or}
use Rattle.std.proofs.lemmas.List.{take_more}
use Rattle.sia_types.specs.declared.funds.FundOutput.{FundOutput}
use Rattle.sia_ids.specs.Identifiers.{AreSized}

AreSized-push : (funds : List FundOutput) (fund : FundOutput) → AreSized funds → length fund.address ≡ 32 → AreSized (funds ++ fund ∷ [])
AreSized-push [] fund sized here = (here, tt)
AreSized-push (first ∷ funds) fund sized here = (sized.0, AreSized-push funds fund sized.1 here)

pub AreSized-more : (funds : List FundOutput) (i : ℕ) (d : FundOutput) → i < length funds → AreSized (take i funds) → length (get_or funds i d).address ≡ 32 → AreSized (take (i + 1) funds)
AreSized-more funds i d within sized here = rw (take_more funds i d within) (AreSized-push (take i funds) (get_or funds i d) sized here)
