-- One signature more.
use Rattle.std.proofs.Common.{◌≡◌, ◌<◌, ℕ, ◌+◌, List, [], ◌∷◌, ◌++◌, length, take, get_or, sym, subst}
use Rattle.std.proofs.lemmas.List.{take_more}
use Rattle.sia_types.specs.declared.coins.CoinInput.{CoinInput}
use Rattle.sia_types.specs.declared.signature.Signature.{Signature}
use Rattle.sia_types.specs.declared.transaction.Transaction.{Transaction}
use Rattle.sia_kept.specs.Signing.{AreSignedInputs, IsSignedFor}

-- an input behind the others is signed too
signed_behind : (Signs : List ℕ → List ℕ → Type 0) (tx : Transaction) (inputs : List CoinInput) (signatures : List Signature) (input : CoinInput) (signature : Signature)
    → AreSignedInputs Signs tx inputs signatures → IsSignedFor Signs tx input.parent 0 signature → AreSignedInputs Signs tx (inputs ++ input ∷ []) (signatures ++ signature ∷ [])
signed_behind Signs tx [] [] input signature are is = (is, tt)
signed_behind Signs tx (first ∷ inputs) (one ∷ signatures) input signature are is = (are.0, signed_behind Signs tx inputs signatures input signature are.1 is)
signed_behind Signs tx [] (one ∷ signatures) input signature are is = elim are [ ]
signed_behind Signs tx (first ∷ inputs) [] input signature are is = elim are [ ]

-- a loop that signs an input more
pub signed_next : (Signs : List ℕ → List ℕ → Type 0) (all tx : Transaction) (inputs : List CoinInput) (i : ℕ) (old new : List Signature) (input : CoinInput) (signature : Signature)
    → i < length inputs → input ≡ get_or inputs i input → tx ≡ all
    → AreSignedInputs Signs all (take i inputs) old → IsSignedFor Signs tx input.parent 0 signature → new ≡ old ++ signature ∷ [] → AreSignedInputs Signs all (take (i + 1) inputs) new
signed_next Signs all tx inputs i old new input signature below is same are one grown =
    let more : take (i + 1) inputs ≡ take i inputs ++ input ∷ [] = subst (λ x. take (i + 1) inputs ≡ take i inputs ++ x ∷ []) (sym is) (take_more inputs i input below) in
    let here : IsSignedFor Signs all input.parent 0 signature = subst (λ t. IsSignedFor Signs t input.parent 0 signature) same one in
    let behind : AreSignedInputs Signs all (take i inputs ++ input ∷ []) new = subst (λ ss. AreSignedInputs Signs all (take i inputs ++ input ∷ []) ss) (sym grown) (signed_behind Signs all (take i inputs) old input signature are here) in
    subst (λ xs. AreSignedInputs Signs all xs new) (sym more) behind
