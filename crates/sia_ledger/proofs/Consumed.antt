-- What the texts of transactions consume: inputs, a siafund output, or a contract. Equal texts consume the same.
use Rattle.std.proofs.Common.{◌≡◌, ℕ, ◌+◌, ◌-◌, ◌^◌, ◌<◌, ◌≤◌, Bool, true, false, List, [], ◌∷◌, ◌++◌, length, take, drop, refl, ap, sym, ◌∙◌, subst, arith, inl, inr, length-append, append_assoc}
use Rattle.std.specs.Prelude.{◌⊎◌, ◌≢◌, codes}
use Rattle.std.specs.Str.{bytes_eq}
use Rattle.std.proofs.lemmas.List.{append-nil, take_at, append_cancel_left}
use Rattle.sia_encoding.specs.Codec.{Codec, Lawful}
use Rattle.sia_encoding.specs.Items.{byte_string, currency, list_of}
use Rattle.sia_encoding.specs.ItemLaws.{byte_string_law, currency_law, list_law}
use Rattle.sia_encoding.specs.Records.{◌&◌}
use Rattle.sia_encoding.specs.RecordLaws.{◌&&&◌}
use Rattle.sia_encoding.specs.Spelling.{label, spelled_u64, spelled_bool}
use Rattle.sia_types.specs.declared.coins.CoinInput.{CoinInput}
use Rattle.sia_types.specs.declared.coins.CoinOutput.{CoinOutput}
use Rattle.sia_types.specs.declared.file_contracts.FileContract.{FileContract}
use Rattle.sia_types.specs.declared.file_contracts.Revision.{Revision}
use Rattle.sia_types.specs.declared.file_contracts.StorageProof.{StorageProof}
use Rattle.sia_types.specs.declared.funds.FundInput.{FundInput}
use Rattle.sia_types.specs.declared.funds.FundOutput.{FundOutput}
use Rattle.sia_types.specs.declared.transaction.Transaction.{Transaction}
use Rattle.sia_types.specs.Coins.{coin_input, coin_input_law, coin_output, coin_output_law}
use Rattle.sia_types.specs.FileContracts.{file_contract, file_contract_law, revision, revision_law, storage_proof, storage_proof_law}
use Rattle.sia_types.specs.Funds.{fund_input, fund_input_law, fund_output, fund_output_law}
use Rattle.sia_types.specs.Transaction.{transaction, unsigned}
use Rattle.sia_ids.specs.Transactions.{made_text, claim_text, settlement_text}
use Rattle.sia_rules.specs.Shape.{coin_parents, fund_parents}
use Rattle.sia_ledger.proofs.Held.{same-self}
use Rattle.sia_ledger.proofs.Lengths.{length-u64, length-made_text, length-claim_text, length-settlement_text, same_u64}

-- what a transaction spends
abbrev pub inputs_of : Transaction → List (List ℕ)
inputs_of tx = coin_parents tx.coin_inputs ++ fund_parents tx.fund_inputs

-- each part of a transaction is of its type
abbrev pub Fits : Transaction → Type 0
Fits tx = transaction.fits (2 ^ 64 - 1) tx

-- the fields of a transaction but its signatures
abbrev Parts : Type 0
Parts = List CoinInput × (List CoinOutput × (List FileContract × (List Revision × (List StorageProof × (List FundInput × (List FundOutput × (List ℕ × List (List ℕ))))))))

abbrev parts_of : Transaction → Parts
parts_of tx = (tx.coin_inputs, (tx.coin_outputs, (tx.contracts, (tx.revisions, (tx.proofs, (tx.fund_inputs, (tx.fund_outputs, (tx.fees, tx.notes))))))))

abbrev parts : Codec Parts
parts = list_of coin_input & list_of coin_output & list_of file_contract & list_of revision & list_of storage_proof & list_of fund_input & list_of fund_output & list_of currency & list_of byte_string

parts_law : Lawful parts
parts_law = list_law coin_input_law &&& list_law coin_output_law &&& list_law file_contract_law &&& list_law revision_law &&& list_law storage_proof_law &&& list_law fund_input_law &&& list_law fund_output_law &&& list_law currency_law &&& list_law byte_string_law

parts_fit : (tx : Transaction) → Fits tx → parts.fits (2 ^ 64 - 1) (parts_of tx)
parts_fit tx f = (f.0, (f.1.0, (f.1.1.0, (f.1.1.1.0, (f.1.1.1.1.0, (f.1.1.1.1.1.0, (f.1.1.1.1.1.1.0, (f.1.1.1.1.1.1.1.0, f.1.1.1.1.1.1.1.1.0))))))))

abbrev inputs_in : Parts → List (List ℕ)
inputs_in p = coin_parents p.0 ++ fund_parents p.1.1.1.1.1.0

-- transactions that are spelled alike but for their signatures spend the same
same_inputs : (a b : Transaction) → Fits a → Fits b → unsigned a ≡ unsigned b → inputs_of a ≡ inputs_of b
same_inputs a b fits others same =
    let alone : unsigned a ≡ unsigned b ++ [] = same ∙ sym (append-nil (unsigned b)) in
    let all = parts_law.no_prefix (2 ^ 64 - 1) (parts_of a) (parts_of b) [] (parts_fit a fits) (parts_fit b others) alone in
    ap inputs_in all.0

pub front : (a b x y : List ℕ) (n : ℕ) → length a ≡ n → length b ≡ n → a ++ x ≡ b ++ y → a ≡ b
front a b x y n a_long b_long e = sym (take_at a x n a_long) ∙ ap (take n) e ∙ take_at b y n b_long

-- a text with a label, something between, and 8 bytes behind
pub record SameParts (a u e b v f : List ℕ) : Type 0 where
  pub labels : a ≡ b
  pub between : u ≡ v
  pub behind : e ≡ f

pub same_parts : (a u e b v f : List ℕ) → length a ≡ 16 → length b ≡ 16 → length e ≡ 8 → length f ≡ 8 → a ++ (u ++ e) ≡ b ++ (v ++ f) → SameParts a u e b v f
same_parts a u e b v f a_long b_long e_long f_long same =
    let labels = front a b (u ++ e) (v ++ f) 16 a_long b_long same in
    let rest : u ++ e ≡ v ++ f = append_cancel_left a (u ++ e) (v ++ f) (same ∙ ap (λ l. l ++ (v ++ f)) (sym labels)) in
    let whole : length u + length e ≡ length v + length f = sym (length-append u e) ∙ ap length rest ∙ length-append v f in
    let long : length u ≡ length v = omega (arith, whole, e_long, f_long) in
    let between = front u v e f (length v) long refl rest in
    record { labels = labels; between = between; behind = append_cancel_left u e f (rest ∙ ap (λ l. l ++ f) (sym between)) }

-- what a transaction makes: siacoin outputs, contracts and siafund outputs
abbrev pub IsMade : List ℕ → Type 0
IsMade what = (what ≡ codes "siacoin output") ⊎ (what ≡ codes "file contract") ⊎ (what ≡ codes "siafund output")

pub made_label : (what : List ℕ) → IsMade what → length (label what) ≡ 16
made_label what (inl is) = ap (λ w. length (label w)) is
made_label what (inr (inl is)) = ap (λ w. length (label w)) is
made_label what (inr (inr is)) = ap (λ w. length (label w)) is

pub same_made : (one other : List ℕ) (a b : Transaction) (i j : ℕ) → IsMade one → IsMade other → made_text one a i ≡ made_text other b j → SameParts (label one) (unsigned a) (spelled_u64 i) (label other) (unsigned b) (spelled_u64 j)
unfolding made_text
same_made one other a b i j is are same = same_parts (label one) (unsigned a) (spelled_u64 i) (label other) (unsigned b) (spelled_u64 j) (made_label one is) (made_label other are) (length-u64 i) (length-u64 j) same

-- what a text consumes
pub data Consumes (text : List ℕ) (ids : List (List ℕ)) : Type 0 where
  Made : (what : List ℕ) (tx : Transaction) (i : ℕ) → IsMade what → Fits tx → text ≡ made_text what tx i → ids ≡ inputs_of tx → Consumes text ids
  Claimed : (fund : List ℕ) → length fund ≡ 32 → text ≡ claim_text fund → ids ≡ fund ∷ [] → Consumes text ids
  Settling : (contract : List ℕ) (valid : Bool) (i : ℕ) → length contract ≡ 32 → text ≡ settlement_text contract valid i → ids ≡ contract ∷ [] → Consumes text ids

-- how long such a text is
pub consumes-length : (text : List ℕ) (ids : List (List ℕ)) → Consumes text ids → (96 ≤ length text) ⊎ (length text ≡ 48) ⊎ (length text ≡ 57)
consumes-length text ids (Made what tx i kind fits is are) = let long = length-made_text what tx i (made_label what kind) in let e : length text ≡ length (made_text what tx i) = ap length is in inl (omega (arith, long, e))
consumes-length text ids (Claimed fund long is are) = inr (inl (ap length is ∙ length-claim_text fund long))
consumes-length text ids (Settling contract valid i long is are) = inr (inr (ap length is ∙ length-settlement_text contract valid i long))

not_48 : (n : ℕ) → 96 ≤ n → n ≡ 48 → ⊥
not_48 n long e = omega (arith, long, e)

not_57 : (n : ℕ) → 96 ≤ n → n ≡ 57 → ⊥
not_57 n long e = omega (arith, long, e)

not_both : (n : ℕ) → n ≡ 48 → n ≡ 57 → ⊥
not_both n one other = omega (arith, one, other)

pub made_long : (text what : List ℕ) (tx : Transaction) (i : ℕ) → IsMade what → text ≡ made_text what tx i → 96 ≤ length text
made_long text what tx i kind is = let long = length-made_text what tx i (made_label what kind) in let e : length text ≡ length (made_text what tx i) = ap length is in omega (arith, long, e)

same_claim : (f g : List ℕ) → claim_text f ≡ claim_text g → f ≡ g
unfolding claim_text
same_claim f g same = append_cancel_left (label (codes "claim output")) f g same

same_settlement : (c d : List ℕ) (v w : Bool) (i j : ℕ) → length c ≡ 32 → length d ≡ 32 → settlement_text c v i ≡ settlement_text d w j → c ≡ d
unfolding settlement_text
same_settlement c d v w i j long other same = front c d (spelled_bool v ++ spelled_u64 i) (spelled_bool w ++ spelled_u64 j) 32 long other (append_cancel_left (label (codes "storage proof")) (c ++ (spelled_bool v ++ spelled_u64 i)) (d ++ (spelled_bool w ++ spelled_u64 j)) same)

-- equal texts consume the same
pub same_consumed : (text : List ℕ) (a b : List (List ℕ)) → Consumes text a → Consumes text b → a ≡ b
same_consumed text a b (Made what tx i kind fits is are) (Made what2 tx2 j kind2 fits2 is2 are2) =
    let parts = same_made what what2 tx tx2 i j kind kind2 (sym is ∙ is2) in
    are ∙ same_inputs tx tx2 fits fits2 parts.between ∙ sym are2
same_consumed text a b (Made what tx i kind fits is are) (Claimed fund long is2 are2) = absurd (not_48 (length text) (made_long text what tx i kind is) (ap length is2 ∙ length-claim_text fund long))
same_consumed text a b (Made what tx i kind fits is are) (Settling contract valid j long is2 are2) = absurd (not_57 (length text) (made_long text what tx i kind is) (ap length is2 ∙ length-settlement_text contract valid j long))
same_consumed text a b (Claimed fund long is are) (Made what tx i kind fits is2 are2) = absurd (not_48 (length text) (made_long text what tx i kind is2) (ap length is ∙ length-claim_text fund long))
same_consumed text a b (Claimed fund long is are) (Claimed fund2 long2 is2 are2) = are ∙ ap (λ f. f ∷ []) (same_claim fund fund2 (sym is ∙ is2)) ∙ sym are2
same_consumed text a b (Claimed fund long is are) (Settling contract valid j long2 is2 are2) = absurd (not_both (length text) (ap length is ∙ length-claim_text fund long) (ap length is2 ∙ length-settlement_text contract valid j long2))
same_consumed text a b (Settling contract valid i long is are) (Made what tx j kind fits is2 are2) = absurd (not_57 (length text) (made_long text what tx j kind is2) (ap length is ∙ length-settlement_text contract valid i long))
same_consumed text a b (Settling contract valid i long is are) (Claimed fund long2 is2 are2) = absurd (not_both (length text) (ap length is2 ∙ length-claim_text fund long2) (ap length is ∙ length-settlement_text contract valid i long))
same_consumed text a b (Settling contract valid i long is are) (Settling contract2 valid2 j long2 is2 are2) = are ∙ ap (λ c. c ∷ []) (same_settlement contract contract2 valid valid2 i j long long2 (sym is ∙ is2)) ∙ sym are2

-- Numbers tell numbered texts apart.

pub not_less : (i j : ℕ) → i < j → i ≡ j → ⊥
not_less i j low e = omega (arith, low, e)

pub made_differ : (what : List ℕ) (tx : Transaction) → IsMade what → (i j : ℕ) → i < j → j < 2 ^ 64 → made_text what tx i ≢ made_text what tx j
made_differ what tx kind i j low fits same =
    let parts = same_made what what tx tx i j kind kind same in
    not_less i j low (same_u64 i j (omega (arith, low, fits)) fits parts.behind)

pub settlement_differ : (contract : List ℕ) (valid : Bool) (i j : ℕ) → i < j → j < 2 ^ 64 → settlement_text contract valid i ≢ settlement_text contract valid j
unfolding settlement_text
settlement_differ contract valid i j low fits same =
    let a = append_cancel_left (label (codes "storage proof")) (contract ++ (spelled_bool valid ++ spelled_u64 i)) (contract ++ (spelled_bool valid ++ spelled_u64 j)) same in
    let b = append_cancel_left contract (spelled_bool valid ++ spelled_u64 i) (spelled_bool valid ++ spelled_u64 j) a in
    let c = append_cancel_left (spelled_bool valid) (spelled_u64 i) (spelled_u64 j) b in
    not_less i j low (same_u64 i j (omega (arith, low, fits)) fits c)

-- Labels tell texts of two kinds apart.

true_false : true ≡ false → ⊥
true_false e = cc

pub labels_differ : (a b : List ℕ) → bytes_eq a b ≡ false → a ≡ b → ⊥
labels_differ a b other same = true_false (sym (same-self a) ∙ ap (bytes_eq a) same ∙ other)

pub coin_contract : (a b : Transaction) (i j : ℕ) → made_text (codes "siacoin output") a i ≢ made_text (codes "file contract") b j
coin_contract a b i j same = labels_differ (label (codes "siacoin output")) (label (codes "file contract")) refl (same_made (codes "siacoin output") (codes "file contract") a b i j (inl refl) (inr (inl refl)) same).labels

pub coin_fund : (a b : Transaction) (i j : ℕ) → made_text (codes "siacoin output") a i ≢ made_text (codes "siafund output") b j
coin_fund a b i j same = labels_differ (label (codes "siacoin output")) (label (codes "siafund output")) refl (same_made (codes "siacoin output") (codes "siafund output") a b i j (inl refl) (inr (inr refl)) same).labels

pub contract_fund : (a b : Transaction) (i j : ℕ) → made_text (codes "file contract") a i ≢ made_text (codes "siafund output") b j
contract_fund a b i j same = labels_differ (label (codes "file contract")) (label (codes "siafund output")) refl (same_made (codes "file contract") (codes "siafund output") a b i j (inr (inl refl)) (inr (inr refl)) same).labels
