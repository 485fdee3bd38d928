-- What a siafund output claims, found by its place.
use Rattle.std.proofs.Common.{◌≡◌, ℕ, zero, suc, ◌+◌, ◌-◌, ◌*◌, ◌%◌, ◌^◌, ◌<◌, Bool, true, false, List, [], ◌∷◌, ◌++◌, length, take, drop, get_or, refl, ap, sym, ◌∙◌, subst, arith, append_assoc, append-nil, inl, inr}
use Rattle.std.specs.Prelude.{◌||◌, ◌⊎◌, if◌then◌else◌, Option, Some, None, is_some}
use Rattle.std.specs.Option.{option_or}
use Rattle.std.specs.Str.{bytes_eq}
use Rattle.std.proofs.lemmas.List.Sums.{sum_by-append, sum_by-cons}
use Rattle.sia_ledger.specs.declared.fact.Fact.{Fact}
use Rattle.sia_ledger.specs.declared.fact.Deed.{Deed}
use Rattle.sia_ledger.specs.declared.fact.Deed.TheVariants as deed
use Rattle.sia_ledger.specs.declared.register.Link.{Link}
use Rattle.sia_ledger.specs.Claiming.{shares_in, all_shares}
use Rattle.sia_ledger.specs.Facts.{claim_at, funds_of, is_known, share}
use Rattle.sia_ledger.specs.Registered.{last_from, last_place, link, links_from, last_counts}
use Rattle.sia_ledger.proofs.Held.{or_true, unknown}
use Rattle.sia_ledger.proofs.Moves.{claimless}
use Rattle.sia_ledger.proofs.Registering.{is_last, placed, none_some, some_is}
use Rattle.sia_ledger.proofs.Shares.{at_least, claim_first, claim_later, known_append, share_exact}

-- where later facts are about it, they say all
pub claims_later : (kept fresh : List Fact) (id : List ℕ) → is_known fresh id ≡ true → claim_at (kept ++ fresh) id ≡ claim_at fresh id
claims_later [] fresh id known = refl
claims_later (x ∷ kept) fresh id known = claim_later x (kept ++ fresh) id (known_append kept fresh id ∙ ap (λ b. is_known kept id || b) known ∙ or_true (is_known kept id)) ∙ claims_later kept fresh id known

-- where no fact is about it, it claims nothing
pub claims_none : (facts behind : List Fact) (id : List ℕ) → last_place facts id ≡ None → is_known behind id ≡ false → 0 ≡ claim_at (facts ++ behind) id
claims_none facts behind id none new =
    let before : is_known facts id ≡ false = sym (placed 0 facts id) ∙ ap is_some none in
    let all : is_known (facts ++ behind) id ≡ false = known_append facts behind id ∙ ap (λ b. b || is_known behind id) before ∙ new in
    sym (claimless (facts ++ behind) id (ap (last_counts funds_of) (unknown (facts ++ behind) id all)))

-- what a fact claims of the ones behind it
abbrev Claims : List Fact → List Fact → List ℕ → ℕ → Type 0
Claims facts behind id k = (d : Fact) → claim_at (facts ++ behind) id ≡ share (get_or facts k d).deed (drop (suc k) facts ++ behind)

claims : (n : ℕ) (facts behind : List Fact) (id : List ℕ) (place : ℕ) → last_from n facts id ≡ Some place → is_known behind id ≡ false → Claims facts behind id (place - n)
claims n [] behind id place e new = absurd (none_some place e)
claims n (fact ∷ rest) behind id place e new = by (λ p is. claims (n + 1) rest behind id p is new) (last_from (n + 1) rest id) refl (placed (n + 1) rest id) (bytes_eq fact.id id) refl e
  where
    known : (b : Bool) → is_known rest id ≡ b → is_known (rest ++ behind) id ≡ b
    known true is = known_append rest behind id ∙ ap (λ k. k || is_known behind id) is
    known false is = known_append rest behind id ∙ ap (λ k. k || is_known behind id) is ∙ new

    by : ((p : ℕ) → last_from (n + 1) rest id ≡ Some p → Claims rest behind id (p - (n + 1))) → (found : Option ℕ) → last_from (n + 1) rest id ≡ found → is_some (last_from (n + 1) rest id) ≡ is_known rest id → (b : Bool) → bytes_eq fact.id id ≡ b → option_or found (if b then Some n else None) ≡ Some place → Claims (fact ∷ rest) behind id (place - n)
    by later None is some true same e =
        let here : n ≡ place = some_is n place e in
        let at : place - n ≡ 0 = omega (arith, here) in
        let none : is_known rest id ≡ false = sym some ∙ ap is_some is in
        subst (Claims (fact ∷ rest) behind id) (sym at) (λ d. claim_first fact (rest ++ behind) id (known false none) ∙ ap (λ b. if b then share fact.deed (rest ++ behind) else 0) same)
    by later None is some false same e = absurd (none_some place e)
    by later (Some p) is some b same e =
        let here : p ≡ place = some_is p place e in
        let low = (is_last (n + 1) rest id p is).low in
        let at : place - n ≡ suc (p - (n + 1)) = omega (arith, here, low) in
        let there : is_known rest id ≡ true = sym some ∙ ap is_some is in
        subst (Claims (fact ∷ rest) behind id) (sym at) (λ d. claim_later fact (rest ++ behind) id (known true there) ∙ later p is d)

pub length-links : (before facts : List Fact) → length (links_from before facts) ≡ length facts
length-links before [] = refl
length-links before (fact ∷ rest) = ap suc (length-links (before ++ fact ∷ []) rest)

-- what is kept beside the fact at a place
pub link-at : (before facts : List Fact) (k : ℕ) (d : Fact) (l : Link) → k < length facts → get_or (links_from before facts) k l ≡ link (before ++ take k facts) (get_or facts k d)
link-at before [] k d l low = absurd (omega (arith, low))
link-at before (fact ∷ rest) zero d l low = ap (λ front. link front fact) (sym (append-nil before))
link-at before (fact ∷ rest) (suc k) d l low =
    let whole : length (fact ∷ rest) ≡ length rest + 1 = omega arith in
    let within : k < length rest = omega (arith, low, whole) in
    link-at (before ++ fact ∷ []) rest k d l within ∙ ap (λ front. link front (get_or rest k d)) (append_assoc before (fact ∷ []) (take k rest))

pub link-shares : (before : List Fact) (x : Fact) → (link before x).shares ≡ all_shares before % 2 ^ 128
unfolding link
link-shares before x = refl

pub shares_beside : (links : List Link) (facts : List Fact) (place : ℕ) (l : Link) (x : Fact) → links ≡ links_from [] facts → l ≡ get_or links place l → place < length facts → l.shares ≡ all_shares (take place facts) % 2 ^ 128
shares_beside links facts place l x linked here low =
    let is : l ≡ link (take place facts) (get_or facts place x) = here ∙ ap (λ (all : List Link). get_or all place l) linked ∙ link-at [] facts place x l low in
    ap (λ (k : Link). k.shares) is ∙ link-shares (take place facts) (get_or facts place x)

-- the shares before a place, at it and behind it
parted : (facts : List Fact) (k : ℕ) (d : Fact) → k < length facts → all_shares facts ≡ all_shares (take k facts) + shares_in (get_or facts k d).deed + all_shares (drop (suc k) facts)
parted [] k d low = absurd (omega (arith, low))
parted (fact ∷ rest) zero d low =
    let one = sum_by-cons (λ (f : Fact). shares_in f.deed) fact rest in
    omega (arith, one)
parted (fact ∷ rest) (suc k) d low =
    let whole : length (fact ∷ rest) ≡ length rest + 1 = omega arith in
    let within : k < length rest = omega (arith, low, whole) in
    let one = sum_by-cons (λ (f : Fact). shares_in f.deed) fact rest in
    let front = sum_by-cons (λ (f : Fact). shares_in f.deed) fact (take k rest) in
    omega (arith, one, front, parted rest k d within)

-- what holds siafunds brings no shares
funds_or_shares : (what : Deed) → (funds_of what ≡ 0) ⊎ (shares_in what ≡ 0)
funds_or_shares deed.Block = inl refl
funds_or_shares (deed.Coin output from) = inl refl
funds_or_shares (deed.Fund output) = inr refl
funds_or_shares (deed.Formed terms) = inl refl
funds_or_shares deed.Spent = inl refl
funds_or_shares (deed.Revised terms) = inl refl
funds_or_shares (deed.Settled valid) = inl refl

product : (v n : ℕ) → v * n < 2 ^ 128 → v * (n % 2 ^ 128) % 2 ^ 128 ≡ v * n
product zero n fits =
    let none : zero * (n % 2 ^ 128) ≡ 0 = omega arith in
    let nothing : zero * n ≡ 0 = omega arith in
    omega (arith, none, nothing)
product (suc v) n fits =
    let low = at_least v n in
    let same : n % 2 ^ 128 ≡ n = omega (arith, low, fits) in
    let whole : suc v * (n % 2 ^ 128) ≡ suc v * n = ap (λ m. suc v * m) same in
    omega (arith, whole, fits)

nothing_of : (v n m : ℕ) → v ≡ 0 → v * n % 2 ^ 128 ≡ v * m
nothing_of zero n m e =
    let one : zero * n ≡ 0 = omega arith in
    let other : zero * m ≡ 0 = omega arith in
    omega (arith, one, other)
nothing_of (suc v) n m e = cc

-- the claim, of sums modulo 2^128
pub claim_is : (facts behind : List Fact) (id : List ℕ) (place now before later : ℕ) (x : Fact) → last_place facts id ≡ Some place → x ≡ get_or facts place x → is_known behind id ≡ false →
    now ≡ all_shares facts % 2 ^ 128 → before ≡ all_shares (take place facts) % 2 ^ 128 → later ≡ all_shares behind % 2 ^ 128 → claim_at (facts ++ behind) id < 2 ^ 128 →
    funds_of x.deed * (((now + (2 ^ 128 - before)) % 2 ^ 128 + later) % 2 ^ 128) % 2 ^ 128 ≡ claim_at (facts ++ behind) id
claim_is facts behind id place now before later x found here new now_is before_is later_is fits =
    let at : place - 0 ≡ place = omega arith in
    let within : place < length facts = omega (arith, (is_last 0 facts id place found).within) in
    let since = drop (suc place) facts ++ behind in
    let claim : claim_at (facts ++ behind) id ≡ share x.deed since = subst (Claims facts behind id) at (claims 0 facts behind id place found new) x ∙ ap (λ (y : Fact). share y.deed since) (sym here) in
    let exact : claim_at (facts ++ behind) id ≡ funds_of x.deed * all_shares since = claim ∙ share_exact x.deed since in
    let both = sum_by-append (λ (f : Fact). shares_in f.deed) (drop (suc place) facts) behind in
    let parts = parted facts place x within ∙ ap (λ (y : Fact). all_shares (take place facts) + shares_in y.deed + all_shares (drop (suc place) facts)) (sym here) in
    by (funds_or_shares x.deed) exact both parts (subst (λ n. n < 2 ^ 128) exact fits)
  where
    by : (funds_of x.deed ≡ 0) ⊎ (shares_in x.deed ≡ 0) → claim_at (facts ++ behind) id ≡ funds_of x.deed * all_shares (drop (suc place) facts ++ behind) → all_shares (drop (suc place) facts ++ behind) ≡ all_shares (drop (suc place) facts) + all_shares behind → all_shares facts ≡ all_shares (take place facts) + shares_in x.deed + all_shares (drop (suc place) facts) → funds_of x.deed * all_shares (drop (suc place) facts ++ behind) < 2 ^ 128 →
        funds_of x.deed * (((now + (2 ^ 128 - before)) % 2 ^ 128 + later) % 2 ^ 128) % 2 ^ 128 ≡ claim_at (facts ++ behind) id
    by (inl none) exact both parts small = nothing_of (funds_of x.deed) _ _ none ∙ sym exact
    by (inr none) exact both parts small =
        let moved : ((now + (2 ^ 128 - before)) % 2 ^ 128 + later) % 2 ^ 128 ≡ all_shares (drop (suc place) facts ++ behind) % 2 ^ 128 = omega (arith, both, parts, none, now_is, before_is, later_is) in
        ap (λ n. funds_of x.deed * n % 2 ^ 128) moved ∙ product (funds_of x.deed) (all_shares (drop (suc place) facts ++ behind)) small ∙ sym exact
