-- What live sessions hold, and who holds it, as events change them.
use Rattle.std.proofs.Common.{◌≡◌, ◌∙◌, ℕ, Bool, true, false, not, ◌&&◌, ◌==◌, List, [], ◌∷◌, ◌++◌, find, Option, Some, None, IsSome, if◌then◌else◌, refl, sym, ap, subst}
use Rattle.std.specs.Option.{option_and_then, option_map}
use Rattle.std.specs.Str.{bytes_eq}
use Rattle.std.proofs.lemmas.Bool.{eqb-false, eqb-true}
use Rattle.std.proofs.lemmas.Slice.Eq.{bytes_eq-Decides}
use Rattle.sia_kept.specs.declared.session.Effect.{Effect}
use Rattle.sia_kept.specs.declared.session.Effect.TheVariants as effect
use Rattle.sia_kept.specs.declared.session.Session.{Session}
use Rattle.sia_kept.specs.Sessions.{begun_session, holder_among, is_held, on_session, session_changed, session_number, sessions_by, with_number, without_session}
use Rattle.sia_kept.specs.State.{Kept, is_among}
use Rattle.sia_kept.proofs.Apart.{same_bytes}
use Rattle.sia_host.specs.Answered.{held_of}
use Rattle.sia_host.specs.Holding.{is_acquiring, is_giving_up}

-- what the session with a number holds
abbrev pub held_in : ℕ → List Session → Option (List ℕ)
held_in number sessions = held_of (with_number number sessions)

-- whatever a session holds, it is that contract's holder
abbrev pub Agree : List Session → Type 0
Agree sessions = (number : ℕ) (contract : List ℕ) → held_in number sessions ≡ Some contract → holder_among contract sessions ≡ Some number

-- a session that begins holds nothing

begun_held : (x n : ℕ) (challenge : List ℕ) (ss : List Session) → held_in x (ss ++ begun_session n challenge ∷ []) ≡ held_in x ss
begun_held x n challenge [] = by (n == x)
  where
    by : (b : Bool) → held_of (if b then Some (begun_session n challenge) else None) ≡ None
    by true = refl
    by false = refl
begun_held x n challenge (s ∷ ss) = by (s.number == x) (begun_held x n challenge ss)
  where
    by : (b : Bool) → held_in x (ss ++ begun_session n challenge ∷ []) ≡ held_in x ss
        → held_of (if b then Some s else with_number x (ss ++ begun_session n challenge ∷ [])) ≡ held_of (if b then Some s else with_number x ss)
    by true same = refl
    by false same = same

begun_holder : (c : List ℕ) (n : ℕ) (challenge : List ℕ) (ss : List Session) → holder_among c (ss ++ begun_session n challenge ∷ []) ≡ holder_among c ss
begun_holder c n challenge [] = refl
begun_holder c n challenge (s ∷ ss) = by (is_held c s.held) (begun_holder c n challenge ss)
  where
    by : (b : Bool) → holder_among c (ss ++ begun_session n challenge ∷ []) ≡ holder_among c ss
        → option_map session_number (if b then Some s else find (λ (t : Session). is_held c t.held) (ss ++ begun_session n challenge ∷ []))
        ≡ option_map session_number (if b then Some s else find (λ (t : Session). is_held c t.held) ss)
    by true same = refl
    by false same = same

-- a session that is changed keeps its number

-- a number that another one is not
other_number : (m y x : ℕ) → (m == y) ≡ true → (y == x) ≡ false → (m == x) ≡ false
other_number m y x is apart = ap (λ k. k == x) (eqb-true m y is) ∙ apart

-- others hold what they held
changed_other : (y x : ℕ) (f : Session → Session) → ((s : Session) → (f s).number ≡ s.number) → (y == x) ≡ false → (ss : List Session) → held_in x (on_session y f ss) ≡ held_in x ss
changed_other y x f keeps apart [] = refl
changed_other y x f keeps apart (s ∷ ss) = by (s.number == y) refl (changed_other y x f keeps apart ss)
  where
    same : (b : Bool) → held_in x (on_session y f ss) ≡ held_in x ss → held_of (if b then Some s else with_number x (on_session y f ss)) ≡ held_of (if b then Some s else with_number x ss)
    same true rest = refl
    same false rest = rest

    by : (b : Bool) → (s.number == y) ≡ b → held_in x (on_session y f ss) ≡ held_in x ss → held_in x ((if b then f s else s) ∷ on_session y f ss) ≡ held_in x (s ∷ ss)
    by true at rest =
        let off : (s.number == x) ≡ false = other_number s.number y x at apart in
        let now : ((f s).number == x) ≡ false = ap (λ k. k == x) (keeps s) ∙ off in
        rw (now, off) rest
    by false at rest = same (s.number == x) rest

-- the one holds what it is given
changed_own : (y : ℕ) (f : Session → Session) → ((s : Session) → (f s).number ≡ s.number) → (ss : List Session) → held_in y (on_session y f ss) ≡ option_and_then (λ (s : Session). (f s).held) (with_number y ss)
changed_own y f keeps [] = refl
changed_own y f keeps (s ∷ ss) = by (s.number == y) refl (changed_own y f keeps ss)
  where
    by : (b : Bool) → (s.number == y) ≡ b → held_in y (on_session y f ss) ≡ option_and_then (λ (t : Session). (f t).held) (with_number y ss)
        → held_in y ((if b then f s else s) ∷ on_session y f ss) ≡ option_and_then (λ (t : Session). (f t).held) (if b then Some s else with_number y ss)
    by true at rest =
        let now : ((f s).number == y) ≡ true = ap (λ k. k == y) (keeps s) ∙ at in
        rw now refl
    by false at rest = rw at rest

-- where nothing is taken or given, all is held as it was
asked_held : (y x : ℕ) (f : Session → Session) → ((s : Session) → (f s).number ≡ s.number) → ((s : Session) → (f s).held ≡ s.held) → (ss : List Session) → held_in x (on_session y f ss) ≡ held_in x ss
asked_held y x f keeps holds [] = refl
asked_held y x f keeps holds (s ∷ ss) = by (s.number == y) (asked_held y x f keeps holds ss)
  where
    same : (t : Session) (b c : Bool) → b ≡ c → t.held ≡ s.held → held_in x (on_session y f ss) ≡ held_in x ss → held_of (if b then Some t else with_number x (on_session y f ss)) ≡ held_of (if c then Some s else with_number x ss)
    same t true true is held rest = held
    same t false false is held rest = rest
    same t true false is held rest = (cc)
    same t false true is held rest = (cc)

    by : (b : Bool) → held_in x (on_session y f ss) ≡ held_in x ss → held_in x ((if b then f s else s) ∷ on_session y f ss) ≡ held_in x (s ∷ ss)
    by true rest = same (f s) ((f s).number == x) (s.number == x) (ap (λ k. k == x) (keeps s)) (holds s) rest
    by false rest = same s (s.number == x) (s.number == x) refl refl rest

asked_holder : (c : List ℕ) (y : ℕ) (f : Session → Session) → ((s : Session) → (f s).number ≡ s.number) → ((s : Session) → (f s).held ≡ s.held) → (ss : List Session) → holder_among c (on_session y f ss) ≡ holder_among c ss
asked_holder c y f keeps holds [] = refl
asked_holder c y f keeps holds (s ∷ ss) = by (s.number == y) (asked_holder c y f keeps holds ss)
  where
    same : (t : Session) (b d : Bool) → b ≡ d → t.number ≡ s.number → holder_among c (on_session y f ss) ≡ holder_among c ss
        → option_map session_number (if b then Some t else find (λ (u : Session). is_held c u.held) (on_session y f ss)) ≡ option_map session_number (if d then Some s else find (λ (u : Session). is_held c u.held) ss)
    same t true true is number rest = ap Some number
    same t false false is number rest = rest
    same t true false is number rest = (cc)
    same t false true is number rest = (cc)

    by : (b : Bool) → holder_among c (on_session y f ss) ≡ holder_among c ss → holder_among c ((if b then f s else s) ∷ on_session y f ss) ≡ holder_among c (s ∷ ss)
    by true rest = same (f s) (is_held c (f s).held) (is_held c s.held) (ap (is_held c) (holds s)) (keeps s) rest
    by false rest = same s (is_held c s.held) (is_held c s.held) refl refl rest

-- a holder stays where another session comes to hold something else, or nothing
holder_stays : (c : List ℕ) (y x : ℕ) (f : Session → Session) → ((s : Session) → is_held c (f s).held ≡ false) → (y == x) ≡ false → (ss : List Session) → holder_among c ss ≡ Some x → holder_among c (on_session y f ss) ≡ Some x
holder_stays c y x f none apart [] is = (cc)
holder_stays c y x f none apart (s ∷ ss) is = by (s.number == y) refl (is_held c s.held) refl is (holder_stays c y x f none apart ss)
  where
    by : (b : Bool) → (s.number == y) ≡ b → (d : Bool) → is_held c s.held ≡ d → option_map session_number (if d then Some s else find (λ (u : Session). is_held c u.held) ss) ≡ Some x
        → (holder_among c ss ≡ Some x → holder_among c (on_session y f ss) ≡ Some x) → holder_among c ((if b then f s else s) ∷ on_session y f ss) ≡ Some x
    by true at true held is rest =
        let number : s.number ≡ x = (cc) in
        absurd (eqb-false s.number x (other_number s.number y x at apart) number)
    by true at false held is rest = rw (none s) (rest is)
    by false at true held is rest = rw held is
    by false at false held is rest = rw held (rest is)

-- who acquires what nobody holds is its holder
acquired_holder : (c : List ℕ) (y : ℕ) (f : Session → Session) → ((s : Session) → (f s).number ≡ s.number) → ((s : Session) → is_held c (f s).held ≡ true) → (ss : List Session)
    → holder_among c ss ≡ None → IsSome (with_number y ss) → holder_among c (on_session y f ss) ≡ Some y
acquired_holder c y f keeps takes [] none live = (cc)
acquired_holder c y f keeps takes (s ∷ ss) none live = by (s.number == y) refl (is_held c s.held) refl none live (acquired_holder c y f keeps takes ss)
  where
    by : (b : Bool) → (s.number == y) ≡ b → (d : Bool) → is_held c s.held ≡ d → option_map session_number (if d then Some s else find (λ (u : Session). is_held c u.held) ss) ≡ None → IsSome (if b then Some s else with_number y ss)
        → (holder_among c ss ≡ None → IsSome (with_number y ss) → holder_among c (on_session y f ss) ≡ Some y) → holder_among c ((if b then f s else s) ∷ on_session y f ss) ≡ Some y
    by b at true held none live rest = (cc)
    by true at false held none live rest = rw (takes s) (ap Some (keeps s ∙ eqb-true s.number y at))
    by false at false held none live rest = rw held (rest none live)

-- a session that ends

ended_other : (y x : ℕ) → (y == x) ≡ false → (ss : List Session) → held_in x (without_session y ss) ≡ held_in x ss
ended_other y x apart [] = refl
ended_other y x apart (s ∷ ss) = by (s.number == y) refl (ended_other y x apart ss)
  where
    same : (b : Bool) → held_in x (without_session y ss) ≡ held_in x ss → held_of (if b then Some s else with_number x (without_session y ss)) ≡ held_of (if b then Some s else with_number x ss)
    same true rest = refl
    same false rest = rest

    by : (b : Bool) → (s.number == y) ≡ b → held_in x (without_session y ss) ≡ held_in x ss → held_in x (if not b then s ∷ without_session y ss else without_session y ss) ≡ held_in x (s ∷ ss)
    by true at rest = rw (other_number s.number y x at apart) rest
    by false at rest = same (s.number == x) rest

ended_own : (y : ℕ) (ss : List Session) → held_in y (without_session y ss) ≡ None
ended_own y [] = refl
ended_own y (s ∷ ss) = by (s.number == y) refl (ended_own y ss)
  where
    by : (b : Bool) → (s.number == y) ≡ b → held_in y (without_session y ss) ≡ None → held_in y (if not b then s ∷ without_session y ss else without_session y ss) ≡ None
    by true at rest = rest
    by false at rest = rw at rest

ended_holder : (c : List ℕ) (y x : ℕ) → (y == x) ≡ false → (ss : List Session) → holder_among c ss ≡ Some x → holder_among c (without_session y ss) ≡ Some x
ended_holder c y x apart [] is = (cc)
ended_holder c y x apart (s ∷ ss) is = by (s.number == y) refl (is_held c s.held) refl is (ended_holder c y x apart ss)
  where
    by : (b : Bool) → (s.number == y) ≡ b → (d : Bool) → is_held c s.held ≡ d → option_map session_number (if d then Some s else find (λ (u : Session). is_held c u.held) ss) ≡ Some x
        → (holder_among c ss ≡ Some x → holder_among c (without_session y ss) ≡ Some x) → holder_among c (if not b then s ∷ without_session y ss else without_session y ss) ≡ Some x
    by true at true held is rest =
        let number : s.number ≡ x = (cc) in
        absurd (eqb-false s.number x (other_number s.number y x at apart) number)
    by true at false held is rest = rest is
    by false at true held is rest = rw held is
    by false at false held is rest = rw held (rest is)

-- what an effect finds

-- a lock is acquired of a contract that is known and that nobody holds, by a live session that holds none
abbrev pub Acquirable : List Kept → ℕ → List ℕ → List Session → Type 0
Acquirable contracts number contract sessions =
    (is_among contract contracts ≡ true) × IsSome (with_number number sessions) × (held_in number sessions ≡ None) × (holder_among contract sessions ≡ None)

-- an effect is one that a host gives
abbrev pub Allowed : List Kept → Effect → ℕ → Option (List ℕ) → List Session → Type 0
Allowed contracts effect.Acquires number None sessions = ⊥
Allowed contracts effect.Acquires number (Some contract) sessions = Acquirable contracts number contract sessions
Allowed contracts other number contract sessions = Unit {0}

-- what holds by two numbers that are one
moved : (P : ℕ → Type 0) (y x : ℕ) → (y == x) ≡ true → P y → P x
moved P y x same p = subst P (eqb-true y x same) p

-- nothing isn't something
no_contract : (held : Option (List ℕ)) (c : List ℕ) → held ≡ None → held ≡ Some c → ⊥
no_contract held c none some = absurd (let same : None ≡ Some c = sym none ∙ some in cc)

bytes_itself : (c : List ℕ) → bytes_eq c c ≡ true
bytes_itself c = (bytes_eq-Decides c c).1 refl

-- a contract that one holds isn't one that nobody holds
apart_contracts : (c d : List ℕ) (x : ℕ) (ss : List Session) → holder_among c ss ≡ Some x → holder_among d ss ≡ None → bytes_eq d c ≡ false
apart_contracts c d x ss is none = by (bytes_eq d c) refl
  where
    by : (b : Bool) → bytes_eq d c ≡ b → bytes_eq d c ≡ false
    by true at = absurd (
        let one : d ≡ c = same_bytes d c at in
        let gone : holder_among c ss ≡ None = subst (λ e. holder_among e ss ≡ None) one none in
        let same : None ≡ Some x = sym gone ∙ is in
        cc)
    by false at = at

-- after an acquired lock sessions agree with holders
acquired_agree : (y : ℕ) (challenge d : List ℕ) (ss : List Session) → IsSome (with_number y ss) → holder_among d ss ≡ None → Agree ss → Agree (on_session y (session_changed effect.Acquires challenge (Some d)) ss)
acquired_agree y challenge d ss live none agree x c is = by (y == x) refl
  where
    f : Session → Session
    f = session_changed effect.Acquires challenge (Some d)

    own : (found : Option Session) → IsSome found → option_and_then (λ (s : Session). (f s).held) found ≡ Some d
    own None some = (cc)
    own (Some s) some = refl

    by : (b : Bool) → (y == x) ≡ b → holder_among c (on_session y f ss) ≡ Some x
    by true at =
        let held : held_in x (on_session y f ss) ≡ Some d = moved (λ n. held_in n (on_session y f ss) ≡ Some d) y x at (changed_own y f (λ s. refl) ss ∙ own (with_number y ss) live) in
        let both : Some d ≡ Some c = sym held ∙ is in
        let same : d ≡ c = (cc) in
        let holder : holder_among d (on_session y f ss) ≡ Some y = acquired_holder d y f (λ s. refl) (λ s. bytes_itself d) ss none live in
        subst (λ e. holder_among e (on_session y f ss) ≡ Some x) same (holder ∙ ap Some (eqb-true y x at))
    by false at =
        let before : holder_among c ss ≡ Some x = agree x c (sym (changed_other y x f (λ s. refl) at ss) ∙ is) in
        holder_stays c y x f (λ s. apart_contracts c d x ss before none) at ss before

-- after one is given back they do
freed_agree : (y : ℕ) (challenge : List ℕ) (contract : Option (List ℕ)) (ss : List Session) → Agree ss → Agree (on_session y (session_changed effect.Frees challenge contract) ss)
freed_agree y challenge contract ss agree x c is = by (y == x) refl
  where
    f : Session → Session
    f = session_changed effect.Frees challenge contract

    own : (found : Option Session) → option_and_then (λ (s : Session). (f s).held) found ≡ None
    own None = refl
    own (Some s) = refl

    by : (b : Bool) → (y == x) ≡ b → holder_among c (on_session y f ss) ≡ Some x
    by true at = absurd (no_contract (held_in x (on_session y f ss)) c (moved (λ n. held_in n (on_session y f ss) ≡ None) y x at (changed_own y f (λ s. refl) ss ∙ own (with_number y ss))) is)
    by false at = holder_stays c y x f (λ s. refl) at ss (agree x c (sym (changed_other y x f (λ s. refl) at ss) ∙ is))

-- after a session ends they do
ended_agree : (y : ℕ) (ss : List Session) → Agree ss → Agree (without_session y ss)
ended_agree y ss agree x c is = by (y == x) refl
  where
    by : (b : Bool) → (y == x) ≡ b → holder_among c (without_session y ss) ≡ Some x
    by true at = absurd (no_contract (held_in x (without_session y ss)) c (moved (λ n. held_in n (without_session y ss) ≡ None) y x at (ended_own y ss)) is)
    by false at = ended_holder c y x at ss (agree x c (sym (ended_other y x at ss) ∙ is))

-- so they agree after each effect
pub agree_by : (contracts : List Kept) (done : Effect) (y : ℕ) (challenge : List ℕ) (contract : Option (List ℕ)) (ss : List Session) → Allowed contracts done y contract ss → Agree ss → Agree (sessions_by done y challenge contract ss)
agree_by contracts effect.Begins y challenge contract ss allowed agree = (λ x c is. begun_holder c y challenge ss ∙ agree x c (sym (begun_held x y challenge ss) ∙ is))
agree_by contracts effect.Acquires y challenge None ss allowed agree = elim allowed [ ]
agree_by contracts effect.Acquires y challenge (Some d) ss allowed agree = acquired_agree y challenge d ss allowed.1 allowed.3 agree
agree_by contracts effect.AsksAnew y challenge contract ss allowed agree =
    (λ x c is. asked_holder c y (session_changed effect.AsksAnew challenge contract) (λ s. refl) (λ s. refl) ss ∙ agree x c (sym (asked_held y x (session_changed effect.AsksAnew challenge contract) (λ s. refl) (λ s. refl) ss) ∙ is))
agree_by contracts effect.Frees y challenge contract ss allowed agree = freed_agree y challenge contract ss agree
agree_by contracts effect.Ends y challenge contract ss allowed agree = ended_agree y ss agree
agree_by contracts effect.Stays y challenge contract ss allowed agree = agree

-- a session that doesn't give its lock up holds it after each effect
pub held_by : (contracts : List Kept) (done : Effect) (y : ℕ) (challenge : List ℕ) (contract : Option (List ℕ)) (ss : List Session) (x : ℕ) (c : List ℕ) → Allowed contracts done y contract ss
    → (is_giving_up done && (y == x)) ≡ false → held_in x ss ≡ Some c → held_in x (sessions_by done y challenge contract ss) ≡ Some c
held_by contracts effect.Begins y challenge contract ss x c allowed keeps is = begun_held x y challenge ss ∙ is
held_by contracts effect.Acquires y challenge None ss x c allowed keeps is = elim allowed [ ]
held_by contracts effect.Acquires y challenge (Some d) ss x c allowed keeps is = by (y == x) refl
  where
    by : (b : Bool) → (y == x) ≡ b → held_in x (on_session y (session_changed effect.Acquires challenge (Some d)) ss) ≡ Some c
    by true at = absurd (no_contract (held_in x ss) c (moved (λ n. held_in n ss ≡ None) y x at allowed.2) is)
    by false at = changed_other y x (session_changed effect.Acquires challenge (Some d)) (λ s. refl) at ss ∙ is
held_by contracts effect.AsksAnew y challenge contract ss x c allowed keeps is = asked_held y x (session_changed effect.AsksAnew challenge contract) (λ s. refl) (λ s. refl) ss ∙ is
held_by contracts effect.Frees y challenge contract ss x c allowed keeps is = changed_other y x (session_changed effect.Frees challenge contract) (λ s. refl) keeps ss ∙ is
held_by contracts effect.Ends y challenge contract ss x c allowed keeps is = ended_other y x keeps ss ∙ is
held_by contracts effect.Stays y challenge contract ss x c allowed keeps is = is

-- what a session acquires is known, and held by it
pub acquired_by : (contracts : List Kept) (done : Effect) (y : ℕ) (challenge : List ℕ) (contract : Option (List ℕ)) (ss : List Session) (c : List ℕ) → Allowed contracts done y contract ss
    → (is_acquiring done && is_held c contract) ≡ true → (is_among c contracts ≡ true) × (held_in y (sessions_by done y challenge contract ss) ≡ Some c)
acquired_by contracts effect.Acquires y challenge None ss c allowed is = elim allowed [ ]
acquired_by contracts effect.Acquires y challenge (Some d) ss c allowed is =
    let f = session_changed effect.Acquires challenge (Some d) in
    let same : d ≡ c = same_bytes d c is in
    (subst (λ e. is_among e contracts ≡ true) same allowed.0, changed_own y f (λ s. refl) ss ∙ own (with_number y ss) allowed.1 ∙ ap Some same)
  where
    own : (found : Option Session) → IsSome found → option_and_then (λ (s : Session). Some d) found ≡ Some d
    own None some = (cc)
    own (Some s) some = refl
acquired_by contracts effect.Begins y challenge contract ss c allowed is = (cc)
acquired_by contracts effect.AsksAnew y challenge contract ss c allowed is = (cc)
acquired_by contracts effect.Frees y challenge contract ss c allowed is = (cc)
acquired_by contracts effect.Ends y challenge contract ss c allowed is = (cc)
acquired_by contracts effect.Stays y challenge contract ss c allowed is = (cc)
