-- What calls of a desk add, one behind the other, and how a script follows them.
use Rattle.std.proofs.Common.{◌≡◌, inl, inr, ◌≤◌, ℕ, List, [], ◌∷◌, ◌++◌, Option, None, Some, Result, Ok, Err, refl, sym, ap, subst, ◌∙◌, append_assoc, arith}
use Rattle.std.specs.Prelude.{IfErr}
use Rattle.std.proofs.lemmas.List.{append-nil}
use Rattle.sia_commands.specs.declared.command.Command.{Command}
use Rattle.sia_commands.specs.declared.command.Command.TheVariants as command
use Rattle.sia_commands.specs.declared.reply.Reply.{Reply}
use Rattle.sia_commands.specs.declared.stop.Stop.{Stop}
use Rattle.sia_commands.specs.declared.stop.Stop.TheVariants as stop
use Rattle.sia_session.specs.Acts.{Act, act, told, Acted, IsCaused, LeavesAlone}
use Rattle.sia_session.specs.Script.{Script, Ends, Asks, say, and_then, after, Runs, Cuts, Follows}
use Rattle.sia_session.specs.Told.{Grows}
use Rattle.sia_session.proofs.Scripts.{runs_on, cuts_on, after_on, runs_then, cuts_then, after_then}

pub say_nothing : {A : Type 0} (s : Script A) → say [] s ≡ s
say_nothing (Ends sent result) = refl
say_nothing (Asks sent session asked next) = refl

-- no call
pub none_more : {X : Type 0} (old new : Option (List X)) (P : List X → Type 0) → new ≡ old → P [] → Grows old new P
none_more None new P same holds = tt
none_more (Some old) None P same holds = cc
none_more (Some old) (Some new) P same holds = let e : new ≡ old = cc in ([], e ∙ sym (append-nil old), holds)

-- one that added these
pub grown_by : (old new : Option (List Act)) (n : ℕ) (c : Command) (r : Result Reply Stop) (P : List Act → Type 0) → Acted old new n c r → P (told n c r) → Grows old new P
grown_by None new n c r P acted holds = tt
grown_by (Some old) None n c r P acted holds = absurd acted
grown_by (Some old) (Some new) n c r P acted holds = (told n c r, acted, holds)

-- two
pub grows_both : {X : Type 0} (old mid new : Option (List X)) (P Q R : List X → Type 0) → Grows old mid P → Grows mid new Q → ((xs ys : List X) → P xs → Q ys → R (xs ++ ys)) → Grows old new R
grows_both None mid new P Q R first second joins = tt
grows_both (Some old) None new P Q R first second joins = absurd first
grows_both (Some old) (Some mid) None P Q R first second joins = absurd second
grows_both (Some old) (Some mid) (Some new) P Q R first second joins =
    (first.0 ++ second.0, second.1 ∙ ap (λ xs. xs ++ second.0) first.1 ∙ append_assoc old first.0 second.0, joins first.0 second.0 first.2 second.2)

pub grows_so : {X : Type 0} (old new : Option (List X)) (P Q : List X → Type 0) → ((xs : List X) → P xs → Q xs) → Grows old new P → Grows old new Q
grows_so None new P Q so grows = tt
grows_so (Some old) None P Q so grows = absurd grows
grows_so (Some old) (Some new) P Q so grows = (grows.0, grows.1, so grows.0 grows.2)

-- a command but Leave adds its act
pub told_one : (n : ℕ) (c : Command) (r : Reply) → (c ≡ command.Leave → ⊥) → told n c (Ok r) ≡ act n c (Some r) ∷ []
told_one n command.Leave r other = absurd (other refl)
told_one n _ r other = refl

module _ {A : Type 0} (n : ℕ) (c : Command) (next : Reply → Script A) where
  asked_follows : (r : Reply) (result : Result A Stop) (acts : List Act) → Follows (next r) result acts → Follows (Asks [] n c next) result (act n c (Some r) ∷ acts)
  asked_follows r (Ok x) acts follows = ((refl, refl, follows.0), say_nothing (after (next r) acts) ∙ follows.1)
  asked_follows r (Err s) acts follows = (refl, refl, follows)

  -- a command with its reply, and what follows it
  pub asked : (old mid new : Option (List Act)) (r : Reply) (result : Result A Stop) → (c ≡ command.Leave → ⊥) → Acted old mid n c (Ok r) → Grows mid new (Follows (next r) result) → Grows old new (Follows (Asks [] n c next) result)
  asked old mid new r result other acted more =
      grows_both old mid new (λ acts. acts ≡ act n c (Some r) ∷ []) (Follows (next r) result) (Follows (Asks [] n c next) result)
      (grown_by old mid n c (Ok r) (λ acts. acts ≡ act n c (Some r) ∷ []) acted (told_one n c r other)) more
      (λ xs ys is follows. let P : List Act → Type 0 = λ zs. Follows (Asks [] n c next) result (zs ++ ys) in subst P (sym is) (asked_follows r result ys follows))

  cut_told : (s : Stop) → Cuts (Asks [] n c next) (told n c (Err s))
  cut_told stop.Disk = (refl, refl, refl)
  cut_told stop.Memory = tt
  cut_told stop.Halted = tt
  cut_told stop.EventsFull = tt

  -- a command that was stopped
  pub stopped : (old new : Option (List Act)) (s t : Stop) → Acted old new n c (Err s) → Grows old new (Follows (Asks [] n c next) (Err t))
  stopped old new s t acted = grown_by old new n c (Err s) (Follows (Asks [] n c next) (Err t)) acted (cut_told s)

  -- a command whose reply was lost for want of memory
  pub asked_cut : (old new : Option (List Act)) (r : Reply) (t : Stop) → (c ≡ command.Leave → ⊥) → Acted old new n c (Ok r) → Grows old new (Follows (Asks [] n c next) (Err t))
  asked_cut old new r t other acted = asked old new new r (Err t) other acted (none_more new new (Follows (next r) (Err t)) refl tt)

  -- a command whose reply ends it
  pub asked_done : (old new : Option (List Act)) (r : Reply) (x : A) → (c ≡ command.Leave → ⊥) → Acted old new n c (Ok r) → next r ≡ Ends [] x → Grows old new (Follows (Asks [] n c next) (Ok x))
  asked_done old new r x other acted is = asked old new new r (Ok x) other acted (none_more new new (Follows (next r) (Ok x)) refl (tt, is))

-- a command, and what is made of its reply
pub asked_said : {A : Type 0} (n : ℕ) (c : Command) (next : Reply → Script A) (old new : Option (List Act)) (r : Reply) (result : Result A Stop) → (c ≡ command.Leave → ⊥) → Acted old new n c (Ok r) → Follows (next r) result [] → Grows old new (Follows (Asks [] n c next) result)
asked_said n c next old new r result other acted follows = asked n c next old new new r result other acted (none_more new new (Follows (next r) result) refl follows)

-- where these acts have led
abbrev pub Leads : {A : Type 0} → Script A → Script A → List Act → Type 0
Leads s t acts = Runs s acts × (after s acts ≡ t)

pub follows_on : {A : Type 0} (s t : Script A) (result : Result A Stop) (xs ys : List Act) → Leads s t xs → Follows t result ys → Follows s result (xs ++ ys)
follows_on s t (Ok r) xs ys leads follows =
    let P : Script _ → Type 0 = λ u. Runs u ys in
    (runs_on s xs ys leads.0 (subst P (sym leads.1) follows.0), after_on s xs ys leads.0 ∙ ap (λ u. after u ys) leads.1 ∙ follows.1)
follows_on s t (Err e) xs ys leads follows =
    let P : Script _ → Type 0 = λ u. Cuts u ys in
    cuts_on s xs ys leads.0 (subst P (sym leads.1) follows)

-- from there on
pub led : {A : Type 0} (old mid new : Option (List Act)) (s t : Script A) (result : Result A Stop) → Grows old mid (Leads s t) → Grows mid new (Follows t result) → Grows old new (Follows s result)
led old mid new s t result first second = grows_both old mid new (Leads s t) (Follows t result) (Follows s result) first second (λ xs ys one two. follows_on s t result xs ys one two)

leads_asked : {A : Type 0} (s : Script A) (n : ℕ) (c : Command) (next : Reply → Script A) (r : Reply) (xs : List Act) → Leads s (Asks [] n c next) xs → Leads s (next r) (xs ++ act n c (Some r) ∷ [])
leads_asked s n c next r xs leads =
    let P : Script _ → Type 0 = λ u. Runs u (act n c (Some r) ∷ []) in
    let one : Runs (Asks [] n c next) (act n c (Some r) ∷ []) = (refl, refl, tt) in
    (runs_on s xs (act n c (Some r) ∷ []) leads.0 (subst P (sym leads.1) one), after_on s xs (act n c (Some r) ∷ []) leads.0 ∙ ap (λ u. after u (act n c (Some r) ∷ [])) leads.1 ∙ say_nothing (next r))

-- a command more, with its reply
pub leads_more : {A : Type 0} (old mid new : Option (List Act)) (s : Script A) (n : ℕ) (c : Command) (next : Reply → Script A) (r : Reply) → (c ≡ command.Leave → ⊥) → Grows old mid (Leads s (Asks [] n c next)) → Acted mid new n c (Ok r) → Grows old new (Leads s (next r))
leads_more old mid new s n c next r other leads acted =
    grows_both old mid new (Leads s (Asks [] n c next)) (λ acts. acts ≡ act n c (Some r) ∷ []) (Leads s (next r)) leads
    (grown_by mid new n c (Ok r) (λ acts. acts ≡ act n c (Some r) ∷ []) acted (told_one n c r other))
    (λ xs ys one is. let P : List Act → Type 0 = λ zs. Leads s (next r) (xs ++ zs) in subst P (sym is) (leads_asked s n c next r xs one))

-- a script that goes on as its result says

leads_then : {A B : Type 0} (s : Script B) (more : B → Script A) (x : B) (xs : List Act) → Follows s (Ok x) xs → Leads (and_then s more) (more x) xs
leads_then s more x xs follows =
    (runs_then s more xs follows.0, after_then s more xs follows.0 ∙ ap (λ t. and_then t more) follows.1 ∙ say_nothing (more x))

-- the first came to its end
pub both : {A B : Type 0} (old mid new : Option (List Act)) (s : Script B) (more : B → Script A) (x : B) (result : Result A Stop) → Grows old mid (Follows s (Ok x)) → Grows mid new (Follows (more x) result) → Grows old new (Follows (and_then s more) result)
both old mid new s more x result first second =
    led old mid new (and_then s more) (more x) result (grows_so old mid (Follows s (Ok x)) (Leads (and_then s more) (more x)) (λ xs follows. leads_then s more x xs follows) first) second

-- it was stopped
pub first_stopped : {A B : Type 0} (old new : Option (List Act)) (s : Script B) (more : B → Script A) (why t : Stop) → Grows old new (Follows s (Err why)) → Grows old new (Follows (and_then s more) (Err t))
first_stopped old new s more why t first = grows_so old new (Follows s (Err why)) (Follows (and_then s more) (Err t)) (λ xs cuts. cuts_then s more xs cuts) first

-- what two calls leave alone

pub alone_both : {D : Type 0} (staying : D → D → Type 0) (counts : D → Stop → ℕ) (size : D → ℕ) (old mid new : D) → ((a b c : D) → staying a b → staying b c → staying a c)
    → LeavesAlone staying counts size old mid → LeavesAlone staying counts size mid new → LeavesAlone staying counts size old new
alone_both staying counts size old mid new on first second = record {
  stays = on old mid new first.stays second.stays;
  sector = second.sector ∙ first.sector;
  later = λ why. omega (arith, first.later why, second.later why);
}

pub alone_none : {D : Type 0} (staying : D → D → Type 0) (counts : D → Stop → ℕ) (size : D → ℕ) (desk : D) → ((a : D) → staying a a) → LeavesAlone staying counts size desk desk
alone_none staying counts size desk itself = record { stays = itself desk; sector = refl; later = λ why. omega arith }

-- a stop of the second
pub caused_later : {D : Type 0} (counts : D → Stop → ℕ) (old mid new : D) (why : Stop) → counts old why ≤ counts mid why → IsCaused counts mid new why → IsCaused counts old new why
caused_later counts old mid new why later (inl memory) = inl memory
caused_later counts old mid new why later (inr rose) = inr (omega (arith, later, rose))

-- want of memory is a cause
pub memory_caused : {A D : Type 0} (counts : D → Stop → ℕ) (old new : D) (result : Result A Stop) → IfErr result (λ why. why ≡ stop.Memory) → IfErr result (IsCaused counts old new)
memory_caused counts old new (Ok x) memory = tt
memory_caused counts old new (Err why) memory = inl memory

-- a stop of the second of two calls
pub caused_second : {A D : Type 0} (counts : D → Stop → ℕ) (old mid new : D) (result : Result A Stop) → ((why : Stop) → counts old why ≤ counts mid why) → IfErr result (IsCaused counts mid new) → IfErr result (IsCaused counts old new)
caused_second counts old mid new (Ok x) later caused = tt
caused_second counts old mid new (Err why) later caused = caused_later counts old mid new why (later why) caused
