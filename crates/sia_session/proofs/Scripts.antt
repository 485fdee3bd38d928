-- Scripts, and runs of them one behind the other.
use Rattle.std.proofs.Common.{◌≡◌, ℕ, List, [], ◌∷◌, ◌++◌, Option, None, Some, refl, sym, ap, ◌∙◌, append_assoc}
use Rattle.sia_commands.specs.declared.command.Command.{Command}
use Rattle.sia_commands.specs.declared.reply.Reply.{Reply}
use Rattle.sia_session.specs.Acts.{Act}
use Rattle.sia_session.specs.Script.{Script, Ends, Asks, say, and_then, after, sent_of, Runs, Cuts, with_reply, WithReply}

pub say_say : {A : Type 0} (xs ys : List ℕ) (s : Script A) → say (xs ++ ys) s ≡ say xs (say ys s)
say_say xs ys (Ends sent result) = ap (λ zs. Ends zs result) (append_assoc xs ys sent)
say_say xs ys (Asks sent session command next) = ap (λ zs. Asks zs session command next) (append_assoc xs ys sent)

pub runs_unsaid : {A : Type 0} (p : List ℕ) (s : Script A) (acts : List Act) → Runs (say p s) acts → Runs s acts
runs_unsaid p s [] runs = tt
runs_unsaid p (Ends sent result) (a ∷ acts) runs = runs
runs_unsaid p (Asks sent session command next) (a ∷ acts) runs = runs

pub cuts_unsaid : {A : Type 0} (p : List ℕ) (s : Script A) (acts : List Act) → Cuts (say p s) acts → Cuts s acts
cuts_unsaid p s [] cuts = tt
cuts_unsaid p (Ends sent result) (a ∷ acts) cuts = cuts
cuts_unsaid p (Asks sent session command next) (a ∷ acts) cuts = cuts

reply_said : {A : Type 0} (p sent : List ℕ) (session : ℕ) (command : Command) (next : Reply → Script A) (more : Reply → Script A) (o : Option Reply)
    → with_reply o (Asks (p ++ sent) session command next) (λ reply. say (p ++ sent) (more reply)) ≡ say p (with_reply o (Asks sent session command next) (λ reply. say sent (more reply)))
reply_said p sent session command next more None = refl
reply_said p sent session command next more (Some reply) = say_say p sent (more reply)

pub after_said : {A : Type 0} (p : List ℕ) (s : Script A) (acts : List Act) → after (say p s) acts ≡ say p (after s acts)
after_said p s [] = refl
after_said p (Ends sent result) (a ∷ acts) = refl
after_said p (Asks sent session command next) (a ∷ acts) = reply_said p sent session command next (λ reply. after (next reply) acts) a.reply

-- a run, and one from where it ended

runs_reply : {A : Type 0} (sent : List ℕ) (session : ℕ) (command : Command) (next : Reply → Script A) (xs ys : List Act) (o : Option Reply)
    → ((r : Reply) → Runs (next r) xs → Runs (after (next r) xs) ys → Runs (next r) (xs ++ ys))
    → WithReply o ⊥ (λ r. Runs (next r) xs) → Runs (with_reply o (Asks sent session command next) (λ r. say sent (after (next r) xs))) ys → WithReply o ⊥ (λ r. Runs (next r) (xs ++ ys))
runs_reply sent session command next xs ys None again first second = absurd first
runs_reply sent session command next xs ys (Some r) again first second = again r first (runs_unsaid sent (after (next r) xs) ys second)

pub runs_on : {A : Type 0} (s : Script A) (xs ys : List Act) → Runs s xs → Runs (after s xs) ys → Runs s (xs ++ ys)
runs_on s [] ys first second = second
runs_on (Ends sent result) (x ∷ xs) ys first second = absurd first
runs_on (Asks sent session command next) (x ∷ xs) ys first second =
    (first.0, first.1, runs_reply sent session command next xs ys x.reply (λ r one two. runs_on (next r) xs ys one two) first.2 second)

cuts_reply : {A : Type 0} (sent : List ℕ) (session : ℕ) (command : Command) (next : Reply → Script A) (xs ys : List Act) (o : Option Reply)
    → ((r : Reply) → Runs (next r) xs → Cuts (after (next r) xs) ys → Cuts (next r) (xs ++ ys))
    → WithReply o ⊥ (λ r. Runs (next r) xs) → Cuts (with_reply o (Asks sent session command next) (λ r. say sent (after (next r) xs))) ys → WithReply o (xs ++ ys ≡ []) (λ r. Cuts (next r) (xs ++ ys))
cuts_reply sent session command next xs ys None again first second = absurd first
cuts_reply sent session command next xs ys (Some r) again first second = again r first (cuts_unsaid sent (after (next r) xs) ys second)

pub cuts_on : {A : Type 0} (s : Script A) (xs ys : List Act) → Runs s xs → Cuts (after s xs) ys → Cuts s (xs ++ ys)
cuts_on s [] ys first second = second
cuts_on (Ends sent result) (x ∷ xs) ys first second = absurd first
cuts_on (Asks sent session command next) (x ∷ xs) ys first second =
    (first.0, first.1, cuts_reply sent session command next xs ys x.reply (λ r one two. cuts_on (next r) xs ys one two) first.2 second)

after_reply : {A : Type 0} (sent : List ℕ) (session : ℕ) (command : Command) (next : Reply → Script A) (xs ys : List Act) (o : Option Reply)
    → ((r : Reply) → Runs (next r) xs → after (next r) (xs ++ ys) ≡ after (after (next r) xs) ys)
    → WithReply o ⊥ (λ r. Runs (next r) xs)
    → with_reply o (Asks sent session command next) (λ r. say sent (after (next r) (xs ++ ys))) ≡ after (with_reply o (Asks sent session command next) (λ r. say sent (after (next r) xs))) ys
after_reply sent session command next xs ys None again first = absurd first
after_reply sent session command next xs ys (Some r) again first = ap (say sent) (again r first) ∙ sym (after_said sent (after (next r) xs) ys)

pub after_on : {A : Type 0} (s : Script A) (xs ys : List Act) → Runs s xs → after s (xs ++ ys) ≡ after (after s xs) ys
after_on s [] ys first = refl
after_on (Ends sent result) (x ∷ xs) ys first = absurd first
after_on (Asks sent session command next) (x ∷ xs) ys first = after_reply sent session command next xs ys x.reply (λ r one. after_on (next r) xs ys one) first.2

-- a script that goes on as its result says

runs_reply_then : {A B : Type 0} (next : Reply → Script A) (more : A → Script B) (xs : List Act) (o : Option Reply)
    → ((r : Reply) → Runs (next r) xs → Runs (and_then (next r) more) xs) → WithReply o ⊥ (λ r. Runs (next r) xs) → WithReply o ⊥ (λ r. Runs (and_then (next r) more) xs)
runs_reply_then next more xs None again first = absurd first
runs_reply_then next more xs (Some r) again first = again r first

pub runs_then : {A B : Type 0} (s : Script A) (more : A → Script B) (xs : List Act) → Runs s xs → Runs (and_then s more) xs
runs_then s more [] runs = tt
runs_then (Ends sent result) more (x ∷ xs) runs = absurd runs
runs_then (Asks sent session command next) more (x ∷ xs) runs = (runs.0, runs.1, runs_reply_then next more xs x.reply (λ r one. runs_then (next r) more xs one) runs.2)

cuts_reply_then : {A B : Type 0} (next : Reply → Script A) (more : A → Script B) (xs : List Act) (o : Option Reply)
    → ((r : Reply) → Cuts (next r) xs → Cuts (and_then (next r) more) xs) → WithReply o (xs ≡ []) (λ r. Cuts (next r) xs) → WithReply o (xs ≡ []) (λ r. Cuts (and_then (next r) more) xs)
cuts_reply_then next more xs None again first = first
cuts_reply_then next more xs (Some r) again first = again r first

pub cuts_then : {A B : Type 0} (s : Script A) (more : A → Script B) (xs : List Act) → Cuts s xs → Cuts (and_then s more) xs
cuts_then s more [] cuts = tt
cuts_then (Ends sent result) more (x ∷ xs) cuts = absurd cuts
cuts_then (Asks sent session command next) more (x ∷ xs) cuts = (cuts.0, cuts.1, cuts_reply_then next more xs x.reply (λ r one. cuts_then (next r) more xs one) cuts.2)

pub then_said : {A B : Type 0} (p : List ℕ) (s : Script A) (more : A → Script B) → and_then (say p s) more ≡ say p (and_then s more)
then_said p (Ends sent result) more = say_say p sent (more result)
then_said p (Asks sent session command next) more = refl

after_reply_then : {A B : Type 0} (sent : List ℕ) (session : ℕ) (command : Command) (next : Reply → Script A) (more : A → Script B) (xs : List Act) (o : Option Reply)
    → ((r : Reply) → Runs (next r) xs → after (and_then (next r) more) xs ≡ and_then (after (next r) xs) more)
    → WithReply o ⊥ (λ r. Runs (next r) xs)
    → with_reply o (Asks sent session command (λ r. and_then (next r) more)) (λ r. say sent (after (and_then (next r) more) xs)) ≡ and_then (with_reply o (Asks sent session command next) (λ r. say sent (after (next r) xs))) more
after_reply_then sent session command next more xs None again first = absurd first
after_reply_then sent session command next more xs (Some r) again first = ap (say sent) (again r first) ∙ sym (then_said sent (after (next r) xs) more)

pub after_then : {A B : Type 0} (s : Script A) (more : A → Script B) (xs : List Act) → Runs s xs → after (and_then s more) xs ≡ and_then (after s xs) more
after_then s more [] runs = refl
after_then (Ends sent result) more (x ∷ xs) runs = absurd runs
after_then (Asks sent session command next) more (x ∷ xs) runs = after_reply_then sent session command next more xs x.reply (λ r one. after_then (next r) more xs one) runs.2

pub sent_said : {A : Type 0} (p : List ℕ) (s : Script A) → sent_of (say p s) ≡ p ++ sent_of s
sent_said p (Ends sent result) = refl
sent_said p (Asks sent session command next) = refl

-- a run is a front part
runs_reply_cuts : {A : Type 0} (next : Reply → Script A) (xs : List Act) (o : Option Reply) → ((r : Reply) → Runs (next r) xs → Cuts (next r) xs) → WithReply o ⊥ (λ r. Runs (next r) xs) → WithReply o (xs ≡ []) (λ r. Cuts (next r) xs)
runs_reply_cuts next xs None again runs = absurd runs
runs_reply_cuts next xs (Some r) again runs = again r runs

pub runs_cuts : {A : Type 0} (s : Script A) (xs : List Act) → Runs s xs → Cuts s xs
runs_cuts s [] runs = tt
runs_cuts (Ends sent result) (x ∷ xs) runs = absurd runs
runs_cuts (Asks sent session command next) (x ∷ xs) runs = (runs.0, runs.1, runs_reply_cuts next xs x.reply (λ r one. runs_cuts (next r) xs one) runs.2)

pub runs_said : {A : Type 0} (p : List ℕ) (s : Script A) (acts : List Act) → Runs s acts → Runs (say p s) acts
runs_said p s [] runs = tt
runs_said p (Ends sent result) (a ∷ acts) runs = runs
runs_said p (Asks sent session command next) (a ∷ acts) runs = runs

pub cuts_said : {A : Type 0} (p : List ℕ) (s : Script A) (acts : List Act) → Cuts s acts → Cuts (say p s) acts
cuts_said p s [] cuts = tt
cuts_said p (Ends sent result) (a ∷ acts) cuts = cuts
cuts_said p (Asks sent session command next) (a ∷ acts) cuts = cuts
