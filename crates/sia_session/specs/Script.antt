-- A conversation in steps: what is sent, and then a command whose reply decides how it goes on, or an end.
use Rattle.std.specs.Prelude.{◌≡◌, ℕ, List, [], ◌∷◌, ◌++◌, Option, Some, None, Result, Ok, Err}
use Rattle.sia_commands.specs.declared.command.Command.{Command}
use Rattle.sia_commands.specs.declared.reply.Reply.{Reply}
use Rattle.sia_commands.specs.declared.stop.Stop.{Stop}
use Rattle.sia_session.specs.Acts.{Act, looked_at}

-- what is sent and asked, given the replies, and what comes of it
pub data Script (A : Type 0) : Type 0 where
  Ends : (sent : List ℕ) → (result : A) → Script A
  Asks : (sent : List ℕ) → (session : ℕ) → (asked : Command) → (next : Reply → Script A) → Script A

-- these bytes are sent first
abbrev pub say : {A : Type 0} → List ℕ → Script A → Script A
say bytes (Ends sent result) = Ends (bytes ++ sent) result
say bytes (Asks sent session asked next) = Asks (bytes ++ sent) session asked next

-- one script, and then the one that its result gives
abbrev pub and_then : {A B : Type 0} → Script A → (A → Script B) → Script B
and_then (Ends sent result) more = say sent (more result)
and_then (Asks sent session asked next) more = Asks sent session asked (λ said. and_then (next said) more)

-- what it sends before its next command, or in all
abbrev pub sent_of : {A : Type 0} → Script A → List ℕ
sent_of (Ends sent result) = sent
sent_of (Asks sent session asked next) = sent

-- one of two, by whether there is a reply
abbrev pub with_reply : {X : Type 0} → Option Reply → X → (Reply → X) → X
with_reply None none some = none
with_reply (Some said) none some = some said

-- the same of facts
abbrev pub WithReply : Option Reply → Type 0 → (Reply → Type 0) → Type 0
WithReply None none some = none
WithReply (Some said) none some = some said

-- The script that is left after these acts, with all bytes that were sent in front. An act without a reply leaves it where it is.
abbrev pub after : {A : Type 0} → Script A → List Act → Script A
after script [] = script
after (Ends sent result) (one ∷ acts) = Ends sent result
after (Asks sent session asked next) (one ∷ acts) =
    with_reply one.reply (Asks sent session asked next) (λ said. say sent (after (next said) acts))

-- the acts are the script's commands in order, each with a reply
abbrev pub Runs : {A : Type 0} → Script A → List Act → Type 0
Runs script [] = Unit {0}
Runs (Ends sent result) (one ∷ acts) = ⊥
Runs (Asks sent session asked next) (one ∷ acts) =
    (one.session ≡ looked_at asked session) × (one.command ≡ asked) × WithReply one.reply ⊥ (λ said. Runs (next said) acts)

-- the same, but the last one may have no reply
abbrev pub Cuts : {A : Type 0} → Script A → List Act → Type 0
Cuts script [] = Unit {0}
Cuts (Ends sent result) (one ∷ acts) = ⊥
Cuts (Asks sent session asked next) (one ∷ acts) =
    (one.session ≡ looked_at asked session) × (one.command ≡ asked) × WithReply one.reply (acts ≡ []) (λ said. Cuts (next said) acts)

-- the acts are those of the script to its end, where it sends nothing by itself; or, where a stop came, to some place in it
abbrev pub Follows : {A : Type 0} → Script A → Result A Stop → List Act → Type 0
Follows script (Ok result) acts = Runs script acts × (after script acts ≡ Ends [] result)
Follows script (Err why) acts = Cuts script acts
