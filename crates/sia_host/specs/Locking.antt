-- What a host answers to one that asks for the lock of a contract, or gives it back (RHP2; siad's modules/negotiate.go; what is
-- signed is this project's own).
use Rattle.std.specs.Prelude.{ℕ, Bool, true, false, List, [], ◌++◌, codes, not, Option, Some, None, Result, Ok, Err}
use Rattle.sia_blake.specs.Blake2b.{blake2b_256}
use Rattle.sia_encoding.specs.Answer.{◌>>=◌, unless}
use Rattle.sia_encoding.specs.Firsts.{broken}
use Rattle.sia_encoding.specs.Spelling.{label}
use Rattle.sia_rhp.specs.declared.answer.Answer.TheVariants as answer
use Rattle.sia_rhp.specs.declared.answer_bodies.LockAnswer.{LockAnswer}
use Rattle.sia_rhp.specs.declared.request_bodies.LockRequest.{LockRequest}
use Rattle.sia_commands.specs.declared.call.Call.{Call}
use Rattle.sia_commands.specs.declared.codes.TheConstants.{BAD_SIGNATURE, WRONG_STATE}
use Rattle.sia_commands.specs.declared.event.Kind.TheVariants as kind
use Rattle.sia_commands.specs.declared.event.Outcome.TheVariants as outcome
use Rattle.sia_commands.specs.declared.reply.Reply.TheVariants as reply
use Rattle.sia_kept.specs.declared.session.Session.{Session}
use Rattle.sia_kept.specs.State.{Kept}
use Rattle.sia_host.specs.Answered.{Reaction, Host, answered, contract_now, held_now, holder_now, idle_now, next_challenge, refused}

-- what a request for a lock signs: the challenge and the contract's identifier
unfoldable pub lock_hash : List ℕ → List ℕ → List ℕ
lock_hash challenge contract = blake2b_256 (label (codes "sia challenge") ++ (challenge ++ contract))

-- the renter has signed the challenge of its session and the contract's identifier
abbrev pub signs_lock : (List ℕ → List ℕ → List ℕ → Bool) → LockRequest → Session → Kept → Bool
signs_lock accepts request session contract = accepts contract.renter_key (lock_hash session.challenge request.contract) request.signature

-- the contract that a session may lock, if nobody holds it; or the code of the first of these: the session isn't live, or
-- holds a contract; the host doesn't know this one; the signature isn't accepted
abbrev pub lock_judged : (List ℕ → List ℕ → List ℕ → Bool) → Host → ℕ → LockRequest → Result Kept ℕ
lock_judged accepts h session request =
    idle_now h session
    >>= (λ live. contract_now h request.contract
    >>= (λ contract. unless (broken (not (signs_lock accepts request live contract)) BAD_SIGNATURE)
    >>= (λ _. Ok contract)))

-- a lock that is acquired: the newest revision is shown, with its signatures
abbrev pub lock_acquired : Host → Kept → LockAnswer
lock_acquired h contract = record { acquired = true; holder = 0; challenge = next_challenge h; newest = Some contract.newest; signatures = contract.signatures }

-- a lock that a session holds
abbrev pub lock_missed : Host → ℕ → LockAnswer
lock_missed h holder = record { acquired = false; holder = holder; challenge = next_challenge h; newest = None; signatures = [] }

-- what follows from the judgement, and from who holds the contract
abbrev pub lock_given : Host → Call → List ℕ → Result Kept ℕ → Option ℕ → Reaction
lock_given h call id (Err code) holder = refused h call (Some id) code
lock_given h call id (Ok contract) (Some holder) = answered h call (Some id) (outcome.Held holder) (reply.Said (answer.Lock (lock_missed h holder))) None
lock_given h call id (Ok contract) None = answered h call (Some id) outcome.Fine (reply.Said (answer.Lock (lock_acquired h contract))) None

-- a request for a lock; its event names the contract, whatever the answer
abbrev pub lock_reaction : (List ℕ → List ℕ → List ℕ → Bool) → Host → ℕ → ℕ → LockRequest → Reaction
lock_reaction accepts h worker session request =
    lock_given h (record { worker = worker; session = session; kind = kind.Lock }) request.contract (lock_judged accepts h session request) (holder_now h request.contract)

-- a lock is given back, if the session holds a contract
abbrev pub unlock_given : Host → Call → Option (List ℕ) → Reaction
unlock_given h call None = refused h call None WRONG_STATE
unlock_given h call (Some held) = answered h call (Some held) outcome.Fine (reply.Said answer.Unlock) None

-- a request to give the lock back
abbrev pub unlock_reaction : Host → ℕ → ℕ → Reaction
unlock_reaction h worker session = unlock_given h (record { worker = worker; session = session; kind = kind.Unlock }) (held_now h session)
