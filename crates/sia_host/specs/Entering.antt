-- What a host answers to one that comes or goes, and to one that asks for its settings (RHP2; siad's modules/negotiate.go).
use Rattle.std.specs.Prelude.{ℕ, Option, Some, None}
use Rattle.sia_rhp.specs.declared.answer.Answer.TheVariants as answer
use Rattle.sia_commands.specs.declared.call.Call.{Call}
use Rattle.sia_commands.specs.declared.codes.TheConstants.{WRONG_STATE}
use Rattle.sia_commands.specs.declared.event.Kind.TheVariants as kind
use Rattle.sia_commands.specs.declared.event.Outcome.TheVariants as outcome
use Rattle.sia_commands.specs.declared.reply.Reply.TheVariants as reply
use Rattle.sia_kept.specs.declared.session.Session.{Session}
use Rattle.sia_host.specs.Answered.{Reaction, Host, answered, next_challenge, next_session, no_work, session_now, settings_now}

-- a session begins, with a number and a challenge of its own
abbrev pub enter_reaction : Host → ℕ → Reaction
enter_reaction h worker =
    answered h (record { worker = worker; session = next_session h; kind = kind.Enter }) None outcome.Fine (reply.Entered (next_session h) (next_challenge h)) None

-- the leave of a session that is live, or of one that isn't, which leaves no event
abbrev pub leave_given : Host → Call → Option Session → Reaction
leave_given h call None = record { reply = reply.Error WRONG_STATE; event = None; made = None; work = no_work }
leave_given h call (Some session) = answered h call session.held outcome.Fine reply.Applied None

-- a session ends, and what it held is free
abbrev pub leave_reaction : Host → ℕ → ℕ → Reaction
leave_reaction h worker session = leave_given h (record { worker = worker; session = session; kind = kind.Leave }) (session_now h session)

-- the settings are told to anybody
abbrev pub settings_reaction : Host → ℕ → ℕ → Reaction
settings_reaction h worker session =
    answered h (record { worker = worker; session = session; kind = kind.Settings }) None outcome.Fine (reply.Said (answer.Settings (settings_now h))) None
