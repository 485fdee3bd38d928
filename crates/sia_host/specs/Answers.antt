-- What a host answers to each command (RHP2; siad's modules/host and doc/Consensus.md).
use Rattle.std.specs.Prelude.{◌≡◌, ℕ, Bool, true, false, List}
use Rattle.sia_commands.specs.declared.command.Command.{Command}
use Rattle.sia_commands.specs.declared.command.Command.TheVariants as command
use Rattle.sia_commands.specs.declared.step.Room.{Room}
use Rattle.sia_host.specs.Answered.{Reaction, Host}
use Rattle.sia_host.specs.Entering.{enter_reaction, leave_reaction, settings_reaction}
use Rattle.sia_host.specs.Fetching.{fetch_reaction}
use Rattle.sia_host.specs.Feeding.{apply_reaction, revert_reaction}
use Rattle.sia_host.specs.Forming.{IsFormed, IsFormSigned}
use Rattle.sia_host.specs.Locking.{lock_reaction, unlock_reaction}
use Rattle.sia_host.specs.Outbox.{due_reaction, stale_reaction}
use Rattle.sia_host.specs.Reading.{AreRoots, IsRead}
use Rattle.sia_host.specs.Renewing.{IsRenewed, IsRenewSigned}
use Rattle.sia_host.specs.Writing.{IsWriteSigned, IsWritten}

-- A command of a worker and a session is answered so, where `accepts` judges key, hash and signature, and `Signs` says which
-- signatures of a hash the host's signer may make. The session isn't looked at where one begins, and where no session asks.
abbrev pub IsAnswer : (List ℕ → List ℕ → List ℕ → Bool) → (List ℕ → List ℕ → Type 0) → Host → Room → ℕ → ℕ → Command → Reaction → Type 0
IsAnswer accepts Signs h room worker session command.Enter a = a ≡ enter_reaction h worker
IsAnswer accepts Signs h room worker session command.Settings a = a ≡ settings_reaction h worker session
IsAnswer accepts Signs h room worker session (command.Form request) a = IsFormed h worker session request a
IsAnswer accepts Signs h room worker session (command.FormSign request renter) a = IsFormSigned accepts Signs h room worker session request renter a
IsAnswer accepts Signs h room worker session (command.Lock request) a = a ≡ lock_reaction accepts h worker session request
IsAnswer accepts Signs h room worker session command.Unlock a = a ≡ unlock_reaction h worker session
IsAnswer accepts Signs h room worker session (command.Fetch want) a = a ≡ fetch_reaction h worker session want
IsAnswer accepts Signs h room worker session (command.Write write) a = IsWritten h room worker session write a
IsAnswer accepts Signs h room worker session (command.WriteSign write renter) a = IsWriteSigned accepts Signs h room worker session write renter a
IsAnswer accepts Signs h room worker session (command.Read read) a = IsRead accepts Signs h room worker session read a
IsAnswer accepts Signs h room worker session (command.Roots request) a = AreRoots accepts Signs h room worker session request a
IsAnswer accepts Signs h room worker session (command.Renew tx) a = IsRenewed h worker session tx a
IsAnswer accepts Signs h room worker session (command.RenewSign tx renter) a = IsRenewSigned accepts Signs h room worker session tx renter a
IsAnswer accepts Signs h room worker session command.Leave a = a ≡ leave_reaction h worker session
IsAnswer accepts Signs h room worker session (command.Apply block) a = a ≡ apply_reaction accepts h room worker block
IsAnswer accepts Signs h room worker session command.Revert a = a ≡ revert_reaction h room worker
IsAnswer accepts Signs h room worker session (command.Stale id first) a = a ≡ stale_reaction h worker id first
IsAnswer accepts Signs h room worker session (command.Due id first) a = a ≡ due_reaction h worker id first

-- whether a command ends a session
abbrev pub is_leave : Command → Bool
is_leave command.Leave = true
is_leave other = false
