-- Where there is a block and no room for the record, the journal is full.
use Rattle.std.proofs.Common.{◌≡◌, ◌∙◌, ◌+◌, length, ℕ, zero, suc, Bool, true, None, IfOk, refl, sym, ap, subst}
use Rattle.std.specs.Prelude.{nat_lt}
use Rattle.sia_ledger.specs.Chain.{height}
use Rattle.sia_records.specs.declared.host_record.HostRecord.TheVariants as records
use Rattle.sia_commands.specs.declared.call.Call.{Call}
use Rattle.sia_commands.specs.declared.codes.TheConstants.{STORE_FULL}
use Rattle.sia_commands.specs.declared.step.Room.{Room}
use Rattle.sia_host.specs.Answered.{Host, IsReaction, lacks_room, refused}
use Rattle.sia_host.specs.Feeding.{recorded_unless, revert_given, revert_reaction}
use Rattle.sia_host.proofs.host_core.Core.revert.Goals as goal

some_given : (h : Host) (room : Room) (call : Call) (n : ℕ) → (n ≡ 0 → ⊥) → revert_given h room call n ≡ recorded_unless h (lacks_room room records.Revert) call records.Revert
some_given h room call zero none = absurd (none refl)
some_given h room call (suc below) none = refl

full : (h : Host) (room : Room) (call : Call) (lacks : Bool) → lacks ≡ lacks_room room records.Revert → lacks ≡ true → recorded_unless h (lacks_room room records.Revert) call records.Revert ≡ refused h call None STORE_FULL
full h room call lacks is there = ap (λ b. recorded_unless h b call records.Revert) (sym is ∙ there)

pub returns-then-lacks_room-clause-gives : goal.returns-then-lacks_room-clause-gives
returns-then-lacks_room-clause-gives c =
    let h = c.args.self.now in
    let call = c.feed_call-call.result in
    let some : height h.state.chain ≡ 0 → ⊥ = (λ none. c.if-height-eq0.false (c.height.ensures ∙ ap (λ (g : Host). height g.state.chain) c.self.view_is ∙ none)) in
    let lacks : c.lacks_room.result ≡ lacks_room c.args.room.now records.Revert = c.lacks_room.ensures ∙ ap (λ bytes. nat_lt c.args.room.now.bytes (length bytes + 9)) c.in_ok-framed.ensures in
    let given : revert_given h c.args.room.now call (height h.state.chain) ≡ refused h call None STORE_FULL = some_given h c.args.room.now call (height h.state.chain) some ∙ full h c.args.room.now call c.lacks_room.result lacks c.if-lacks_room.true in
    let at : revert_reaction h c.args.room.now c.args.worker ≡ refused h call None STORE_FULL = ap (λ k. revert_given h c.args.room.now k (height h.state.chain)) (sym c.feed_call-call.ensures) ∙ given in
    subst (λ a. IfOk c.refuse.result (λ step. IsReaction h a step c.refuse.new.self)) (sym at) c.refuse.ensures.gives
