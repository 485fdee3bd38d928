-- The payload is a record, and is replayed as that is.
use Rattle.sia_host.proofs.Payloads.{payload_replays}
use Rattle.sia_host.proofs.host_core.Core.replay.Goals as goal

pub returns-in-Some-clause-replays : goal.returns-in-Some-clause-replays
returns-in-Some-clause-replays g c =
    payload_replays g.C.SigCheck.verdict c.args.self.now c.args.payload.now c.in-Some.made c.replay_record.result c.replay_record.new.self (rw c.in-Some.is at c.in_ok-record_in.ensures) c.replay_record.ensures.gives
