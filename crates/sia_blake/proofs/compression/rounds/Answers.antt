use Rattle.sia_blake.proofs.Rounds.{rounds_none, rounds_step}
use Rattle.sia_blake.proofs.compression.rounds.Goals as goal

pub returns : goal.returns
returns c =
    rounds_step _ _ _ _ _ _ c.round-v.ensures (
    rounds_step _ _ _ _ _ _ c.round-v-2.ensures (
    rounds_step _ _ _ _ _ _ c.round-v-3.ensures (
    rounds_step _ _ _ _ _ _ c.round-v-4.ensures (
    rounds_step _ _ _ _ _ _ c.round-v-5.ensures (
    rounds_step _ _ _ _ _ _ c.round-v-6.ensures (
    rounds_step _ _ _ _ _ _ c.round-v-7.ensures (
    rounds_step _ _ _ _ _ _ c.round-v-8.ensures (
    rounds_step _ _ _ _ _ _ c.round-v-9.ensures (
    rounds_step _ _ _ _ _ _ c.round-v-10.ensures (
    rounds_step _ _ _ _ _ _ c.round-v-11.ensures (
    rounds_step _ _ _ _ _ _ c.round-v-12.ensures (rounds_none _ _))))))))))))
