use Rattle.sia_blake.proofs.Rounds.{rounds_none, rounds_step}
use Rattle.sia_blake.proofs.four.rounds.Goals as goal

pub returns : goal.returns
returns c j below =
    rounds_step _ _ _ _ _ _ (c.round-v.ensures j below) (
    rounds_step _ _ _ _ _ _ (c.round-v-2.ensures j below) (
    rounds_step _ _ _ _ _ _ (c.round-v-3.ensures j below) (
    rounds_step _ _ _ _ _ _ (c.round-v-4.ensures j below) (
    rounds_step _ _ _ _ _ _ (c.round-v-5.ensures j below) (
    rounds_step _ _ _ _ _ _ (c.round-v-6.ensures j below) (
    rounds_step _ _ _ _ _ _ (c.round-v-7.ensures j below) (
    rounds_step _ _ _ _ _ _ (c.round-v-8.ensures j below) (
    rounds_step _ _ _ _ _ _ (c.round-v-9.ensures j below) (
    rounds_step _ _ _ _ _ _ (c.round-v-10.ensures j below) (
    rounds_step _ _ _ _ _ _ (c.round-v-11.ensures j below) (
    rounds_step _ _ _ _ _ _ (c.round-v-12.ensures j below) (rounds_none _ _))))))))))))
