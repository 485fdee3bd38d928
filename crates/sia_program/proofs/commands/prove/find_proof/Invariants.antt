use Rattle.std.proofs.Common.{◌≡◌, ◌*◌, ◌^◌, ◌≤◌, length}
use Rattle.sia_program.proofs.Soaked.{SoakedSoFar}
use Rattle.sia_program.proofs.commands.prove.find_proof.Given as goal

abbrev pub invariant-loop : goal.invariant-loop
invariant-loop g l =
    record {
      so_far : SoakedSoFar (g.S.Source.left l.fn.input) (g.S.Source.left l.input) l.prover.bytes;
      range : (l.prover.start ≡ l.start) × (l.prover.end ≡ l.end);
      pushed : l.size ≡ length l.prover.bytes;
      pieces : l.size ≡ 65536 * l.counter;
      within : l.size ≤ 2 ^ 30;
      later : g.S.Source.faults l.fn.input ≤ g.S.Source.faults l.input;
    }
