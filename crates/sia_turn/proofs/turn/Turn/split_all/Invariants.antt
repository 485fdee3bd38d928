-- So many passes were split off, which are alike, and there is room for the rest.
use Rattle.std.proofs.Common.{◌≡◌, ◌-◌, ◌≤◌, [], replicate, vec_len, vec_capacity}
use Rattle.sia_turn.proofs.turn.Turn.split_all.Given as goal

abbrev pub invariant-loop : goal.invariant-loop
invariant-loop g l = record {
  pass : l.pass ≡ record l.fn.pass { rest = l.fn.pass.rest - l.counter };
  new : l.passes.items ≡ replicate l.counter (record l.fn.pass { own = []; parts = 1; rest = 0 });
  len : vec_len l.passes ≡ l.counter;
  room : l.count ≤ vec_capacity l.passes;
}
