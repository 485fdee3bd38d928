use Rattle.std.proofs.Common.{◌≡◌, ◌++◌, drop}
use Rattle.std.specs.Prelude.{string_bytes}
use Rattle.sia_program.specs.Commands.Prove.{hash_lines}
use Rattle.sia_program.proofs.commands.prove.put_hashes.Given as goal

-- the lines that are written and those of the hashes that are left make all of them
abbrev pub invariant-loop-hash : goal.invariant-loop-hash
invariant-loop-hash l = string_bytes l.out ++ hash_lines (drop l.hash-index l.hashes) ≡ string_bytes l.fn.out ++ hash_lines l.hashes
