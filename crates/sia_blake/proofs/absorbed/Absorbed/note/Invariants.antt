use Rattle.std.proofs.Common.{◌≡◌, ◌++◌, take}
use Rattle.sia_blake.specs.History.{absorbed_bytes}
use Rattle.sia_blake.proofs.absorbed.Absorbed.note.Given as goal

abbrev pub invariant-loop-byte : goal.invariant-loop-byte
invariant-loop-byte l = absorbed_bytes l.self ≡ absorbed_bytes l.fn.self ++ take l.byte-index l.bytes
