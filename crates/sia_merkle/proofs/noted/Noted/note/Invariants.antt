use Rattle.std.proofs.Common.{◌≡◌, ◌++◌, take}
use Rattle.sia_merkle.specs.Pieces.{noted_bytes}
use Rattle.sia_merkle.proofs.noted.Noted.note.Given as goal

abbrev pub invariant-loop-byte : goal.invariant-loop-byte
invariant-loop-byte l = noted_bytes l.self ≡ noted_bytes l.fn.self ++ take l.byte-index l.bytes
