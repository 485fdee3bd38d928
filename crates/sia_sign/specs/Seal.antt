-- Seal, a stand-in for a signature scheme: a digest that anybody can compute. It protects nothing.
use Rattle.std.specs.Prelude.{◌≡◌, ℕ, Bool, true, List, ◌++◌, length, replicate, codes, ◌==◌, ◌&&◌}
use Rattle.std.specs.Str.{bytes_eq}
use Rattle.sia_blake.specs.Blake2b.{blake2b_256}
use Rattle.sia_encoding.specs.Spelling.{label}

-- the seal of a hash under a key: the digest of a label, the key and the hash, and 32 zero bytes
unfoldable pub seal : List ℕ → List ℕ → List ℕ
seal key hash = blake2b_256 (label (codes "sia seal") ++ key ++ hash) ++ replicate 32 0

-- a signature is accepted exactly where it is the seal, under a key of 32 bytes
unfoldable pub accepts_seal : List ℕ → List ℕ → List ℕ → Bool
accepts_seal key hash sig = (length key == 32) && bytes_eq sig (seal key hash)

-- a signature of this hash under this key is the seal
abbrev pub IsSeal : List ℕ → List ℕ → List ℕ → Type 0
IsSeal key hash sig = sig ≡ seal key hash

-- this signature of this hash is accepted under this key
abbrev pub IsAccepted : List ℕ → List ℕ → List ℕ → Type 0
IsAccepted key hash sig = accepts_seal key hash sig ≡ true
