use Rattle.std.proofs.Common.{◌≤◌, ◌^◌, suc, length, arith}
use native.Mathlib.Nat.{pow-suc}
use Rattle.sia_merkle.proofs.Trees.{node_root_of-split}
use Rattle.sia_merkle.proofs.laws.root_splits.Goals as goal

pub returns : goal.returns
returns c = λ hashes height above fits.
    let within : length hashes ≤ 2 ^ suc height = omega (arith, pow-suc 2 height) in
    node_root_of-split height hashes above within
