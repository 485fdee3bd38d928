-- A digest is 32 bytes.
use Rattle.std.proofs.Common.{◌≡◌, ℕ, zero, suc, ◌/◌, ◌^◌, ◌<◌, List, ◌++◌, length, slice_index, refl, mod-lt, lit<}
use Rattle.std.specs.Int.{byte_at, bytes_low_first}
use Rattle.std.specs.List.{All}
use Rattle.std.proofs.lemmas.List.Elements.{All-nil, All-cons, All-append}
use Rattle.sia_blake.specs.Blake2b.{final_hash, digest_bytes, blake2b_256}

-- a digest has 32 bytes
pub blake2b_256-length : (m : List ℕ) → length (blake2b_256 m) ≡ 32
unfolding blake2b_256 digest_bytes
blake2b_256-length m = refl

-- n is a byte
abbrev IsByte : ℕ → Type 0
IsByte n = n < 256

byte_at-lt : (i n : ℕ) → IsByte (byte_at i n)
byte_at-lt zero n = mod-lt n (lit< tt)
byte_at-lt (suc i) n = mod-lt (n / 256 ^ suc i) (lit< tt)

bytes_low_first-bytes : (i k n : ℕ) → All IsByte (bytes_low_first i k n)
bytes_low_first-bytes i zero n = All-nil IsByte
bytes_low_first-bytes i (suc k) n =
    All-cons IsByte (byte_at i n) (bytes_low_first (suc i) k n) (byte_at-lt i n) (bytes_low_first-bytes (suc i) k n)

-- and each of them is below 256
pub blake2b_256-bytes : (m : List ℕ) → All (λ b. b < 256) (blake2b_256 m)
unfolding blake2b_256 digest_bytes
blake2b_256-bytes m =
    let word = λ (k : ℕ). bytes_low_first 0 8 (slice_index (final_hash m) k) in
    let bytes = λ (k : ℕ). bytes_low_first-bytes 0 8 (slice_index (final_hash m) k) in
    let two = All-append IsByte (word 0) (word 1) (bytes 0) (bytes 1) in
    let three = All-append IsByte (word 0 ++ word 1) (word 2) two (bytes 2) in
    All-append IsByte ((word 0 ++ word 1) ++ word 2) (word 3) three (bytes 3)
