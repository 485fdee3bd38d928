-- When a seal is accepted.
use Rattle.std.proofs.Common.{◌≡◌, ◌↔◌, ℕ, Bool, true, false, List, length, ◌==◌, ◌&&◌, refl}
use Rattle.std.proofs.lemmas.Bool.Decides.{Decides-eqb}
use Rattle.std.proofs.lemmas.Slice.Eq.{bytes_eq-Decides}
use Rattle.std.specs.Str.{bytes_eq}
use Rattle.sia_sign.specs.Seal.{IsAccepted, IsSeal, accepts_seal, seal}

both : (a b : Bool) → (a && b) ≡ true → (a ≡ true) × (b ≡ true)
both true b is = (refl, is)
both false b is = cc

joined : (a b : Bool) → a ≡ true → b ≡ true → (a && b) ≡ true
joined true b first second = second
joined false b first second = cc

pub seal_accepted : (key hash sig : List ℕ) → IsAccepted key hash sig ↔ ((length key ≡ 32) × IsSeal key hash sig)
unfolding accepts_seal
seal_accepted key hash sig = (
  λ is. let parts = both (length key == 32) (bytes_eq sig (seal key hash)) is in ((Decides-eqb (length key) 32).0 parts.0, (bytes_eq-Decides sig (seal key hash)).0 parts.1),
  λ is. joined (length key == 32) (bytes_eq sig (seal key hash)) ((Decides-eqb (length key) 32).1 is.0) ((bytes_eq-Decides sig (seal key hash)).1 is.1),
)
