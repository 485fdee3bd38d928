-- Bytes that are written piece by piece, each behind the one before.
use Rattle.std.proofs.Common.{◌≡◌, ◌++◌, ℕ, ◌+◌, ◌≤◌, List, length, take, drop, Option, None, Some, option_map, arith, sym, ◌∙◌, ap, refl, append_assoc, subst}
use Rattle.std.specs.Prelude.{IfSome}
use Rattle.std.proofs.Math.Seq.{take-add}
use Rattle.std.proofs.lemmas.List.{take_at, drop_at, drop-drop, length-take, length-append}
use Rattle.sia_edge.specs.Disk.{overwritten}
use Rattle.sia_edge.proofs.Tears.{length-overwritten}

-- a piece, and another one behind it
pub overwritten_more : (old first second : List ℕ) (at : ℕ) → at ≤ length old
    → overwritten (overwritten old at first) (at + length first) second ≡ overwritten old at (first ++ second)
overwritten_more old first second at inside =
    let front : length (take at old ++ first) ≡ at + length first = omega (arith, length-append (take at old) first, length-take at old, inside) in
    let place : at + length (first ++ second) ≡ at + length first + length second = omega (arith, length-append first second) in
    let tail : drop (at + length first + length second) (overwritten old at first) ≡ drop (at + length first + length second) old =
    sym (drop-drop (length second) (at + length first) (overwritten old at first))
    ∙ ap (drop (length second)) (drop_at (take at old ++ first) (drop (at + length first) old) (at + length first) front)
    ∙ drop-drop (length second) (at + length first) old in
    rw (take_at (take at old ++ first) (drop (at + length first) old) (at + length first) front, tail, place, append_assoc (take at old) first second) refl

-- The first `done` bytes stand at the place already, and `count` more are put behind them.
pub put_more : (start now new : Option (List ℕ)) (bytes : List ℕ) (at done count : ℕ)
    → now ≡ option_map (λ held. overwritten held at (take done bytes)) start
    → new ≡ option_map (λ held. overwritten held (at + done) (take count (drop done bytes))) now
    → done ≤ length bytes → IfSome start (λ held. at ≤ length held)
    → new ≡ option_map (λ held. overwritten held at (take (done + count) bytes)) start
put_more None now new bytes at done count before put within inside = put ∙ ap (option_map (λ held. overwritten held (at + done) (take count (drop done bytes)))) before
put_more (Some old) now new bytes at done count before put within inside =
    let size : length (take done bytes) ≡ done = omega (arith, length-take done bytes) in
    put
    ∙ ap (option_map (λ held. overwritten held (at + done) (take count (drop done bytes)))) before
    ∙ ap Some (subst (λ n. overwritten (overwritten old at (take done bytes)) (at + n) (take count (drop done bytes)) ≡ overwritten old at (take (done + count) bytes)) size
    (overwritten_more old (take done bytes) (take count (drop done bytes)) at inside ∙ ap (overwritten old at) (sym (take-add done count bytes))))

-- what was put ends within what the file holds
pub put_inside : (now new : Option (List ℕ)) (rest : List ℕ) (at done count : ℕ)
    → new ≡ option_map (λ held. overwritten held (at + done) (take count rest)) now
    → IfSome now (λ held. at + done ≤ length held) → count ≤ length rest
    → IfSome new (λ held. at + (done + count) ≤ length held)
put_inside None new rest at done count put inside fits = subst (λ told. IfSome told (λ held. at + (done + count) ≤ length held)) (sym put) tt
put_inside (Some old) new rest at done count put inside fits =
    let reaches : at + (done + count) ≤ length (overwritten old (at + done) (take count rest)) =
    omega (arith, length-overwritten old (take count rest) (at + done) inside, length-take count rest) in
    subst (λ told. IfSome told (λ held. at + (done + count) ≤ length held)) (sym put) reaches
