-- What a walk has come to is known, and in the end all of it.
use Rattle.std.proofs.Common.{◌+◌, ◌-◌, ◌^◌, ◌≡◌, ◌∙◌, ◌≤◌, ◌<◌, [], ◌∷◌, ◌++◌, length, take, ap, subst, sym, arith}
use Rattle.std.specs.List.{All}
use Rattle.std.proofs.lemmas.List.{take_more, take_all}
use Rattle.std.proofs.lemmas.List.Elements.{All-push}
use Rattle.sia_kept.proofs.typed.ListTyped.know.Goals as goal

pub loop-item-preserved : goal.loop-item-preserved
loop-item-preserved g c =
    let items = c.as_slice-items.result.now in
    let i = c.loop-item.item-index in
    let more : take (i + 1) items ≡ take i items ++ c.item-item.result ∷ [] = take_more items i c.item-item.result c.loop-item-test.true ∙ ap (λ x. take i items ++ x ∷ []) (sym c.item-item.is) in
    subst (All (g.T.Item.codec.fits (2 ^ 64 - 1))) (sym more) (All-push (g.T.Item.codec.fits (2 ^ 64 - 1)) (take i items) c.item-item.result c.loop-item.invariant c.know.ensures)

pub returns : goal.returns
returns g c =
    let items = c.as_slice-items.result.now in
    let low : length c.args.self.now < 2 ^ 64 = omega (arith, c.len-count.ensures, c.len-count.type_inv) in
    let few : (length c.args.self.now ≤ 2 ^ 64 - 1) × (length c.args.self.now < 2 ^ 64) = (omega (arith, low), low) in
    let all : All (g.T.Item.codec.fits (2 ^ 64 - 1)) items = subst (All (g.T.Item.codec.fits (2 ^ 64 - 1))) (take_all c.loop-item.item-index items c.loop-item-test.false) c.loop-item.invariant in
    (few, subst (All (g.T.Item.codec.fits (2 ^ 64 - 1))) c.as_slice-items.ensures all)
