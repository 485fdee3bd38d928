use Rattle.std.proofs.Common.{ℕ, List, rules, subst, IsPermutation}
use Rattle.std.specs.declared.cmp.Reverse.{Reverse}
use Rattle.std.proofs.lemmas.List.Sorted.{answers_always}
use Rattle.sia_types.specs.declared.coin.Coin.{Coin}
use Rattle.sia_forms.proofs.choosing.in_order.Goals as goal

-- what the coins are sorted by
key_of : Coin → Reverse ℕ × List ℕ
key_of coin = (record { 0 = coin.value }, coin.id)

pub returns : goal.returns
unfolding key_of
returns c = (
  subst (λ items. IsPermutation items c.sort_by_key.new.self.items) c.in_ok-ordered.ensures.items c.in_ok-sort_by_key.ensures.permutation,
  c.in_ok-sort_by_key.ensures.sorted key_of (answers_always _ _ _ (λ f a r g h. search rules)),
)
