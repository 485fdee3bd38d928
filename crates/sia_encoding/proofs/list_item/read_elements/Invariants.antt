use Rattle.std.proofs.Common.{◌≡◌, ◌-◌}
use Rattle.sia_encoding.specs.Reading.{elements_at}
use Rattle.sia_encoding.proofs.ElementLemmas.{in_front}
use Rattle.sia_encoding.proofs.list_item.read_elements.Given as goal

abbrev pub invariant-loop : goal.invariant-loop
invariant-loop g l = elements_at g.T.Item.codec.reading l.fn.count l.fn.cursor ≡ in_front l.items (elements_at g.T.Item.codec.reading (l.count - l.counter) l.cursor)
