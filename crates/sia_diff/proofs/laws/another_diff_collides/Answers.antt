use Rattle.sia_diff.proofs.DiffSoundness.{another_diff}
use Rattle.sia_diff.proofs.laws.another_diff_collides.Goals as goal

pub returns : goal.returns
returns c = λ hashes leaves nodes root steps fit is sized leaves_sized nodes_sized accepted. another_diff hashes root leaves nodes steps fit is sized leaves_sized nodes_sized accepted
