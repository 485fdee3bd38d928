use Rattle.sia_range.proofs.UpdateSoundness.{another_update}
use Rattle.sia_range.proofs.laws.another_update_collides.Goals as goal

pub returns : goal.returns
returns c = λ bytes root new inner outer a b some within leaves is inner_sized outer_sized accepted. another_update bytes root new a b inner outer some within leaves is inner_sized outer_sized accepted
