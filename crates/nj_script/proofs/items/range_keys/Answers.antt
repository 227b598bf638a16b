use Rattle.std.proofs.Common.{refl}
use Rattle.nj_script.proofs.items.range_keys.Goals as goal

pub returns : goal.returns
returns c = refl
