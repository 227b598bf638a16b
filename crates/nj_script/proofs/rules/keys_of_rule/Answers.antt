use Rattle.std.proofs.Common.{refl}
use Rattle.nj_script.proofs.rules.keys_of_rule.Goals as goal

pub returns : goal.returns
returns c = refl
