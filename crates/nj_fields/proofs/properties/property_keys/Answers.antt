use Rattle.std.proofs.Common.{refl}
use Rattle.nj_fields.proofs.properties.property_keys.Goals as goal

pub returns : goal.returns
returns c = refl
