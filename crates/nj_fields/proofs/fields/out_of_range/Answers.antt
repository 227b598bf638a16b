use Rattle.std.proofs.Common.{inl, refl}
use Rattle.nj_fields.proofs.fields.out_of_range.Goals as goal

pub returns-in-Err : goal.returns-in-Err
returns-in-Err c = inl refl
