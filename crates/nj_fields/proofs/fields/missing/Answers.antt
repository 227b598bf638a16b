use Rattle.std.proofs.Common.{ap, inl, inr, refl}
use Rattle.nj_fields.specs.declared.refusal.ScriptRefused.TheVariants.{Missing}
use Rattle.nj_fields.proofs.fields.missing.Goals as goal

pub returns-in-Ok : goal.returns-in-Ok
returns-in-Ok c = inr (ap Missing c.in-Ok.ensures)

pub returns-in-Err : goal.returns-in-Err
returns-in-Err c = inl refl
