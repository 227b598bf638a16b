use Rattle.std.proofs.Common.{ap, inl, inr, refl}
use Rattle.nj_fields.specs.declared.refusal.ScriptRefused.TheVariants.{TooMany}
use Rattle.nj_fields.proofs.fields.too_many.Goals as goal

pub returns-in-Ok : goal.returns-in-Ok
returns-in-Ok c = inr (ap (λ key. TooMany key c.args.limit) c.in-Ok.ensures)

pub returns-in-Err : goal.returns-in-Err
returns-in-Err c = inl refl
