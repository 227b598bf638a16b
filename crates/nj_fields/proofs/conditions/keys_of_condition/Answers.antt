use Rattle.std.proofs.Common.{ap, sym}
use Rattle.nj_fields.specs.Conditions.{condition_keys}
use Rattle.nj_fields.proofs.conditions.keys_of_condition.Goals as goal

pub returns-then-other : goal.returns-then-other
returns-then-other c = ap condition_keys (sym c.if-other.true)

pub returns-else-other : goal.returns-else-other
returns-else-other c = ap condition_keys (sym c.if-other.false)
