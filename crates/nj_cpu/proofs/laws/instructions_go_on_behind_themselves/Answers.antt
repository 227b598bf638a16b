use Rattle.nj_cpu.proofs.Straight.{unit-pc}
use Rattle.nj_cpu.proofs.laws.instructions_go_on_behind_themselves.Goals as goal

-- each access of an operand moves PC by one
pub returns : goal.returns
returns g c = unit-pc g.B.Bus.acts
