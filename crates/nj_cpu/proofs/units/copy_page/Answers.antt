use Rattle.std.proofs.Common.{rules}
use Rattle.nj_isa.specs.Accesses.{copies}
use Rattle.nj_cpu.proofs.Walks.{walk-copies}
use Rattle.nj_cpu.proofs.units.copy_page.Goals as goal

-- the next byte is read and written
pub loop-i-preserved : goal.loop-i-preserved
loop-i-preserved g c = rw walk-copies (search rules)

-- no byte is copied yet
pub loop-i-init : goal.loop-i-init
unfolding copies
loop-i-init g c = search rules
