use Rattle.nj_isa.specs.declared.operations.Op.TheVariants.{Nop}
use Rattle.nj_isa.specs.Accesses.{copies}
use Rattle.nj_cpu.specs.Walk.{begun, walk, EndsAs}
use Rattle.nj_cpu.proofs.units.copy_page.Given as goal

-- the bytes so far are copied
abbrev pub invariant-loop-i : goal.invariant-loop-i
invariant-loop-i g l =
    EndsAs (walk g.B.Bus.acts Nop (copies l.page l.i) (begun l.fn.cpu (g.B.Bus.held l.fn.bus) l.fn.rises.edges)) l.cpu
    (g.B.Bus.held l.bus) l.rises
