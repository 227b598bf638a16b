-- The operation leaves what is watched of the line.
use Rattle.std.proofs.Common.{◌≡◌, subst}
use Rattle.nj_cpu.specs.declared.state.Cpu.{Cpu}
use Rattle.nj_isa.specs.Accesses.{by_mode}
use Rattle.nj_cpu.specs.Leading.{given}
use Rattle.nj_cpu.specs.Walk.{Walk, begun, walk, EndsAs}
use Rattle.nj_cpu.proofs.Notes.{mode-ends}
use Rattle.nj_cpu.proofs.rows.run_by_mode.Goals as goal

pub returns-in-Read : goal.returns-in-Read
returns-in-Read g c =
    let acts = g.B.Bus.acts in
    let row = c.args.row in
    let byte = c.byte_by-byte in
    let over : Cpu → Walk _ =
    λ cpu. walk acts row.op (by_mode row.mode row.kind)
    (begun cpu (g.B.Bus.held c.args.bus.now) c.args.rises.now.edges) in
    mode-ends acts row (begun c.args.cpu.now (g.B.Bus.held c.args.bus.now) c.args.rises.now.edges) byte.result
    byte.new.cpu c.finish.new.cpu (g.B.Bus.held byte.new.bus) byte.new.rises c.in-Read.is
    (subst (λ cpu. EndsAs (over cpu) byte.new.cpu (g.B.Bus.held byte.new.bus) byte.new.rises) c.step_over.ensures
    byte.ensures.ends)
    (subst (λ cpu. byte.result ≡ given row.kind (over cpu).data_) c.step_over.ensures byte.ensures.byte)
    c.finish.ensures
