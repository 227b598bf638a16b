-- Each class has a function of its own.
use Rattle.std.proofs.Common.{sym, subst}
use Rattle.nj_cpu.specs.Walk.{EndsAs, begun}
use Rattle.nj_cpu.specs.Unit.{rest_by}
use Rattle.nj_cpu.proofs.rows.run_class.Goals as goal

pub returns-in-ByMode : goal.returns-in-ByMode
returns-in-ByMode g c =
    subst (λ class. EndsAs (rest_by g.B.Bus.acts class c.args.row
    (begun c.args.cpu.now (g.B.Bus.held c.args.bus.now) c.args.rises.now.edges)) c.run_by_mode.new.cpu
    (g.B.Bus.held c.run_by_mode.new.bus) c.run_by_mode.new.rises) (sym c.in-ByMode.is) c.run_by_mode.ensures

pub returns-in-Branches : goal.returns-in-Branches
returns-in-Branches g c =
    subst (λ class. EndsAs (rest_by g.B.Bus.acts class c.args.row
    (begun c.args.cpu.now (g.B.Bus.held c.args.bus.now) c.args.rises.now.edges)) c.branch-cpu.new.cpu
    (g.B.Bus.held c.branch-cpu.new.bus) c.branch-cpu.new.rises) (sym c.in-Branches.is) c.branch-cpu.ensures

pub returns-in-Jumps : goal.returns-in-Jumps
returns-in-Jumps g c =
    subst (λ class. EndsAs (rest_by g.B.Bus.acts class c.args.row
    (begun c.args.cpu.now (g.B.Bus.held c.args.bus.now) c.args.rises.now.edges)) c.jump.new.cpu
    (g.B.Bus.held c.jump.new.bus) c.jump.new.rises) (sym c.in-Jumps.is) c.jump.ensures

pub returns-in-JumpsIndirect : goal.returns-in-JumpsIndirect
returns-in-JumpsIndirect g c =
    subst (λ class. EndsAs (rest_by g.B.Bus.acts class c.args.row
    (begun c.args.cpu.now (g.B.Bus.held c.args.bus.now) c.args.rises.now.edges)) c.jump_indirect.new.cpu
    (g.B.Bus.held c.jump_indirect.new.bus) c.jump_indirect.new.rises)
    (sym c.in-JumpsIndirect.is) c.jump_indirect.ensures

pub returns-in-Calls : goal.returns-in-Calls
returns-in-Calls g c =
    subst (λ class. EndsAs (rest_by g.B.Bus.acts class c.args.row
    (begun c.args.cpu.now (g.B.Bus.held c.args.bus.now) c.args.rises.now.edges)) c.call.new.cpu
    (g.B.Bus.held c.call.new.bus) c.call.new.rises) (sym c.in-Calls.is) c.call.ensures

pub returns-in-Returns : goal.returns-in-Returns
returns-in-Returns g c =
    subst (λ class. EndsAs (rest_by g.B.Bus.acts class c.args.row
    (begun c.args.cpu.now (g.B.Bus.held c.args.bus.now) c.args.rises.now.edges)) c.return_from_call.new.cpu
    (g.B.Bus.held c.return_from_call.new.bus) c.return_from_call.new.rises)
    (sym c.in-Returns.is) c.return_from_call.ensures

pub returns-in-ReturnsFromInterrupt : goal.returns-in-ReturnsFromInterrupt
returns-in-ReturnsFromInterrupt g c =
    subst (λ class. EndsAs (rest_by g.B.Bus.acts class c.args.row
    (begun c.args.cpu.now (g.B.Bus.held c.args.bus.now) c.args.rises.now.edges)) c.return_from_interrupt.new.cpu
    (g.B.Bus.held c.return_from_interrupt.new.bus) c.return_from_interrupt.new.rises)
    (sym c.in-ReturnsFromInterrupt.is) c.return_from_interrupt.ensures

pub returns-in-Breaks : goal.returns-in-Breaks
returns-in-Breaks g c =
    subst (λ class. EndsAs (rest_by g.B.Bus.acts class c.args.row
    (begun c.args.cpu.now (g.B.Bus.held c.args.bus.now) c.args.rises.now.edges)) c.break_in.new.cpu
    (g.B.Bus.held c.break_in.new.bus) c.break_in.new.rises) (sym c.in-Breaks.is) c.break_in.ensures

pub returns-in-PushesA : goal.returns-in-PushesA
returns-in-PushesA g c =
    subst (λ class. EndsAs (rest_by g.B.Bus.acts class c.args.row
    (begun c.args.cpu.now (g.B.Bus.held c.args.bus.now) c.args.rises.now.edges)) c.push_a.new.cpu
    (g.B.Bus.held c.push_a.new.bus) c.push_a.new.rises) (sym c.in-PushesA.is) c.push_a.ensures

pub returns-in-PushesFlags : goal.returns-in-PushesFlags
returns-in-PushesFlags g c =
    subst (λ class. EndsAs (rest_by g.B.Bus.acts class c.args.row
    (begun c.args.cpu.now (g.B.Bus.held c.args.bus.now) c.args.rises.now.edges)) c.push_flags.new.cpu
    (g.B.Bus.held c.push_flags.new.bus) c.push_flags.new.rises) (sym c.in-PushesFlags.is) c.push_flags.ensures

pub returns-in-PullsA : goal.returns-in-PullsA
returns-in-PullsA g c =
    subst (λ class. EndsAs (rest_by g.B.Bus.acts class c.args.row
    (begun c.args.cpu.now (g.B.Bus.held c.args.bus.now) c.args.rises.now.edges)) c.pull_a.new.cpu
    (g.B.Bus.held c.pull_a.new.bus) c.pull_a.new.rises) (sym c.in-PullsA.is) c.pull_a.ensures

pub returns-in-PullsFlags : goal.returns-in-PullsFlags
returns-in-PullsFlags g c =
    subst (λ class. EndsAs (rest_by g.B.Bus.acts class c.args.row
    (begun c.args.cpu.now (g.B.Bus.held c.args.bus.now) c.args.rises.now.edges)) c.pull_flags.new.cpu
    (g.B.Bus.held c.pull_flags.new.bus) c.pull_flags.new.rises) (sym c.in-PullsFlags.is) c.pull_flags.ensures
