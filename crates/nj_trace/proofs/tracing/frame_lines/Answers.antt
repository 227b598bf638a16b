use Rattle.std.proofs.Common.{length, ap, sym, ◌∙◌}
use Rattle.std.specs.List.{flat_map}
use Rattle.nj_trace.specs.Trace.{unit_line}
use Rattle.nj_trace.proofs.FrameUnits.{jammed_none}
use Rattle.nj_trace.proofs.tracing.frame_lines.Goals as goal

pub returns-then-jammed-clause-text : goal.returns-then-jammed-clause-text
returns-then-jammed-clause-text g c =
    c.new.ensures.items ∙ sym (ap (flat_map unit_line)
    (jammed_none c.args.pad c.args.machine.now (sym c.jammed.ensures ∙ c.if-jammed.true)))

pub returns-then-jammed-clause-count : goal.returns-then-jammed-clause-count
returns-then-jammed-clause-count g c =
    sym (ap length (jammed_none c.args.pad c.args.machine.now (sym c.jammed.ensures ∙ c.if-jammed.true)))
