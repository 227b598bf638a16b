-- The byte is there early, or the end at the address gives it.
use Rattle.std.proofs.Common.{sym, ◌∙◌}
use Rattle.nj_cpu.proofs.Ended.{early-gives, late-gives, from-lead}
use Rattle.nj_cpu.proofs.modes.byte_by.Goals as goal

pub returns-in-Some : goal.returns-in-Some
returns-in-Some g c =
    let lead = c.lead-at in
    let gives =
    early-gives g.B.Bus.acts c.args.op c.args.mode c.args.kind _ _ _ _ _ _ _ (sym lead.ensures.early ∙ c.in-Some.is)
    lead.ensures.ends in
    record { ends = gives.ends; byte = gives.byte }

pub returns-in-None : goal.returns-in-None
returns-in-None g c =
    let lead = c.lead-at in
    let gives =
    late-gives g.B.Bus.acts c.args.op c.args.mode c.args.kind _ _ _ _ _ _ _ (sym lead.ensures.early ∙ c.in-None.is)
    (from-lead g.B.Bus.acts c.args.op c.args.mode c.args.kind _ _ _ _ _ _ _ _ _ lead.ensures.place lead.ensures.ends
    (record { ends = c.end_at.ensures.ends; byte = c.end_at.ensures.byte })) in
    record { ends = gives.ends; byte = gives.byte }
