-- The string at a place stands within the bytes.
use Rattle.std.proofs.Common.{◌≤◌, ℕ, length, get_or, sym, ap, subst, ◌∙◌}
use Rattle.std.specs.Prelude.{slice_range}
use Rattle.nj_pool.proofs.Behind.{string_at, string_within}
use Rattle.nj_pool.proofs.strings.string_at.Goals as goal

pub part-requires-clause-in_order : goal.part-requires-clause-in_order
part-requires-clause-in_order c =
    subst (λ (start : ℕ). start ≤ get_or c.args.ends.now c.args.place 0) (sym c.start_of.ensures)
    (string_within 0 c.args.ends.now (length c.args.bytes.now) c.args.place c.requires.place c.requires.ends).0

pub part-requires-clause-within : goal.part-requires-clause-within
part-requires-clause-within c =
    (string_within 0 c.args.ends.now (length c.args.bytes.now) c.args.place c.requires.place c.requires.ends).1

pub returns : goal.returns
returns c =
    c.part.ensures
    ∙ (ap (λ start. slice_range c.args.bytes.now start (get_or c.args.ends.now c.args.place 0)) c.start_of.ensures
    ∙ sym (string_at 0 c.args.ends.now c.args.bytes.now c.args.place c.requires.place))
