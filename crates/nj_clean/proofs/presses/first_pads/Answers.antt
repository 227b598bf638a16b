-- One frame more.
use Rattle.std.proofs.Common.{ℕ, List, ◌+◌, ◌++◌, drop, ap, sym, ◌∙◌}
use Rattle.nj_replay.specs.Reading.{first_from}
use Rattle.nj_clean.proofs.Firsts.{drop_next}
use Rattle.nj_clean.proofs.presses.first_pads.Goals as goal

pub loop-pad-preserved : goal.loop-pad-preserved
loop-pad-preserved c =
    let i = c.loop-pad.pad-index in
    c.in_ok-left.ensures (drop (i + 1) c.args.behind.now)
    ∙ ap (λ (pads : List ℕ). c.loop-pad.word.items ++ first_from c.args.hold c.loop-pad.left pads)
    (sym (drop_next c.args.behind.now i c.pad-item.result c.loop-pad-test.true c.pad-item.is))
    ∙ c.loop-pad.invariant
