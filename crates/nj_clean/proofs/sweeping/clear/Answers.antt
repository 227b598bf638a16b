use Rattle.std.proofs.Common.{length, ap, sym, ◌∙◌}
use Rattle.nj_clean.specs.Presses.{presses}
use Rattle.nj_clean.specs.Bench.{plan_in}
use Rattle.nj_clean.proofs.Sweeps.{none_cleaned}
use Rattle.nj_clean.proofs.sweeping.clear.Goals as goal

pub returns-then-press_count-eq0-clause-word : goal.returns-then-press_count-eq0-clause-word
returns-then-press_count-eq0-clause-word g c =
    none_cleaned (plan_in c.args.setting) c.args.won.now.word.items
    (sym (ap (λ w. length (presses w)) c.as_slice.ensures.value) ∙ sym c.press_count.ensures
    ∙ c.if-press_count-eq0.true)
