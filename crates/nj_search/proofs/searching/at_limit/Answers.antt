use Rattle.std.proofs.Common.{sym, ap, ◌∙◌}
use Rattle.nj_search.specs.declared.searching.Ended.{Ended}
use Rattle.nj_search.specs.declared.searching.Outcome.{Outcome}
use Rattle.nj_search.proofs.Going.{limit_told}
use Rattle.nj_search.proofs.searching.at_limit.Goals as goal

pub returns : goal.returns
returns c =
    let with_saved : Outcome → Ended = λ outcome. record { outcome = outcome; saved = c.in_ok-saved.saved } in
    limit_told c.args.search.now c.args.keep c.step.result c.judged-best.result c.in_ok-movie.movie c.in_ok-saved.saved
    c.step.ensures
    c.judged-best.ensures.judged c.in_ok-movie.ensures c.in_ok-saved.ensures
    ∙ ap with_saved (sym c.limited-outcome.ensures) ∙ sym c.with_saved.ensures
