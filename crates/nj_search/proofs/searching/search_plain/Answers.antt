use Rattle.std.proofs.lemmas.Result.{IfOk-weaker}
use Rattle.std.specs.Prelude.{IfSome}
use Rattle.std.proofs.Common.{◌≡◌}
use Rattle.nj_saved.specs.Ranges.{IsInRange}
use Rattle.nj_search.specs.Ends.{ended_of}
use Rattle.nj_search.proofs.Going.{kept_in_range}
use Rattle.nj_search.proofs.searching.search_plain.Goals as goal

pub returns-clause-saved : goal.returns-clause-saved
returns-clause-saved g c =
    IfOk-weaker c.search_planned.result (λ ended. ended ≡ ended_of c.args.plan c.args.keep)
    (λ ended. IfSome ended.saved IsInRange)
    (λ ended is. kept_in_range c.args.plan c.args.keep ended is (c.saves_in_range.ensures c.args.keep))
    c.search_planned.ensures.ended
