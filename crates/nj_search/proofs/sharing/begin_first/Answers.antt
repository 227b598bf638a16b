use Rattle.nj_search.proofs.Counters.{first_counted}
use Rattle.nj_search.proofs.sharing.begin_first.Goals as goal

pub returns-clause-frames : goal.returns-clause-frames
returns-clause-frames g c =
    first_counted _ _ _ _ _ c.requires c.index_mut.ensures.value c.begin.ensures.never_falls c.begin.ensures.frames
