use Rattle.nj_threads.proofs.Elements.{accepts_others, changes_both}
use Rattle.nj_threads.proofs.apart.+calls.Goals as goal

pub each_from-first_beside_others-requires-clause-others : goal.each_from-first_beside_others-requires-clause-others
each_from-first_beside_others-requires-clause-others g t c κs within =
    let cut = c.split_at_mut-first in
    accepts_others g.F.Fn c.args.f.now c.args.place _ _ _ cut.ensures.value cut.ensures.front_len c.requires

pub each_from-returns : goal.each_from-returns
each_from-returns g t c =
    let cut = c.split_at_mut-first in
    changes_both g.F.Fn c.args.f.now c.args.place _ _ _ _ _ cut.ensures.value cut.ensures.front_len
    c.first_beside_others.ensures.first c.first_beside_others.ensures.others
