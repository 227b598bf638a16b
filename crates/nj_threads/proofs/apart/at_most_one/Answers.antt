use Rattle.nj_threads.proofs.Elements.{accepts_only, changes_only}
use Rattle.nj_threads.proofs.apart.at_most_one.Goals as goal

pub at_one-requires : goal.at_one-requires
at_one-requires g c =
    accepts_only g.F.Fn c.args.f.now c.args.place _ _ _ c.in-Some.ensures.cases.0 c.requires.accepts

pub returns-in-Some : goal.returns-in-Some
returns-in-Some g c =
    changes_only g.F.Fn c.args.f.now c.args.place _ _ _ _ c.in-Some.ensures.cases.0 c.requires.one c.at_one.ensures
