use Rattle.nj_rules.proofs.Sets.{is_in-with}
use Rattle.nj_rules.proofs.judging.with_number.Goals as goal

pub returns : goal.returns
returns c = λ j. is_in-with c.args.set c.args.number j c.requires
