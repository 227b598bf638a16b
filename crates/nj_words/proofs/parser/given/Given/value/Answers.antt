use Rattle.nj_words.proofs.Values.{value_here}
use Rattle.nj_words.proofs.parser.given.Given.value.Goals as goal

pub returns : goal.returns
returns c = value_here c.args.self.now.values.items c.args.place _ c.requires c.index.ensures
