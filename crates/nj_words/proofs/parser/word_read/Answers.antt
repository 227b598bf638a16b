use Rattle.std.proofs.Common.{◌∙◌}
use Rattle.clap.specs.Words.{found_of}
use Rattle.clap.proofs.WalkLemmas.{first_value-rows}
use Rattle.nj_words.specs.Parser.{word_read}
use Rattle.nj_words.proofs.parser.word_read.Goals as goal

pub returns : goal.returns
unfolding word_read
returns c = c.get_str.ensures ∙ first_value-rows (found_of c.args.matches.now) c.args.id.now
