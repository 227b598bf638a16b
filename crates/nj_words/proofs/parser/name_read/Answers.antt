use Rattle.std.proofs.Common.{rules}
use Rattle.nj_words.proofs.Parsed.{given_empty}
use Rattle.nj_words.proofs.parser.name_read.Goals as goal

pub returns-then-is_empty-clause-usage : goal.returns-then-is_empty-clause-usage
returns-then-is_empty-clause-usage c = λ rest. given_empty _ c.in-Some.word.now rest (search rules) (search rules)
