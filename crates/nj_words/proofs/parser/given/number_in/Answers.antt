use Rattle.nj_words.proofs.Values.{number_found, number_missing}
use Rattle.nj_words.proofs.parser.given.number_in.Goals as goal

pub returns-in-Some-clause-value : goal.returns-in-Some-clause-value
returns-in-Some-clause-value c =
    number_found c.args.low c.args.high c.in-Some.number c.args.word.now c.read_decimal.result c.in_range.result
    c.read_decimal.ensures.value c.in-Some.is c.in_range.ensures.value

pub returns-in-None-clause-value : goal.returns-in-None-clause-value
returns-in-None-clause-value c =
    number_missing c.args.low c.args.high c.args.word.now c.read_decimal.result c.read_decimal.ensures.value
    c.in-None.is
