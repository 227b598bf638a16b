use Rattle.nj_words.proofs.Values.{number_default, number_given}
use Rattle.nj_words.proofs.parser.given.Given.number.Goals as goal

pub returns-in-Some-clause-value : goal.returns-in-Some-clause-value
returns-in-Some-clause-value c =
    number_given c.args.low c.args.high c.args.otherwise c.in-Some.word c.value.result _ c.number_in.result
    c.value.ensures c.in-Some.is c.number_in.ensures.value

pub returns-in-None-clause-value : goal.returns-in-None-clause-value
returns-in-None-clause-value c =
    number_default c.args.low c.args.high c.args.otherwise c.value.result _ c.value.ensures c.in-None.is
