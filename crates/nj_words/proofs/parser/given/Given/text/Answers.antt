use Rattle.std.proofs.Common.{rules}
use Rattle.nj_words.proofs.Values.{empty_name, full_name, no_name}
use Rattle.nj_words.proofs.parser.given.Given.text.Goals as goal

pub returns-in_default-clause-read : goal.returns-in_default-clause-read
returns-in_default-clause-read c = no_name c.value.result _ c.value.ensures c.in_default.is

pub returns-then-is_empty-clause-usage : goal.returns-then-is_empty-clause-usage
returns-then-is_empty-clause-usage c =
    λ _. empty_name c.in-Some.word c.value.result _ c.value.ensures c.in-Some.is (search rules)

pub returns-clause-read : goal.returns-clause-read
returns-clause-read c =
    full_name c.in-Some.word c.value.result _ c.in_ok-from_str.field-0 c.value.ensures c.in-Some.is
    (search rules) c.in_ok-from_str.ensures
