use Rattle.std.proofs.Common.{◌∙◌, rules, sym}
use Rattle.clap.specs.Walk.{texts}
use Rattle.nj_words.proofs.Taking.{take_all, take_lone, take_missing, take_refused}
use Rattle.nj_words.proofs.parser.given.take.Goals as goal

pub returns-then-has_lone_value-clause-usage : goal.returns-then-has_lone_value-clause-usage
returns-then-has_lone_value-clause-usage c = λ _.
    take_lone c.args.names.now c.args.options.now c.args.words.now c.requires.few c.requires.distinct
    (sym c.has_lone_value.ensures ∙ c.if-has_lone_value.true)

pub returns-in_err-matches-clause-usage : goal.returns-in_err-matches-clause-usage
returns-in_err-matches-clause-usage c = λ usage.
    take_refused c.args.names.now c.args.options.now c.args.words.now c.requires.few c.requires.distinct
    (sym c.has_lone_value.ensures ∙ c.if-has_lone_value.false)
    (c.in_err-matches.ensures.usage (search rules))

pub returns-in_err-names-clause-usage : goal.returns-in_err-names-clause-usage
returns-in_err-names-clause-usage c = λ usage.
    take_missing c.args.names.now c.args.options.now c.args.words.now c.requires.few c.requires.distinct
    c.in_ok-matches.matches (sym c.has_lone_value.ensures ∙ c.if-has_lone_value.false)
    c.in_ok-matches.ensures.found (c.in_err-names.ensures.usage (search rules))

pub returns-clause-given : goal.returns-clause-given
returns-clause-given c =
    take_all c.args.names.now c.args.options.now c.args.words.now c.requires.few c.requires.distinct
    c.in_ok-matches.matches (texts c.in_ok-names.names.items) _
    (sym c.has_lone_value.ensures ∙ c.if-has_lone_value.false) c.in_ok-matches.ensures.found c.in_ok-names.ensures.read
    c.in_ok-values.ensures.read
