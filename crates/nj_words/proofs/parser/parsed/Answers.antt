use Rattle.std.proofs.Common.{◌∙◌}
use Rattle.clap.specs.Words.{app_of}
use Rattle.nj_words.specs.Parser.{form_of, words_of}
use Rattle.nj_words.proofs.Parsed.{is_few, parsed_err, parsed_ok}
use Rattle.nj_words.proofs.parser.parsed.Goals as goal

pub returns-in-Ok-clause-found : goal.returns-in-Ok-clause-found
returns-in-Ok-clause-found c =
    parsed_ok (form_of c.args.names.now c.args.options.now) (app_of c.in_ok-command.command)
    (words_of c.args.words.now) c.in-Ok.matches c.in_ok-command.ensures (is_few c.args.names.now c.requires)
    c.in-Ok.ensures.kinds c.in-Ok.ensures.matches

pub returns-clause-usage : goal.returns-clause-usage
returns-clause-usage c = λ _.
    parsed_err (form_of c.args.names.now c.args.options.now) (app_of c.in_ok-command.command)
    (words_of c.args.words.now) c.in-Err.error c.in_ok-command.ensures (is_few c.args.names.now c.requires)
    c.in-Err.ensures.kinds (λ memory. c.in_default.not-OutOfMemory (c.kind.ensures ∙ memory))
