use Rattle.std.proofs.Common.{◌∷◌, [], ap, arith, length}
use Rattle.std.proofs.lemmas.List.{length-append}
use Rattle.nj_words.specs.Parser.{word_read}
use Rattle.nj_words.proofs.Parsed.{given_ends, given_step}
use Rattle.nj_words.proofs.parser.names_read.Goals as goal

pub loop-name-preserved : goal.loop-name-preserved
loop-name-preserved c = (
  omega (arith, ap length c.in_ok-push.ensures.items, length-append c.loop-name.words.items (c.in_ok-word.word ∷ [])),
  given_step (word_read c.args.matches.now) c.args.names.now c.loop-name.name-index _ c.loop-name.words.items _
      c.in_ok-word.word _ (omega arith) c.in_ok-push.ensures.items
      c.in_ok-word.ensures.read c.in_ok-word.ensures.full c.loop-name.invariant.1,
)

pub returns-clause-read : goal.returns-clause-read
returns-clause-read c =
    given_ends (word_read c.args.matches.now) c.args.names.now c.loop-name.name-index c.loop-name.words.items _
    (omega arith) c.loop-name.invariant.1
