use Rattle.std.proofs.Common.{◌≡◌, drop, length, map}
use Rattle.clap.specs.Walk.{texts}
use Rattle.nj_words.specs.Parser.{given, word_read}
use Rattle.nj_words.proofs.Parsed.{given_after}
use Rattle.nj_words.proofs.parser.names_read.Given as goal

-- the words so far, before those of the names that are left
abbrev pub invariant-loop-name : goal.invariant-loop-name
invariant-loop-name l = (length l.words.items ≡ l.name-index) × (
    given (map (word_read l.matches) (texts l.names))
    ≡ given_after (texts l.words.items) (given (map (word_read l.matches) (texts (drop l.name-index l.names)))))
