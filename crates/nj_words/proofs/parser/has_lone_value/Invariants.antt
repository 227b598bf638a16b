use Rattle.std.proofs.Common.{◌≡◌, drop, false}
use Rattle.nj_words.specs.Parser.{has_lone_value, words_of}
use Rattle.nj_words.proofs.parser.has_lone_value.Given as goal

-- what is left decides
abbrev pub invariant-loop-word : goal.invariant-loop-word
invariant-loop-word l =
    has_lone_value false (words_of l.words) ≡ has_lone_value l.waits (words_of (drop l.word-index l.words))
