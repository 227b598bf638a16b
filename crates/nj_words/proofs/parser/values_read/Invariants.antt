use Rattle.std.proofs.Common.{◌≡◌, length, map, option_map, take}
use Rattle.clap.specs.Walk.{texts}
use Rattle.nj_words.specs.Parser.{word_read}
use Rattle.nj_words.proofs.parser.values_read.Given as goal

-- the values of the options so far
abbrev pub invariant-loop-label : goal.invariant-loop-label
invariant-loop-label l =
    (length l.values.items ≡ l.label-index)
    × (map (option_map (λ s. s.now)) l.values.items ≡ map (word_read l.matches) (texts (take l.label-index l.options)))
