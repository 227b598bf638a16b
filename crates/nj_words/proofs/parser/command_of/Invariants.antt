use Rattle.std.proofs.Common.{◌≡◌, ◌++◌, map, take}
use Rattle.clap.specs.Walk.{texts}
use Rattle.clap.specs.Words.{app_of, new_rule}
use Rattle.nj_words.specs.Parser.{app_with, option_rule}
use Rattle.nj_words.proofs.parser.command_of.Given as goal

-- the names so far stand in the command
abbrev pub invariant-loop-name : goal.invariant-loop-name
invariant-loop-name l = app_of l.command ≡ app_with (map new_rule (texts (take l.name-index l.names)))

-- and then the options so far
abbrev pub invariant-loop-label : goal.invariant-loop-label
invariant-loop-label l =
    app_of l.command ≡ app_with (map new_rule (texts l.names) ++ map option_rule (texts (take l.label-index l.options)))
