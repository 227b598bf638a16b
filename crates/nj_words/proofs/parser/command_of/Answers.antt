use Rattle.std.proofs.Common.{arith, map}
use Rattle.clap.specs.Walk.{texts}
use Rattle.clap.specs.Words.{new_rule}
use Rattle.nj_words.proofs.Filling.{name_step, option_step}
use Rattle.nj_words.proofs.parser.command_of.Goals as goal

pub loop-name-preserved : goal.loop-name-preserved
loop-name-preserved c =
    name_step c.args.names.now c.loop-name.name-index _ _ _ (omega arith) c.loop-name.invariant c.in_ok-command.ensures

pub loop-label-preserved : goal.loop-label-preserved
loop-label-preserved c =
    option_step (map new_rule (texts c.args.names.now)) c.args.options.now c.loop-label.label-index _ _ _
    (omega arith) c.loop-label.invariant c.in_ok-command-2.ensures
