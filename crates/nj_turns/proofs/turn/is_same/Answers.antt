-- The fields were compared one by one.
use Rattle.std.proofs.Common.{rules}
use Rattle.nj_turns.proofs.Found.{same_cpu}
use Rattle.nj_turns.proofs.turn.is_same.Goals as goal

pub returns : goal.returns
returns c = λ e.
    same_cpu c.args.one.now c.args.other.now (search rules) (search rules) (search rules) (search rules) (search rules)
    (search rules) (search rules) (search rules)
    (c.has_same_flags.ensures e)
