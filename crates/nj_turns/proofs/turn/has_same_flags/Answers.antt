-- The flags were compared one by one.
use Rattle.std.proofs.Common.{rules}
use Rattle.nj_turns.proofs.Found.{same_flags}
use Rattle.nj_turns.proofs.turn.has_same_flags.Goals as goal

pub returns : goal.returns
returns c = λ e.
    same_flags c.args.one c.args.other (search rules) (search rules) (search rules) (search rules) (search rules)
    (search rules)
