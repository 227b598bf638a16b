-- No dot at all.
use Rattle.std.proofs.Common.{sym}
use Rattle.nj_catchup.proofs.Sums.{dots-none}
use Rattle.nj_catchup.proofs.visible.run_quiet.Goals as goal

pub returns-then-dots-eq0-clause-dots : goal.returns-then-dots-eq0-clause-dots
returns-then-dots-eq0-clause-dots c = sym (dots-none c.args.pattern.now c.args.screen.now)
