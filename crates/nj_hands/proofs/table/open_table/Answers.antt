-- The table is opened with the words that were made for it.
use Rattle.std.proofs.Common.{sym, subst}
use Rattle.nj_hands.specs.Room.{IsOpenFor}
use Rattle.nj_hands.proofs.table.open_table.Goals as goal

pub returns-clause-opening : goal.returns-clause-opening
returns-clause-opening c =
    subst (IsOpenFor c.args.search.now) (sym c.in_ok-table.ensures.table) c.in_ok-claims.ensures
