-- The rows so far that own their keys and are not seen are kept.
use Rattle.std.proofs.Common.{◌≡◌, take}
use Rattle.std.specs.Prelude.{filter}
use Rattle.nj_seen.specs.Held.{is_owned_unseen}
use Rattle.nj_seen.proofs.claimed.owned_unseen.Given as goal

abbrev pub invariant-loop-row : goal.invariant-loop-row
invariant-loop-row l = l.kept.items ≡ filter (is_owned_unseen l.claims l.words l.from) (take l.row-index l.rows)
