-- The states of the parts so far, and the parts that are left.
use Rattle.std.specs.Prelude.{vec_len}
use Rattle.nj_expand.proofs.Parts.{AreJoining}
use Rattle.nj_expand.proofs.search.Search.go_on.Given as goal

abbrev pub invariant-loop-part : goal.invariant-loop-part
invariant-loop-part l = AreJoining l.fn.self l.fn.kept.rows.items l.all l.parts.items

abbrev pub decreases-loop-part : goal.decreases-loop-part
decreases-loop-part l = vec_len l.parts
