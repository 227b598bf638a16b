-- The pass stays of its table.
use Rattle.std.proofs.Common.{◌≡◌}
use Rattle.nj_seen_tests.proofs.forgetting.claim_keys.Given as goal

abbrev pub invariant-loop-key : goal.invariant-loop-key
invariant-loop-key l = record {
  table : l.pass.table ≡ l.initial.pass.table;
  is_root : l.pass.is_root ≡ l.initial.pass.is_root;
  out : l.pass.out ≡ l.initial.pass.out;
}
