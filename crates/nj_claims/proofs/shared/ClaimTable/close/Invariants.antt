-- So many words are copied.
use Rattle.std.proofs.Common.{◌≡◌, ℕ, ◌<◌, length, get_or}
use Rattle.std.specs.Mem.Slots.{slots_items}
use Rattle.nj_claims.proofs.shared.ClaimTable.close.Given as goal

abbrev pub invariant-loop-i : goal.invariant-loop-i
invariant-loop-i l = record {
  size : length l.words.items ≡ length l.initial.words.items;
  copied : (k : ℕ) → k < l.i → get_or l.words.items k 0 ≡ get_or (slots_items l.closed.words) k 0;
}
