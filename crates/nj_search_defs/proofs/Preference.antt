-- The order of preference is an order: two candidates tie only by equal reward and equal number.
use Rattle.std.proofs.Common.{ℕ, ℤ, sym}
use Rattle.std.proofs.Common.{Ordering}
use Rattle.std.specs.Ordering.{ordering_then, int_cmp, nat_cmp}
use Rattle.std.specs.Cmp.{IsTotalOrder, IsStrictWeakOrder, int_cmp_total, nat_cmp_total, then_total, alike_right}
use Rattle.std.proofs.lemmas.List.Sorted.{ranks_by}
use Rattle.nj_search_defs.specs.Game.{Game}
use Rattle.nj_search_defs.specs.Pruning.{judged_of, is_before}

-- greater rewards first
abbrev pub by_reward : ℤ × ℕ → ℤ × ℕ → Ordering
by_reward p q = int_cmp q.0 p.0

-- smaller numbers first
abbrev pub by_number : ℤ × ℕ → ℤ × ℕ → Ordering
by_number p q = nat_cmp p.1 q.1

by_reward_total : IsTotalOrder by_reward
by_reward_total = record {
  antisymm = λ p q. int_cmp_total.antisymm q.0 p.0;
  trans = λ p q r a b. int_cmp_total.trans r.0 q.0 p.0 b a;
  congr = λ p q r e. sym (alike_right int_cmp_total q.0 p.0 r.0 e);
}

by_number_total : IsTotalOrder by_number
by_number_total = record {
  antisymm = λ p q. nat_cmp_total.antisymm p.1 q.1;
  trans = λ p q r a b. nat_cmp_total.trans p.1 q.1 r.1 a b;
  congr = λ p q r e. nat_cmp_total.congr p.1 q.1 r.1 e;
}

-- the preference is a total order of rewards with numbers
pub preference_total : IsTotalOrder (λ (p q : ℤ × ℕ). ordering_then (by_reward p q) (by_number p q))
preference_total = then_total by_reward_total by_number_total

-- so it sorts the candidates of a game
pub is_before_orders : (game : Game) → IsStrictWeakOrder (is_before game)
is_before_orders game = ranks_by preference_total (λ c. ((judged_of game c).reward, c.number))
