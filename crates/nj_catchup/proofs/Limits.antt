-- The limit of pending dots, and what is kept beside a picture.
use Rattle.std.proofs.Common.{◌≡◌, ℕ, ◌+◌, ◌-◌, ◌%◌, ◌<◌, ◌≤◌, true, false, List, refl, ap, sym, ◌∙◌, arith, subst, inl, inr}
use Rattle.std.proofs.lemmas.Bool.{cases_Bool}
use Rattle.nj_dots.specs.declared.screen.Screen.{Screen}
use Rattle.nj_dots.specs.Screen.{IsScreen, IsPlaced, nmi_line_of}
use Rattle.nj_dots.specs.Dots.{after_dots, to_event}
use Rattle.nj_dots.proofs.Moving.{if-true, if-false}
use Rattle.nj_dots.proofs.Events.{to_event-after, to_event-positive}
use Rattle.nj_catchup.specs.declared.lull.Lull.{Lull}
use Rattle.nj_catchup.specs.Limit.{limit_of, pending_of, IsLull}
use Rattle.nj_catchup.proofs.Sums.{dots-zero}
use Rattle.nj_catchup.proofs.Ahead.{to_event-small}
use Rattle.nj_catchup.proofs.Calm.{ended-after, nmi_line-after}
use Rattle.nj_catchup.proofs.Status.{Untimed}

limit-marked : (s : Screen) → s.ended ≡ true → limit_of s ≡ 0
unfolding limit_of
limit-marked s marked = if-true s.ended _ _ marked

limit-unmarked : (s : Screen) → s.ended ≡ false → limit_of s ≡ to_event s - 1
unfolding limit_of
limit-unmarked s unmarked = if-false s.ended _ _ unmarked

-- no dot is pending where an end is marked
pub none-marked : (l : Lull) (s : Screen) → IsLull l s → s.ended ≡ true → pending_of l ≡ 0
none-marked l s h marked = let none : limit_of s ≡ 0 = limit-marked s marked in omega (arith, h.limit, none)

-- the lull of a picture of which no dot is pending
pub lull-begins : (l : Lull) (s : Screen) → IsPlaced s.position → l.limit ≡ limit_of s → l.spare ≡ l.limit
    → l.line ≡ nmi_line_of s → IsLull l s
lull-begins l s placed limit all line =
    let ahead : 0 < to_event s = to_event-positive s placed in
    record { limit = limit; within = omega (arith, all); before_event = omega (arith, all, ahead); line = line }

-- the lull with more dots pending
pub lull-goes-on : (l : Lull) (s : Screen) (dots : ℕ) → IsLull l s → dots ≤ l.spare
    → IsLull (record l { spare = l.spare - dots }) s
lull-goes-on l s dots h below = elim (cases_Bool s.ended) [
  | inl marked ↦ (
      let none : limit_of s ≡ 0 = limit-marked s marked in
      record {
        limit = h.limit;
        within = omega (arith, h.within);
        before_event = omega (arith, none, h.limit, h.before_event);
        line = h.line;
      })
  | inr unmarked ↦ (
      let most : limit_of s ≡ to_event s - 1 = limit-unmarked s unmarked in
      record {
        limit = h.limit;
        within = omega (arith, h.within);
        before_event = omega (arith, most, below, h.limit, h.within, h.before_event);
        line = h.line;
      })
]

-- once the pending dots have run the limit is less by them
limit-after : (k : ℕ) (p : List ℕ) (s : Screen) → IsScreen s → k < to_event s → (s.ended ≡ true → k ≡ 0)
    → limit_of s - k ≡ limit_of (after_dots k p s)
limit-after k p s fits below none = elim (cases_Bool s.ended) [
  | inl marked ↦ (
      let z : k ≡ 0 = none marked in
      let e : limit_of s - k ≡ limit_of s = omega (arith, z) in
      e ∙ ap limit_of (sym (dots-zero k p s z)))
  | inr unmarked ↦ (
      let left : to_event (after_dots k p s) + k ≡ to_event s = to_event-after k p s fits below in
      let here : limit_of s ≡ to_event s - 1 = limit-unmarked s unmarked in
      let there : limit_of (after_dots k p s) ≡ to_event (after_dots k p s) - 1 =
      limit-unmarked (after_dots k p s) (ended-after k p s fits below ∙ unmarked) in
      omega (arith, left, here, there))
]

-- and what was spare is all of it
pub lull-after : (l : Lull) (p : List ℕ) (s e : Screen) → IsScreen s → IsScreen e → IsLull l s
    → e ≡ after_dots (pending_of l) p s → IsLull (record l { limit = l.spare }) e
lull-after l p s e fits there h run =
    let less : limit_of s - pending_of l ≡ limit_of (after_dots (pending_of l) p s) =
    limit-after (pending_of l) p s fits h.before_event (none-marked l s h) in
    let same : limit_of e ≡ limit_of (after_dots (pending_of l) p s) = ap limit_of run in
    lull-begins (record l { limit = l.spare }) e there.placed (omega (arith, less, same, h.limit, h.within)) refl
    (h.line ∙ sym (nmi_line-after (pending_of l) p s fits h.before_event) ∙ ap nmi_line_of (sym run))

-- a read that leaves event and mark leaves the limit
limit-untimed : (s e : Screen) → Untimed s e → limit_of e ≡ limit_of s
limit-untimed s e h = elim (cases_Bool s.ended) [
  | inl marked ↦ limit-marked e (h.ended ∙ marked) ∙ sym (limit-marked s marked)
  | inr unmarked ↦ limit-unmarked e (h.ended ∙ unmarked) ∙ ap (λ n. n - 1) h.event ∙ sym (limit-unmarked s unmarked)
]

-- and the lull but for the NMI line
pub lull-untimed : (l m : Lull) (s e : Screen) → IsLull l s → Untimed s e → m ≡ record l { line = nmi_line_of e }
    → IsLull m e
lull-untimed l m s e h u same = subst (λ x. IsLull x e) (sym same) (record {
  limit = h.limit ∙ sym (limit-untimed s e u);
  within = h.within;
  before_event = subst (λ n. pending_of l < n) (sym u.event) h.before_event;
  line = refl;
})

-- spare dots are few
pub spare-small : (l : Lull) (s : Screen) → IsScreen s → IsLull l s → l.spare < 4294967296
spare-small l s fits h = elim (cases_Bool s.ended) [
  | inl marked ↦ omega (arith, limit-marked s marked, h.limit, h.within)
  | inr unmarked ↦ omega (arith, limit-unmarked s unmarked, to_event-small s fits, h.limit, h.within)
]

-- some of them are taken by a difference that wraps, and given back where there were not as many
pub taken : (spare dots : ℕ) → spare < 4294967296 → dots ≤ spare
    → (spare + (4294967296 - dots)) % 4294967296 ≡ spare - dots
taken spare dots small within = omega arith

pub given-back : (spare dots : ℕ) → spare < 4294967296 → dots < 4294967296
    → ((spare + (4294967296 - dots)) % 4294967296 + dots) % 4294967296 ≡ spare
given-back spare dots small few = omega arith
