-- The state after the step.
use Rattle.std.proofs.Common.{arith, ℕ, Vec, Global, List, [], ◌∷◌, ◌++◌, ◌+◌, ◌*◌, ◌<◌, length, ap, sym, subst, ◌∙◌, refl, cond}
use Rattle.std.specs.Prelude.{nat_lt}
use Rattle.nj_search_defs.specs.Outcome.{State, seen_of, state_after}
use Rattle.nj_seen.specs.Held.{seen_in}
use Rattle.nj_game.specs.Plan.{plan_of}
use Rattle.nj_game.specs.Words.{game_of}
use Rattle.nj_candidate.specs.Front.{size_in, image_at}
use Rattle.nj_candidate.specs.Again.{before_of}
use Rattle.nj_expand.specs.Held.{Held, bounds_of, kept_in}
use Rattle.nj_expand.specs.Ending.{CanPut, IsPut, AreFew}
use Rattle.nj_expand.specs.Kept.{IsAgain, IsKept}
use Rattle.nj_expand.proofs.Ends.{are_kept, kept_rows_in, generation_in, goes_step}
use Rattle.nj_expand.proofs.Nexts.{laws_of, mark_next, state_next, new_front, new_words, have_parents}
use Rattle.nj_expand.proofs.Parts.{again_is}
use Rattle.nj_expand.proofs.Filed.{IsAfter, can_put, put_makes, after_step}
use Rattle.nj_expand.proofs.search.Search.move_on.Goals as goal

pub next_front-requires : goal.next_front-requires
next_front-requires c =
    let s = c.self.inside in
    let h : Held =
    record {
      plan = plan_of s.cart s.script s.start;
      bounds = bounds_of s.bounds s.script;
      state = record {
        step = s.step;
        front = s.pool.words;
        seen = seen_in s.words.items s.step s.keys.oldest;
        mark = record { level = s.mark.level; until = s.mark.until };
      };
      spent = s.spent;
    } in
    let few : AreFew h = subst AreFew (sym c.self.view_is) c.few_pads.ensures in
    let kept : IsKept h c.args.kept = subst (λ (h : Held). IsKept h c.args.kept) (sym c.self.view_is) c.requires.kept in
    let again : IsAgain h c.args.kept.rows.items c.args.again =
    subst (λ (h : Held). IsAgain h c.args.kept.rows.items c.args.again) (sym c.self.view_is) c.requires.again in
    let are = are_kept h c.args.kept.rows.items few c.order_is_preference.ensures kept.rows.kept in
    have_parents h.plan h.state.front h.bounds.most (kept_in h) c.args.kept.rows.items are
    (before_of h.plan h.state.front) (image_at h.plan []) (h.bounds.most * (size_in h.plan + 16)) c.args.again.pool
    (again_is h c.args.kept.rows.items c.args.again again).pool_is

-- the table before the step is put, and after it
pub put-requires : goal.put-requires
put-requires c =
    let s = c.self.inside in
    let h : Held =
    record {
      plan = plan_of s.cart s.script s.start;
      bounds = bounds_of s.bounds s.script;
      state = record {
        step = s.step;
        front = s.pool.words;
        seen = seen_in s.words.items s.step s.keys.oldest;
        mark = record { level = s.mark.level; until = s.mark.until };
      };
      spent = s.spent;
    } in
    let table = c.self.invariant.2 in
    let kept : IsKept h c.args.kept = subst (λ (h : Held). IsKept h c.args.kept) (sym c.self.view_is) c.requires.kept in
    subst (λ (own : Vec ℕ Global). CanPut own.items c.args.kept.table) (sym c.replace-own.ensures.value)
    (can_put h s.words.items c.args.kept.table
    (record { table = table.table; slots = table.slots; seen = table.seen }) kept.table)

after : (c : goal.After-drop-rows-2) → (let s = c.self.inside in let h : Held = record {
  plan = plan_of s.cart s.script s.start;
  bounds = bounds_of s.bounds s.script;
  state = record {
    step = s.step;
    front = s.pool.words;
    seen = seen_in s.words.items s.step s.keys.oldest;
    mark = record { level = s.mark.level; until = s.mark.until };
  };
  spent = s.spent;
} in
    IsAfter h c.put.result.items c.args.kept.keys s.bounds.exponent)
after c =
    let s = c.self.inside in
    let h : Held =
    record {
      plan = plan_of s.cart s.script s.start;
      bounds = bounds_of s.bounds s.script;
      state = record {
        step = s.step;
        front = s.pool.words;
        seen = seen_in s.words.items s.step s.keys.oldest;
        mark = record { level = s.mark.level; until = s.mark.until };
      };
      spent = s.spent;
    } in
    let table = c.self.invariant.2 in
    let kept : IsKept h c.args.kept = subst (λ (h : Held). IsKept h c.args.kept) (sym c.self.view_is) c.requires.kept in
    let done : IsPut s.words.items (s.step + 1) c.args.kept.table c.put.result.items =
    subst (λ (own : Vec ℕ Global). IsPut own.items (s.step + 1) c.args.kept.table c.put.result.items)
    c.replace-own.ensures.value c.put.ensures in
    after_step h c.put.result.items c.args.kept.keys s.bounds.exponent c.seen_is_told.ensures refl
    (subst (λ (h : Held). h.state.step < 16777215) (sym c.self.view_is) c.requires.step)
    (put_makes h s.words.items (s.step + 1) c.args.kept.table c.put.result.items refl
    (record { table = table.table; slots = table.slots; seen = table.seen }) kept.table done) kept.keys

pub invariant_of-self-2 : goal.invariant_of-self-2
invariant_of-self-2 c =
    let s = c.self.inside in
    let h : Held =
    record {
      plan = plan_of s.cart s.script s.start;
      bounds = bounds_of s.bounds s.script;
      state = record {
        step = s.step;
        front = s.pool.words;
        seen = seen_in s.words.items s.step s.keys.oldest;
        mark = record { level = s.mark.level; until = s.mark.until };
      };
      spent = s.spent;
    } in
    let few : AreFew h = subst AreFew (sym c.self.view_is) c.few_pads.ensures in
    let kept : IsKept h c.args.kept = subst (λ (h : Held). IsKept h c.args.kept) (sym c.self.view_is) c.requires.kept in
    let again : IsAgain h c.args.kept.rows.items c.args.again =
    subst (λ (h : Held). IsAgain h c.args.kept.rows.items c.args.again) (sym c.self.view_is) c.requires.again in
    let are = are_kept h c.args.kept.rows.items few c.order_is_preference.ensures kept.rows.kept in
    let some : 0 < length (kept_in h) = omega (arith, kept.rows.some, kept.count) in (
      c.self.invariant.0,
      new_front h.plan (laws_of h.plan c.self.invariant.1.nrom c.a_word_goes_on.ensures.state
          c.a_word_goes_on.ensures.judged c.an_image_stands_for_its_word.ensures.state)
          s.bounds.front s.pool s.judged.items (kept_in h) c.args.kept.rows.items c.self.invariant.1 are
          c.args.again.pool c.next_front.new.self c.args.again.judged.items some
          (again_is h c.args.kept.rows.items c.args.again again) c.in_ok-next_front.ensures,
      (after c).at,
    )

pub returns-clause-next : goal.returns-clause-next
returns-clause-next c =
    let s = c.self.inside in
    let h : Held =
    record {
      plan = plan_of s.cart s.script s.start;
      bounds = bounds_of s.bounds s.script;
      state = record {
        step = s.step;
        front = s.pool.words;
        seen = seen_in s.words.items s.step s.keys.oldest;
        mark = record { level = s.mark.level; until = s.mark.until };
      };
      spent = s.spent;
    } in
    let few : AreFew h = subst AreFew (sym c.self.view_is) c.few_pads.ensures in
    let kept : IsKept h c.args.kept = subst (λ (h : Held). IsKept h c.args.kept) (sym c.self.view_is) c.requires.kept in
    let again : IsAgain h c.args.kept.rows.items c.args.again =
    subst (λ (h : Held). IsAgain h c.args.kept.rows.items c.args.again) (sym c.self.view_is) c.requires.again in
    let are = are_kept h c.args.kept.rows.items few c.order_is_preference.ensures kept.rows.kept in
    let front =
    new_words h.plan (laws_of h.plan c.self.invariant.1.nrom c.a_word_goes_on.ensures.state
    c.a_word_goes_on.ensures.judged c.an_image_stands_for_its_word.ensures.state)
    s.bounds.front s.pool s.judged.items (kept_in h) c.args.kept.rows.items c.self.invariant.1 are
    (h.bounds.most * (size_in h.plan + 16)) c.args.again.pool c.next_front.new.self
    (again_is h c.args.kept.rows.items c.args.again again).pool_is c.in_ok-next_front.ensures in
    let seen = (after c).told ∙ ap (λ (keys : List ℕ). seen_of h.bounds h.state ++ keys ∷ []) (generation_in h) in
    let mark =
    mark_next (game_of h.plan) (kept_in h) c.as_slice.result.now (record { level = s.mark.level; until = s.mark.until })
    (s.step + 1) s.script.tolerance c.top_level.result
    c.raised-self-inside.result.level c.raised-self-inside.result.until
    (c.as_slice.ensures.value ∙ kept.rows.kept ∙ kept_rows_in h few c.order_is_preference.ensures) c.top_level.ensures
    c.raised-self-inside.ensures.level
    (c.raised-self-inside.ensures.until
    ∙ ap (λ t. cond (nat_lt s.mark.level c.top_level.result) (s.step + 1 + t) s.mark.until)
    c.tolerance.ensures.value) in
    let new : State =
    record {
      step = s.step + 1;
      front = c.next_front.new.self.words;
      seen = seen_in c.put.result.items (s.step + 1) c.args.kept.keys.oldest;
      mark =
          record { level = c.raised-self-inside.result.level; until = c.raised-self-inside.result.until };
    } in
    let e = state_next h new refl front seen mark in
    let now : Held = c.args.self.now in
    goes_step now _ c.few_pads.ensures c.order_is_preference.ensures c.requires.kept.none_wins
    (omega (arith, c.requires.kept.rows.some, c.requires.kept.count))
    ((λ i. record { plan = h.plan; bounds = h.bounds; state = e i; spent = h.spent })
    ∙ ap (λ (h : Held). record h { state = state_after (game_of h.plan) h.bounds h.state (kept_in h) }) c.self.view_is)
