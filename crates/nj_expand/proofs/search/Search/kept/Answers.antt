-- The table without the forgotten.
use Rattle.std.proofs.Common.{◌<◌, ◌*◌, ℕ, List, sym, ap, ◌∙◌, subst, arith}
use Rattle.std.specs.List.{All}
use Rattle.nj_claims.specs.Tables.{entries_in}
use Rattle.nj_seen.specs.Held.{first_claim, seen_in}
use Rattle.nj_game.specs.Plan.{plan_of}
use Rattle.nj_expand.specs.Held.{Held, bounds_of}
use Rattle.nj_expand.specs.Ending.{IsTableOf, HoldsLeft}
use Rattle.nj_expand.proofs.Filed.{holds_left, images_long, steps_low}
use Rattle.nj_expand.proofs.search.Search.kept.Goals as goal

pub room-requires-clause-steps : goal.room-requires-clause-steps
room-requires-clause-steps c =
    let s = c.self.inside in let table = c.self.invariant.2 in
    let lt : s.step < 16777215 = subst (λ (h : Held). h.state.step < 16777215) (sym c.self.view_is) c.requires in
    subst (λ (words : List ℕ). All (λ (entry : ℕ × ℕ). entry.1 < first_claim) (entries_in words))
    (sym c.as_slice.ensures.value)
    (steps_low s.words.items s.step (omega (arith, lt))
    (c.seen_keys_stand.ensures.steps s.words.items (seen_in s.words.items s.step s.keys.oldest)
    s.step table.table table.seen))

pub returns : goal.returns
returns c =
    let s = c.self.inside in let table = c.self.invariant.2 in
    let h : Held =
    record {
      plan = plan_of s.cart s.script s.start;
      bounds = bounds_of s.bounds s.script;
      state = record {
        step = s.step;
        front = s.pool.words;
        seen = seen_in s.words.items s.step s.keys.oldest;
        mark = record { level = s.mark.level; until = s.mark.until };
      };
      spent = s.spent;
    } in
    let own : IsTableOf h c.as_slice.result.now =
    subst (IsTableOf h) (sym c.as_slice.ensures.value)
    (record { table = table.table; slots = table.slots; seen = table.seen }) in
    subst (λ (h : Held). HoldsLeft h c.in_ok-words.words.items) c.self.view_is
    (holds_left h c.as_slice.result.now c.in_ok-words.words.items (c.len-front.result * s.bounds.inputs) own
    (ap (λ n. n * s.bounds.inputs)
    (c.len-front.ensures ∙ images_long h.plan s.bounds.front s.pool s.judged.items c.self.invariant.1))
    c.in_ok-words.ensures.table c.in_ok-words.ensures.size c.in_ok-words.ensures.seen)
