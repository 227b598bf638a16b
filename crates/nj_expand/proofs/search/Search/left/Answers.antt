-- By the table of the search.
use Rattle.std.proofs.Common.{◌≡◌, ◌≤◌, ◌<◌, ◌*◌, ◌^◌, ℕ, List, sym, ap, ◌∙◌, subst, arith}
use Rattle.std.specs.List.{All}
use Rattle.std.proofs.Math.Pow.{pow_mono}
use Rattle.nj_claims.specs.Tables.{entries_in, slot_count}
use Rattle.nj_seen.specs.Held.{HoldsSeen, first_claim, seen_in}
use Rattle.nj_game.specs.Plan.{plan_of}
use Rattle.nj_expand.specs.Held.{Held, bounds_of}
use Rattle.nj_expand.specs.Ending.{IsLeft, room_of}
use Rattle.nj_expand.proofs.Filed.{left_is, images_long, room_within, steps_low}
use Rattle.nj_expand.proofs.search.Search.left.Goals as goal

pub left-requires-clause-steps : goal.left-requires-clause-steps
left-requires-clause-steps c =
    let s = c.self.inside in let table = c.self.invariant.2 in
    let lt : s.step < 16777215 = subst (λ (h : Held). h.state.step < 16777215) (sym c.self.view_is) c.requires in
    subst (λ (words : List ℕ). All (λ (entry : ℕ × ℕ). entry.1 < first_claim) (entries_in words))
    (sym c.as_slice.ensures.value)
    (steps_low s.words.items s.step (omega (arith, lt))
    (c.seen_keys_stand.ensures.steps s.words.items (seen_in s.words.items s.step s.keys.oldest)
    s.step table.table table.seen))

pub left-requires-clause-count : goal.left-requires-clause-count
left-requires-clause-count c =
    let s = c.self.inside in let table = c.self.invariant.2 in
    let same = table.count in
    let count =
    c.seen_keys_stand.ensures.count s.words.items (seen_in s.words.items s.step s.keys.oldest) s.step
    table.table table.seen in
    let within = c.entries_are_the_map.ensures.within s.words.items in
    subst (λ (words : List ℕ). s.keys.count ≤ slot_count words) (sym c.as_slice.ensures.value)
    (omega (arith, same, count, within))

pub returns : goal.returns
returns c =
    let s = c.self.inside in let table = c.self.invariant.2 in let bounds = c.self.invariant.0 in
    let h : Held =
    record {
      plan = plan_of s.cart s.script s.start;
      bounds = bounds_of s.bounds s.script;
      state = record {
        step = s.step;
        front = s.pool.words;
        seen = seen_in s.words.items s.step s.keys.oldest;
        mark = record { level = s.mark.level; until = s.mark.until };
      };
      spent = s.spent;
    } in
    let within : room_of h ≤ h.bounds.slots = room_within h c.self.invariant.1.few bounds.fits in
    let most : h.bounds.slots ≤ 2 ^ 25 = pow_mono bounds.exponent_high in
    let slots : slot_count c.as_slice.result.now ≡ h.bounds.slots =
    ap slot_count c.as_slice.ensures.value ∙ table.slots in
    let holds : HoldsSeen c.as_slice.result.now h.state.seen s.step =
    subst (λ (words : List ℕ). HoldsSeen words h.state.seen s.step) (sym c.as_slice.ensures.value) table.seen in
    subst (λ (h : Held). IsLeft h c.left.result) c.self.view_is
    (left_is h s.keys c.left.result (slot_count c.as_slice.result.now) (c.len.result * s.bounds.inputs) slots
    (ap (λ n. n * s.bounds.inputs) (c.len.ensures
    ∙ images_long h.plan s.bounds.front s.pool s.judged.items c.self.invariant.1)) within most table.oldest
    (c.left.ensures.oldest h.state.seen s.step holds table.oldest table.count)
    (c.left.ensures.gone h.state.seen s.step holds table.oldest table.count)
    (c.left.ensures.count h.state.seen s.step holds table.oldest table.count))
