-- By the laws of keys, and since the room is within the slots.
use Rattle.std.proofs.Common.{◌≡◌, ◌≤◌, ◌+◌, ◌*◌, ℕ, length, sym, ap, ◌∙◌, subst}
use Rattle.nj_search_defs.specs.Game.{Bounds}
use Rattle.nj_rules.specs.Pads.{named_pads}
use Rattle.nj_seen.specs.Held.{keys_in_rows}
use Rattle.nj_expand.specs.Ending.{fresh_rows_in, room_of}
use Rattle.nj_expand.proofs.Filed.{AreKeyLaws, room_within, can_add, add_makes}
use Rattle.nj_expand.proofs.Beside.{can_add_moved, added_moved}
use Rattle.nj_expand.proofs.search.Search.may_add.Goals as goal

laws : (c : goal.After-front_len-words) → AreKeyLaws c.args.self.now
laws c = record {
  rising = c.live_rows_can_claim.ensures.rising c.args.self.now c.few_pads.ensures;
  named = c.live_rows_can_claim.ensures.keys c.args.self.now;
  new = c.fresh_keys_are_new.ensures.new;
  once = c.fresh_keys_are_new.ensures.once;
  few = c.fresh_keys_are_new.ensures.few;
  count = c.seen_keys_stand.ensures.count;
  added = c.added_keys_are_seen.ensures;
}

inputs : (c : goal.After-front_len-words)
    → c.args.self.now.bounds.inputs ≡ length (named_pads c.args.self.now.plan.script.inputs.sets)
inputs c = sym (ap (λ (b : Bounds). b.inputs) c.bounds-bounds.ensures.bounds) ∙ c.bounds-bounds.ensures.inputs

within : (c : goal.After-front_len-words) → room_of c.args.self.now ≤ c.args.self.now.bounds.slots
within c =
    room_within c.args.self.now (subst (λ (n : ℕ). n ≤ c.args.self.now.bounds.most) c.front_len-words.ensures.len
    c.front_len-words.ensures.within)
    (subst (λ (b : Bounds). b.most * b.inputs ≤ b.slots) c.bounds-bounds.ensures.bounds c.bounds-bounds.ensures.fits)

pub returns-clause-can : goal.returns-clause-can
returns-clause-can c = λ words keys holds moved.
    can_add_moved words (keys_in_rows (fresh_rows_in c.args.self.now)) keys moved
    (can_add c.args.self.now (laws c) c.live_rows_are_live.ensures
    (c.a_step_is_bounded.ensures.candidates c.args.self.now (inputs c)) (within c) words holds)

pub returns-clause-adds : goal.returns-clause-adds
returns-clause-adds c = λ before keys after holds moved added.
    add_makes c.args.self.now (laws c) before after holds
    (added_moved before (keys_in_rows (fresh_rows_in c.args.self.now)) keys after
    (c.args.self.now.state.step + 1) moved added)
