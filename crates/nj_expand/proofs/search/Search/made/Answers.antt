-- The kept table, with the keys.
use Rattle.std.proofs.Common.{◌≡◌, ◌+◌, ℕ, List, sym, ap, ◌∙◌, subst}
use Rattle.std.proofs.lemmas.List.{with_items_is}
use Rattle.nj_expand.specs.Held.{Held}
use Rattle.nj_expand.specs.Ending.{CanAdd, IsAdded, IsMade}
use Rattle.nj_expand.proofs.search.Search.made.Goals as goal

can : (c : goal.After-row_known-1) → CanAdd c.as_mut_slice.result.now c.args.keys.now
can c =
    subst (λ (words : List ℕ). CanAdd words c.args.keys.now) (sym c.as_mut_slice.ensures.value)
    (c.may_add.ensures.can c.in_ok-words.words.items c.args.keys.now c.in_ok-words.ensures c.requires.keys)

pub add_keys-requires-clause-named : goal.add_keys-requires-clause-named
add_keys-requires-clause-named c = let may : CanAdd _ _ = can c in may.named

pub add_keys-requires-clause-once : goal.add_keys-requires-clause-once
add_keys-requires-clause-once c = let may : CanAdd _ _ = can c in may.once

pub add_keys-requires-clause-new : goal.add_keys-requires-clause-new
add_keys-requires-clause-new c = let may : CanAdd _ _ = can c in may.new

pub add_keys-requires-clause-room : goal.add_keys-requires-clause-room
add_keys-requires-clause-room c = let may : CanAdd _ _ = can c in may.room

pub returns : goal.returns
returns c =
    let s = c.self.inside in
    let step : s.step + 1 ≡ c.args.self.now.state.step + 1 = ap (λ (h : Held). h.state.step + 1) c.self.view_is in
    let added : IsAdded c.as_mut_slice.result.now c.args.keys.now (s.step + 1) c.add_keys.new.words =
    record { table = c.add_keys.ensures.table; size = c.add_keys.ensures.size; owners = c.add_keys.ensures.owners } in
    let same : IsAdded c.in_ok-words.words.items c.args.keys.now (c.args.self.now.state.step + 1) c.add_keys.new.words =
    subst (λ (n : ℕ). IsAdded c.in_ok-words.words.items c.args.keys.now n c.add_keys.new.words) step
    (subst (λ (words : List ℕ). IsAdded words c.args.keys.now (s.step + 1) c.add_keys.new.words)
    c.as_mut_slice.ensures.value added) in
    subst (IsMade c.args.self.now)
    (sym (with_items_is c.in_ok-words.words c.add_keys.new.words
    (c.add_keys.auto.words ∙ c.as_mut_slice.ensures.len)))
    (c.may_add.ensures.adds c.in_ok-words.words.items c.args.keys.now c.add_keys.new.words
    c.in_ok-words.ensures c.requires.keys same)
