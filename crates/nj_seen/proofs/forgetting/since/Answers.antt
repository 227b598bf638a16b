-- One slot more.
use Rattle.std.proofs.Common.{◌≡◌, ◌+◌, ◌*◌, ◌/◌, ◌<◌, ℕ, List, ◌∷◌, length, take, sym, ap, subst, ◌∙◌, arith}
use Rattle.std.specs.List.Sorted.{IsPermutation}
use Rattle.nj_claims.specs.Tables.{IsTable, entries_in, owner_in, slot_count, key_at, owner_at}
use Rattle.std.proofs.lemmas.List.{with_items_is}
use Rattle.std.proofs.lemmas.Result.{IfOk-weaker}
use Rattle.nj_seen.specs.Held.{entries_since}
use Rattle.nj_seen.proofs.Counting.{is_map}
use Rattle.nj_seen.proofs.Slots.{holds_since, all_since_slots}
use Rattle.nj_seen.proofs.Keeping.{kept_all, absent_yet, has_room, moved_more, moved_same, moved_none}
use Rattle.nj_seen.proofs.forgetting.since.Goals as goal
use Rattle.nj_seen.proofs.forgetting.since.Goals.{then-is_since, else-is_since}

pub loop-slot-init : goal.loop-slot-init
loop-slot-init c = record {
  table = c.in_ok-rest.ensures.table;
  size = c.in_ok-rest.ensures.size;
  moved = moved_none c.in_ok-rest.rest.items c.in_ok-rest.ensures.empty;
}

pub loop-slot-preserved : goal.loop-slot-preserved
loop-slot-preserved c =
    let words : List ℕ = c.args.words.now in let slot : ℕ = c.loop-slot.slot in let held = c.loop-slot.invariant in
    let l : slot < length words / 2 = c.loop-slot-test.true in
    let inside : 2 * slot + 1 < length words = omega arith in
    elim c.if-is_since.branch [
      | then-is_since w ↦
          let wide = w.insert.auto.words in
          let items : c.if-is_since.rest.items ≡ w.insert.new.words = ap (λ v. v.items) w.rest-is
          ∙ with_items_is c.loop-slot.rest w.insert.new.words (wide ∙ w.deref_mut.ensures.len) in
          let t = sym c.is_since.ensures ∙ w.if-is_since.true in record {
            table = subst IsTable (sym items) w.insert.ensures.table;
            size = ap length items ∙ (wide ∙ (ap length w.deref_mut.ensures.value ∙ held.size));
            moved = subst (λ xs. IsPermutation (entries_since c.args.from (take (2 * (slot + 1)) words))
                (entries_in xs)) (sym items)
                (moved_more words w.insert.new.words c.args.from slot
                (entries_in c.loop-slot.rest.items) inside t held.moved
                (subst (λ xs. IsPermutation ((key_at words slot, owner_at words slot) ∷ entries_in xs)
                (entries_in w.insert.new.words)) w.deref_mut.ensures.value w.insert.ensures.entries));
          }
      | else-is_since w ↦
          let items : c.if-is_since.rest.items ≡ c.loop-slot.rest.items = ap (λ v. v.items) w.rest-is in record {
            table = subst IsTable (sym items) held.table;
            size = ap length items ∙ held.size;
            moved = subst (λ xs. IsPermutation (entries_since c.args.from (take (2 * (slot + 1)) words))
                (entries_in xs)) (sym items)
                (moved_same words c.args.from slot (entries_in c.loop-slot.rest.items) inside
                (sym c.is_since.ensures ∙ w.if-is_since.false) held.moved);
          }
    ]

pub insert-requires-clause-table : goal.insert-requires-clause-table
insert-requires-clause-table c = subst IsTable (sym c.deref_mut.ensures.value) c.loop-slot.invariant.table

pub insert-requires-clause-key : goal.insert-requires-clause-key
insert-requires-clause-key c =
    (holds_since c.args.words.now c.args.from c.loop-slot.slot (sym c.is_since.ensures ∙ c.if-is_since.true)).0

pub insert-requires-clause-absent : goal.insert-requires-clause-absent
insert-requires-clause-absent c =
    let words : List ℕ = c.args.words.now in
    let slot : ℕ = c.loop-slot.slot in
    let laws = c.entries_are_the_map.ensures in
    let l : slot < length words / 2 = c.loop-slot-test.true in
    ap (λ xs. owner_in xs (key_at words slot)) c.deref_mut.ensures.value
    ∙ absent_yet words c.loop-slot.rest.items c.args.from slot (is_map laws.once laws.owners words c.requires)
    (is_map laws.once laws.owners c.loop-slot.rest.items c.loop-slot.invariant.table) (omega arith)
    (sym c.is_since.ensures ∙ c.if-is_since.true) c.loop-slot.invariant.moved

pub insert-requires-clause-room : goal.insert-requires-clause-room
insert-requires-clause-room c =
    subst (λ xs. length (entries_in xs) < slot_count xs) (sym c.deref_mut.ensures.value)
    (has_room c.entries_are_the_map.ensures.within c.args.words.now c.loop-slot.rest.items c.args.from
    c.loop-slot.slot c.loop-slot-test.true
    c.loop-slot.invariant.size c.loop-slot.invariant.moved)

pub returns-clause-table : goal.returns-clause-table
returns-clause-table c = c.loop-slot.invariant.table

pub returns-clause-size : goal.returns-clause-size
returns-clause-size c = c.loop-slot.invariant.size

pub returns-clause-kept : goal.returns-clause-kept
returns-clause-kept c =
    subst (λ es. IsPermutation es (entries_in c.loop-slot.rest.items))
    (all_since_slots c.args.words.now c.args.from c.loop-slot.slot c.loop-slot-test.false) c.loop-slot.invariant.moved

pub returns-then-from-eq0-clause-kept : goal.returns-then-from-eq0-clause-kept
returns-then-from-eq0-clause-kept c =
    IfOk-weaker c.from_slice.result (λ v. v.items ≡ c.args.words.now)
    (λ rest. IsPermutation (entries_since c.args.from c.args.words.now) (entries_in rest.items))
    (λ v same. kept_all c.args.words.now v.items c.args.from c.if-from-eq0.true same) c.from_slice.ensures.items
