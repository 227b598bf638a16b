-- The seen keys in the table of a search: what is left of them, what is added, and what they are after the step.
use Rattle.std.proofs.Common.{◌≡◌, ◌≢◌, ℕ, ◌+◌, ◌-◌, ◌*◌, ◌/◌, ◌^◌, ◌<◌, ◌≤◌, ◌==◌, Bool, true, false, cond, List, [], ◌∷◌, ◌++◌, length, map, filter, drop, nat_le, refl, sym, ap, ◌∙◌, subst, arith, mul-le-mul_right}
use Rattle.std.specs.Prelude.{Some, None, if◌then◌else◌}
use Rattle.std.specs.List.{All, AllPairs, list_any}
use Rattle.std.proofs.lemmas.Bool.{leb-true}
use Rattle.std.proofs.lemmas.List.{length-map, length_push}
use Rattle.std.proofs.lemmas.List.Sums.{sum_by-append}
use Rattle.std.proofs.lemmas.List.Elements.{All-map, All-filter, All-weaker}
use Rattle.nj_search_defs.specs.Order.{put_in, in_order}
use Rattle.nj_search_defs.specs.Pruning.{Seen, key_count, forgotten}
use Rattle.nj_search_defs.specs.Outcome.{seen_of}
use Rattle.nj_game.specs.Words.{game_of}
use Rattle.nj_rows.specs.declared.Row.{Row}
use Rattle.nj_rows.specs.Order.{is_row_before}
use Rattle.nj_claims.specs.Tables.{IsTable, entries_in, owner_in, slot_count}
use Rattle.nj_seen.specs.declared.forgetting.SeenKeys.{SeenKeys}
use Rattle.nj_rules.specs.declared.record.Judged.{Judged}
use Rattle.nj_game.specs.Plan.{Plan}
use Rattle.nj_pool.specs.Front.{Front}
use Rattle.nj_seen.specs.Rows.{IsRising, is_live_row, fresh_rows, generation_rows}
use Rattle.nj_seen.specs.Held.{HoldsSeen, first_claim, keys_in_rows, oldest_step, seen_in}
use Rattle.nj_candidate.specs.Rows.{row_of}
use Rattle.nj_candidate.specs.Front.{image_at}
use Rattle.nj_expand.specs.declared.tables.NewTable.{NewTable}
use Rattle.nj_expand.specs.declared.tables.NewTable.TheVariants.{Own, Made}
use Rattle.nj_expand.specs.Held.{Held, live_rows, candidates_in}
use Rattle.nj_expand.specs.Ranges.{IsFront}
use Rattle.nj_expand.specs.Table.{IsTableAt}
use Rattle.nj_expand.specs.Ending.{room_of, fresh_rows_in, seen_next, IsTableOf, HoldsLeft, IsMade, CanAdd, IsAdded, AreNewKeys, IsNewTable, CanPut, IsPut, IsLeft, AreNextKeys}
use Rattle.nj_expand.proofs.Fronts.{LiveRowsAreLive, filter_short}

-- ---- room

-- what is left leaves room
forgotten_fits : (slots room : ℕ) (seen : Seen) → room ≤ slots → key_count (forgotten slots room seen) + room ≤ slots
forgotten_fits slots room [] le = omega (arith, le)
forgotten_fits slots room (oldest ∷ rest) le =
    elim (nat_le (key_count (oldest ∷ rest) + room) slots) as (λ b. nat_le (key_count (oldest ∷ rest) + room) slots ≡ b
    → key_count (cond b (oldest ∷ rest) (forgotten slots room rest)) + room ≤ slots) [
      | true ↦ λ e. leb-true (key_count (oldest ∷ rest) + room) slots e
      | false ↦ λ e. forgotten_fits slots room rest le
    ] refl

left_fits : (h : Held) → room_of h ≤ h.bounds.slots → key_count (seen_of h.bounds h.state) + room_of h ≤ h.bounds.slots
unfolding seen_of
left_fits h le = forgotten_fits h.bounds.slots (room_of h) h.state.seen le

-- the room is no more than the slots
pub room_within : (h : Held) → length h.state.front ≤ h.bounds.most → h.bounds.most * h.bounds.inputs ≤ h.bounds.slots
    → room_of h ≤ h.bounds.slots
room_within h few fits = let most = mul-le-mul_right h.bounds.inputs few in omega (arith, most, fits)

-- no more rows are live than there are candidates
live_few : LiveRowsAreLive → (h : Held) → length (candidates_in h) ≤ room_of h → length (live_rows h) ≤ room_of h
live_few law h few =
    let all : List Row = map (row_of (game_of h.plan)) (candidates_in h) in
    let short = filter_short (is_live_row h.state.mark (h.state.step + 1)) all in
    let same = length-map (candidates_in h) (row_of (game_of h.plan)) in
    let e : length (live_rows h) ≡ length (filter (is_live_row h.state.mark (h.state.step + 1)) all) =
    ap length (law h) in
    omega (arith, short, same, e, few)

-- as many images as words
pub images_long : (plan : Plan) (most : ℕ) (pool : Front) (judged : List Judged) → IsFront plan most pool judged
    → length pool.images ≡ length pool.words
images_long plan most pool judged front = ap length front.images ∙ length-map pool.words (image_at plan)

-- ---- keys that are added

-- the laws of keys that the end of a step stands on
pub record AreKeyLaws (h : Held) : Type 0 where
  pub rising : IsRising (live_rows h)
  pub named : All (λ (row : Row). row.key ≢ 0) (live_rows h)
  pub new : (words : List ℕ) (seen : Seen) (step : ℕ) (rows : List Row) → HoldsSeen words seen step
      → All (λ key. owner_in words key ≡ None) (keys_in_rows (fresh_rows seen rows))
  pub once : (seen : Seen) (rows : List Row) → IsRising rows
      → AllPairs (λ a b. a ≢ b) (keys_in_rows (fresh_rows seen rows))
  pub few : (seen : Seen) (rows : List Row) → length (fresh_rows seen rows) ≤ length rows
  pub count : (words : List ℕ) (seen : Seen) (step : ℕ) → IsTable words → HoldsSeen words seen step
      → length (entries_in words) ≡ key_count seen
  pub added : (before after : List ℕ) (seen : Seen) (step : ℕ) (rows : List Row) → HoldsSeen before seen step
      → IsRising rows
      → ((key : ℕ) → owner_in after key
      ≡ (if list_any (λ k. k == key) (keys_in_rows (fresh_rows seen rows)) then Some
      (step + 1) else owner_in before key))
      → HoldsSeen after (seen ++ generation_rows (fresh_rows seen rows) ∷ []) (step + 1)

fresh_named : (seen : Seen) (rows : List Row) → All (λ (row : Row). row.key ≢ 0) rows
    → All (λ key. key ≢ 0) (keys_in_rows (fresh_rows seen rows))
unfolding fresh_rows
fresh_named seen rows all =
    All-map (λ (key : ℕ). key ≢ 0) (λ (row : Row). row.key) (fresh_rows seen rows)
    (All-filter _ (λ (row : Row). row.key ≢ 0) rows all)

pub can_add : (h : Held) → AreKeyLaws h → LiveRowsAreLive → length (candidates_in h) ≤ room_of h
    → room_of h ≤ h.bounds.slots
    → (words : List ℕ) → HoldsLeft h words → CanAdd words (keys_in_rows (fresh_rows_in h))
can_add h laws live few within words holds = record {
  table = holds.table;
  named = fresh_named (seen_of h.bounds h.state) (live_rows h) laws.named;
  once = laws.once (seen_of h.bounds h.state) (live_rows h) laws.rising;
  new = laws.new words (seen_of h.bounds h.state) h.state.step (live_rows h) holds.seen;
  room =
      let seen : Seen = seen_of h.bounds h.state in
      let count : length (entries_in words) ≡ key_count seen =
      laws.count words seen h.state.step holds.table holds.seen in
      let keys : length (keys_in_rows (fresh_rows_in h)) ≡ length (fresh_rows_in h) =
      length-map (fresh_rows_in h) (λ (row : Row). row.key) in
      let fresh : length (fresh_rows_in h) ≤ length (live_rows h) = laws.few seen (live_rows h) in
      let lives : length (live_rows h) ≤ room_of h = live_few live h few in
      let fits : key_count seen + room_of h ≤ h.bounds.slots = left_fits h within in
      let slots : slot_count words ≡ h.bounds.slots = holds.slots in
      omega (arith, count, keys, fresh, lives, fits, slots);
}

pub add_makes : (h : Held) → AreKeyLaws h → (before after : List ℕ) → HoldsLeft h before
    → IsAdded before (keys_in_rows (fresh_rows_in h)) (h.state.step + 1) after → IsMade h after
add_makes h laws before after holds added = record {
  table = added.table;
  slots = ap (λ n. n / 2) added.size ∙ holds.slots;
  seen = laws.added before after (seen_of h.bounds h.state) h.state.step (live_rows h) holds.seen
      laws.rising added.owners;
}

-- where nothing is forgotten, they are new keys of the search's own table
pub own_keys : (h : Held) (left : SeenKeys) (oldest : ℕ) (keys : List ℕ) → IsLeft h left
    → oldest ≡ oldest_step h.state.step h.state.seen → left.oldest ≡ oldest
    → ((words : List ℕ) → HoldsLeft h words → CanAdd words keys)
    → ((before after : List ℕ) → HoldsLeft h before → IsAdded before keys (h.state.step + 1) after → IsMade h after)
    → AreNewKeys h keys
own_keys h left oldest keys is first same can adds =
    let none : left.oldest - oldest_step h.state.step h.state.seen ≡ 0 = omega (arith, first, same) in
    let stay : h.state.seen ≡ seen_of h.bounds h.state = ap (λ n. drop n h.state.seen) (sym none) ∙ is.gone in record {
      can = λ words t. can words (record {
        table = t.table;
        slots = t.slots;
        seen = subst (λ (seen : Seen). HoldsSeen words seen h.state.step) stay t.seen;
      });
      adds = λ before after t added.
          adds before after (record {
            table = t.table;
            slots = t.slots;
            seen = subst (λ (seen : Seen). HoldsSeen before seen h.state.step) stay t.seen;
          }) added;
    }

-- ---- the table that is put

pub can_put : (h : Held) (own : List ℕ) (table : NewTable) → IsTableOf h own → IsNewTable h table → CanPut own table
can_put h own (Own keys) is new = new.can own is
can_put h own (Made words) is new = tt

pub put_makes : (h : Held) (own : List ℕ) (step : ℕ) (table : NewTable) (words : List ℕ) → step ≡ h.state.step + 1
    → IsTableOf h own → IsNewTable h table → IsPut own step table words → IsMade h words
put_makes h own step (Own keys) words at is new done =
    new.adds own words is (subst (λ n. IsAdded own keys.items n words) at done)
put_makes h own step (Made made) words at is new done = subst (IsMade h) (sym done) new

-- it is the table of the search after the step
pub record IsAfter (h : Held) (words : List ℕ) (keys : SeenKeys) (exponent : ℕ) : Type 0 where
  pub told : seen_in words (h.state.step + 1) keys.oldest ≡ seen_next h
  pub at : IsTableAt words keys (h.state.step + 1) exponent

pub after_step : (h : Held) (words : List ℕ) (keys : SeenKeys) (exponent : ℕ)
    → ((words : List ℕ) (seen : Seen) (step : ℕ) → IsTable words → HoldsSeen words seen step
    → seen ≡ seen_in words step (oldest_step step seen))
    → h.bounds.slots ≡ 2 ^ exponent → h.state.step < 16777215 → IsMade h words → AreNextKeys h keys
    → IsAfter h words keys exponent
after_step h words keys exponent law slots lt made next =
    let told : seen_next h ≡ seen_in words (h.state.step + 1) keys.oldest =
    law words (seen_next h) (h.state.step + 1) made.table made.seen
    ∙ ap (seen_in words (h.state.step + 1)) (sym next.oldest) in record {
      told = sym told;
      at = record {
        table = made.table;
        slots = made.slots ∙ slots;
        seen = subst (λ (seen : Seen). HoldsSeen words seen (h.state.step + 1)) told made.seen;
        oldest = next.oldest ∙ ap (oldest_step (h.state.step + 1)) told;
        count = next.count ∙ ap key_count told;
        last = omega (arith, lt);
      };
    }

-- ---- the seen keys' numbers

in_put_long : {X : Type 0} (before : X → X → Bool) (x : X) (ys : List X) → length (put_in before x ys) ≡ length ys + 1
in_put_long before x [] = refl
in_put_long before x (y ∷ ys) =
    elim (before x y) as (λ b. length (cond b (x ∷ y ∷ ys) (y ∷ put_in before x ys)) ≡ length (y ∷ ys) + 1) [
      | true ↦ omega arith
      | false ↦ let rest = in_put_long before x ys in omega (arith, rest)
    ]

pub in_order_long : {X : Type 0} (before : X → X → Bool) (xs : List X) → length (in_order before xs) ≡ length xs
in_order_long before [] = refl
in_order_long before (x ∷ xs) = let rest = in_order_long before xs in let one =
    in_put_long before x (in_order before xs) in omega (arith, rest, one)

generation_long : (rows : List Row) → length (generation_rows rows) ≡ length rows
unfolding generation_rows
generation_long rows = in_order_long _ (map (λ (row : Row). row.key) rows) ∙ length-map rows (λ (row : Row). row.key)

-- those after the step, by the number of the fresh rows
pub next_keys : (h : Held) (left keys : SeenKeys) (fresh : List Row) → IsLeft h left
    → in_order is_row_before fresh ≡ in_order is_row_before (fresh_rows_in h)
    → keys.oldest ≡ left.oldest → keys.count ≡ left.count + length fresh → AreNextKeys h keys
next_keys h left keys fresh is same oldest count = record {
  oldest =
      let long : length (seen_next h) ≡ length (seen_of h.bounds h.state) + 1 =
      length_push (seen_of h.bounds h.state) (generation_rows (fresh_rows_in h)) in
      let first = is.oldest in omega (arith, long, first, oldest);
  count =
      let many : length fresh ≡ length (fresh_rows_in h) =
      sym (in_order_long is_row_before fresh) ∙ ap length same ∙ in_order_long is_row_before (fresh_rows_in h) in
      let all = sum_by-append length (seen_of h.bounds h.state) (generation_rows (fresh_rows_in h) ∷ []) in
      let one = generation_long (fresh_rows_in h) in
      let before = is.count in
      omega (arith, many, all, one, before, count);
}

-- what is left, in the words of the search
pub left_is : (h : Held) (keys left : SeenKeys) (slots room : ℕ) → slots ≡ h.bounds.slots → room ≡ room_of h
    → room_of h ≤ h.bounds.slots → h.bounds.slots ≤ 2 ^ 25
    → keys.oldest ≡ oldest_step h.state.step h.state.seen
    → left.oldest ≡ oldest_step h.state.step (forgotten slots room h.state.seen)
    → drop (left.oldest - keys.oldest) h.state.seen ≡ forgotten slots room h.state.seen
    → left.count ≡ key_count (forgotten slots room h.state.seen) → IsLeft h left
unfolding seen_of
left_is h keys left slots room same_slots same_room within most first oldest gone count =
    let same : forgotten slots room h.state.seen ≡ forgotten h.bounds.slots (room_of h) h.state.seen =
    λ i. forgotten (same_slots i) (same_room i) h.state.seen in
    record {
      oldest = oldest ∙ ap (oldest_step h.state.step) same;
      gone = ap (λ n. drop (left.oldest - n) h.state.seen) (sym first) ∙ gone ∙ same;
      count = count ∙ ap key_count same;
      few =
          let fits : key_count (forgotten h.bounds.slots (room_of h) h.state.seen) + room_of h ≤ h.bounds.slots =
          forgotten_fits h.bounds.slots (room_of h) h.state.seen within in
          let is : left.count ≡ key_count (forgotten h.bounds.slots (room_of h) h.state.seen) =
          count ∙ ap key_count same in
          omega (arith, fits, is, most);
    }

-- a table with room holds what is left
pub holds_left : (h : Held) (words rest : List ℕ) (room : ℕ) → IsTableOf h words → room ≡ room_of h → IsTable rest
    → length rest ≡ length words
    → ((seen : Seen) (step : ℕ) → HoldsSeen words seen step
    → HoldsSeen rest (forgotten (slot_count words) room seen) step) → HoldsLeft h rest
unfolding seen_of
holds_left h words rest room is same table size seen = record {
  table = table;
  slots = ap (λ n. n / 2) size ∙ is.slots;
  seen = subst (λ (some : Seen). HoldsSeen rest some h.state.step) (λ i. forgotten (is.slots i) (same i) h.state.seen)
      (seen h.state.seen h.state.step is.seen);
}

-- its owners are steps
pub steps_low : (words : List ℕ) (step : ℕ) → step < first_claim → All (λ entry. entry.1 ≤ step) (entries_in words)
    → All (λ entry. entry.1 < first_claim) (entries_in words)
steps_low words step lt all =
    All-weaker (λ (entry : ℕ × ℕ). entry.1 ≤ step) (λ (entry : ℕ × ℕ). entry.1 < first_claim)
    (λ entry le. omega (arith, le, lt)) (entries_in words) all

-- before the first step
pub record IsFirstTable (words : List ℕ) (key exponent : ℕ) : Type 0 where
  pub told : seen_in words 0 0 ≡ (key ∷ []) ∷ []
  pub at : IsTableAt words (record { oldest = 0; count = 1 }) 0 exponent

pub first_table : ((words : List ℕ) (seen : Seen) (step : ℕ) → IsTable words → HoldsSeen words seen step
    → seen ≡ seen_in words step (oldest_step step seen))
    → (words : List ℕ) (key exponent : ℕ) → IsTable words → slot_count words ≡ 2 ^ exponent
    → HoldsSeen words ((key ∷ []) ∷ []) 0 → IsFirstTable words key exponent
first_table law words key exponent table slots holds =
    let zeroth : oldest_step 0 ((key ∷ []) ∷ []) ≡ 0 = omega arith in
    let told : ((key ∷ []) ∷ []) ≡ seen_in words 0 0 =
    law words ((key ∷ []) ∷ []) 0 table holds ∙ ap (seen_in words 0) zeroth in
    record {
      told = sym told;
      at = record {
        table = table;
        slots = slots;
        seen = subst (λ (seen : Seen). HoldsSeen words seen 0) told holds;
        oldest = sym zeroth ∙ ap (oldest_step 0) told;
        count = let one : 1 ≡ key_count ((key ∷ []) ∷ []) = omega arith in one ∙ ap key_count told;
        last = omega arith;
      };
    }

-- the rows whose keys are not seen are the fresh ones
pub found_fresh : (h : Held) (left : SeenKeys) (words : List ℕ) (rows fresh : List Row) → IsLeft h left
    → HoldsSeen words h.state.seen h.state.step → rows ≡ live_rows h
    → ((seen : Seen) (step : ℕ) → HoldsSeen words seen step
    → fresh ≡ fresh_rows (drop (left.oldest - oldest_step step seen) seen) rows) → fresh ≡ fresh_rows_in h
found_fresh h left words rows fresh is holds are finds =
    finds h.state.seen h.state.step holds ∙ (λ i. fresh_rows (is.gone i) (are i))
