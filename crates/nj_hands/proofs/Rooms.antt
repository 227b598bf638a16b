-- A table with room for a step, and what needs it.
use Rattle.std.proofs.Common.{◌≡◌, ℕ, ◌+◌, ◌*◌, ◌^◌, ◌≤◌, List, [], length, ap, ◌∙◌, arith}
use Rattle.std.specs.Prelude.{map, filter}
use Rattle.std.proofs.Math.Nat.{mul-le-mul_right}
use Rattle.std.proofs.lemmas.List.{length-map}
use Rattle.std.proofs.lemmas.List.Sums.{length-filter, count_by-le-length}
use Rattle.nj_search_defs.specs.Game.{Bounds}
use Rattle.nj_claims.specs.Tables.{IsTable, entries_in, slot_count}
use Rattle.nj_script.specs.Script.{Record}
use Rattle.nj_game.specs.Words.{game_of}
use Rattle.nj_rows.specs.declared.Row.{Row}
use Rattle.nj_seen.specs.Rows.{is_live_row}
use Rattle.nj_seen.specs.Held.{HoldsSeen}
use Rattle.nj_expand.specs.declared.Bounds.{Bounds as Given}
use Rattle.nj_expand.specs.Rows.{row_of}
use Rattle.nj_expand.specs.Held.{Held, bounds_of, live_rows, candidates_in}
use Rattle.nj_hands.specs.Room.{IsOpenFor}

-- so many words and pads fit in a table of the search's size
pub room_fits : (given : Given) (script : Record) (bounds : Bounds) (front : ℕ) → bounds_of given script ≡ bounds
    → front ≤ bounds.most
    → given.front * given.inputs ≤ 2 ^ given.exponent → front * given.inputs ≤ 2 ^ given.exponent
room_fits given script bounds front is few fits =
    let most : given.front ≡ bounds.most = ap (λ (b : Bounds). b.most) is in
    let more : front * given.inputs ≤ given.front * given.inputs =
    mul-le-mul_right given.inputs (let e : front ≤ given.front = omega arith in e) in
    omega arith

-- an empty table with room is open for the step
pub opened_for : (held : Held) (given : Given) (words : List ℕ) (front exponent : ℕ)
    → bounds_of given held.plan.script ≡ held.bounds → front ≡ length held.state.front
    → IsTable words → slot_count words ≡ 2 ^ exponent → entries_in words ≡ [] → HoldsSeen words [] held.state.step
    → front * given.inputs ≤ 2 ^ exponent → IsOpenFor held words
opened_for held given words front exponent is many table slots empty seen fits =
    let inputs : given.inputs ≡ held.bounds.inputs = ap (λ (b : Bounds). b.inputs) is in
    let rooms : front * given.inputs ≡ length held.state.front * held.bounds.inputs =
    ap (λ (n : ℕ). n * given.inputs) many ∙ ap (λ (n : ℕ). length held.state.front * n) inputs in
    let none : length (entries_in words) ≡ 0 = ap length empty in record {
      table = table;
      seen = seen;
      room = omega (arith, rooms, none, slots, fits);
    }

-- the live rows are no more than the candidates
pub few_live : (held : Held) → ((held : Held) → live_rows held ≡ filter
    (is_live_row held.state.mark (held.state.step + 1)) (map (row_of (game_of held.plan)) (candidates_in held)))
    → length (candidates_in held) ≤ length held.state.front * held.bounds.inputs
    → length (live_rows held) ≤ length held.state.front * held.bounds.inputs
few_live held live few =
    let rows : List Row = map (row_of (game_of held.plan)) (candidates_in held) in
    let many : length rows ≡ length (candidates_in held) =
    length-map (candidates_in held) (row_of (game_of held.plan)) in
    let is : length (live_rows held) ≡ length (filter (is_live_row held.state.mark (held.state.step + 1)) rows) =
    ap length (live held) in
    omega (
      arith,
      length-filter (is_live_row held.state.mark (held.state.step + 1)) rows,
      count_by-le-length (is_live_row held.state.mark (held.state.step + 1)) rows,
    )
