-- The children of a state, one after another: their live rows and their frames.
use Rattle.std.proofs.Common.{◌≡◌, ℕ, ◌+◌, ◌*◌, ◌<◌, ◌≤◌, List, [], ◌∷◌, ◌++◌, length, drop, get_or, refl, sym, ap, ◌∙◌, arith, append_assoc, length-append, Bool, true, false, cond}
use Rattle.std.proofs.Math.Nat.{mul-add}
use Rattle.std.proofs.lemmas.List.{at_drop_more, drop_all, append-nil, length-drop}
use Rattle.std.proofs.lemmas.List.Elements.{filter-append}
use Rattle.nj_machine.specs.State.{State, Rom, rom_of}
use Rattle.nj_machine.specs.Image.{of_image}
use Rattle.nj_script.specs.Script.{Record}
use Rattle.nj_rows.specs.declared.Row.{Row}
use Rattle.nj_seen.specs.Rows.{is_live_row}
use Rattle.nj_candidate.specs.Rows.{row_at}
use Rattle.nj_expand.specs.Held.{Held}
use Rattle.nj_expand.specs.Children.{child_rows, live_among}

-- what all children of a state bring: the search, the status and the image of the state, the first child's number, the
-- pads, what the cartridge fixes, the rows before them with their room, and the counter before them
pub record Task : Type 0 where
  pub held : Held
  pub status : ℕ
  pub image : List ℕ
  pub first : ℕ
  pub pads : List ℕ
  pub rom : Rom
  pub rows : List Row
  pub room : ℕ
  pub steps : ℕ

-- the live rows of the children from a place on
abbrev pub rows_left : Task → ℕ → List Row
rows_left task place =
    live_among task.held (child_rows task.held.plan.script task.status (of_image task.rom task.image)
    (task.first + place) (drop place task.pads))

-- the children before a place are run: what is left is what all bring but them
pub record AreRun (task : Task) (place : ℕ) (rows : List Row) (room steps : ℕ) (machine : State) : Type 0 where
  pub added : task.rows ++ rows_left task 0 ≡ rows ++ rows_left task place
  pub counted : steps + task.held.plan.script.hold * length (drop place task.pads) ≤ task.steps
      + task.held.plan.script.hold * length task.pads
  pub later : task.steps ≤ steps
  pub cartridge : rom_of machine ≡ task.rom
  pub within : length rows + length (drop place task.pads) ≤ task.room
  pub reserved : room ≡ task.room

-- none is run
pub none_run : (task : Task) (machine : State) → rom_of machine ≡ task.rom
    → length task.rows + length task.pads ≤ task.room → AreRun task 0 task.rows task.room task.steps machine
none_run task machine is fits =
    record { added = refl; counted = omega arith; later = omega arith; cartridge = is; within = fits; reserved = refl }

-- there is room for the next child's row
pub has_room : (task : Task) (place : ℕ) (rows : List Row) (room steps : ℕ) (machine : State) → place < length task.pads
    → AreRun task place rows room steps machine → length rows < room
has_room task place rows room steps machine lt run =
    let within = run.within in
    let same = run.reserved in
    let long = length-drop place task.pads in
    omega (arith, within, same, long, lt)

-- the rows that are left begin with that of the next child
next_row : (task : Task) (place default : ℕ) → place < length task.pads
    → rows_left task place ≡ live_among task.held
    (row_at task.held.plan.script task.status (of_image task.rom task.image) (get_or task.pads place default)
    (task.first + place) ∷ [])
    ++ rows_left task (place + 1)
next_row task place default lt =
    let script : Record = task.held.plan.script in
    let parent : State = of_image task.rom task.image in
    let row : Row = row_at script task.status parent (get_or task.pads place default) (task.first + place) in
    let on : task.first + place + 1 ≡ task.first + (place + 1) = omega arith in
    ap (live_among task.held) (at_drop_more (child_rows script task.status parent (task.first + place))
    task.pads place default lt)
    ∙ filter-append (is_live_row task.held.state.mark (task.held.state.step + 1)) (row ∷ [])
    (child_rows script task.status parent (task.first + place + 1) (drop (place + 1) task.pads))
    ∙ ap (λ n. live_among task.held (row ∷ [])
    ++ live_among task.held (child_rows script task.status parent n (drop (place + 1) task.pads))) on

-- one child more, by the script
pub one_run : (task : Task) (place default : ℕ) (rows new : List Row) (room room' steps after : ℕ)
    (machine child : State) (row : Row) (script : Record)
    → place < length task.pads → AreRun task place rows room steps machine → script ≡ task.held.plan.script
    → row ≡ row_at script task.status (of_image (rom_of machine) task.image)
    (get_or task.pads place default) (task.first + place)
    → new ≡ rows ++ live_among task.held (row ∷ []) → room' ≡ room
    → after ≤ steps + script.hold → steps ≤ after → rom_of child ≡ rom_of machine
    → AreRun task (place + 1) new room' after child
one_run task place default rows new room room' steps after machine child row script lt run by_script is adds same
    takes later keeps = record {
      added =
          let row' : Row =
          row_at task.held.plan.script task.status (of_image task.rom task.image)
          (get_or task.pads place default) (task.first + place) in
          let same_row : row' ≡ row =
          sym (is ∙ (λ i. row_at (by_script i) task.status (of_image (run.cartridge i) task.image)
          (get_or task.pads place default) (task.first + place))) in
          run.added ∙ ap (λ xs. rows ++ xs) (next_row task place default lt)
          ∙ sym (append_assoc rows (live_among task.held (row' ∷ [])) (rows_left task (place + 1)))
          ∙ ap (λ (r : Row). (rows ++ live_among task.held (r ∷ [])) ++ rows_left task (place + 1)) same_row
          ∙ ap (λ xs. xs ++ rows_left task (place + 1)) (sym adds);
      counted =
          let hold : ℕ = task.held.plan.script.hold in
          let fewer : length (drop place task.pads) ≡ 1 + length (drop (place + 1) task.pads) =
          omega (arith, length-drop place task.pads, length-drop (place + 1) task.pads) in
          let cost : hold * length (drop place task.pads) ≡ hold + hold * length (drop (place + 1) task.pads) =
          ap (λ n. hold * n) fewer ∙ one_more hold (length (drop (place + 1) task.pads)) in
          omega (arith, run.counted, takes, cost, ap (λ (s : Record). s.hold) by_script);
      later = omega (arith, run.later, later);
      cartridge = keeps ∙ run.cartridge;
      within =
          let fewer : length (drop place task.pads) ≡ 1 + length (drop (place + 1) task.pads) =
          omega (arith, length-drop place task.pads, length-drop (place + 1) task.pads) in
          let grown : length new ≡ length rows + length (live_among task.held (row ∷ [])) =
          ap length adds ∙ length-append rows (live_among task.held (row ∷ [])) in
          let one : length (live_among task.held (row ∷ [])) ≤ 1 =
          one_at_most (is_live_row task.held.state.mark (task.held.state.step + 1) row) row in
          let before = run.within in omega (arith, fewer, grown, one, before);
      reserved = same ∙ run.reserved;
    } where
      one_at_most : (b : Bool) (row : Row) → length (cond b (row ∷ []) []) ≤ 1
      one_at_most true row = omega arith
      one_at_most false row = omega arith

      one_more : (hold n : ℕ) → hold * (1 + n) ≡ hold + hold * n
      one_more hold n = mul-add hold 1 n ∙ ap (λ m. m + hold * n) (omega arith)

-- all are run
pub all_run : (task : Task) (place : ℕ) (rows : List Row) (room steps : ℕ) (machine : State) → length task.pads ≤ place
    → AreRun task place rows room steps machine
    → rows ≡ task.rows ++ live_among task.held
    (child_rows task.held.plan.script task.status (of_image task.rom task.image) task.first task.pads)
all_run task place rows room steps machine le run =
    let none : drop place task.pads ≡ [] = drop_all place task.pads le in
    let first : task.first + 0 ≡ task.first = omega arith in
    sym (ap (λ n. task.rows ++ live_among task.held
    (child_rows task.held.plan.script task.status (of_image task.rom task.image) n task.pads)) (sym first)
    ∙ run.added
    ∙ ap (λ pads. rows ++ live_among task.held
    (child_rows task.held.plan.script task.status (of_image task.rom task.image) (task.first + place) pads))
    none
    ∙ append-nil rows)
