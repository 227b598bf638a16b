-- The rows of a step, word by word of its front.
use Rattle.std.proofs.Common.{◌≡◌, ◌≢◌, ℕ, ◌+◌, ◌*◌, ◌<◌, ◌≤◌, Bool, true, false, cond, List, [], ◌∷◌, ◌++◌, length, map, filter, get_or, refl, sym, ap, ◌∙◌, arith, length-append}
use Rattle.std.specs.Prelude.{All}
use Rattle.std.proofs.lemmas.List.{map-append, length-map}
use Rattle.std.proofs.lemmas.List.Sums.{sum_by-cons}
use Rattle.std.proofs.lemmas.List.Elements.{filter-append, All-nil, All-append, All-weaker, All-filter, All-map}
use Rattle.nj_search_defs.specs.Game.{Word, Game}
use Rattle.nj_search_defs.specs.Candidates.{Candidate, extensions, candidates_from, candidates}
use Rattle.nj_search_defs.specs.Pruning.{live}
use Rattle.nj_search_defs.specs.Outcome.{lives_of}
use Rattle.nj_machine.specs.State.{State, ram_of}
use Rattle.nj_rules.specs.declared.record.HashItem.{HashItem}
use Rattle.nj_rules.specs.Pads.{allowed_pads, named_pads}
use Rattle.nj_rules.specs.Key.{key_in}
use Rattle.nj_script.specs.Script.{Record}
use Rattle.nj_game.specs.Plan.{Plan}
use Rattle.nj_game.specs.Words.{state_of, status_of, allowed_of, key_of, game_of}
use Rattle.nj_rows.specs.declared.Row.{Row}
use Rattle.nj_seen.specs.Rows.{is_live_row}
use Rattle.nj_candidate.specs.Rows.{row_of, row_at}
use Rattle.nj_expand.specs.Held.{Held, live_rows, candidates_in}
use Rattle.nj_expand.specs.Children.{child_rows, live_among, word_rows, rows_from, runs_from}
use Rattle.nj_expand.specs.Ending.{AreFew}
use Rattle.nj_expand.proofs.Counts.{AreNamed, length-extensions}
use Rattle.nj_expand.proofs.Rising.{below}

-- ---- the live rows, word by word

by_words : (held : Held) (i : ℕ) (words : List Word)
    → live_among held (map (row_of (game_of held.plan)) (candidates_from (game_of held.plan) i words))
    ≡ rows_from held i words
unfolding word_rows game_of
by_words held i [] = refl
by_words held i (word ∷ words) =
    let game : Game = game_of held.plan in
    let first : List Candidate = extensions (256 * i) word (allowed_of held.plan word) in
    let rest : List Candidate = candidates_from game (i + 1) words in
    ap (live_among held) (map-append (row_of game) first rest)
    ∙ filter-append (is_live_row held.state.mark (held.state.step + 1))
    (map (row_of game) first) (map (row_of game) rest)
    ∙ ap (λ rows. live_among held (map (row_of game) first) ++ rows) (by_words held (i + 1) words)

-- the rows of live candidates are the live among the rows of all
abbrev pub LiveRowsAreLive : Type 0
LiveRowsAreLive = (held : Held) → live_rows held
    ≡ filter (is_live_row held.state.mark (held.state.step + 1)) (map (row_of (game_of held.plan)) (candidates_in held))

pub live_by_words : LiveRowsAreLive → (held : Held) → live_rows held ≡ rows_from held 0 held.state.front
unfolding candidates_in candidates
live_by_words law held = law held ∙ by_words held 0 held.state.front

count_by_words : (plan : Plan) (i : ℕ) (words : List Word)
    → length (candidates_from (game_of plan) i words) ≡ runs_from plan words
unfolding game_of
count_by_words plan i [] = refl
count_by_words plan i (word ∷ words) =
    length-append (extensions (256 * i) word (allowed_of plan word)) (candidates_from (game_of plan) (i + 1) words)
    ∙ ap (λ n. n + length (candidates_from (game_of plan) (i + 1) words))
    (length-extensions (256 * i) word (allowed_of plan word))
    ∙ ap (λ n. length (allowed_of plan word) + n) (count_by_words plan (i + 1) words)
    ∙ sym (sum_by-cons (λ word. length (allowed_of plan word)) word words)

pub runs_by_words : (held : Held) → length (candidates_in held) ≡ runs_from held.plan held.state.front
unfolding candidates_in candidates
runs_by_words held = count_by_words held.plan 0 held.state.front

-- ---- what the rows need to claim

-- the law that no key is 0
abbrev pub NoneIsZero : Type 0
NoneIsZero = (items : List HashItem) (rules status : ℕ) (ram : List ℕ) → key_in items rules ram status ≢ 0

some_key : NoneIsZero → (plan : Plan) (c : Candidate) → (row_of (game_of plan) c).key ≢ 0
unfolding row_of game_of key_of
some_key law plan c =
    law plan.script.hash.items (length plan.script.rules.rules) (status_of plan (c.parent ++ c.pad ∷ []))
    (ram_of (state_of plan (c.parent ++ c.pad ∷ [])))

some_keys : NoneIsZero → (plan : Plan) (cs : List Candidate)
    → All (λ (row : Row). row.key ≢ 0) (map (row_of (game_of plan)) cs)
some_keys law plan cs =
    All-map (λ (row : Row). row.key ≢ 0) (row_of (game_of plan)) cs (λ k d lt. some_key law plan (get_or cs k d))

pub live_keys : NoneIsZero → (held : Held) → All (λ (row : Row). row.key ≢ 0) (live_rows held)
unfolding live_rows
live_keys law held = some_keys law held.plan (lives_of (game_of held.plan) held.state)

pub word_keys : NoneIsZero → (held : Held) (place : ℕ) (word : Word)
    → All (λ (row : Row). row.key ≢ 0) (word_rows held place word)
unfolding word_rows
word_keys law held place word =
    All-filter (is_live_row held.state.mark (held.state.step + 1)) (λ (row : Row). row.key ≢ 0)
    (map (row_of (game_of held.plan)) (extensions (256 * place) word (allowed_of held.plan word)))
    (some_keys law held.plan (extensions (256 * place) word (allowed_of held.plan word)))

-- numbers of candidates are below those of the word behind the last
numbers_below : (game : Game) → ((word : Word) → length (game.allowed word) ≤ 256) → (i : ℕ) (words : List Word)
    → All (λ c. c.number < 256 * (i + length words)) (candidates_from game i words)
numbers_below game few i [] = All-nil (λ c. c.number < 256 * (i + 0))
numbers_below game few i (word ∷ words) =
    let most : length (game.allowed word) ≤ 256 = few word in
    All-append (λ c. c.number < 256 * (i + length (word ∷ words))) (extensions (256 * i) word (game.allowed word))
    (candidates_from game (i + 1) words)
    (below (256 * i) (256 * (i + length (word ∷ words))) word (game.allowed word) (omega (arith, most)))
    (All-weaker (λ c. c.number < 256 * (i + 1 + length words)) (λ c. c.number < 256 * (i + length (word ∷ words)))
    (λ c h. omega (arith, h)) (candidates_from game (i + 1) words) (numbers_below game few (i + 1) words))

rows_below : (game : Game) (m : ℕ) (cs : List Candidate) → All (λ c. c.number < m) cs
    → All (λ (row : Row). row.number < m) (map (row_of game) cs)
unfolding row_of
rows_below game m cs all = All-map (λ (row : Row). row.number < m) (row_of game) cs all

pub live_numbers : (held : Held) → AreFew held
    → All (λ (row : Row). row.number < 256 * length held.state.front) (live_rows held)
unfolding live_rows lives_of live candidates
live_numbers held few =
    rows_below (game_of held.plan) (256 * length held.state.front) (lives_of (game_of held.plan) held.state)
    (All-filter _ (λ c. c.number < 256 * length held.state.front)
    (candidates_from (game_of held.plan) 0 held.state.front)
    (All-weaker (λ c. c.number < 256 * (0 + length held.state.front)) (λ c. c.number < 256 * length held.state.front)
    (λ c h. omega (arith, h)) (candidates_from (game_of held.plan) 0 held.state.front)
    (numbers_below (game_of held.plan) few 0 held.state.front)))

-- ---- one word

-- the pads that are allowed after a word are no more than the script names
pub few_after : AreNamed → (held : Held) (word : Word) → held.bounds.inputs
    ≡ length (named_pads held.plan.script.inputs.sets) → length (allowed_of held.plan word) ≤ held.bounds.inputs
unfolding allowed_of
few_after law held word inputs =
    let n = law held.plan.script.inputs.sets (ram_of (state_of held.plan word)) in omega (arith, n, inputs)

pub few_pads_are : AreNamed → (held : Held) → held.bounds.inputs ≡ length (named_pads held.plan.script.inputs.sets)
    → held.bounds.inputs ≤ 256 → AreFew held
unfolding game_of
few_pads_are law held inputs few word = let n = few_after law held word inputs in omega (arith, n, few)

pub filter_short : (p : Row → Bool) (rows : List Row) → length (filter p rows) ≤ length rows
filter_short p [] = omega arith
filter_short p (row ∷ rows) =
    let rest : length (filter p rows) ≤ length rows = filter_short p rows in
    elim (p row) as (λ b. length (cond b (row ∷ filter p rows) (filter p rows)) ≤ length (row ∷ rows)) [
      | true ↦ omega arith
      | false ↦ omega arith
    ]

pub word_few : AreNamed → (held : Held) (place : ℕ) (word : Word) → held.bounds.inputs
    ≡ length (named_pads held.plan.script.inputs.sets) → length (word_rows held place word) ≤ held.bounds.inputs
unfolding word_rows
word_few law held place word inputs =
    let cs : List Candidate = extensions (256 * place) word (allowed_of held.plan word) in
    let short =
    filter_short (is_live_row held.state.mark (held.state.step + 1)) (map (row_of (game_of held.plan)) cs) in
    let same = length-map cs (row_of (game_of held.plan)) in
    let count = length-extensions (256 * place) word (allowed_of held.plan word) in
    let few = few_after law held word inputs in
    omega (arith, short, same, count, few)

pub word_numbers : AreNamed → (held : Held) (place : ℕ) (word : Word)
    → held.bounds.inputs ≡ length (named_pads held.plan.script.inputs.sets) → held.bounds.inputs ≤ 256
    → All (λ (row : Row). row.number < 256 * (place + 1)) (word_rows held place word)
unfolding word_rows
word_numbers law held place word inputs most =
    let n = few_after law held word inputs in
    All-filter (is_live_row held.state.mark (held.state.step + 1)) (λ (row : Row). row.number < 256 * (place + 1))
    (map (row_of (game_of held.plan)) (extensions (256 * place) word (allowed_of held.plan word)))
    (rows_below (game_of held.plan) (256 * (place + 1)) (extensions (256 * place) word (allowed_of held.plan word))
    (below (256 * place) (256 * (place + 1)) word (allowed_of held.plan word) (omega (arith, n, most))))

-- a candidate is told by its parent's state and status
abbrev pub ToldByParent : Type 0
ToldByParent = (plan : Plan) (word : Word) (pad number : ℕ)
    → row_at plan.script (status_of plan word) (state_of plan word) pad number
    ≡ row_of (game_of plan) (record { number = number; parent = word; pad = pad })

-- so the rows of a word's candidates are those of its state's children
rows_are : ToldByParent → (plan : Plan) (word : Word) (number : ℕ) (pads : List ℕ)
    → child_rows plan.script (status_of plan word) (state_of plan word) number pads
    ≡ map (row_of (game_of plan)) (extensions number word pads)
rows_are told plan word number [] = refl
rows_are told plan word number (pad ∷ pads) =
    λ i. told plan word pad number i ∷ rows_are told plan word (number + 1) pads i

-- the rows of a word, by the state that its image gives
pub word_is : ToldByParent → (held : Held) (place : ℕ) (word : Word) (status : ℕ) (state : State) (script : Record)
    (pads : List ℕ) (rows new : List Row)
    → state ≡ state_of held.plan word → status ≡ status_of held.plan word → script ≡ held.plan.script
    → pads ≡ allowed_pads script.inputs.sets (ram_of state)
    → new ≡ rows ++ live_among held (child_rows held.plan.script status state (256 * place) pads)
    → new ≡ rows ++ word_rows held place word
unfolding word_rows allowed_of
word_is told held place word status state script pads rows new is_state is_status is_script are is =
    is
    ∙ (λ i. rows ++ live_among held
    (child_rows held.plan.script (is_status i) (is_state i) (256 * place)
    ((are ∙ (λ j. allowed_pads (is_script j).inputs.sets (ram_of (is_state j)))) i)))
    ∙ ap (λ xs. rows ++ live_among held xs) (rows_are told held.plan word (256 * place) (allowed_of held.plan word))

-- a word has as many pads as are allowed after it
pub pads_len : (plan : Plan) (word : Word) (state : State) (script : Record) (pads : List ℕ)
    → state ≡ state_of plan word → script ≡ plan.script
    → pads ≡ allowed_pads script.inputs.sets (ram_of state) → length pads ≡ length (allowed_of plan word)
unfolding allowed_of
pads_len plan word state script pads is_state is_script are =
    ap length (are ∙ (λ i. allowed_pads (is_script i).inputs.sets (ram_of (is_state i))))
