-- What the number of a candidate tells.
use Rattle.std.proofs.Common.{◌≡◌, ℕ, suc, ◌+◌, ◌*◌, ◌/◌, ◌<◌, ◌≤◌, List, [], ◌∷◌, length, ap, ◌∙◌, arith}
use Rattle.std.specs.Prelude.{Some, slice_get}
use Rattle.std.specs.List.{All}
use Rattle.std.proofs.lemmas.List.Elements.{All-nil, All-cons, All-append, All-filter, All-contains}
use Rattle.nj_search_defs.specs.Game.{Word, Game}
use Rattle.nj_search_defs.specs.Candidates.{Candidate, extensions, candidates_from, candidates}
use Rattle.nj_search_defs.specs.Pruning.{live}
use Rattle.nj_search_defs.specs.Outcome.{State, lives_of}
use Rattle.nj_search_defs.specs.Laws.{WinnersTellParents}
use Rattle.nj_search_defs.proofs.Moves.{winner_is_best}
use Rattle.nj_search_defs.proofs.Lengths.{winner_of}

-- a candidate's number tells its parent's place
IsPlaced : List Word → Candidate → Type 0
IsPlaced front c = slice_get front (c.number / 256) ≡ Some c.parent

place_of : (i k : ℕ) → k < 256 → (256 * i + k) / 256 ≡ i
place_of i k h = omega arith

extended : (front : List Word) (i k number : ℕ) (word : Word) (pads : List ℕ) → slice_get front i ≡ Some word
    → number ≡ 256 * i + k → k + length pads ≤ 256
    → All (IsPlaced front) (extensions number word pads)
unfolding IsPlaced
extended front i k number word [] stood is most = All-nil (IsPlaced front)
extended front i k number word (pad ∷ pads) stood is most =
    let here : number / 256 ≡ i = ap (λ n. n / 256) is ∙ place_of i k (omega arith) in
    All-cons (IsPlaced front) (record { number = number; parent = word; pad = pad }) (extensions (number + 1) word pads)
    (ap (slice_get front) here ∙ stood)
    (extended front i (k + 1) (number + 1) word pads stood (omega arith) (omega arith))

made : (game : Game) (front : List Word) (i : ℕ) (words : List Word)
    → ((word : Word) → length (game.allowed word) ≤ 256)
    → ((j : ℕ) → slice_get front (i + j) ≡ slice_get words j) → All (IsPlaced front) (candidates_from game i words)
made game front i [] most rest = All-nil (IsPlaced front)
made game front i (word ∷ words) most rest =
    let here : slice_get front i ≡ Some word = ap (slice_get front) (omega arith) ∙ rest 0 in
    All-append (IsPlaced front) (extensions (256 * i) word (game.allowed word)) (candidates_from game (i + 1) words)
    (extended front i 0 (256 * i) word (game.allowed word) here (omega arith)
    (let m : length (game.allowed word) ≤ 256 = most word in omega arith))
    (made game front (i + 1) words most (λ j. ap (slice_get front) (omega arith) ∙ rest (suc j)))

lives_are_placed : (game : Game) (state : State) → ((word : Word) → length (game.allowed word) ≤ 256)
    → All (IsPlaced state.front) (lives_of game state)
unfolding lives_of live candidates
lives_are_placed game state most =
    All-filter _ (IsPlaced state.front) (candidates game state.front)
    (made game state.front 0 state.front most (λ j. ap (slice_get state.front) (omega arith)))

pub winners_tell_parents : WinnersTellParents
unfolding IsPlaced
winners_tell_parents game bounds state c most h =
    All-contains (IsPlaced state.front) (lives_of game state) c (lives_are_placed game state most)
    (winner_is_best game (lives_of game state) c (winner_of game bounds state c h)).is_live
