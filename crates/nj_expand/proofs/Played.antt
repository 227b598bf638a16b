-- The movie of a word.
use Rattle.std.proofs.Common.{◌≡◌, ◌++◌, ℕ, List, ap₂, ◌∙◌}
use Rattle.nj_search_defs.specs.Game.{Word}
use Rattle.nj_game.specs.Plan.{Plan, held_pads, movie_of}

-- the start, and each pad of the word for the frames of a step
pub played : (plan : Plan) (word shown : Word) (hold : ℕ) (start movie : List ℕ) → start ≡ plan.start
    → hold ≡ plan.script.hold → shown ≡ word
    → movie ≡ start ++ held_pads hold shown → movie ≡ movie_of plan word
unfolding movie_of
played plan word shown hold start movie begun held same is = is ∙ ap₂ (λ s m. s ++ m) begun (ap₂ held_pads held same)
