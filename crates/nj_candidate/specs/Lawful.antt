-- The laws of words of a plan. All of it is this project's own.
use Rattle.std.specs.Prelude.{◌≡◌, ℕ, [], ◌∷◌, ◌++◌}
use Rattle.nj_search_defs.specs.Game.{Word}
use Rattle.nj_machine.specs.State.{ram_of, is_jammed}
use Rattle.nj_machine.specs.Image.{of_image}
use Rattle.nj_rules.specs.Rules.{judged_of as judged_in}
use Rattle.nj_game.specs.Plan.{Plan}
use Rattle.nj_game.specs.Words.{state_of, status_of, judged_of, held}
use Rattle.nj_candidate.specs.Front.{rom_in, image_at}

-- the laws of words of a plan that runs from images stand on
pub record AreLawful (plan : Plan) : Type 0 where
  pub again : (word : Word) → of_image (rom_in plan) (image_at plan word) ≡ state_of plan word
  pub state : (word : Word) (pad : ℕ)
      → state_of plan (word ++ pad ∷ []) ≡ held plan.script.hold pad (state_of plan word)
  pub judged : (word : Word) (pad : ℕ) → judged_of plan (word ++ pad ∷ [])
      ≡ judged_in plan.script.rules.rules (ram_of (state_of plan (word ++ pad ∷ []))) (status_of plan word)
      (is_jammed (state_of plan (word ++ pad ∷ [])))
