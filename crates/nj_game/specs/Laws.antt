-- What the laws of words speak of. All of it is this project's own.
use Rattle.std.specs.Prelude.{◌≡◌, ℕ, ◌++◌, true}
use Rattle.nj_search_defs.specs.Game.{Word}
use Rattle.nj_rules.specs.Rules.{is_met}
use Rattle.nj_game.specs.Plan.{Plan}
use Rattle.nj_game.specs.Words.{ram_after}

-- the memory after the word, or after a beginning of it, meets the conditions of rule k, or of a rule that names it
pub record IsMetAlong (plan : Plan) (word : Word) (k : ℕ) : Type 0 where
  pub before : Word
  pub behind : Word
  pub whole : word ≡ before ++ behind
  pub met : is_met plan.script.rules.rules (ram_after plan before) k ≡ true
