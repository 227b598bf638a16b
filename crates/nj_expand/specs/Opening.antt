-- What a search has before its first step. All of it is this project's own.
use Rattle.std.specs.Prelude.{◌≡◌, ◌+◌, ◌*◌, ◌^◌, [], ◌∷◌}
use Rattle.nj_rules.specs.declared.record.Judged.{Judged}
use Rattle.nj_claims.specs.Tables.{IsTable, slot_count}
use Rattle.nj_seen.specs.Held.{HoldsSeen}
use Rattle.nj_game.specs.Plan.{Plan}
use Rattle.nj_game.specs.Words.{judged_of, key_of}
use Rattle.nj_candidate.specs.Front.{size_in, image_at, one_state}
use Rattle.nj_expand.specs.declared.Bounds.{Bounds}
use Rattle.nj_expand.specs.declared.opening.First.{First}

-- what a search of a plan under these bounds has before its first step
pub record IsFirst (plan : Plan) (bounds : Bounds) (first : First) : Type 0 where
  pub pool : first.pool ≡ one_state (bounds.front * (size_in plan + 16)) (image_at plan [])
  pub judged : first.judged.items ≡ judged_of plan [] ∷ []
  pub table : IsTable first.words.items
  pub slots : slot_count first.words.items ≡ 2 ^ bounds.exponent
  pub seen : HoldsSeen first.words.items ((key_of plan [] ∷ []) ∷ []) 0
  pub level : first.level ≡ (let j : Judged = judged_of plan [] in j.level)
