-- The key and pool at the start of a search.
use Rattle.std.proofs.Common.{◌≡◌, ◌≤◌, ◌+◌, ◌*◌, ℕ, false, List, [], ◌∷◌, length, refl, sym, ap, ap₂, subst, ◌∙◌, arith}
use Rattle.nj_search_defs.specs.Game.{Bounds}
use Rattle.nj_search_defs.specs.Pruning.{Seen}
use Rattle.nj_search_defs.specs.Outcome.{opening}
use Rattle.nj_ines.specs.Cartridge.{IsCartridge}
use Rattle.nj_machine.specs.State.{State}
use Rattle.nj_rules.specs.declared.record.Judged.{Judged}
use Rattle.nj_pool.specs.Front.{Front}
use Rattle.nj_game.specs.Plan.{Plan}
use Rattle.nj_game.specs.Words.{state_of, judged_of, key_of, game_of}
use Rattle.nj_candidate.specs.Rows.{key_at}
use Rattle.nj_candidate.specs.Front.{size_in, image_at, one_state}
use Rattle.nj_expand.specs.Held.{Held, opened}
use Rattle.nj_expand.specs.Ranges.{IsFront}

pub start_key : (plan : Plan) (s : State) (judged : Judged) (key : ℕ) → s ≡ state_of plan []
    → judged ≡ judged_of plan [] → key ≡ key_at plan.script s judged
    → key ≡ key_of plan []
unfolding key_at key_of judged_of
start_key plan s judged key is told e = e ∙ ap₂ (key_at plan.script) is told

pub start_pool : (plan : Plan) (most : ℕ) (image : List ℕ) (pool : Front) → image ≡ image_at plan []
    → length (image_at plan []) ≡ size_in plan
    → pool ≡ one_state (most * (length image + 16)) image
    → pool ≡ one_state (most * (size_in plan + 16)) (image_at plan [])
start_pool plan most image pool is long e =
    e ∙ ap (λ x. one_state (most * (length x + 16)) x) is
    ∙ ap (λ n. one_state (most * (n + 16)) (image_at plan [])) long

-- the front of one state
pub first_front : (plan : Plan) (most : ℕ) (pool : Front) (judged : List Judged) → IsCartridge plan.cartridge → 1 ≤ most
    → length (image_at plan []) ≡ size_in plan
    → pool ≡ one_state (most * (size_in plan + 16)) (image_at plan []) → judged ≡ judged_of plan [] ∷ []
    → IsFront plan most pool judged
unfolding one_state
first_front plan most pool judged nrom some long is are =
    subst (λ (p : Front). IsFront plan most p judged) (sym is)
    (record {
      nrom = nrom;
      images = refl;
      judged_are = are;
      some = omega arith;
      few = some;
      base = refl;
      size = long;
      limit = refl;
    })

-- the search before its first step
pub opened_is : (plan : Plan) (bounds : Bounds) (pool : Front) (seen : Seen) (level limit : ℕ)
    → pool ≡ one_state limit (image_at plan [])
    → seen ≡ (key_of plan [] ∷ []) ∷ [] → level ≡ (let j = judged_of plan [] in j.level)
    → (let h : Held = record {
      plan = plan;
      bounds = bounds;
      state = record { step = 0; front = pool.words; seen = seen; mark = record { level = level; until = 0 } };
      spent = false;
    } in h) ≡ opened plan bounds
unfolding opened opening game_of one_state
opened_is plan bounds pool seen level limit is told levels =
    λ i. record {
      plan = plan;
      bounds = bounds;
      state = record {
        step = 0;
        front = (let p : Front = is i in p.words);
        seen = told i;
        mark = record { level = levels i; until = 0 };
      };
      spent = false;
    }
