-- What a search keeps of its front, and what its numbers keep to. All of it is this project's own.
use Rattle.std.specs.Prelude.{◌≡◌, ℕ, ◌+◌, ◌*◌, ◌^◌, ◌≤◌, List, [], length, map}
use Rattle.nj_ines.specs.Cartridge.{IsCartridge}
use Rattle.nj_rules.specs.declared.record.Judged.{Judged}
use Rattle.nj_rules.specs.Pads.{named_pads}
use Rattle.nj_script.specs.Script.{Record}
use Rattle.nj_game.specs.Plan.{Plan}
use Rattle.nj_game.specs.Words.{judged_of}
use Rattle.nj_pool.specs.Front.{Front}
use Rattle.nj_candidate.specs.Front.{size_in, image_at}
use Rattle.nj_expand.specs.declared.Bounds.{Bounds}

-- the numbers that bound a search of a script are in their ranges
pub record AreBounds (bounds : Bounds) (script : Record) : Type 0 where
  pub some : 1 ≤ bounds.front
  pub most : bounds.front ≤ 2 ^ 20
  pub exponent_low : 10 ≤ bounds.exponent
  pub exponent_high : bounds.exponent ≤ 25
  pub inputs : bounds.inputs ≡ length (named_pads script.inputs.sets)
  pub few_inputs : bounds.inputs ≤ 256
  pub fits : bounds.front * bounds.inputs ≤ 2 ^ bounds.exponent

-- the pool has the images of the states after its words, over the start's image, which are some and no more than the
-- bound; they are judged so; and its limit is what so many states need at most
pub record IsFront (plan : Plan) (most : ℕ) (pool : Front) (judged : List Judged) : Type 0 where
  pub nrom : IsCartridge plan.cartridge
  pub images : pool.images ≡ map (image_at plan) pool.words
  pub judged_are : judged ≡ map (judged_of plan) pool.words
  pub some : 1 ≤ length pool.words
  pub few : length pool.words ≤ most
  pub base : pool.base ≡ image_at plan []
  pub size : length pool.base ≡ size_in plan
  pub limit : pool.limit ≡ most * (size_in plan + 16)
