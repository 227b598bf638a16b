-- What stands between two tries of a press. All of it is our own.
use Rattle.std.specs.Prelude.{◌≡◌, ℕ, ◌+◌, ◌*◌, true, [], length, take, drop}
use Rattle.nj_ines.specs.Cartridge.{IsCartridge}
use Rattle.nj_machine.specs.State.{power_on, rom_of}
use Rattle.nj_machine.specs.Image.{image_of}
use Rattle.nj_search_defs.specs.Game.{Word}
use Rattle.nj_game.specs.Plan.{Plan, plan_of}
use Rattle.nj_game.specs.Words.{state_of, judged_of}
use Rattle.nj_replay.specs.Replay.{replayed_of}
use Rattle.nj_clean.specs.declared.bench.Kept.{Kept}
use Rattle.nj_clean.specs.declared.bench.Bench.{Bench}
use Rattle.nj_clean.specs.declared.bench.Setting.{Setting}
use Rattle.nj_clean.specs.declared.sweeping.Won.{Won}
use Rattle.nj_clean.specs.Sweeps.{wins}

-- the plan of a cartridge, a script and a start movie
abbrev pub plan_in : Setting → Plan
plan_in setting = plan_of setting.cart.now setting.script.now setting.start.now

-- the image and the judgement are those after the word
pub record IsKept (plan : Plan) (word : Word) (kept : Kept) : Type 0 where
  pub image : kept.image.items ≡ image_of (state_of plan word)
  pub judged_is : kept.judged ≡ judged_of plan word

-- the machine has the plan's cartridge, and the state after the start is kept
pub record Stands (plan : Plan) (bench : Bench) : Type 0 where
  pub is_cartridge : IsCartridge plan.cartridge
  pub rom : rom_of bench.machine ≡ rom_of (power_on plan.cartridge)
  pub opening_is : IsKept plan [] bench.opening

-- so it is, and the state after this word is kept in front
pub record StandsAt (plan : Plan) (word : Word) (bench : Bench) : Type 0 where
  pub stands : Stands plan bench
  pub front_is : IsKept plan word bench.front

-- the word wins, and this is its reward
pub record IsWon (plan : Plan) (won : Won) : Type 0 where
  pub wins_is : wins plan won.word.items ≡ true
  pub reward_is : won.reward ≡ (let r = replayed_of plan won.word.items in r.reward)

-- how many frames the movie of the word has
abbrev pub word_frames : Setting → Won → ℕ
word_frames setting won = length setting.start.now + setting.script.now.hold * length won.word.items

-- a word is as the other but for this step
pub record Alters (step : ℕ) (old new : Word) : Type 0 where
  pub before : take step new ≡ take step old
  pub behind : drop (step + 1) new ≡ drop (step + 1) old
  pub long : length new ≡ length old
