-- What words are played on, and the movie of a word. All of it is this project's own.
use Rattle.std.specs.Prelude.{ℕ, List, ◌++◌, replicate}
use Rattle.std.specs.List.{flat_map}
use Rattle.nj_ines.specs.Cartridge.{Cartridge}
use Rattle.nj_script.specs.Script.{Record}
use Rattle.nj_search_defs.specs.Game.{Word}

-- a cartridge, a script, and the start movie that each word follows
pub record Plan : Type 0 where
  pub cartridge : Cartridge
  pub script : Record
  pub start : List ℕ

-- each pad of a word for so many frames
abbrev pub held_pads : ℕ → Word → List ℕ
held_pads hold word = flat_map (λ pad. replicate hold pad) word

-- the movie of a word: the start movie, and then each pad of the word for the frames of a step, also where the machine
-- jams
unfoldable pub movie_of : Plan → Word → List ℕ
movie_of plan word = plan.start ++ held_pads plan.script.hold word

-- the plan of a cartridge, a script and a start movie
abbrev pub plan_of : Cartridge → Record → List ℕ → Plan
plan_of cartridge script start = record { cartridge = cartridge; script = script; start = start }
