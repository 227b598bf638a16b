-- What the words of a saved front lead to, each run again from one state. All of it is this project's own.
use Rattle.std.specs.Prelude.{◌≡◌, ℕ, List, [], map}
use Rattle.std.specs.List.{fold}
use Rattle.nj_search_defs.specs.Game.{Word}
use Rattle.nj_machine.specs.State.{State}
use Rattle.nj_machine.specs.Image.{image_of}
use Rattle.nj_rules.specs.declared.record.Judged.{Judged}
use Rattle.nj_script.specs.Script.{Record}
use Rattle.nj_game.specs.Plan.{Plan}
use Rattle.nj_game.specs.Words.{held, judged_of}
use Rattle.nj_pool.specs.Front.{Front}
use Rattle.nj_candidate.specs.declared.again.Again.{Again}
use Rattle.nj_candidate.specs.Rows.{judged_at}
use Rattle.nj_candidate.specs.Front.{image_at}

-- a state, and how the rules judge it
pub record Reached : Type 0 where
  pub state : State
  pub judged : Judged

-- one more pad, held for the frames of a step: its state is judged by what was satisfied before it
unfoldable pub stepped : Record → Reached → ℕ → Reached
stepped script from pad = record {
  state = held script.hold pad from.state;
  judged = judged_at script from.judged.status.0 (held script.hold pad from.state);
}

-- the pads of a word, one after another
abbrev pub replayed : Record → Reached → Word → Reached
replayed script from word = fold (stepped script) from word

-- the image of the state that a word leads to
unfoldable pub image_replayed : Record → Reached → Word → List ℕ
image_replayed script from word = image_of (replayed script from word).state

-- how the rules judge the state that a word leads to
unfoldable pub judged_replayed : Record → Reached → Word → Judged
judged_replayed script from word = (replayed script from word).judged

-- a pool of the states that these words lead to
unfoldable pub pool_replayed : Record → Reached → List ℕ → ℕ → List Word → Front
pool_replayed script from base limit words = record {
  base = base;
  limit = limit;
  images = map (image_replayed script from) words;
  words = words;
  depth = 0;
  born = [];
}

-- the states that these words lead to are in a pool, and judged
pub record AreReplayed (script : Record) (from : Reached) (base : List ℕ) (limit : ℕ) (words : List Word)
    (again : Again) : Type 0 where
  pub pool : again.pool ≡ pool_replayed script from base limit words
  pub judged : again.judged.items ≡ map (judged_replayed script from) words

-- a pool of the states of these words of a plan, over the start's image
unfoldable pub pool_at : Plan → ℕ → List Word → Front
pool_at plan limit words = record {
  base = image_at plan [];
  limit = limit;
  images = map (image_at plan) words;
  words = words;
  depth = 0;
  born = [];
}

-- the states of these words of a plan are run again, and judged
pub record AreRunAgain (plan : Plan) (limit : ℕ) (words : List Word) (again : Again) : Type 0 where
  pub pool : again.pool ≡ pool_at plan limit words
  pub judged : again.judged.items ≡ map (judged_of plan) words
