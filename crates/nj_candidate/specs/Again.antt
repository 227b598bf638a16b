-- The states of rows, run again from the images and statuses of the front before. All of it is this project's own.
use Rattle.std.specs.Prelude.{◌≡◌, ℕ, ◌+◌, ◌*◌, ◌/◌, ◌≤◌, List, [], length, map, get_or}
use Rattle.nj_search_defs.specs.Game.{Word}
use Rattle.nj_machine.specs.State.{State, Rom}
use Rattle.nj_machine.specs.Image.{image_of, of_image}
use Rattle.nj_rules.specs.declared.record.Judged.{Judged}
use Rattle.nj_script.specs.Script.{Record}
use Rattle.nj_game.specs.Plan.{Plan}
use Rattle.nj_game.specs.Words.{held, status_of}
use Rattle.nj_rows.specs.declared.Row.{Row}
use Rattle.nj_pool.specs.declared.birth.Birth.{Birth}
use Rattle.nj_pool.specs.Front.{Front, bytes_held}
use Rattle.nj_candidate.specs.Front.{rom_in, image_at}
use Rattle.nj_candidate.specs.Rows.{judged_at}

-- the front before: what the cartridge fixes, the script, and the images and statuses of the front's states
pub record Before : Type 0 where
  pub rom : Rom
  pub script : Record
  pub images : List (List ℕ)
  pub statuses : List ℕ

-- the front of these words of a plan
abbrev pub before_of : Plan → List Word → Before
before_of plan words = record {
  rom = rom_in plan;
  script = plan.script;
  images = map (image_at plan) words;
  statuses = map (status_of plan) words;
}

-- the statuses of judgements
abbrev pub statuses_of : List Judged → List ℕ
statuses_of judged = map (λ j. j.status.0) judged

-- the place of a row's parent in the front
abbrev pub parent_of : Row → ℕ
parent_of row = row.number / 256

-- how the state of a row is born of the front
abbrev pub birth_of : Row → Birth
birth_of row = record { parent = parent_of row; pad = row.pad }

-- the state of a row: its pad, held for a step, from its parent's image
unfoldable pub state_again : Before → Row → State
state_again before row = held before.script.hold row.pad (of_image before.rom (get_or before.images (parent_of row) []))

-- the image of the state of a row
unfoldable pub image_again : Before → Row → List ℕ
image_again before row = image_of (state_again before row)

-- how the rules judge the state of a row
unfoldable pub judged_again : Before → Row → Judged
judged_again before row = judged_at before.script (get_or before.statuses (parent_of row) 0) (state_again before row)

-- a pool for a front to come, of the states of these rows over a base
unfoldable pub pool_again : Before → List ℕ → ℕ → List Row → Front
pool_again before base limit rows = record {
  base = base;
  limit = limit;
  images = map (image_again before) rows;
  words = [];
  depth = 0;
  born = map birth_of rows;
}

-- the states of rows are in a pool, each in at most the bytes of an image and 16, and judged
pub record AreRunFrom (before : Before) (base : List ℕ) (limit : ℕ) (rows : List Row) (pool : Front)
    (judged : List Judged) : Type 0 where
  pub pool_is : pool ≡ pool_again before base limit rows
  pub bytes : bytes_held pool ≤ length rows * (length base + 16)
  pub judged_are : judged ≡ map (judged_again before) rows
