-- What the search asks of a game. A word is the list of the pads that follow the start movie, one a step.
use Rattle.std.specs.Prelude.{ℕ, ℤ, List}

-- the pads that follow the start movie, one a step
abbrev pub Word : Type 0
Word = List ℕ

-- how a word is judged: it goes on, it wins or it fails
pub data Verdict : Type 0 where
  Go : Verdict
  Win : Verdict
  Fail : Verdict

-- the judgement of a word: its verdict, its reward, and its level, the number of checkpoints that it has met
pub record Judged : Type 0 where
  pub verdict : Verdict
  pub reward : ℤ
  pub level : ℕ

-- a game, by what the search sees of a word: its judgement, the pads allowed after it, in order, its key, and its
-- bucket, the values of which a front may have only so many words
pub record Game : Type 0 where
  pub judged : Word → Judged
  pub allowed : Word → List ℕ
  pub key : Word → ℕ
  pub bucket : Word → List ℤ

-- the bounds of a search: the most words of a front, the most of them that have one bucket, the slots of the seen keys,
-- the number of different pads, and for how many steps a front may lag behind a new checkpoint level
pub record Bounds : Type 0 where
  pub most : ℕ
  pub quota : ℕ
  pub slots : ℕ
  pub inputs : ℕ
  pub tolerance : ℕ
