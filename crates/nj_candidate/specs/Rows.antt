-- The rows of candidates, by their words and by the states of their parents. All of it is this project's own.
use Rattle.std.specs.Prelude.{ℕ, ℤ, pos, ◌-◌, ◌++◌, List, length, map, replicate}
use Rattle.nj_search_defs.specs.Game.{Verdict, Go, Win, Fail, Judged, Game}
use Rattle.nj_search_defs.specs.Candidates.{Candidate, word_of}
use Rattle.nj_search_defs.specs.Pruning.{judged_of, key_of}
use Rattle.nj_machine.specs.State.{State, ram_of, is_jammed}
use Rattle.nj_rules.specs.declared.record.Verdict.{Verdict as Told}
use Rattle.nj_rules.specs.declared.record.Verdict.TheVariants.{Go as ToldGo, Win as ToldWin, Fail as ToldFail}
use Rattle.nj_rules.specs.declared.record.Judged.{Judged as ToldJudged}
use Rattle.nj_rules.specs.Rules.{judged_of as judged_in}
use Rattle.nj_rules.specs.Key.{key_in}
use Rattle.nj_property.specs.Property.{value_of}
use Rattle.nj_script.specs.Script.{Record}
use Rattle.nj_rows.specs.declared.Row.{Row}
use Rattle.nj_rows.specs.declared.Verdict3.{Verdict3}
use Rattle.nj_rows.specs.declared.Verdict3.TheVariants.{Go as GoRow, Win as WinRow, Fail as FailRow}
use Rattle.nj_game.specs.Words.{held}

-- ---- by words

-- a verdict of the search, as a row has it
abbrev pub row_verdict : Verdict → Verdict3
row_verdict Go = GoRow
row_verdict Win = WinRow
row_verdict Fail = FailRow

-- the values of a bucket, as a row has them: the places of four that they do not take are 0
unfoldable pub row_bucket : List ℤ → List ℤ
row_bucket values = values ++ replicate (4 - length values) (pos 0)

-- the row of this number, pad, key, judgement and bucket
abbrev pub row_with : ℕ → ℕ → ℕ → Judged → List ℤ → Row
row_with number pad key judged bucket = record {
  number = number;
  key = key;
  reward = judged.reward;
  level = judged.level;
  verdict = row_verdict judged.verdict;
  pad = pad;
  bucket = row_bucket bucket;
}

-- the row of a candidate in a game
unfoldable pub row_of : Game → Candidate → Row
row_of game c = row_with c.number c.pad (key_of game c) (judged_of game c) (game.bucket (word_of c))

-- ---- by states

-- a verdict of the rules, as a row has it
abbrev pub told_verdict : Told → Verdict3
told_verdict ToldGo = GoRow
told_verdict ToldWin = WinRow
told_verdict ToldFail = FailRow

-- how the rules of a script judge a state whose parent has this status
unfoldable pub judged_at : Record → ℕ → State → ToldJudged
judged_at script status s = judged_in script.rules.rules (ram_of s) status (is_jammed s)

-- the key of a state that is judged so
unfoldable pub key_at : Record → State → ToldJudged → ℕ
key_at script s judged = key_in script.hash.items (length script.rules.rules) (ram_of s) judged.status.0

-- the values of a script's bucket properties in a state, in their order
abbrev pub values_at : Record → State → List ℤ
values_at script s = map (λ property. value_of property (ram_of s)) script.bucket

-- the row of a state that is judged so
unfoldable pub row_told : Record → ℕ → ℕ → State → ToldJudged → Row
row_told script number pad s judged = record {
  number = number;
  key = key_at script s judged;
  reward = judged.reward;
  level = judged.level;
  verdict = told_verdict judged.verdict;
  pad = pad;
  bucket = row_bucket (values_at script s);
}

-- the row of the child of a state of this status: the pad is held for the frames of a step
unfoldable pub row_at : Record → ℕ → State → ℕ → ℕ → Row
row_at script status parent pad number =
    row_told script number pad (held script.hold pad parent) (judged_at script status (held script.hold pad parent))
