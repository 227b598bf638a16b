-- The first lines that commands write. Our own.
use Rattle.std.specs.Prelude.{ℕ, ℤ, Bool, true, false, List, [], ◌∷◌, ◌++◌, codes, if◌then◌else◌}
use Rattle.std.specs.Fmt.{decimal, signed_decimal}
use Rattle.nj_replay.specs.declared.Replayed.{Replayed}
use Rattle.nj_rules.specs.declared.record.Verdict.{Verdict}
use Rattle.nj_rules.specs.declared.record.Verdict.TheVariants.{Go, Win, Fail}

-- the first line of an outcome, by its word: its steps, its frames and its reward
unfoldable pub outcome_line : List ℕ → ℕ → ℕ → ℤ → List ℕ
outcome_line word step frames reward =
    codes "# " ++ (word ++ (codes " step=" ++ (decimal step ++ (codes " frames=" ++ (decimal frames
    ++ (codes " reward=" ++ (signed_decimal reward ++ 10 ∷ [])))))))

-- the line of a search that was exhausted at a step
unfoldable pub exhausted_line : ℕ → List ℕ
exhausted_line step = codes "# exhausted step=" ++ (decimal step ++ 10 ∷ [])

-- the verdict is a win
abbrev pub is_win : Verdict → Bool
is_win Go = false
is_win Win = true
is_win Fail = false

-- the word of a replay
abbrev pub outcome_word : Verdict → List ℕ
outcome_word verdict = if is_win verdict then codes "won" else codes "notwon"

-- the line of a replay
abbrev pub replay_line : Replayed → List ℕ
replay_line replayed = outcome_line (outcome_word replayed.verdict) replayed.step replayed.frames replayed.reward

-- the line of a cleaned movie: what it comes to, and how many presses were released
unfoldable pub clean_line : ℕ → Replayed → List ℕ
clean_line released replayed =
    codes "# clean step=" ++ (decimal replayed.step ++ (codes " frames=" ++ (decimal replayed.frames
    ++ (codes " reward=" ++ (signed_decimal replayed.reward
    ++ (codes " released=" ++ (decimal released ++ 10 ∷ [])))))))

-- the line of a workload: its number and the bytes of its cartridge
unfoldable pub workload_line : ℕ → ℕ → List ℕ
workload_line number size = codes "# workload number=" ++
    (decimal number ++ (codes " size=" ++ (decimal size ++ 10 ∷ [])))
