-- The word that is left when each press is released that a win does not need. All of it is our own.
use Rattle.std.specs.Prelude.{ℕ, zero, suc, Bool, true, false, if◌then◌else◌, fold, length}
use Rattle.nj_rules.specs.declared.record.Verdict.{Verdict}
use Rattle.nj_rules.specs.declared.record.Verdict.TheVariants.{Go, Win, Fail}
use Rattle.nj_search_defs.specs.Game.{Word}
use Rattle.nj_game.specs.Plan.{Plan}
use Rattle.nj_replay.specs.Replay.{replayed_of}
use Rattle.nj_clean.specs.Presses.{Press, presses, released}

-- the verdict is a win
abbrev pub is_win : Verdict → Bool
is_win Go = false
is_win Win = true
is_win Fail = false

-- the word wins: a replay of its movie from power-on tells a win at its end
unfoldable pub wins : Plan → Word → Bool
wins plan word = is_win (let r = replayed_of plan word in r.verdict)

-- the word in which a press was tried: without it where this wins, else as it was
abbrev pub tried : Plan → Word → Press → Word
tried plan word press = if wins plan (released word press) then released word press else word

-- the word that a sweep leaves: its presses were tried one after another, those that were released staying so
unfoldable pub swept : Plan → Word → Word
swept plan word = fold (tried plan) word (presses word)

-- the word after so many sweeps
abbrev pub sweeps : ℕ → Plan → Word → Word
sweeps zero plan word = word
sweeps (suc n) plan word = sweeps n plan (swept plan word)

-- the word after sweeps until one releases no press. Each sweep before that one releases some, so that as many as the
-- word has presses are enough, and more change nothing
unfoldable pub cleaned : Plan → Word → Word
cleaned plan word = sweeps (length (presses word)) plan word
