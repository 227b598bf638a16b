-- What a step does with its candidates: which are live, which wins, which are fresh and which are kept.
use Rattle.std.specs.Prelude.{ℕ, Bool, true, false, not, ◌&&◌, ◌||◌, ◌==◌, ◌+◌, nat_lt, nat_le, List, [], ◌∷◌, length, map, filter, max, sum_by, Option, slice_get, if◌then◌else◌}
use Rattle.std.specs.List.{list_any}
use Rattle.nj_search_defs.specs.Game.{Verdict, Win, Fail, Judged, Game}
use Rattle.nj_search_defs.specs.Candidates.{Candidate, word_of}
use Rattle.nj_search_defs.specs.Order.{is_preferred, in_order}
use Rattle.nj_search_defs.specs.Quota.{same_values, limited}

-- the greatest checkpoint level that a front has had, and the last step at which a lower level is kept
pub record Mark : Type 0 where
  pub level : ℕ
  pub until : ℕ

-- whether a verdict is a win
abbrev pub is_win : Verdict → Bool
is_win Win = true
is_win _ = false

-- whether a verdict is a failure
abbrev pub is_fail : Verdict → Bool
is_fail Fail = true
is_fail _ = false

-- a candidate's judgement
abbrev pub judged_of : Game → Candidate → Judged
judged_of game c = game.judged (word_of c)

-- a candidate's key
abbrev pub key_of : Game → Candidate → ℕ
key_of game c = game.key (word_of c)

-- a judgement at this step is live: it is no fail, and it has the mark's level or the step is within the mark's bound
abbrev pub is_live_judged : Mark → ℕ → Judged → Bool
is_live_judged mark step j = not (is_fail j.verdict) && (nat_le mark.level j.level || nat_le step mark.until)

-- the candidates of a step that are live, by rising number
unfoldable pub live : Game → Mark → ℕ → List Candidate → List Candidate
live game mark step candidates = filter (λ c. is_live_judged mark step (judged_of game c)) candidates

-- one candidate is preferred to another
abbrev pub is_before : Game → Candidate → Candidate → Bool
is_before game a b = is_preferred (judged_of game a).reward a.number (judged_of game b).reward b.number

-- the live win of greatest reward, then of least number; a winner need not be fresh
unfoldable pub winner : Game → List Candidate → Option Candidate
winner game lives = slice_get (in_order (is_before game) (filter (λ c. is_win (judged_of game c).verdict) lives)) 0

-- the seen keys, by generation, the oldest generation first
abbrev pub Seen : Type 0
Seen = List (List ℕ)

-- how many keys are seen
abbrev pub key_count : Seen → ℕ
key_count seen = sum_by length seen

-- whether a key is in some generation
abbrev pub is_seen : Seen → ℕ → Bool
is_seen seen key = list_any (list_any (λ k. k == key)) seen

-- the seen keys without the oldest generations, removed one by one until the rest and the room fit in the slots
abbrev pub forgotten : ℕ → ℕ → Seen → Seen
forgotten slots room [] = []
forgotten slots room (oldest ∷ rest) =
    if nat_le (key_count (oldest ∷ rest) + room) slots then oldest ∷ rest else forgotten slots room rest

-- a live candidate is fresh: its key is not seen, and no live candidate of smaller number has it
abbrev pub is_fresh : Game → Seen → List Candidate → Candidate → Bool
is_fresh game seen lives c =
    not (is_seen seen (key_of game c))
    && not (list_any (λ d. nat_lt d.number c.number && (key_of game d == key_of game c)) lives)

-- the live candidates that are fresh, by rising number
unfoldable pub fresh : Game → Seen → List Candidate → List Candidate
fresh game seen lives = filter (is_fresh game seen lives) lives

-- two candidates have the same bucket
abbrev pub is_alike : Game → Candidate → Candidate → Bool
is_alike game c d = same_values (game.bucket (word_of c)) (game.bucket (word_of d))

-- the most preferred of the fresh candidates, as many as a front may have, and of each bucket no more than the quota
unfoldable pub kept : Game → ℕ → ℕ → List Candidate → List Candidate
kept game most quota fresh = limited (is_alike game) most quota (in_order (is_before game) fresh)

-- the keys of these candidates, in rising order
unfoldable pub generation : Game → List Candidate → List ℕ
generation game fresh = in_order nat_lt (map (key_of game) fresh)

-- the greatest level of these candidates
abbrev pub top_level : Game → List Candidate → ℕ
top_level game [] = 0
top_level game (c ∷ cs) = max (judged_of game c).level (top_level game cs)

-- the mark after a step: where a kept candidate has a higher level, that level and a bound from this step on
unfoldable pub raised : Game → ℕ → ℕ → List Candidate → Mark → Mark
raised game step tolerance kept mark =
    if nat_lt mark.level (top_level game kept)
    then record { level = top_level game kept; until = step + tolerance }
    else mark
