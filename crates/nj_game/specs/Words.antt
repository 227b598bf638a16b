-- What a word means, by its replay from power-on. All of it is this project's own.
use Rattle.std.specs.Prelude.{ℕ, zero, suc, List, [], ◌∷◌, length, map, reverse, ℤ}
use Rattle.nj_search_defs.specs.Game.{Word, Game, Go as Goes, Win as Wins, Fail as Fails, Verdict as SearchVerdict}
use Rattle.nj_machine.specs.State.{State, ram_of, is_jammed}
use Rattle.nj_machine.specs.Frame.{frame, play}
use Rattle.nj_property.specs.Property.{value_of}
use Rattle.nj_rules.specs.declared.record.Verdict.{Verdict}
use Rattle.nj_rules.specs.declared.record.Verdict.TheVariants.{Go, Win, Fail}
use Rattle.nj_rules.specs.declared.record.Judged.{Judged}
use Rattle.nj_rules.specs.Rules.{status_after, verdict_of, reward_of, level_of}
use Rattle.nj_rules.specs.Pads.{allowed_pads}
use Rattle.nj_rules.specs.Key.{key_in}
use Rattle.nj_game.specs.Plan.{Plan, movie_of}

-- ---- states

-- the machine's state after the movie of a word
unfoldable pub state_of : Plan → Word → State
state_of plan word = play plan.cartridge (movie_of plan word)

-- the working memory after a word
abbrev pub ram_after : Plan → Word → List ℕ
ram_after plan word = ram_of (state_of plan word)

-- so many frames with the pad held
abbrev pub held : ℕ → ℕ → State → State
held zero pad s = s
held (suc n) pad s = held n pad (frame s pad).0

-- ---- the rules

-- the status after a word, which is given from its last pad back: the rules that were satisfied after the word without
-- its last pad, and those that the memory satisfies; before the empty word no rule was satisfied
abbrev pub status_back : Plan → Word → ℕ
status_back plan [] = status_after plan.script.rules.rules (ram_after plan []) 0
status_back plan (pad ∷ back) =
    status_after plan.script.rules.rules (ram_after plan (reverse (pad ∷ back))) (status_back plan back)

-- the rules that are satisfied after a word
unfoldable pub status_of : Plan → Word → ℕ
status_of plan word = status_back plan (reverse word)

-- how the rules judge a word
unfoldable pub judged_of : Plan → Word → Judged
judged_of plan word = record {
  status = record { 0 = status_of plan word };
  verdict = verdict_of plan.script.rules.rules (status_of plan word) (is_jammed (state_of plan word));
  reward = reward_of plan.script.rules.rules (ram_after plan word) (status_of plan word);
  level = level_of plan.script.rules.rules (status_of plan word);
}

-- ---- the game

-- the pads that may follow a word, in order
unfoldable pub allowed_of : Plan → Word → List ℕ
allowed_of plan word = allowed_pads plan.script.inputs.sets (ram_after plan word)

-- the key by which words count as repeated
unfoldable pub key_of : Plan → Word → ℕ
key_of plan word =
    key_in plan.script.hash.items (length plan.script.rules.rules) (ram_after plan word) (status_of plan word)

-- the values of the bucket's properties after a word, in order
unfoldable pub bucket_of : Plan → Word → List ℤ
bucket_of plan word = map (λ property. value_of property (ram_after plan word)) plan.script.bucket

-- a verdict of the rules, as the search has it
abbrev pub search_verdict : Verdict → SearchVerdict
search_verdict Go = Goes
search_verdict Win = Wins
search_verdict Fail = Fails

-- the game that a search plays
unfoldable pub game_of : Plan → Game
game_of plan = record {
  judged =
      (λ word.
      let j = judged_of plan word in
      record { verdict = search_verdict j.verdict; reward = j.reward; level = j.level });
  allowed = allowed_of plan;
  key = key_of plan;
  bucket = bucket_of plan;
}
