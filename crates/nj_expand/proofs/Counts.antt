-- How many candidates a step has, and how many it keeps.
use Rattle.std.proofs.Common.{◌≡◌, ℕ, suc, ◌+◌, ◌*◌, ◌≤◌, List, [], ◌∷◌, length, refl, ap, arith, length-append, suc-mul, mul-le-mul_right, zero-mul, mul-add, mul-one}
use Rattle.nj_search_defs.specs.Game.{Word, Game}
use Rattle.nj_search_defs.specs.Candidates.{extensions, candidates_from, candidates}
use Rattle.nj_rules.specs.declared.record.InputSet.{InputSet}
use Rattle.nj_rules.specs.Pads.{allowed_pads, named_pads}
use Rattle.nj_machine.specs.State.{ram_of}
use Rattle.nj_game.specs.Plan.{Plan}
use Rattle.nj_game.specs.Words.{state_of, allowed_of, game_of}
use Rattle.nj_expand.specs.Held.{Held, candidates_in, kept_in}
use Rattle.nj_expand.proofs.Ends.{kept_few}

-- the pads that may follow a word
told_allowed : (plan : Plan) (word : Word) → (let g : Game = game_of plan in g.allowed word)
    ≡ allowed_pads plan.script.inputs.sets (ram_of (state_of plan word))
unfolding game_of allowed_of
told_allowed plan word = refl

pub length-extensions : (number : ℕ) (word : Word) (pads : List ℕ) → length (extensions number word pads) ≡ length pads
length-extensions number word [] = refl
length-extensions number word (pad ∷ pads) = ap suc (length-extensions (number + 1) word pads)

-- words after each of which at most so many pads may follow
candidate_count : (game : Game) (n i : ℕ) (words : List Word) → ((word : Word) → length (game.allowed word) ≤ n)
    → length (candidates_from game i words) ≤ length words * n
candidate_count game n i [] few = omega (arith, zero-mul n)
candidate_count game n i (word ∷ words) few =
    let here : length (game.allowed word) ≤ n = few word in
    let rest = candidate_count game n (i + 1) words few in
    let all : suc (length words) * n ≡ length words * n + n = suc-mul (length words) n in
    omega (
      arith,
      length-append (extensions (256 * i) word (game.allowed word)) (candidates_from game (i + 1) words),
      length-extensions (256 * i) word (game.allowed word),
      here,
      rest,
      all,
    )

-- the law that no more pads are allowed than named
abbrev pub AreNamed : Type 0
AreNamed = (sets : List InputSet) (ram : List ℕ) → length (allowed_pads sets ram) ≤ length (named_pads sets)

pub candidates_few : AreNamed → (held : Held) → held.bounds.inputs ≡ length (named_pads held.plan.script.inputs.sets)
    → length (candidates_in held) ≤ length held.state.front * held.bounds.inputs
unfolding candidates_in candidates
candidates_few law held inputs =
    candidate_count (game_of held.plan) held.bounds.inputs 0 held.state.front
    (λ word. omega (
      arith,
      ap length (told_allowed held.plan word),
      law held.plan.script.inputs.sets (ram_of (state_of held.plan word)),
      inputs,
    ))

pub step_few : AreNamed → (held : Held) → held.bounds.inputs ≡ length (named_pads held.plan.script.inputs.sets)
    → length held.state.front ≤ held.bounds.most
    → length (candidates_in held) + length (kept_in held) ≤ held.bounds.most * (held.bounds.inputs + 1)
step_few law held inputs within =
    let many = candidates_few law held inputs in
    let most : length held.state.front * held.bounds.inputs ≤ held.bounds.most * held.bounds.inputs =
    mul-le-mul_right held.bounds.inputs within in
    let kept = kept_few held in
    let all : held.bounds.most * (held.bounds.inputs + 1) ≡ held.bounds.most * held.bounds.inputs
    + held.bounds.most * 1 = mul-add held.bounds.most held.bounds.inputs 1 in
    omega (arith, many, most, kept, all, mul-one held.bounds.most)
