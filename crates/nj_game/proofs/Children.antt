-- A word and one more pad.
use Rattle.std.proofs.Common.{◌≡◌, ℕ, ◌+◌, [], ◌∷◌, ◌++◌, length, reverse, replicate, refl, ap, sym, ◌∙◌, append_assoc, append-nil, length-append}
use Rattle.std.proofs.lemmas.List.{reverse-append, reverse-reverse, length-replicate}
use Rattle.std.proofs.lemmas.Grind.{flat_map-append}
use Rattle.std.proofs.lemmas.List.Sums.{fold-append}
use Rattle.nj_search_defs.specs.Game.{Word}
use Rattle.nj_machine.specs.State.{power_on, is_jammed}
use Rattle.nj_machine.specs.Frame.{frame, play}
use Rattle.nj_rules.specs.Rules.{status_after}
use Rattle.nj_rules.specs.Rules.{judged_of as judged_in}
use Rattle.nj_game.specs.Plan.{Plan, held_pads, movie_of}
use Rattle.nj_game.specs.Words.{state_of, ram_after, status_back, status_of, judged_of, held}
use Rattle.nj_game.proofs.Plays.{held_frames}

-- ---- the empty word

pub movie_start : (plan : Plan) → movie_of plan [] ≡ plan.start
unfolding movie_of
movie_start plan = append-nil plan.start

pub state_start : (plan : Plan) → state_of plan [] ≡ play plan.cartridge plan.start
unfolding state_of
state_start plan = ap (play plan.cartridge) (movie_start plan)

pub status_start : (plan : Plan) → status_of plan [] ≡ status_after plan.script.rules.rules (ram_after plan []) 0
unfolding status_of
status_start plan = refl

pub judged_start :
    (plan : Plan) →
    judged_of plan [] ≡ judged_in plan.script.rules.rules (ram_after plan []) 0 (is_jammed (state_of plan []))
unfolding judged_of judged_in status_of
judged_start plan = refl

-- ---- one more pad

held_pads-push :
    (hold : ℕ) (word : Word) (pad : ℕ) → held_pads hold (word ++ pad ∷ []) ≡ held_pads hold word ++ replicate hold pad
held_pads-push hold word pad =
    flat_map-append (λ p. replicate hold p) word (pad ∷ [])
    ∙ ap (λ m. held_pads hold word ++ m) (append-nil (replicate hold pad))

-- the movie goes on with the pad
pub movie_child :
    (plan : Plan) (word : Word) (pad : ℕ) →
    movie_of plan (word ++ pad ∷ []) ≡ movie_of plan word ++ replicate plan.script.hold pad
unfolding movie_of
movie_child plan word pad =
    ap (λ m. plan.start ++ m) (held_pads-push plan.script.hold word pad)
    ∙ sym (append_assoc plan.start (held_pads plan.script.hold word) (replicate plan.script.hold pad))

pub frames_child :
    (plan : Plan) (word : Word) (pad : ℕ) →
    length (movie_of plan (word ++ pad ∷ [])) ≡ length (movie_of plan word) + plan.script.hold
frames_child plan word pad =
    ap length (movie_child plan word pad)
    ∙ length-append (movie_of plan word) (replicate plan.script.hold pad)
    ∙ ap (λ n. length (movie_of plan word) + n) (length-replicate plan.script.hold pad)

pub state_child :
    (plan : Plan) (word : Word) (pad : ℕ) →
    state_of plan (word ++ pad ∷ []) ≡ held plan.script.hold pad (state_of plan word)
unfolding state_of
state_child plan word pad =
    ap (play plan.cartridge) (movie_child plan word pad)
    ∙ fold-append (λ s p. (frame s p).0) (power_on plan.cartridge) (movie_of plan word) (replicate plan.script.hold pad)
    ∙ held_frames plan.script.hold pad (play plan.cartridge (movie_of plan word))

reverse-push : (word : Word) (pad : ℕ) → reverse (word ++ pad ∷ []) ≡ pad ∷ reverse word
reverse-push word pad = reverse-append word (pad ∷ [])

pub status_child : (plan : Plan) (word : Word) (pad : ℕ) →
    status_of plan (word ++ pad ∷ [])
    ≡ status_after plan.script.rules.rules (ram_after plan (word ++ pad ∷ [])) (status_of plan word)
unfolding status_of
status_child plan word pad =
    let same : reverse (pad ∷ reverse word) ≡ word ++ pad ∷ [] =
    ap reverse (sym (reverse-push word pad)) ∙ reverse-reverse (word ++ pad ∷ []) in
    ap (status_back plan) (reverse-push word pad)
    ∙ ap (λ w. status_after plan.script.rules.rules (ram_after plan w) (status_back plan (reverse word))) same

pub judged_child : (plan : Plan) (word : Word) (pad : ℕ) →
    judged_of plan (word ++ pad ∷ [])
    ≡ judged_in plan.script.rules.rules (ram_after plan (word ++ pad ∷ [])) (status_of plan word)
    (is_jammed (state_of plan (word ++ pad ∷ [])))
unfolding judged_of judged_in
judged_child plan word pad = rw (status_child plan word pad) refl
