-- How many frames are run.
use Rattle.std.proofs.Common.{◌≡◌, ℕ, ◌+◌, ◌*◌, List, [], ◌∷◌, ◌++◌, length, replicate, refl, ap, ap₂, sym, ◌∙◌, arith, length-append}
use Rattle.std.proofs.lemmas.List.{length-replicate}
use Rattle.nj_search_defs.specs.Game.{Word}
use Rattle.nj_game.specs.Plan.{Plan, held_pads, movie_of}

-- how long the pads of a word are held
held_long : (hold : ℕ) (word : Word) → length (held_pads hold word) ≡ hold * length word
held_long hold [] = omega arith
held_long hold (pad ∷ word) =
    length-append (replicate hold pad) (held_pads hold word)
    ∙ ap₂ (λ n m. n + m) (length-replicate hold pad) (held_long hold word)
    ∙ (let e : hold + hold * length word ≡ hold * length (pad ∷ word) = grind arith in e)

pub movie_long : (plan : Plan) (word : Word)
    → length (movie_of plan word) ≡ length plan.start + plan.script.hold * length word
unfolding movie_of
movie_long plan word =
    length-append plan.start (held_pads plan.script.hold word)
    ∙ ap (λ n. length plan.start + n) (held_long plan.script.hold word)

-- words of one length have movies of one length
pub movies_long : (plan : Plan) (word other : Word) → length word ≡ length other
    → length (movie_of plan word) ≡ length (movie_of plan other)
movies_long plan word other e = movie_long plan word ∙ ap (λ n. length plan.start + plan.script.hold * n) e
    ∙ sym (movie_long plan other)
