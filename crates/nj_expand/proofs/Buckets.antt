-- Buckets: those of rows are the same where those of their words are.
use Rattle.std.proofs.Common.{◌≡◌, ℕ, zero, suc, ℤ, pos, ◌-◌, true, ◌&&◌, List, [], ◌∷◌, ◌++◌, length, replicate, refl, sym, ap, ◌∙◌, arith}
use Rattle.std.specs.Ordering.{int_eq}
use Rattle.std.proofs.lemmas.List.{length-map}
use Rattle.nj_search_defs.specs.Game.{Word, Game}
use Rattle.nj_search_defs.specs.Quota.{same_values}
use Rattle.nj_property.specs.Property.{value_of}
use Rattle.nj_machine.specs.State.{ram_of}
use Rattle.nj_game.specs.Plan.{Plan}
use Rattle.nj_game.specs.Words.{state_of, bucket_of, game_of}
use Rattle.nj_candidate.specs.Rows.{row_bucket}

-- zeros are the same
same_zeros : (n : ℕ) → same_values (replicate n (pos 0)) (replicate n (pos 0)) ≡ true
same_zeros zero = refl
same_zeros (suc n) = same_zeros n

-- and behind as many values they change nothing
same_behind : (a b : List ℤ) (n : ℕ) → length a ≡ length b
    → same_values (a ++ replicate n (pos 0)) (b ++ replicate n (pos 0)) ≡ same_values a b
same_behind [] [] n long = same_zeros n
same_behind [] (y ∷ ys) n long = absurd (omega (arith, long))
same_behind (x ∷ xs) [] n long = absurd (omega (arith, long))
same_behind (x ∷ xs) (y ∷ ys) n long = ap (λ b. int_eq x y && b) (same_behind xs ys n (omega (arith, long)))

-- buckets of as many values are the same as rows have them
pub same_buckets : (a b : List ℤ) → length a ≡ length b → same_values (row_bucket a) (row_bucket b) ≡ same_values a b
unfolding row_bucket
same_buckets a b long =
    ap (λ n. same_values (a ++ replicate (4 - length a) (pos 0)) (b ++ replicate (4 - n) (pos 0))) (sym long)
    ∙ same_behind a b (4 - length a) long

-- the buckets of a game have as many values
abbrev pub EvenBuckets : Game → Type 0
EvenBuckets game = (v w : Word) → length (game.bucket v) ≡ length (game.bucket w)

-- those of a plan as many as its script names
pub even_buckets : (plan : Plan) → EvenBuckets (game_of plan)
unfolding game_of bucket_of
even_buckets plan v w =
    length-map plan.script.bucket (λ property. value_of property (ram_of (state_of plan v)))
    ∙ sym (length-map plan.script.bucket (λ property. value_of property (ram_of (state_of plan w))))
