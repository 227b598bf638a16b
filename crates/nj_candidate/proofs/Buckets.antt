-- The values at the four places of a bucket.
use Rattle.std.proofs.Common.{◌≡◌, ℤ, pos, ◌-◌, ◌≤◌, List, [], ◌∷◌, length, get_or, refl, ◌∙◌, arith}
use Rattle.std.proofs.lemmas.List.{length-map}
use Rattle.nj_property.specs.Property.{value_of}
use Rattle.nj_machine.specs.State.{State, ram_of}
use Rattle.nj_script.specs.Script.{Record}
use Rattle.nj_candidate.specs.Rows.{row_bucket, values_at}

four : (values : List ℤ) → length values ≤ 4
    → (get_or values 0 (pos 0) ∷ get_or values 1 (pos 0) ∷ get_or values 2 (pos 0) ∷ get_or values 3 (pos 0) ∷ [])
    ≡ row_bucket values
unfolding row_bucket
four [] few = refl
four (a ∷ []) few = refl
four (a ∷ b ∷ []) few = refl
four (a ∷ b ∷ c ∷ []) few = refl
four (a ∷ b ∷ c ∷ d ∷ []) few = refl
four (a ∷ b ∷ c ∷ d ∷ e ∷ rest) few = absurd (omega (arith, few))

-- the values at four places, where there are no more
pub bucket_is : (script : Record) (s : State) (a b c d : ℤ) → length script.bucket ≤ 4
    → a ≡ get_or (values_at script s) 0 (pos 0) → b ≡ get_or (values_at script s) 1 (pos 0)
    → c ≡ get_or (values_at script s) 2 (pos 0) → d ≡ get_or (values_at script s) 3 (pos 0)
    → (a ∷ b ∷ c ∷ d ∷ []) ≡ row_bucket (values_at script s)
bucket_is script s a b c d few first second third fourth =
    let count : length (values_at script s) ≡ length script.bucket =
    length-map script.bucket (λ property. value_of property (ram_of s)) in
    (λ i. first i ∷ second i ∷ third i ∷ fourth i ∷ []) ∙ four (values_at script s) (omega (arith, count, few))
