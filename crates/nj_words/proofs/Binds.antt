-- Values that may be missing, one after another.
use Rattle.std.proofs.Common.{◌≡◌, refl, [], ◌∷◌, Option, Some, None}
use Rattle.std.specs.Prelude.{option_and_then}
use Rattle.std.specs.Option.{option_map}
use Rattle.clap.specs.Kinds.{Kinds}
use Rattle.nj_words.proofs.Outcome.{unless}

-- what comes of a value that there is, unless there is a fault
pub unless-then : {X Y : Type 0} (kinds : Kinds) (found : Option X) (next : X → Option Y)
    → unless kinds (option_and_then next found) ≡ option_and_then next (unless kinds found)
unless-then [] found next = refl
unless-then (kind ∷ kinds) found next = refl

pub none_then : {X Y : Type 0} (found : Option X) (next : X → Option Y) → ((x : X) → next x ≡ None)
    → option_and_then next found ≡ None
none_then None next none = refl
none_then (Some x) next none = none x

pub swapped : {X Y Z : Type 0} (a : Option X) (b : Option Y) (f : X → Y → Option Z)
    → option_and_then (λ x. option_and_then (λ y. f x y) b) a ≡ option_and_then (λ y. option_and_then (λ x. f x y) a) b
swapped None None f = refl
swapped None (Some y) f = refl
swapped (Some x) None f = refl
swapped (Some x) (Some y) f = refl

pub then_then : {X Y Z : Type 0} (a : Option X) (f : X → Option Y) (g : Y → Option Z)
    → option_and_then g (option_and_then f a) ≡ option_and_then (λ x. option_and_then g (f x)) a
then_then None f g = refl
then_then (Some x) f g = refl

pub then_mapped : {X Y Z : Type 0} (a : Option X) (f : X → Y) (g : Y → Option Z)
    → option_and_then g (option_map f a) ≡ option_and_then (λ x. g (f x)) a
then_mapped None f g = refl
then_mapped (Some x) f g = refl

pub then_Some : {X : Type 0} (a : Option X) → option_and_then Some a ≡ a
then_Some None = refl
then_Some (Some x) = refl
