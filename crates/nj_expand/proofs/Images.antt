-- The images of a front's states, and what they need.
use Rattle.std.proofs.Common.{◌≡◌, ◌≤◌, ◌+◌, ◌*◌, ◌<◌, ℕ, Bool, true, false, cond, arith, map, get_or, ◌⊎◌, inl, inr, List, [], ◌∷◌, length, refl, sym, ap, ◌∙◌}
use Rattle.std.specs.Prelude.{sum_by}
use Rattle.std.proofs.lemmas.List.{get_or-map}
use Rattle.std.proofs.lemmas.List.Sums.{sum_by-cons, sum_by-le}
use Rattle.nj_search_defs.specs.Game.{Word}
use Rattle.nj_machine.specs.State.{Rom}
use Rattle.nj_machine.specs.Image.{image_len}
use Rattle.nj_game.specs.Plan.{Plan}
use Rattle.nj_image.specs.Pages.{IsImageSize}
use Rattle.nj_pool.specs.Front.{need}
use Rattle.nj_candidate.specs.Front.{rom_in, size_in, image_at, need_at}

-- the image at a place is that of the word there
pub image_here : (plan : Plan) (images words : List (List ℕ)) (place : ℕ) (image : List ℕ)
    → images ≡ map (image_at plan) words → place < length words
    → image ≡ get_or images place [] → image ≡ image_at plan (get_or words place [])
image_here plan images words place image are within is =
    is ∙ ap (λ xs. get_or xs place []) are ∙ get_or-map (image_at plan) words place [] [] within

sum_map : (f : List ℕ → ℕ) (g : Word → List ℕ) (words : List Word)
    → sum_by f (map g words) ≡ sum_by (λ word. f (g word)) words
sum_map f g [] = refl
sum_map f g (word ∷ words) =
    sum_by-cons f (g word) (map g words)
    ∙ (ap (λ n. f (g word) + n) (sum_map f g words) ∙ sym (sum_by-cons (λ w. f (g w)) word words))

-- what the states of a front need
pub front_needs : (plan : Plan) (base : List ℕ) (images words : List (List ℕ)) → images ≡ map (image_at plan) words
    → base ≡ image_at plan []
    → sum_by (need base) images ≡ sum_by (need_at plan) words
unfolding need_at
front_needs plan base images words are is =
    (λ i. sum_by (need (is i)) (are i)) ∙ sum_map (need (image_at plan [])) (image_at plan) words

-- the state of a word needs no more than its whole image and 16
need_bound : (plan : Plan) (word : Word) → IsImageSize (image_at plan [])
    → ((word : Word) → length (image_at plan word) ≡ size_in plan)
    → ((base image : List ℕ) → IsImageSize base → length image ≡ length base → need base image ≤ length base + 16)
    → need_at plan word ≤ size_in plan + 16
unfolding need_at
need_bound plan word size long law =
    omega (arith, law (image_at plan []) (image_at plan word) size (long word ∙ sym (long [])), long [])

pub needs_bound : (plan : Plan) (words : List Word) → IsImageSize (image_at plan [])
    → ((word : Word) → length (image_at plan word) ≡ size_in plan)
    → ((base image : List ℕ) → IsImageSize base → length image ≡ length base → need base image ≤ length base + 16)
    → sum_by (need_at plan) words ≤ length words * (size_in plan + 16)
needs_bound plan words size long law =
    sum_by-le (need_at plan) (size_in plan + 16) words (λ k d lt. need_bound plan (get_or words k d) size long law)

-- an image of a plan has one of the two sizes
size_of : (b : Bool) → (◌≡◌ {A = ℕ} (cond b 12672 4480) 4480) ⊎ (◌≡◌ {A = ℕ} (cond b 12672 4480) 12672)
size_of true = inr refl
size_of false = inl refl

pub image_size : (plan : Plan) (image : List ℕ) → length image ≡ size_in plan → IsImageSize image
unfolding size_in image_len
image_size plan image long =
    let either = size_of (let r : Rom = rom_in plan in r.chr_ram) in
    elim either [
      | inl small ↦ inl (long ∙ small)
      | inr large ↦ inr (long ∙ large)
    ]
