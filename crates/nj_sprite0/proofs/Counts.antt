-- Sprites in range of a line, counted one by one.
use Rattle.std.proofs.Common.{◌≡◌, ℕ, ◌+◌, ◌*◌, ◌≤◌, Bool, true, false, cond, List, map, slice_index, refl, ap, subst, ◌∙◌, arith}
use Rattle.std.specs.List.{count_by, range_with_len}
use Rattle.std.proofs.lemmas.List.FromFn.{sum_by-map-range_with_len_more, length-map-range_with_len}
use Rattle.std.proofs.lemmas.List.Sums.{count_by-le-length}
use Rattle.nj_sprite0.specs.Sprite.{is_in_range, tops_of, in_range_of}

-- how many of the first n sprites
unfoldable pub counted : List ℕ → ℕ → Bool → ℕ → ℕ
counted oam line tall n =
    count_by (λ top. is_in_range top line tall) (map (λ sprite. slice_index oam (sprite * 4)) (range_with_len 0 n))

pub counted-none : (oam : List ℕ) (line : ℕ) (tall : Bool) → counted oam line tall 0 ≡ 0
unfolding counted
counted-none oam line tall = refl

-- one more
counted-more : (oam : List ℕ) (line : ℕ) (tall : Bool) (n : ℕ) → counted oam line tall (n + 1) ≡ counted oam line tall n + cond (is_in_range (slice_index oam (n * 4)) line tall) 1 0
unfolding counted
counted-more oam line tall n =
    sum_by-map-range_with_len_more (λ top. cond (is_in_range top line tall) 1 0) (λ sprite. slice_index oam (sprite * 4)) 0 n n (omega arith)

-- which is in range, or not
pub counted-in : (oam : List ℕ) (line : ℕ) (tall : Bool) (n : ℕ) → is_in_range (slice_index oam (n * 4)) line tall ≡ true → counted oam line tall (n + 1) ≡ counted oam line tall n + 1
counted-in oam line tall n h = counted-more oam line tall n ∙ ap (λ b. counted oam line tall n + cond b 1 0) h

pub counted-out : (oam : List ℕ) (line : ℕ) (tall : Bool) (n : ℕ) → is_in_range (slice_index oam (n * 4)) line tall ≡ false → counted oam line tall (n + 1) ≡ counted oam line tall n
counted-out oam line tall n h =
    counted-more oam line tall n ∙ ap (λ b. counted oam line tall n + cond b 1 0) h ∙ omega arith

-- they are no more than there are
pub counted-le : (oam : List ℕ) (line : ℕ) (tall : Bool) (n : ℕ) → counted oam line tall n ≤ n
unfolding counted
counted-le oam line tall n =
    let tops : List ℕ = map (λ sprite. slice_index oam (sprite * 4)) (range_with_len 0 n) in
    subst (λ k. count_by (λ top. is_in_range top line tall) tops ≤ k) (length-map-range_with_len (λ sprite. slice_index oam (sprite * 4)) 0 n)
    (count_by-le-length (λ top. is_in_range top line tall) tops)

-- all 64
pub counted-all : (oam : List ℕ) (line : ℕ) (tall : Bool) → counted oam line tall 64 ≡ in_range_of oam line tall
unfolding counted in_range_of tops_of
counted-all oam line tall = refl
