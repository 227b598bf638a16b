-- The pixels of a line by its tiles, and where a row of sprite zero meets them.
use Rattle.std.proofs.Common.{◌≡◌, ℕ, zero, suc, ◌+◌, ◌-◌, ◌*◌, ◌/◌, ◌%◌, ◌^◌, ◌<◌, Bool, true, false, ◌&&◌, ◌||◌, ◌==◌, nat_lt, nat_le, List, Option, Some, slice_index, refl, ap, sym, ◌∙◌, subst, arith, inl, inr}
use Rattle.std.proofs.lemmas.Bool.{cases_lt}
use Rattle.std.proofs.lemmas.Bool.Decides.{nat_tests}
use Rattle.std.proofs.lemmas.Nat.{field_of, shr-shr, shl-shr}
use Rattle.std.proofs.Math.Pow.{mod-mod-pow}
use Rattle.nj_sprite0.specs.declared.row.SpriteRow.{SpriteRow}
use Rattle.nj_sprite0.specs.Sprite.{has_bit, is_opaque_at}
use Rattle.nj_sprite0.specs.Meeting.{background_at, meets_at}
use Rattle.nj_dots.specs.declared.screen.Screen.{Screen}
use Rattle.nj_dots.specs.Screen.{shows_both_layers, shows_left_columns}
use Rattle.nj_dots.specs.Dots.{background_bit, is_shown_column, is_hit_pixel, after_dots, fetched_row, prefetched, row_stepped}
use Rattle.nj_catchup.specs.Tiles.{IsQuiet, jumped, tile_run, tiles_run, line_finished}
use Rattle.nj_catchup.specs.Line.{shown_byte}
use Rattle.nj_catchup.proofs.Sums.{dots-sum}
use Rattle.nj_catchup.proofs.Tiles.{with_shift, shifted, shifted-is, after_pixels, pixels, jumped-dot, tiles-jump, tiles-step, tiles-inner, fewer-quiet}
use Rattle.nj_catchup.proofs.Meets.{with_hit, hit-if, hit-of, near-after, any-after, hits-after, any-none, any-some, quiet-after}

-- a pixel's bit, of the shift register at its dot and of the byte at its tile
low-bit : (n k j : ℕ) → n % 2 ^ (j + 1 + k) / 2 ^ k % 2 ≡ n / 2 ^ k % 2
low-bit n k j =
    let e : n / 2 ^ k % 2 ^ (j + 1) % 2 ^ 1 ≡ n / 2 ^ k % 2 ^ 1 = mod-mod-pow (n / 2 ^ k) j 1 in
    ap (λ m. m % 2) (field_of n (j + 1) k) ∙ e

pixel-bit : (r x z : ℕ) → r < 8 → x < 8 → z / 2 ^ (8 - x) % 256 / 2 ^ (7 - r) % 2 ≡ z / 2 ^ (15 - x - r) % 2
pixel-bit r x z hr hx =
    let byte : 2 ^ (r + 1 + (7 - r)) ≡ 256 = (let e : r + 1 + (7 - r) ≡ 8 = omega (arith, hr) in ap (λ k. 2 ^ k) e) in
    let all : 8 - x + (7 - r) ≡ 15 - x - r = omega (arith, hr, hx) in
    ap (λ m. z / 2 ^ (8 - x) % m / 2 ^ (7 - r) % 2) (sym byte) ∙ low-bit (z / 2 ^ (8 - x)) (7 - r) r
    ∙ ap (λ m. m % 2) (shr-shr z (8 - x) (7 - r) ∙ ap (λ k. z / 2 ^ k) all)

shifted-bit : (r x z : ℕ) → r < 8 → x < 8 → shifted r z / 2 ^ (15 - x) % 2 ≡ z / 2 ^ (15 - x - r) % 2
unfolding shifted
shifted-bit zero x z hr hx = let e : 15 - x ≡ 15 - x - zero = omega arith in ap (λ k. z / 2 ^ k % 2) e
shifted-bit (suc r) x z hr hx =
    let word : 2 ^ (x + 1 + (15 - x)) ≡ 65536 =
    (let e : x + 1 + (15 - x) ≡ 16 = omega (arith, hx) in ap (λ k. 2 ^ k) e) in
    let parts : 15 - x ≡ suc r + (15 - x - suc r) = omega (arith, hr, hx) in
    ap (λ m. m / 2 ^ (15 - x) % 2) (shifted-is r z) ∙ ap (λ m. z * 2 ^ suc r % m / 2 ^ (15 - x) % 2) (sym word)
    ∙ low-bit (z * 2 ^ suc r) (15 - x) x
    ∙ ap (λ m. m % 2) (ap (λ i. z * 2 ^ suc r / 2 ^ i) parts ∙ sym (shr-shr (z * 2 ^ suc r) (suc r) (15 - x - suc r))
    ∙ ap (λ m. m / 2 ^ (15 - x - suc r)) (shl-shr z (suc r)))

bit-is : (r x z : ℕ) → r < 8 → x < 8 → background_bit (shifted r z) x ≡ has_bit (z / 2 ^ (8 - x) % 256) (7 - r)
unfolding background_bit has_bit
bit-is r x z hr hx = ap (λ n. n == 1) (shifted-bit r x z hr hx ∙ sym (pixel-bit r x z hr hx))

-- the two orders of what a hit asks for
asked : (b d e f g : Bool) → (true && b && true && d && e && (f || g)) ≡ (b && (g || f) && e && d)
asked false d e f g = refl
asked true false false false false = refl
asked true false false false true = refl
asked true false false true false = refl
asked true false false true true = refl
asked true false true false false = refl
asked true false true false true = refl
asked true false true true false = refl
asked true false true true true = refl
asked true true false false false = refl
asked true true false false true = refl
asked true true false true false = refl
asked true true false true true = refl
asked true true true false false = refl
asked true true true false true = refl
asked true true true true false = refl
asked true true true true true = refl

same-parts : (a b c d e f b2 d2 e2 g h : Bool) → a ≡ true → b ≡ b2 → c ≡ true → d ≡ d2 → e ≡ e2 → f ≡ (g || h)
    → (a && b && c && d && e && f) ≡ (b2 && (h || g) && e2 && d2)
same-parts a b c d e f b2 d2 e2 g h ha hb hc hd he hf =
    ap (λ x. x && b && c && d && e && f) ha ∙ ap (λ x. true && x && c && d && e && f) hb
    ∙ ap (λ x. true && b2 && x && d && e && f) hc
    ∙ ap (λ x. true && b2 && true && x && e && f) hd ∙ ap (λ x. true && b2 && true && d2 && x && f) he
    ∙ ap (λ x. true && b2 && true && d2 && e2 && x) hf
    ∙ asked b2 d2 e2 g h

-- the picture after so many tiles and pixels
tiles-pixels : (j r : ℕ) (p : List ℕ) (s : Screen) → IsQuiet 256 s → s.position.dot ≡ 1 → j < 32 → r < 8
    → after_dots (8 * j + r) p s ≡ after_pixels r (with_shift (jumped j s) (tiles_run j p s).shift)
tiles-pixels j r p s h first hj hr =
    let t : Screen = tiles_run j p s in
    let whole : after_dots (8 * j) p s ≡ t =
    tiles-inner j p s 0 (fewer-quiet 256 (8 * j) s (omega (arith, hj)) h) first (omega (arith, first, hj)) in
    let is : t ≡ with_shift (jumped j s) t.shift = tiles-jump j p s (omega (arith, hj)) in
    let at : t.position.dot ≡ j * 8 + suc 0 =
    ap (λ (e : Screen). e.position.dot) is ∙ jumped-dot j s ∙ omega (arith, first) in
    let quiet : IsQuiet r t =
    subst (IsQuiet r) whole (quiet-after (8 * j) r p s (fewer-quiet 256 (8 * j + r) s (omega (arith, hj, hr)) h)) in
    sym (dots-sum (8 * j + r) r (8 * j) p s (omega arith)) ∙ ap (after_dots r p) whole
    ∙ pixels r p t j 0 quiet at (omega (arith, hr))
    ∙ ap (after_pixels r) is

-- one of its pixels
column-is : (mask i : ℕ) → is_shown_column mask i ≡ (nat_le 8 i || shows_left_columns mask)
unfolding is_shown_column
column-is mask i = refl

background-is : (j r i x z : ℕ) (opaque : List ℕ) → r < 8 → x < 8 → i ≡ 8 * j + r
    → slice_index opaque j ≡ z / 2 ^ (8 - x) % 256 → background_bit (shifted r z) x ≡ background_at opaque i
unfolding background_at
background-is j r i x z opaque hr hx at byte =
    let tile : i / 8 ≡ j = omega (arith, at, hr) in
    let pixel : i % 8 ≡ r = omega (arith, at, hr) in
    bit-is r x z hr hx ∙ ap (λ n. has_bit n (7 - r)) (sym byte)
    ∙ ap (λ k. has_bit (slice_index opaque k) (7 - r)) (sym tile)
    ∙ ap (λ k. has_bit (slice_index opaque (i / 8)) (7 - k)) (sym pixel)

last-is : (d i : ℕ) → d ≡ i + 1 → nat_le d 255 ≡ nat_lt i 255
last-is d i at = ap (λ k. nat_le k 255) at ∙ (elim (cases_lt i 255) [
  | inl below ↦
      (let a : nat_le (i + 1) 255 ≡ true = grind (arith, nat_tests, below) in let b : nat_lt i 255 ≡ true =
      grind (arith, nat_tests, below) in a ∙ sym b)
  | inr past ↦
      (let a : nat_le (i + 1) 255 ≡ false = grind (arith, nat_tests, past) in let b : nat_lt i 255 ≡ false =
      grind (arith, nat_tests, past) in a ∙ sym b)
])

hit-at : (j r i z : ℕ) (s : Screen) (row : SpriteRow) (opaque : List ℕ) → s.position.line < 240 → s.position.dot ≡ 1
    → shows_both_layers s.mask ≡ true → s.scroll.x < 8 → r < 8
    → i ≡ 8 * j + r → slice_index opaque j ≡ z / 2 ^ (8 - s.scroll.x) % 256
    → hit-of (after_pixels r (with_shift (jumped j s) z)) (Some row) ≡ meets_at row opaque (shows_left_columns s.mask) i
unfolding hit-of is_hit_pixel jumped meets_at
hit-at j r i z s row opaque line first both fine hr at byte =
    let d : ℕ = s.position.dot + 8 * j + r in
    let here : d - 1 ≡ i = omega (arith, first, at) in
    let visible : nat_lt s.position.line 240 ≡ true = grind (arith, nat_tests, line) in
    same-parts (nat_lt s.position.line 240) (nat_le d 255) (shows_both_layers s.mask)
    (background_bit (shifted r z) s.scroll.x) (is_opaque_at row (d - 1)) (is_shown_column s.mask (d - 1))
    (nat_lt i 255) (background_at opaque i) (is_opaque_at row i) (nat_le 8 i) (shows_left_columns s.mask)
    visible (last-is d i (omega (arith, first, at))) both (background-is j r i s.scroll.x z opaque hr fine at byte)
    (ap (is_opaque_at row) here) (ap (is_shown_column s.mask) here ∙ column-is s.mask i)

-- what a line's hits depend on: the line's bytes, both layers shown, no row of its own
pub record IsLine (s : Screen) (opaque p : List ℕ) : Type 0 where
  pub quiet : IsQuiet 256 s
  pub first : s.position.dot ≡ 1
  pub both : shows_both_layers s.mask ≡ true
  pub fine_x : s.scroll.x < 8
  pub bytes : (j : ℕ) → j < 32 → slice_index opaque j ≡ shown_byte (tiles_run j p s)

line-byte : (j : ℕ) (s : Screen) (opaque p : List ℕ) → IsLine s opaque p → j < 32
    → slice_index opaque j ≡ (tiles_run j p s).shift / 2 ^ (8 - s.scroll.x) % 256
unfolding shown_byte jumped
line-byte j s opaque p h hj =
    let t : Screen = tiles_run j p s in
    let x : t.scroll.x ≡ s.scroll.x = ap (λ (e : Screen). e.scroll.x) (tiles-jump j p s (omega (arith, hj))) in
    h.bytes j hj ∙ ap (λ k. t.shift / 2 ^ (8 - k) % 256) x

hit-line : (i : ℕ) (s : Screen) (row : SpriteRow) (opaque p : List ℕ) → IsLine s opaque p → i < 256
    → hit-of (after_dots i p s) (Some row) ≡ meets_at row opaque (shows_left_columns s.mask) i
hit-line i s row opaque p h within =
    let j : ℕ = i / 8 in
    let r : ℕ = i % 8 in
    let at : i ≡ 8 * j + r = omega arith in
    let hj : j < 32 = omega (arith, within) in
    let hr : r < 8 = omega arith in
    ap (λ k. hit-of (after_dots k p s) (Some row)) at
    ∙ ap (λ (e : Screen). hit-of e (Some row)) (tiles-pixels j r p s h.quiet h.first hj hr)
    ∙ hit-at j r i (tiles_run j p s).shift s row opaque h.quiet.line h.first h.both h.fine_x hr at
    (line-byte j s opaque p h hj)

-- the last pixel is none
last-apart : (row : SpriteRow) (opaque : List ℕ) (left : Bool) → meets_at row opaque left 255 ≡ false
unfolding meets_at
last-apart row opaque left = refl

near-last : (n : ℕ) (s : Screen) (row : SpriteRow) (opaque p : List ℕ) → n ≡ 255 → IsLine s opaque p
    → near-after (suc n) p s (Some row) ≡ false
unfolding near-after
near-last n s row opaque p last h =
    hit-line n s row opaque p h (omega (arith, last)) ∙ ap (meets_at row opaque (shows_left_columns s.mask)) last
    ∙ last-apart row opaque (shows_left_columns s.mask)

-- the line with a row: no hit is near at its end, and the flag is up where one was met
pub line-after : (n : ℕ) (s : Screen) (row : SpriteRow) (opaque p : List ℕ) (hit : Bool) → n ≡ 255 → IsLine s opaque p
    → after_dots (suc n) p (with_hit s (Some row) false hit)
    ≡ with_hit (after_dots (suc n) p s) (Some row) false (hit || any-after (suc n) p s (Some row))
line-after n s row opaque p hit last h =
    hits-after (suc n) p s (Some row) hit (fewer-quiet 256 (suc n) s (omega (arith, last)) h.quiet)
    ∙ ap (λ b. with_hit (after_dots (suc n) p s) (Some row) b (hit || any-after (suc n) p s (Some row)))
    (near-last n s row opaque p last h)

pub line-none : (n : ℕ) (s : Screen) (row : SpriteRow) (opaque p : List ℕ) → n ≡ 255 → IsLine s opaque p
    → ((i : ℕ) → meets_at row opaque (shows_left_columns s.mask) i ≡ false) → any-after (suc n) p s (Some row) ≡ false
line-none n s row opaque p last h none =
    any-none n p s (Some row) (λ i within. hit-line i s row opaque p h (omega (arith, within, last)) ∙ none i)

below-last : (row : SpriteRow) (opaque : List ℕ) (left : Bool) (i : ℕ) → meets_at row opaque left i ≡ true → i < 255
unfolding meets_at
below-last row opaque left i meets = grind (arith, nat_tests, meets)

pub line-some : (n i : ℕ) (s : Screen) (row : SpriteRow) (opaque p : List ℕ) → n ≡ 255 → IsLine s opaque p
    → meets_at row opaque (shows_left_columns s.mask) i ≡ true → any-after (suc n) p s (Some row) ≡ true
line-some n i s row opaque p last h meets =
    let below : i < 255 = below-last row opaque (shows_left_columns s.mask) i meets in
    any-some n i p s (Some row) (omega (arith, below, last)) (hit-line i s row opaque p h (omega (arith, below))
    ∙ meets)

-- the tiles do not look at the row
pub tiles-with_hit : (n : ℕ) (p : List ℕ) (s : Screen) (row : Option SpriteRow) (near hit : Bool)
    → tiles_run n p (with_hit s row near hit) ≡ with_hit (tiles_run n p s) row near hit
unfolding tiles_run tile_run prefetched fetched_row
tiles-with_hit zero p s row near hit = refl
tiles-with_hit (suc n) p s row near hit = ap (tile_run p) (tiles-with_hit n p s row near hit)

-- one tile more
pub record TileOn (s e : Screen) : Type 0 where
  pub dot : e.position.dot ≡ s.position.dot + 8
  pub fine_x : e.scroll.x ≡ s.scroll.x

pub tile-on : (p : List ℕ) (s : Screen) → TileOn s (tile_run p s)
unfolding tile_run prefetched
tile-on p s = record { dot = refl; fine_x = refl }

pub tiles-none : (p : List ℕ) (s : Screen) → s ≡ tiles_run 0 p s
unfolding tiles_run
tiles-none p s = refl

pub tiles-more : (n : ℕ) (p : List ℕ) (s : Screen) → tile_run p (tiles_run n p s) ≡ tiles_run (suc n) p s
unfolding tiles_run
tiles-more n p s = refl

-- the end of the line does not look at the row
pub finished-with_hit : (s : Screen) (row : Option SpriteRow) (near hit : Bool)
    → line_finished (with_hit s row near hit) ≡ with_hit (line_finished s) row near hit
unfolding line_finished
finished-with_hit s row near hit =
    hit-if (s.position.dot == 257) (record s { scroll = row_stepped s.scroll }) s _ _ row near hit refl refl

-- the whole line without a row
pub line-tiles : (n : ℕ) (p : List ℕ) (s : Screen) → n ≡ 31 → IsQuiet 256 s → s.position.dot ≡ 1
    → after_dots (8 * suc n) p s ≡ line_finished (tiles_run (suc n) p s)
line-tiles n p s last h first =
    tiles-step n p s 0 (fewer-quiet 256 (8 * suc n) s (omega (arith, last)) h) first
    (tiles-inner n p s 0 (fewer-quiet 256 (8 * n) s (omega (arith, last)) h) first (omega (arith, last, first)))
