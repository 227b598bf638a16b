-- Visible dots without a hit, one by one, in a tile, and over many tiles.
use Rattle.std.proofs.Common.{◌≡◌, ℕ, zero, suc, ◌+◌, ◌-◌, ◌*◌, ◌/◌, ◌%◌, ◌^◌, ◌<◌, ◌≤◌, Bool, true, false, ◌&&◌, nat_lt, nat_le, List, refl, ap, sym, ◌∙◌, subst, arith, lit≤, inl, inr}
use Rattle.std.proofs.lemmas.Bool.{true≢false, cases_eq, cases_lt, eq-eqb, ne_eqb}
use Rattle.std.proofs.lemmas.Bool.Decides.{nat_tests}
use Rattle.std.proofs.lemmas.Nat.{mul-mod_first}
use Rattle.std.proofs.Math.Nat.{pow-suc, mul_assoc}
use Rattle.nj_dots.specs.declared.screen.Screen.{Screen}
use Rattle.nj_dots.specs.Scroll.{next_column}
use Rattle.nj_sprite0.specs.Sprite.{shows_at}
use Rattle.nj_dots.specs.Screen.{is_next, shows_both_layers}
use Rattle.nj_dots.specs.Dots.{flagged, background_bit, is_shown_column, is_hit_pixel, pixel, fetched_row, tile_fetched, line_ended, tile_ended, prefetched, row_stepped, shown, is_drawn_line, drawn, moved, dot_of, after_dots}
use Rattle.nj_dots.proofs.Stays.{Stays, stays-tile_ended}
use Rattle.nj_dots.proofs.Moving.{if-true, if-false}
use Rattle.nj_catchup.specs.Idle.{at_dot}
use Rattle.nj_catchup.specs.Tiles.{may_hit, IsQuiet, columns_on, jumped, tile_run, tiles_run, line_finished}
use Rattle.nj_catchup.proofs.Calm.{flagged-apart}
use Rattle.nj_catchup.proofs.Idling.{raised-far, moved-along}
use Rattle.nj_catchup.proofs.Sums.{dots-sum, dots-zero}

-- a pixel that may be no hit is none
hit-apart : (a b c d e f : Bool) → (c && e) ≡ false → (a && b && c && d && e && f) ≡ false
hit-apart false b c d e f h = refl
hit-apart true false c d e f h = refl
hit-apart true true false d e f h = refl
hit-apart true true true false e f h = refl
hit-apart true true true true false f h = refl
hit-apart true true true true true f h = absurd (true≢false h)

pub misses-hit : (s : Screen) → may_hit s.mask s.sprite_row s.position.dot ≡ false → is_hit_pixel s ≡ false
unfolding may_hit is_hit_pixel
misses-hit s h =
    hit-apart (nat_lt s.position.line 240) (nat_le s.position.dot 255) (shows_both_layers s.mask)
    (background_bit s.shift s.scroll.x)
    (shows_at s.sprite_row (s.position.dot - 1)) (is_shown_column s.mask (s.position.dot - 1)) h

-- the shift register moved on by a pixel
abbrev pub with_shift : Screen → ℕ → Screen
with_shift s n = record s { shift = n }

pixel-quiet : (s : Screen) → s.near ≡ false → is_hit_pixel s ≡ false → pixel s ≡ with_shift s (s.shift * 2 % 65536)
unfolding pixel
pixel-quiet s far miss = ap (λ b. record s { near = b; shift = s.shift * 2 % 65536 }) (miss ∙ sym far)

pub above : (l : ℕ) (s : Screen) → s.position.line < 240 → 240 ≤ l → is_next l 1 s ≡ false
unfolding is_next
above l s line from = grind (arith, nat_tests, line, from)

pub drawn-line : (line : ℕ) → line < 240 → is_drawn_line line ≡ true
unfolding is_drawn_line
drawn-line line below = grind (arith, nat_tests, below)

pub pixel-dot : (dot : ℕ) → 1 ≤ dot → dot ≤ 256 → (nat_le 1 dot && nat_le dot 256) ≡ true
pixel-dot dot from last = grind (arith, nat_tests, from, last)

drawn-quiet : (p : List ℕ) (s : Screen) → IsQuiet 1 s → drawn p s ≡ tile_ended p (with_shift s (s.shift * 2 % 65536))
unfolding drawn shown
drawn-quiet p s h =
    if-true _ _ _ (drawn-line s.position.line h.line) ∙ if-true _ _ _ h.renders
    ∙ if-true _ _ _ (pixel-dot s.position.dot h.from (omega (arith, h.last)))
    ∙ ap (tile_ended p) (pixel-quiet s h.far (misses-hit s (h.misses s.position.dot (omega arith) (omega arith))))

pub tile_ended-dot : (p : List ℕ) (s : Screen) → (tile_ended p s).position.dot ≡ s.position.dot
tile_ended-dot p s = let st : Stays s (tile_ended p s) = stays-tile_ended p s in ap (λ e. e.position.dot) st.same

pub moved-tile : (p : List ℕ) (s : Screen) → s.position.dot ≤ 256
    → moved (tile_ended p s) ≡ at_dot (tile_ended p s) (s.position.dot + 1)
moved-tile p s last =
    let at : (tile_ended p s).position.dot ≡ s.position.dot = tile_ended-dot p s in
    moved-along (tile_ended p s) (omega (arith, at, last)) ∙ ap (λ d. at_dot (tile_ended p s) (d + 1)) at

-- one dot
pub quiet-dot : (p : List ℕ) (s : Screen) → IsQuiet 1 s
    → dot_of p s ≡ at_dot (tile_ended p (with_shift s (s.shift * 2 % 65536))) (s.position.dot + 1)
unfolding dot_of
quiet-dot p s h =
    ap (λ e. moved (drawn p (flagged e))) (raised-far s h.far)
    ∙ ap (λ e. moved (drawn p e)) (flagged-apart s (above 241 s h.line (lit≤ tt)) (above 261 s h.line (lit≤ tt)))
    ∙ ap moved (drawn-quiet p s h)
    ∙ moved-tile p (with_shift s (s.shift * 2 % 65536)) (omega (arith, h.last))

-- the shift register after a number of pixels
unfoldable pub shifted : ℕ → ℕ → ℕ
shifted zero shift = shift
shifted (suc n) shift = shifted n shift * 2 % 65536

-- as one shift
pub shifted-is : (n shift : ℕ) → shifted (suc n) shift ≡ shift * 2 ^ suc n % 65536
unfolding shifted
shifted-is zero shift = refl
shifted-is (suc n) shift =
    ap (λ k. k * 2 % 65536) (shifted-is n shift) ∙ mul-mod_first (shift * 2 ^ suc n) 2 65536
    ∙ (let e : shift * 2 ^ suc n * 2 ≡ shift * 2 ^ suc (suc n) =
    mul_assoc shift (2 ^ suc n) 2 ∙ ap (λ k. shift * k) (sym (pow-suc 2 (suc n))) in ap (λ k. k % 65536) e)

-- inside a tile nothing else is done
tile-inside : (p : List ℕ) (s : Screen) (q r : ℕ) → s.position.dot ≡ q * 8 + suc r → r < 7 → tile_ended p s ≡ s
unfolding tile_ended
tile-inside p s q r at inside =
    let whole : s.position.dot ≡ 256 → ⊥ = λ e. absurd (omega (arith, at, inside, e)) in
    let part : s.position.dot % 8 ≡ 0 → ⊥ = λ e. absurd (omega (arith, at, inside, e)) in
    if-false _ _ _ (ne_eqb _ _ whole) ∙ if-false _ _ _ (ne_eqb _ _ part)

-- the picture after n pixels of a tile
abbrev pub after_pixels : ℕ → Screen → Screen
after_pixels n s = at_dot (with_shift s (shifted n s.shift)) (s.position.dot + n)

-- the first of them, and the one after n, are quiet by themselves
pub fewer-quiet : (n m : ℕ) (s : Screen) → m ≤ n → IsQuiet n s → IsQuiet m s
fewer-quiet n m s within h = record {
  line = h.line;
  from = h.from;
  last = omega (arith, h.last, within);
  renders = h.renders;
  far = h.far;
  misses = λ d from below. h.misses d from (omega (arith, below, within));
}

pub later-quiet : (n k m shift : ℕ) (s : Screen) → k + m ≤ n → IsQuiet n s
    → IsQuiet m (at_dot (with_shift s shift) (s.position.dot + k))
later-quiet n k m shift s within h = record {
  line = h.line;
  from = omega (arith, h.from);
  last = omega (arith, h.last, within);
  renders = h.renders;
  far = h.far;
  misses = λ d from below. h.misses d (omega (arith, from)) (omega (arith, below, within));
}

-- n pixels of a tile, its last not among them
pub pixels : (n : ℕ) (p : List ℕ) (s : Screen) (q r : ℕ) → IsQuiet n s → s.position.dot ≡ q * 8 + suc r → r + n ≤ 7
    → after_dots n p s ≡ after_pixels n s
unfolding after_dots shifted
pixels zero p s q r h at inside = let e : s.position.dot ≡ s.position.dot + zero = omega arith in ap (at_dot s) e
pixels (suc n) p s q r h at inside =
    let e : Screen = after_pixels n s in
    let before : after_dots n p s ≡ e =
    pixels n p s q r (fewer-quiet (suc n) n s (omega arith) h) at (omega (arith, inside)) in
    let quiet : IsQuiet 1 e = later-quiet (suc n) n 1 (shifted n s.shift) s (omega arith) h in
    let stays : tile_ended p (with_shift e (e.shift * 2 % 65536)) ≡ with_shift e (e.shift * 2 % 65536) =
    tile-inside p (with_shift e (e.shift * 2 % 65536)) q (r + n) (omega (arith, at)) (omega (arith, inside)) in
    let on : s.position.dot + n + 1 ≡ s.position.dot + suc n = omega arith in
    ap (dot_of p) before ∙ quiet-dot p e quiet ∙ ap (λ (x : Screen). at_dot x (s.position.dot + n + 1)) stays
    ∙ ap (at_dot (with_shift s (shifted (suc n) s.shift))) on

-- a tile's last dot, and the line's
tile-ends : (p : List ℕ) (s : Screen) (q : ℕ) → s.position.dot ≡ q * 8 + 8 → (s.position.dot ≡ 256 → ⊥)
    → tile_ended p s ≡ tile_fetched p s
unfolding tile_ended
tile-ends p s q at inner =
    let end : s.position.dot % 8 ≡ 0 = omega (arith, at) in
    if-false _ _ _ (ne_eqb _ _ inner) ∙ if-true _ _ _ (eq-eqb _ _ end)

line-ends : (p : List ℕ) (s : Screen) → s.position.dot ≡ 256 → tile_ended p s ≡ line_ended p s
unfolding tile_ended
line-ends p s last = if-true _ _ _ (eq-eqb _ _ last)

pub finished-last : (e : Screen) → e.position.dot ≡ 257 → line_finished e ≡ record e { scroll = row_stepped e.scroll }
unfolding line_finished
finished-last e last = if-true _ _ _ (eq-eqb _ _ last)

pub finished-inner : (e : Screen) → (e.position.dot ≡ 257 → ⊥) → line_finished e ≡ e
unfolding line_finished
finished-inner e inner = if-false _ _ _ (ne_eqb _ _ inner)

line_ended-is : (p : List ℕ) (s : Screen) (d : ℕ)
    → at_dot (line_ended p s) d ≡ (let e = at_dot (tile_fetched p s) d in record e { scroll = row_stepped e.scroll })
unfolding line_ended
line_ended-is p s d = refl

tile-last : (p : List ℕ) (s : Screen) (q : ℕ) → s.position.dot ≡ q * 8 + 8
    → at_dot (tile_ended p s) (s.position.dot + 1) ≡ line_finished (at_dot (tile_fetched p s) (s.position.dot + 1))
tile-last p s q at = elim (cases_eq s.position.dot 256) [
  | inl last ↦
      ap (λ (e : Screen). at_dot e (s.position.dot + 1)) (line-ends p s last) ∙ line_ended-is p s (s.position.dot + 1)
      ∙ sym (finished-last (at_dot (tile_fetched p s) (s.position.dot + 1)) (omega (arith, last)))
  | inr inner ↦ ap (λ (e : Screen). at_dot e (s.position.dot + 1)) (tile-ends p s q at inner)
      ∙ sym (finished-inner (at_dot (tile_fetched p s) (s.position.dot + 1)) (λ e. inner (omega (arith, e))))
]

-- the fetch does not look at the dot
fetched-apart : (p : List ℕ) (s : Screen) (k d : ℕ)
    → at_dot (tile_fetched p (at_dot s k)) d ≡ tile_fetched p (at_dot s d)
unfolding tile_fetched fetched_row
fetched-apart p s k d = refl

-- pixels of a tile up to its last
pub pixels-last : (n : ℕ) (p : List ℕ) (s : Screen) (q r : ℕ) → IsQuiet (suc n) s → s.position.dot ≡ q * 8 + suc r
    → r + n ≡ 7
    → after_dots (suc n) p s
    ≡ line_finished (tile_fetched p (at_dot (record s { shift = shifted (suc n) s.shift }) (s.position.dot + suc n)))
unfolding after_dots shifted
pixels-last n p s q r h at whole =
    let e : Screen = after_pixels n s in
    let z : ℕ = e.shift * 2 % 65536 in
    let before : after_dots n p s ≡ e =
    pixels n p s q r (fewer-quiet (suc n) n s (omega arith) h) at (omega (arith, whole)) in
    let quiet : IsQuiet 1 e = later-quiet (suc n) n 1 (shifted n s.shift) s (omega arith) h in
    let on : s.position.dot + n + 1 ≡ s.position.dot + suc n = omega arith in
    ap (dot_of p) before ∙ quiet-dot p e quiet ∙ tile-last p (with_shift e z) q (omega (arith, at, whole))
    ∙ ap line_finished (fetched-apart p (with_shift s z) (s.position.dot + n) (s.position.dot + n + 1))
    ∙ ap (λ d. line_finished (tile_fetched p (at_dot (with_shift s z) d))) on

-- a whole tile
eight-shifted : (x : ℕ) → shifted 8 x / 256 * 256 ≡ x % 256 * 256
eight-shifted x = let e : shifted 8 x ≡ x * 256 % 65536 = shifted-is 7 x in omega (arith, e)

fetched-whole : (p : List ℕ) (s : Screen)
    → tile_fetched p (at_dot (with_shift s (shifted 8 s.shift)) (s.position.dot + 8)) ≡ tile_run p s
unfolding tile_fetched fetched_row prefetched tile_run
fetched-whole p s =
    ap (λ n. at_dot
    (record s { shift = n + fetched_row p s; scroll = (let c = s.scroll in record c { v = next_column c.v }) })
    (s.position.dot + 8)) (eight-shifted s.shift)

pub tile : (p : List ℕ) (s : Screen) (q : ℕ) → IsQuiet 8 s → s.position.dot ≡ q * 8 + 1
    → after_dots 8 p s ≡ line_finished (tile_run p s)
tile p s q h at = pixels-last 7 p s q 0 h at refl ∙ ap line_finished (fetched-whole p s)

-- one column more
columns-inside : (n v : ℕ) → v % 32 + n < 32 → columns_on n v ≡ v + n
unfolding columns_on
columns-inside n v inside = grind (arith, nat_tests, inside)

columns-out : (n v : ℕ) → 32 ≤ v % 32 + n
    → columns_on n v ≡ v / 2048 * 2048 + (1 - v / 1024 % 2) * 1024 + v / 32 % 32 * 32 + (v % 32 + n - 32)
unfolding columns_on
columns-out n v out = let past : nat_lt (v % 32 + n) 32 ≡ false = grind (arith, nat_tests, out) in if-false _ _ _ past

next-inside : (v : ℕ) → v % 32 < 31 → next_column v ≡ v + 1
unfolding next_column
next-inside v inside = let apart : v % 32 ≡ 31 → ⊥ =
    λ at. absurd (omega (arith, at, inside)) in if-false _ _ _ (ne_eqb _ _ apart)

next-out : (v : ℕ) → v % 32 ≡ 31 → next_column v ≡ v / 2048 * 2048 + (1 - v / 1024 % 2) * 1024 + v / 32 % 32 * 32
unfolding next_column
next-out v at = if-true _ _ _ (eq-eqb _ _ at)

column-after : (n v : ℕ) → v % 32 + n < 63 → next_column (columns_on n v) ≡ columns_on (suc n) v
column-after n v within = elim (cases_lt (v % 32 + n) 31) [
  | inl inside ↦
      ap next_column (columns-inside n v (omega (arith, inside))) ∙ next-inside (v + n) (omega (arith, inside))
      ∙ (let e : v + n + 1 ≡ v + suc n = omega arith in e) ∙ sym (columns-inside (suc n) v (omega (arith, inside)))
  | inr past ↦ (elim (cases_eq (v % 32 + n) 31) [
    | inl last ↦ (
        let a : (v + n) / 2048 ≡ v / 2048 = omega (arith, last) in
        let b : (v + n) / 1024 ≡ v / 1024 = omega (arith, last) in
        let c : (v + n) / 32 ≡ v / 32 = omega (arith, last) in
        let d : v % 32 + suc n - 32 ≡ 0 = omega (arith, last) in
        ap next_column (columns-inside n v (omega (arith, last))) ∙ next-out (v + n) (omega (arith, last))
        ∙ omega (arith, a, b, c, d) ∙ sym (columns-out (suc n) v (omega (arith, last))))
    | inr out ↦ (
        let j : v % 32 + suc n - 32 ≡ v % 32 + n - 32 + 1 = omega (arith, past, out) in
        let w : ℕ = v / 2048 * 2048 + (1 - v / 1024 % 2) * 1024 + v / 32 % 32 * 32 + (v % 32 + n - 32) in
        let e : w % 32 < 31 = omega (arith, within, past, out) in
        ap next_column (columns-out n v (omega (arith, past, out))) ∙ next-inside w e
        ∙ omega (arith, j) ∙ sym (columns-out (suc n) v (omega (arith, past))))
  ])
]

columns-none : (v : ℕ) → v ≡ columns_on 0 v
columns-none v = (let e : v ≡ v + 0 = omega arith in e) ∙ sym (columns-inside 0 v (omega arith))

-- what so many tiles leave
jumped-on : (n : ℕ) (p : List ℕ) (s : Screen) (z : ℕ) → s.scroll.v % 32 + n < 63
    → tile_run p (with_shift (jumped n s) z)
    ≡ with_shift (jumped (suc n) s) (tile_run p (with_shift (jumped n s) z)).shift
unfolding tile_run jumped prefetched
jumped-on n p s z within =
    let x : ℕ = (tile_run p (with_shift (jumped n s) z)).shift in
    let d : s.position.dot + 8 * n + 8 ≡ s.position.dot + 8 * suc n = omega arith in
    ap (λ (v : ℕ). at_dot (record s { shift = x; scroll = (let c = s.scroll in record c { v = v }) })
    (s.position.dot + 8 * n + 8)) (column-after n s.scroll.v within)
    ∙ ap (at_dot
    (record s { shift = x; scroll = (let c = s.scroll in record c { v = columns_on (suc n) s.scroll.v }) })) d

jumped-none : (s : Screen) → s ≡ with_shift (jumped 0 s) s.shift
unfolding jumped
jumped-none s =
    let d : s.position.dot ≡ s.position.dot + 8 * 0 = omega arith in
    ap (at_dot s) d
    ∙ ap (λ (v : ℕ). at_dot (record s { scroll = (let c = s.scroll in record c { v = v }) }) (s.position.dot + 8 * 0))
    (columns-none s.scroll.v)

pub tiles-jump : (n : ℕ) (p : List ℕ) (s : Screen) → n ≤ 31
    → tiles_run n p s ≡ with_shift (jumped n s) (tiles_run n p s).shift
unfolding tiles_run
tiles-jump zero p s within = jumped-none s
tiles-jump (suc n) p s within =
    let before : tiles_run n p s ≡ with_shift (jumped n s) (tiles_run n p s).shift =
    tiles-jump n p s (omega (arith, within)) in
    ap (tile_run p) before ∙ jumped-on n p s (tiles_run n p s).shift (omega (arith, within))
    ∙ ap (λ (x : Screen). with_shift (jumped (suc n) s) (tile_run p x).shift) (sym before)

-- the row that was in the shift register before two tiles is gone
tile-twice : (p : List ℕ) (s : Screen) (z : ℕ) → tile_run p (tile_run p (with_shift s z)) ≡ tile_run p (tile_run p s)
unfolding tile_run prefetched fetched_row
tile-twice p s z =
    let e : tile_run p (tile_run p s) ≡ tile_run p (tile_run p s) = refl in
    let gone : (z % 256 * 256 + fetched_row p s) % 256 ≡ (s.shift % 256 * 256 + fetched_row p s) % 256 = omega arith in
    ap (λ (n : ℕ). let x : Screen =
    tile_run p (tile_run p s) in with_shift x (n * 256 + fetched_row p (tile_run p s))) gone

-- so many tiles, and one more
jumped-quiet : (n m z : ℕ) (s : Screen) → 8 * n + 8 ≤ m → IsQuiet m s → IsQuiet 8 (with_shift (jumped n s) z)
unfolding jumped
jumped-quiet n m z s within h = record {
  line = h.line;
  from = omega (arith, h.from);
  last = omega (arith, h.last, within);
  renders = h.renders;
  far = h.far;
  misses = λ d from below. h.misses d (omega (arith, from)) (omega (arith, below, within));
}

pub jumped-dot : (n : ℕ) (s : Screen) → (jumped n s).position.dot ≡ s.position.dot + 8 * n
unfolding jumped
jumped-dot n s = refl

pub tile-dot : (p : List ℕ) (s : Screen) → (tile_run p s).position.dot ≡ s.position.dot + 8
unfolding tile_run
tile-dot p s = refl

pub tiles-step : (n : ℕ) (p : List ℕ) (s : Screen) (q : ℕ) → IsQuiet (8 * suc n) s → s.position.dot ≡ q * 8 + 1
    → after_dots (8 * n) p s ≡ tiles_run n p s → after_dots (8 * suc n) p s ≡ line_finished (tiles_run (suc n) p s)
unfolding tiles_run
tiles-step n p s q h at before =
    let z : ℕ = (tiles_run n p s).shift in
    let e : Screen = with_shift (jumped n s) z in
    let is : tiles_run n p s ≡ e = tiles-jump n p s (omega (arith, h.last, h.from)) in
    let quiet : IsQuiet 8 e = jumped-quiet n (8 * suc n) z s (omega arith) h in
    sym (dots-sum (8 * suc n) 8 (8 * n) p s (omega arith))
    ∙ ap (after_dots 8 p) (before ∙ is)
    ∙ tile p e (q + n) quiet (omega (arith, at, jumped-dot n s))
    ∙ ap (λ (x : Screen). line_finished (tile_run p x)) (sym is)

-- tiles of which the line's last is none
pub tiles-inner : (n : ℕ) (p : List ℕ) (s : Screen) (q : ℕ) → IsQuiet (8 * n) s → s.position.dot ≡ q * 8 + 1
    → s.position.dot + 8 * n < 257 → after_dots (8 * n) p s ≡ tiles_run n p s
unfolding tiles_run
tiles-inner zero p s q h at inner = dots-zero (8 * zero) p s (omega arith)
tiles-inner (suc n) p s q h at inner =
    let z : ℕ = (tiles_run n p s).shift in
    let e : Screen = with_shift (jumped n s) z in
    let is : tiles_run n p s ≡ e = tiles-jump n p s (omega (arith, h.last, h.from)) in
    let before : after_dots (8 * n) p s ≡ tiles_run n p s =
    tiles-inner n p s q (fewer-quiet (8 * suc n) (8 * n) s (omega arith) h) at (omega (arith, inner)) in
    let there : (tile_run p (tiles_run n p s)).position.dot ≡ s.position.dot + 8 * n + 8 =
    ap (λ (x : Screen). (tile_run p x).position.dot) is ∙ tile-dot p e ∙ ap (λ d. d + 8) (jumped-dot n s) in
    tiles-step n p s q h at before
    ∙ finished-inner (tile_run p (tiles_run n p s)) (λ last. absurd (omega (arith, there, last, inner)))

-- whole tiles, two of them or more
pub tiles : (n k : ℕ) (p : List ℕ) (s : Screen) → n ≡ suc (suc k) → IsQuiet (8 * n) s → s.position.dot % 8 ≡ 1
    → after_dots (8 * n) p s ≡ line_finished (tile_run p (tile_run p (jumped k s)))
unfolding tiles_run
tiles n k p s two h aligned =
    let q : ℕ = s.position.dot / 8 in
    let at : s.position.dot ≡ q * 8 + 1 = omega (arith, aligned) in
    let all : IsQuiet (8 * suc (suc k)) s = subst (λ i. IsQuiet (8 * i) s) two h in
    let before : after_dots (8 * suc k) p s ≡ tiles_run (suc k) p s =
    tiles-inner (suc k) p s q (fewer-quiet (8 * suc (suc k)) (8 * suc k) s (omega arith) all) at
    (omega (arith, all.last)) in
    ap (λ i. after_dots (8 * i) p s) two ∙ tiles-step (suc k) p s q all at before
    ∙ ap (λ (x : Screen). line_finished (tile_run p (tile_run p x)))
    (tiles-jump k p s (omega (arith, all.last, all.from)))
    ∙ ap line_finished (tile-twice p (jumped k s) (tiles_run k p s).shift)
