-- Visible lines of which nothing is left but Y.
use Rattle.std.proofs.Common.{◌≡◌, ℕ, zero, suc, ◌+◌, ◌-◌, ◌*◌, ◌/◌, ◌%◌, ◌<◌, ◌≤◌, Bool, true, false, ◌&&◌, ◌||◌, ◌==◌, nat_le, nat_lt, List, Option, None, slice_index, refl, ap, sym, ◌∙◌, subst, arith, lit≤, inl, inr, ◌⊎◌}
use Rattle.std.proofs.lemmas.Bool.{cases_eq, eq-eqb, ne_eqb}
use Rattle.std.proofs.lemmas.Bool.Decides.{nat_tests}
use Rattle.nj_sprite0.specs.declared.row.SpriteRow.{SpriteRow}
use Rattle.nj_sprite0.specs.Sprite.{has_bit, is_in_range, in_range_of, shows_at}
use Rattle.nj_dots.specs.declared.position.Position.{Position}
use Rattle.nj_dots.specs.declared.screen.Screen.{Screen}
use Rattle.nj_dots.specs.Screen.{IsScreen, is_rendering, shows_both_layers}
use Rattle.nj_dots.specs.Scroll.{next_column, next_tile_row, next_row, with_horizontal}
use Rattle.nj_dots.specs.Dots.{flagged, fetched_row, overflows, latched, prefetched, row_stepped, shown, is_drawn_line, drawn, moved, dot_of, after_dots}
use Rattle.nj_dots.specs.Laws.{repeated}
use Rattle.nj_dots.proofs.Moving.{if-true, if-false}
use Rattle.nj_catchup.specs.Idle.{is_idle_shown, is_idle, is_cleared, at_dot}
use Rattle.nj_catchup.specs.Tiles.{may_hit, IsQuiet, tile_run, tiles_run, line_finished}
use Rattle.nj_catchup.specs.Skip.{IsLineEnd, IsPlain, lines_on, line_prepared}
use Rattle.nj_catchup.proofs.Calm.{flagged-apart}
use Rattle.nj_catchup.proofs.Idling.{raised-far, moved-along, idle-dots}
use Rattle.nj_catchup.proofs.Tiles.{above, drawn-line, finished-last}
use Rattle.nj_catchup.proofs.Lines.{line-tiles}
use Rattle.nj_catchup.proofs.Ends.{line-ends}
use Rattle.nj_catchup.proofs.Misses.{and-false}
use Rattle.nj_catchup.proofs.Away.{NoRow, none-latched, there-shown}
use Rattle.nj_catchup.proofs.Sums.{dots-sum, dots-one}

-- v's fine Y, nametable down and coarse Y, all that the step of Y and the copy of the horizontal bits look at and leave
record SameRows (a b : ℕ) : Type 0 where
  high : a / 2048 ≡ b / 2048
  low : a / 32 % 32 ≡ b / 32 % 32

rows-refl : (a : ℕ) → SameRows a a
rows-refl a = record { high = refl; low = refl }

rows-trans : (a b c : ℕ) → SameRows a b → SameRows b c → SameRows a c
rows-trans a b c h k = record { high = h.high ∙ k.high; low = h.low ∙ k.low }

column-in : (v : ℕ) → (v % 32 ≡ 31 → ⊥) → next_column v ≡ v + 1
unfolding next_column
column-in v inside = if-false _ _ _ (ne_eqb _ _ inside)

column-out : (v : ℕ) → v % 32 ≡ 31 → next_column v ≡ v / 2048 * 2048 + (1 - v / 1024 % 2) * 1024 + v / 32 % 32 * 32
unfolding next_column
column-out v at = if-true _ _ _ (eq-eqb _ _ at)

rows-column : (v : ℕ) → SameRows v (next_column v)
rows-column v = elim (cases_eq (v % 32) 31) [
  | inl last ↦ (let e = column-out v last in record { high = omega (arith, e); low = omega (arith, e) })
  | inr inner ↦ (let e = column-in v inner in record { high = omega (arith, e, inner); low = omega (arith, e, inner) })
]

rows-horizontal : (t v : ℕ) → SameRows v (with_horizontal t v)
unfolding with_horizontal
rows-horizontal t v = record { high = omega arith; low = omega arith }

with-rows : (t a b : ℕ) → SameRows a b → with_horizontal t a ≡ with_horizontal t b
unfolding with_horizontal
with-rows t a b h =
    ap (λ n. n * 2048 + t / 1024 % 2 * 1024 + a / 32 % 32 * 32 + t % 32) h.high
    ∙ ap (λ n. b / 2048 * 2048 + t / 1024 % 2 * 1024 + n * 32 + t % 32) h.low

-- the step of Y
row-fine : (v : ℕ) → (v / 4096 % 8 ≡ 7 → ⊥) → next_row v ≡ v + 4096
unfolding next_row
row-fine v inner = if-false _ _ _ (ne_eqb _ _ inner)

row-last : (v : ℕ) → v / 4096 % 8 ≡ 7 → v / 32 % 32 ≡ 29
    → next_row v ≡ (1 - v / 2048 % 2) * 2048 + v / 1024 % 2 * 1024 + v % 32
unfolding next_row next_tile_row
row-last v fine at = if-true _ _ _ (eq-eqb _ _ fine) ∙ if-true _ _ _ (eq-eqb _ _ at)

row-out : (v : ℕ) → v / 4096 % 8 ≡ 7 → v / 32 % 32 ≡ 31 → next_row v ≡ v / 1024 % 4 * 1024 + v % 32
unfolding next_row next_tile_row
row-out v fine at =
    let apart : v / 32 % 32 ≡ 29 → ⊥ = λ e. absurd (omega (arith, e, at)) in
    if-true _ _ _ (eq-eqb _ _ fine) ∙ if-false _ _ _ (ne_eqb _ _ apart) ∙ if-true _ _ _ (eq-eqb _ _ at)

row-inner : (v : ℕ) → v / 4096 % 8 ≡ 7 → (v / 32 % 32 ≡ 29 → ⊥) → (v / 32 % 32 ≡ 31 → ⊥) → next_row v ≡ v % 4096 + 32
unfolding next_row next_tile_row
row-inner v fine a b = if-true _ _ _ (eq-eqb _ _ fine) ∙ if-false _ _ _ (ne_eqb _ _ a) ∙ if-false _ _ _ (ne_eqb _ _ b)

rows-row : (a b : ℕ) → SameRows a b → SameRows (next_row a) (next_row b)
rows-row a b h = elim (cases_eq (a / 4096 % 8) 7) [
  | inl fine ↦ (
      let fine_b : b / 4096 % 8 ≡ 7 = omega (arith, fine, h.high) in
      elim (cases_eq (a / 32 % 32) 29) [
        | inl last ↦ (
            let e = row-last a fine last in
            let f = row-last b fine_b (sym h.low ∙ last) in
            record { high = omega (arith, e, f, h.high); low = omega (arith, e, f) })
        | inr inner ↦ (elim (cases_eq (a / 32 % 32) 31) [
          | inl out ↦ (
              let e = row-out a fine out in
              let f = row-out b fine_b (sym h.low ∙ out) in
              record { high = omega (arith, e, f, h.high); low = omega (arith, e, f) })
          | inr inside ↦ (
              let e = row-inner a fine inner inside in
              let f = row-inner b fine_b (λ at. inner (h.low ∙ at)) (λ at. inside (h.low ∙ at)) in
              record { high = omega (arith, e, f, h.high, h.low, inside); low = omega (arith, e, f, h.low, inside) })
        ])
      ])
  | inr inner ↦ (
      let e = row-fine a inner in
      let f = row-fine b (λ at. inner (omega (arith, at, h.high))) in
      record { high = omega (arith, e, f, h.high); low = omega (arith, e, f, h.low) })
]

rows-repeated : (n a b : ℕ) → SameRows a b → SameRows (repeated n next_row a) (repeated n next_row b)
unfolding repeated
rows-repeated zero a b h = h
rows-repeated (suc n) a b h = rows-row (repeated n next_row a) (repeated n next_row b) (rows-repeated n a b h)

repeated-on : (n v : ℕ) → repeated n next_row (next_row v) ≡ repeated (suc n) next_row v
unfolding repeated
repeated-on zero v = refl
repeated-on (suc n) v = ap next_row (repeated-on n v)

-- a picture with what a line without hits leaves: place, v, shift register, latches
abbrev with_line : Screen → Position → ℕ → ℕ → ℕ → Option SpriteRow → Bool → Screen
with_line s q v shift address row overflow = record s {
  position = q;
  scroll = (let c = s.scroll in record c { v = v });
  shift = shift;
  oam_address = address;
  sprite_row = row;
  sprite_overflow = overflow;
}

-- nothing else is left, and v is as before but for its horizontal bits
record Kin (s e : Screen) : Type 0 where
  same : e ≡ with_line s e.position e.scroll.v e.shift e.oam_address e.sprite_row e.sprite_overflow
  rows : SameRows s.scroll.v e.scroll.v

kin-trans : (a b c : Screen) → Kin a b → Kin b c → Kin a c
kin-trans a b c h k = record {
  same = k.same
      ∙ ap (λ (m : Screen). with_line m c.position c.scroll.v c.shift c.oam_address c.sprite_row c.sprite_overflow)
      h.same;
  rows = rows-trans a.scroll.v b.scroll.v c.scroll.v h.rows k.rows;
}

kin-latched : (p : List ℕ) (s : Screen) → Kin s (latched p s)
unfolding latched
kin-latched p s = record { same = refl; rows = rows-horizontal s.scroll.t s.scroll.v }

kin-prefetched : (p : List ℕ) (s : Screen) → Kin s (prefetched p s)
unfolding prefetched
kin-prefetched p s = record { same = refl; rows = rows-column s.scroll.v }

kin-placed : (s : Screen) (q : Position) → Kin s (record s { position = q })
kin-placed s q = record { same = refl; rows = rows-refl s.scroll.v }

kin-tile : (p : List ℕ) (s : Screen) → Kin s (tile_run p s)
unfolding tile_run
kin-tile p s =
    let e : Screen = prefetched p s in
    kin-trans s e (tile_run p s) (kin-prefetched p s) (record { same = refl; rows = rows-refl e.scroll.v })

kin-tiles : (n : ℕ) (p : List ℕ) (s : Screen) → Kin s (tiles_run n p s)
unfolding tiles_run
kin-tiles zero p s = record { same = refl; rows = rows-refl s.scroll.v }
kin-tiles (suc n) p s = kin-trans s (tiles_run n p s) _ (kin-tiles n p s) (kin-tile p (tiles_run n p s))

kin-prepared : (p : List ℕ) (s : Screen) → Kin s (line_prepared p s)
unfolding line_prepared
kin-prepared p s =
    let a : Screen = latched p s in
    let b : Screen = prefetched p a in
    let c : Screen = prefetched p b in
    kin-trans s c _ (kin-trans s b c (kin-trans s a b (kin-latched p s) (kin-prefetched p a)) (kin-prefetched p b))
    (kin-placed c (let q = c.position in record q { dot = 337 }))

-- dot 257, the idle dots behind it, and the two dots that fetch a tile
latch-dot : (p : List ℕ) (s : Screen) → IsLineEnd s → dot_of p s ≡ at_dot (latched p s) 258
unfolding dot_of drawn latched
latch-dot p s h =
    ap (λ e. moved (drawn p (flagged e))) (raised-far s h.far)
    ∙ ap (λ e. moved (drawn p e)) (flagged-apart s (above 241 s h.line (lit≤ tt)) (above 261 s h.line (lit≤ tt)))
    ∙ ap moved (if-true _ _ _ (drawn-line s.position.line h.line) ∙ if-true _ _ _ h.renders ∙ there-shown p s h.dot)
    ∙ moved-along (latched p s) (omega (arith, h.dot)) ∙ ap (at_dot (latched p s)) (ap (λ d. d + 1) h.dot)

-- a picture at such dots
record IsBehind (s : Screen) : Type 0 where
  line : s.position.line < 240
  renders : is_rendering s.mask ≡ true
  far : s.near ≡ false
  address : s.oam_address ≡ 0

cleared-is : (s : Screen) → IsBehind s → is_cleared s ≡ true
unfolding is_cleared
cleared-is s h = grind (arith, nat_tests, h.line, h.address)

idle-is : (d : ℕ) → 258 ≤ d → d ≤ 335 → (d ≡ 328 → ⊥) → is_idle true true true d ≡ true
unfolding is_idle is_idle_shown
idle-is d from last apart = grind (arith, nat_tests, from, last, apart)

idle-behind : (n : ℕ) (p : List ℕ) (s : Screen) → IsBehind s → 258 ≤ s.position.dot → s.position.dot + n ≤ 336
    → (s.position.dot + n ≤ 328) ⊎ (328 < s.position.dot)
    → after_dots n p s ≡ at_dot s (s.position.dot + n)
idle-behind n p s h from last aside =
    idle-dots n p s h.far
    (λ d after before. ap (λ b. is_idle b (is_rendering s.mask) (is_cleared s) d) (drawn-line s.position.line h.line)
    ∙ ap (λ b. is_idle true b (is_cleared s) d) h.renders ∙ ap (λ b. is_idle true true b d) (cleared-is s h)
    ∙ idle-is d (omega (arith, from, after)) (omega (arith, before, last))
    (λ at. (elim aside [
      | inl a ↦ absurd (omega (arith, at, a, before))
      | inr b ↦
          absurd (omega (arith, at, b, after))
    ])))

record Fetches (d : ℕ) : Type 0 where
  tile : (nat_le 1 d && nat_le d 256) ≡ false
  latch : (d == 257) ≡ false
  fetch : (nat_le 258 d && nat_le d 320) ≡ false
  ahead : (d == 328 || d == 336) ≡ true

fetches : (d : ℕ) → (d ≡ 328) ⊎ (d ≡ 336) → Fetches d
fetches d at = elim at [
  | inl a ↦
      record {
        tile = grind (arith, nat_tests, a);
        latch = grind (arith, nat_tests, a);
        fetch = grind (arith, nat_tests, a);
        ahead = grind (arith, nat_tests, a);
      }
  | inr b ↦
      record {
        tile = grind (arith, nat_tests, b);
        latch = grind (arith, nat_tests, b);
        fetch = grind (arith, nat_tests, b);
        ahead = grind (arith, nat_tests, b);
      }
]

fetch-shown : (p : List ℕ) (s : Screen) → (s.position.dot ≡ 328) ⊎ (s.position.dot ≡ 336) → shown p s ≡ prefetched p s
unfolding shown
fetch-shown p s at =
    let h : Fetches s.position.dot = fetches s.position.dot at in
    if-false _ _ _ h.tile ∙ if-false _ _ _ h.latch ∙ if-false _ _ _ h.fetch ∙ if-true _ _ _ h.ahead

fetch-dot : (p : List ℕ) (s : Screen) → IsBehind s → (s.position.dot ≡ 328) ⊎ (s.position.dot ≡ 336)
    → dot_of p s ≡ at_dot (prefetched p s) (s.position.dot + 1)
unfolding dot_of drawn prefetched
fetch-dot p s h at =
    let last : s.position.dot ≤ 338 = elim at [ inl a ↦ omega (arith, a) | inr b ↦ omega (arith, b) ] in
    ap (λ e. moved (drawn p (flagged e))) (raised-far s h.far)
    ∙ ap (λ e. moved (drawn p e)) (flagged-apart s (above 241 s h.line (lit≤ tt)) (above 261 s h.line (lit≤ tt)))
    ∙ ap moved (if-true _ _ _ (drawn-line s.position.line h.line) ∙ if-true _ _ _ h.renders ∙ fetch-shown p s at)
    ∙ moved-along (prefetched p s) last

fetch-apart : (p : List ℕ) (s : Screen) (d : ℕ) → prefetched p (at_dot s d) ≡ at_dot (prefetched p s) d
unfolding prefetched fetched_row
fetch-apart p s d = refl

behind-latched : (p : List ℕ) (s : Screen) → IsLineEnd s → IsBehind (at_dot (latched p s) 258)
unfolding latched
behind-latched p s h = record { line = h.line; renders = h.renders; far = h.far; address = refl }

behind-fetched : (p : List ℕ) (s : Screen) (d : ℕ) → IsBehind s → IsBehind (at_dot (prefetched p s) d)
unfolding prefetched
behind-fetched p s d h = record { line = h.line; renders = h.renders; far = h.far; address = h.address }

behind-at : (s : Screen) (d : ℕ) → IsBehind s → IsBehind (at_dot s d)
behind-at s d h = record { line = h.line; renders = h.renders; far = h.far; address = h.address }

-- the line's end
pub line-end : (p : List ℕ) (s : Screen) → IsLineEnd s → after_dots 80 p s ≡ line_prepared p s
unfolding line_prepared
line-end p s h =
    let a : Screen = at_dot (latched p s) 258 in
    let ha : IsBehind a = behind-latched p s h in
    let b : Screen = at_dot a 328 in
    let c : Screen = at_dot (prefetched p a) 329 in
    let hc : IsBehind c = behind-fetched p a 329 ha in
    let d : Screen = at_dot c 336 in
    let one : after_dots 1 p s ≡ a = dots-one p s ∙ latch-dot p s h in
    let two : after_dots 70 p a ≡ b = idle-behind 70 p a ha (lit≤ tt) (lit≤ tt) (inl (lit≤ tt)) in
    let three : after_dots 1 p b ≡ c =
    dots-one p b ∙ fetch-dot p b (behind-at a 328 ha) (inl refl)
    ∙ ap (λ (e : Screen). at_dot e 329) (fetch-apart p a 328) in
    let four : after_dots 7 p c ≡ d = idle-behind 7 p c hc (lit≤ tt) (lit≤ tt) (inr (lit≤ tt)) in
    let five : after_dots 1 p d ≡ at_dot (prefetched p c) 337 =
    dots-one p d ∙ fetch-dot p d (behind-at c 336 hc) (inr refl)
    ∙ ap (λ (e : Screen). at_dot e 337) (fetch-apart p c 336) in
    let last : at_dot (prefetched p c) 337 ≡ at_dot (prefetched p (prefetched p (latched p s))) 337 =
    ap (λ (e : Screen). at_dot e 337) (fetch-apart p (prefetched p a) 329)
    ∙ ap (λ (e : Screen). at_dot (prefetched p e) 337) (fetch-apart p (latched p s) 258)
    ∙ ap (λ (e : Screen). at_dot e 337) (fetch-apart p (prefetched p (latched p s)) 258) in
    sym (dots-sum 80 1 79 p s refl) ∙ ap (after_dots 1 p)
    (sym (dots-sum 79 7 72 p s refl) ∙ ap (after_dots 7 p)
    (sym (dots-sum 72 1 71 p s refl) ∙ ap (after_dots 1 p)
    (sym (dots-sum 71 70 1 p s refl) ∙ ap (after_dots 70 p) one ∙ two) ∙ three) ∙ four) ∙ five ∙ last

-- a whole line without a row, from dot 257 to dot 257 of the next
next_line : List ℕ → Screen → Screen
next_line p s = record (line_prepared p s) { position = record { line = s.position.line + 1; dot = 1 } }

prepared-at : (p : List ℕ) (s : Screen) → (line_prepared p s).position ≡ record { line = s.position.line; dot = 337 }
unfolding line_prepared prefetched latched
prepared-at p s = refl

prepared-mask : (p : List ℕ) (s : Screen) → (line_prepared p s).mask ≡ s.mask
unfolding line_prepared prefetched latched
prepared-mask p s = refl

prepared-near : (p : List ℕ) (s : Screen) → (line_prepared p s).near ≡ s.near
unfolding line_prepared prefetched latched
prepared-near p s = refl

prepared-row : (p : List ℕ) (s : Screen) → (line_prepared p s).sprite_row ≡ (latched p s).sprite_row
unfolding line_prepared prefetched latched
prepared-row p s = refl

prepared-overflow : (p : List ℕ) (s : Screen)
    → (line_prepared p s).sprite_overflow ≡ (s.sprite_overflow || overflows s.oam s.control s.position.line)
unfolding line_prepared prefetched latched
prepared-overflow p s = refl

no-row : (p : List ℕ) (s : Screen) (n : ℕ) → IsPlain (suc n) s → (line_prepared p s).sprite_row ≡ None
no-row p s n h =
    let none : NoRow (latched p s) = none-latched p s (h.row s.position.line (omega arith) (omega arith)) in
    prepared-row p s ∙ none.row

and-none : (a : Bool) (row : Option SpriteRow) (x : ℕ) → row ≡ None → (a && shows_at row x) ≡ false
and-none true row x none = ap (λ r. shows_at r x) none
and-none false row x none = refl

quiet-next : (p : List ℕ) (s : Screen) (n : ℕ) → IsLineEnd s → IsPlain (suc n) s → IsQuiet 256 (next_line p s)
unfolding next_line may_hit
quiet-next p s n h plain =
    let e : Screen = line_prepared p s in
    record {
      line = omega (arith, plain.within);
      from = lit≤ tt;
      last = lit≤ tt;
      renders = ap is_rendering (prepared-mask p s) ∙ h.renders;
      far = prepared-near p s ∙ h.far;
      misses = λ d from below. and-none (shows_both_layers e.mask) e.sprite_row (d - 1) (no-row p s n plain);
    }

next-line : (p : List ℕ) (s : Screen) (n : ℕ) → IsLineEnd s → IsPlain (suc n) s
    → after_dots 341 p s ≡ line_finished (tiles_run 32 p (next_line p s))
unfolding next_line
next-line p s n h plain =
    let e : Screen = line_prepared p s in
    let at : e.position ≡ record { line = s.position.line; dot = 337 } = prepared-at p s in
    let line : e.position.line ≡ s.position.line = ap (λ (q : Position). q.line) at in
    let dot : e.position.dot ≡ 337 = ap (λ (q : Position). q.dot) at in
    let quiet : IsQuiet 256 (next_line p s) = quiet-next p s n h plain in
    sym (dots-sum 341 256 85 p s refl) ∙ ap (after_dots 256 p)
    (sym (dots-sum 85 5 80 p s refl) ∙ ap (after_dots 5 p) (line-end p s h)
    ∙ sym (line-ends 5 3 p e (prepared-near p s
    ∙ h.far) (omega (arith, line, h.line)) (omega (arith, dot)) (omega (arith, dot)) refl)
    ∙ ap (λ l. record e { position = record { line = l + 1; dot = 1 } }) line)
    ∙ line-tiles 31 p (next_line p s) refl quiet refl

-- what it leaves
record IsNextLine (s e : Screen) : Type 0 where
  same : e ≡ with_line s (record { line = s.position.line + 1; dot = 257 }) e.scroll.v e.shift e.oam_address
      e.sprite_row s.sprite_overflow
  rows : SameRows (next_row s.scroll.v) e.scroll.v

tiles-at : (n : ℕ) (p : List ℕ) (s : Screen)
    → (tiles_run n p s).position ≡ record { line = s.position.line; dot = s.position.dot + 8 * n }
unfolding tiles_run tile_run prefetched
tiles-at zero p s = let e : s.position.dot ≡ s.position.dot + 8 * zero =
    omega arith in (λ i. record { line = s.position.line; dot = e i })
tiles-at (suc n) p s =
    let e : s.position.dot + 8 * n + 8 ≡ s.position.dot + 8 * suc n = omega arith in
    ap (λ (q : Position). record { line = q.line; dot = q.dot + 8 }) (tiles-at n p s)
    ∙ (λ i. record { line = s.position.line; dot = e i })

tiles-overflow : (n : ℕ) (p : List ℕ) (s : Screen) → (tiles_run n p s).sprite_overflow ≡ s.sprite_overflow
unfolding tiles_run tile_run prefetched
tiles-overflow zero p s = refl
tiles-overflow (suc n) p s = tiles-overflow n p s

line-leaves : (p : List ℕ) (s : Screen) (n : ℕ) → IsLineEnd s → IsPlain (suc n) s → IsNextLine s (after_dots 341 p s)
unfolding next_line
line-leaves p s n h plain =
    let e : Screen = line_prepared p s in
    let f : Screen = next_line p s in
    let w : Screen = tiles_run 32 p f in
    let kin : Kin s w =
    kin-trans s f w
    (kin-trans s e f (kin-prepared p s) (kin-placed e (record { line = s.position.line + 1; dot = 1 })))
    (kin-tiles 32 p f) in
    let at : w.position ≡ record { line = s.position.line + 1; dot = 257 } = tiles-at 32 p f in
    let over : w.sprite_overflow ≡ s.sprite_overflow =
    tiles-overflow 32 p f ∙ prepared-overflow p s ∙ plain.overflow s.position.line (omega arith) (omega arith) in
    let is : after_dots 341 p s ≡ record w { scroll = row_stepped w.scroll } =
    next-line p s n h plain ∙ finished-last w (ap (λ (q : Position). q.dot) at) in
    let left : IsNextLine s (record w { scroll = row_stepped w.scroll }) = record {
      same = ap (λ (x : Screen). record x { scroll = row_stepped x.scroll }) kin.same
          ∙ ap (λ q. with_line s q (next_row w.scroll.v) w.shift w.oam_address w.sprite_row w.sprite_overflow) at
          ∙ ap (with_line s (record { line = s.position.line + 1; dot = 257 }) (next_row w.scroll.v) w.shift
          w.oam_address w.sprite_row) over;
      rows = rows-row s.scroll.v w.scroll.v kin.rows;
    } in
    subst (IsNextLine s) (sym is) left

-- the end of a line does not look at what a line before it left in the shift register, the latches and the horizontal
-- bits
twice-apart : (p : List ℕ) (s : Screen) (z d : ℕ)
    → at_dot (prefetched p (prefetched p (record s { shift = z }))) d ≡ at_dot (prefetched p (prefetched p s)) d
unfolding prefetched fetched_row
twice-apart p s z d =
    let e : (z % 256 * 256 + fetched_row p s) % 256 * 256 ≡ (s.shift % 256 * 256 + fetched_row p s) % 256 * 256 =
    omega arith in
    ap (λ n. at_dot
    (record s {
      shift =
          n + fetched_row p (record s { scroll = (let c = s.scroll in record c { v = next_column c.v }) });
      scroll =
          (let c = s.scroll in record c { v = next_column (next_column c.v) });
    }) d) e

latched-apart : (p : List ℕ) (s : Screen) (v z address : ℕ) (row : Option SpriteRow) → SameRows s.scroll.v v
    → latched p (with_line s s.position v z address row s.sprite_overflow) ≡ record (latched p s) { shift = z }
unfolding latched
latched-apart p s v z address row h =
    ap (λ n. record (latched p s) { shift = z; scroll = (let c = s.scroll in record c { v = n }) })
    (sym (with-rows s.scroll.t s.scroll.v v h))

prepared-apart : (p : List ℕ) (s : Screen) (v z address : ℕ) (row : Option SpriteRow) → SameRows s.scroll.v v
    → line_prepared p (with_line s s.position v z address row s.sprite_overflow) ≡ line_prepared p s
unfolding line_prepared
prepared-apart p s v z address row h =
    ap (λ e. at_dot (prefetched p (prefetched p e)) 337) (latched-apart p s v z address row h)
    ∙ twice-apart p (latched p s) z 337

-- lines and then the end of one
end-next : (s e : Screen) (n : ℕ) → IsLineEnd s → IsPlain (suc n) s → IsNextLine s e → IsLineEnd e
end-next s e n h plain next = record {
  line = (let l : e.position.line ≡ s.position.line + 1 =
      ap (λ (x : Screen). x.position.line) next.same in omega (arith, l, plain.within));
  dot = ap (λ (x : Screen). x.position.dot) next.same;
  renders = ap (λ (x : Screen). is_rendering x.mask) next.same ∙ h.renders;
  far = ap (λ (x : Screen). x.near) next.same ∙ h.far;
}

none-on : (s : Screen) → s ≡ lines_on 0 s
unfolding lines_on repeated
none-on s = let e : s.position.line ≡ s.position.line + 0 =
    omega arith in (λ i. record s { position = (let q = s.position in record q { line = e i }) })

plain-next : (s e : Screen) (n : ℕ) → IsPlain (suc n) s → IsNextLine s e → IsPlain n e
plain-next s e n plain next =
    let line : e.position.line ≡ s.position.line + 1 = ap (λ (x : Screen). x.position.line) next.same in
    record {
      within = omega (arith, line, plain.within);
      row = λ l from below. ap (λ (x : Screen). is_in_range (slice_index x.oam 0) l (has_bit x.control 5)) next.same
          ∙ plain.row l (omega (arith, from, line)) (omega (arith, below, line));
      overflow = λ l from below. ap (λ (x : Screen). x.sprite_overflow || overflows x.oam x.control l) next.same
          ∙ plain.overflow l (omega (arith, from, line)) (omega (arith, below, line))
          ∙ sym (ap (λ (x : Screen). x.sprite_overflow) next.same);
    }

lines-next : (n : ℕ) (p : List ℕ) (s e : Screen) → IsLineEnd s → IsNextLine s e
    → line_prepared p (lines_on n e) ≡ line_prepared p (lines_on (suc n) s)
unfolding lines_on
lines-next n p s e h next =
    let f : Screen = lines_on (suc n) s in
    let v : ℕ = repeated n next_row e.scroll.v in
    let on : s.position.line + 1 + n ≡ s.position.line + suc n = omega arith in
    let rows : SameRows (repeated (suc n) next_row s.scroll.v) v =
    subst (λ w. SameRows w v) (repeated-on n s.scroll.v) (rows-repeated n (next_row s.scroll.v) e.scroll.v next.rows) in
    ap (λ (x : Screen). line_prepared p
    (record x {
      position = (let q = x.position in record q { line = q.line + n });
      scroll = (let c = x.scroll in record c { v = v });
    })) next.same
    ∙ (λ i. line_prepared p
    (with_line s (record { line = on i; dot = sym h.dot i }) v e.shift e.oam_address e.sprite_row s.sprite_overflow))
    ∙ prepared-apart p f v e.shift e.oam_address e.sprite_row rows

pub lines-run : (n : ℕ) (p : List ℕ) (s : Screen) → IsLineEnd s → IsPlain n s
    → after_dots (n * 341 + 80) p s ≡ line_prepared p (lines_on n s)
lines-run zero p s h plain =
    let none : zero * 341 + 80 ≡ 80 = omega arith in
    ap (λ k. after_dots k p s) none ∙ line-end p s h ∙ ap (line_prepared p) (none-on s)
lines-run (suc n) p s h plain =
    let e : Screen = after_dots 341 p s in
    let next : IsNextLine s e = line-leaves p s n h plain in
    sym (dots-sum (suc n * 341 + 80) (n * 341 + 80) 341 p s (omega arith))
    ∙ lines-run n p e (end-next s e n h plain next) (plain-next s e n plain next) ∙ lines-next n p s e h next

-- what the code of it asks for
pub fits-on : (n : ℕ) (s e : Screen) → e ≡ lines_on n s → IsScreen s → s.position.line + n < 240 → IsScreen e
unfolding lines_on
fits-on n s e is fits within =
    let there : IsScreen (lines_on n s) =
    record {
      placed = record { line = omega (arith, within); dot = fits.placed.dot };
      fine_x = fits.fine_x;
      oam = fits.oam;
      vram = fits.vram;
    } in
    subst IsScreen (sym is) there

pub end-on : (n : ℕ) (s e : Screen) → e ≡ lines_on n s → IsLineEnd s → s.position.line + n < 240 → IsLineEnd e
unfolding lines_on
end-on n s e is h within =
    let there : IsLineEnd (lines_on n s) = record { line = within; dot = h.dot; renders = h.renders; far = h.far } in
    subst IsLineEnd (sym is) there

pub rows-begun : (v : ℕ) → v ≡ repeated 0 next_row v
unfolding repeated
rows-begun v = refl

pub rows-more : (n v : ℕ) → next_row (repeated n next_row v) ≡ repeated (n + 1) next_row v
unfolding repeated
rows-more n v = let e : suc n ≡ n + 1 = omega arith in ap (λ k. repeated k next_row v) e

pub prepared-is : (p : List ℕ) (s a b c : Screen) → IsLineEnd s → a ≡ dot_of p s → b ≡ prefetched p a
    → c ≡ prefetched p b → at_dot c 337 ≡ line_prepared p s
unfolding line_prepared prefetched fetched_row
prepared-is p s a b c h ha hb hc =
    ap (λ (e : Screen). at_dot e 337) (hc ∙ ap (prefetched p) (hb ∙ ap (prefetched p) (ha ∙ latch-dot p s h)))

or-false : (b : Bool) → (b || false) ≡ b
or-false true = refl
or-false false = refl

few-over : (oam : List ℕ) (control line : ℕ) → in_range_of oam line (has_bit control 5) < 9
    → overflows oam control line ≡ false
unfolding overflows
few-over oam control line few =
    let many : nat_le 9 (in_range_of oam line (has_bit control 5)) ≡ false = grind (arith, nat_tests, few) in
    and-false (nat_lt line 240) _ many

pub few-keep : (flag : Bool) (oam : List ℕ) (control line : ℕ) → in_range_of oam line (has_bit control 5) < 9
    → (flag || overflows oam control line) ≡ flag
few-keep flag oam control line few = ap (λ b. flag || b) (few-over oam control line few) ∙ or-false flag
