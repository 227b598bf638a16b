-- Which dots and accesses change the vertical blank flag, the hit flag and `near`.
use Rattle.std.proofs.Common.{◌≡◌, ℕ, ◌≤◌, Bool, true, false, not, ◌||◌, ◌&&◌, ◌==◌, if◌then◌else◌, List, refl, ap, sym, ◌∙◌, arith, nat_le, inl, inr}
use Rattle.std.proofs.lemmas.Bool.{cases_Bool, true≢false, eqb-true}
use Rattle.std.proofs.lemmas.Bool.Decides.{nat_tests}
use Rattle.nj_dots.specs.declared.screen.Screen.{Screen}
use Rattle.nj_dots.specs.Screen.{is_next, shows_left_columns}
use Rattle.nj_dots.specs.Dots.{raised, blank_begun, blank_ended, flagged, is_hit_pixel, is_shown_column, pixel, tile_fetched, line_ended, tile_ended, latched, sprites_fetched, prefetched, shown, emptied, hidden, drawn, moved, dot_of}
use Rattle.nj_dots.specs.Registers.{after_status, after_oam_read, after_data_read, after_read, put_control, put_mask, put_nothing, put_oam_address, put_oam, put_scroll, put_address, put_data, after_write}
use Rattle.nj_dots.specs.Laws.{IsNext, IsHitPlace}
use Rattle.nj_dots.proofs.Stays.{Stays, stays-drawn}
use Rattle.nj_dots.proofs.Timing.{before_move, dot_of-moved, Moves, moves-moved, Flags, flags-flagged_raised}
use Rattle.nj_dots.proofs.Moving.{if-true, if-false, next-is, is-next}

-- the flags after a dot are those that its flag step left
pub blank-dot : (p : List ℕ) (s : Screen) → (dot_of p s).vertical_blank ≡ (flagged (raised s)).vertical_blank
unfolding before_move
blank-dot p s =
    let moves : Moves (before_move p s) (moved (before_move p s)) = moves-moved (before_move p s) in
    let stays : Stays (flagged (raised s)) (before_move p s) = stays-drawn p (flagged (raised s)) in
    ap (λ e. e.vertical_blank) (dot_of-moved p s ∙ moves.same) ∙ ap (λ e. e.vertical_blank) stays.same

pub hit-dot : (p : List ℕ) (s : Screen) → (dot_of p s).sprite_zero_hit ≡ (flagged (raised s)).sprite_zero_hit
unfolding before_move
hit-dot p s =
    let moves : Moves (before_move p s) (moved (before_move p s)) = moves-moved (before_move p s) in
    let stays : Stays (flagged (raised s)) (before_move p s) = stays-drawn p (flagged (raised s)) in
    ap (λ e. e.sprite_zero_hit) (dot_of-moved p s ∙ moves.same) ∙ ap (λ e. e.sprite_zero_hit) stays.same

-- raising a hit leaves position and vertical blank as they were
is_next-raised : (l d : ℕ) (s : Screen) → is_next l d (raised s) ≡ is_next l d s
unfolding raised is_next
is_next-raised l d s = refl

-- vertical blank begins at dot (241,1)
pub blank-begins : (p : List ℕ) (s : Screen) → is_next 241 1 s ≡ true
    → (dot_of p s).vertical_blank ≡ (s.vertical_blank || not s.hold)
unfolding flagged blank_begun raised
blank-begins p s at =
    blank-dot p s
    ∙ ap (λ e. e.vertical_blank)
    (if-true (is_next 241 1 (raised s)) (blank_begun (raised s)) _ (is_next-raised 241 1 s ∙ at))

-- it ends at dot (261,1)
pub blank-ends : (p : List ℕ) (s : Screen) → is_next 241 1 s ≡ false → is_next 261 1 s ≡ true
    → (dot_of p s).vertical_blank ≡ false
unfolding flagged blank_ended raised
blank-ends p s apart at =
    blank-dot p s
    ∙ ap (λ e. e.vertical_blank) (if-false (is_next 241 1 (raised s)) _ _ (is_next-raised 241 1 s ∙ apart)
    ∙ if-true (is_next 261 1 (raised s)) (blank_ended (raised s)) _ (is_next-raised 261 1 s ∙ at))

-- at every other dot it stays
pub blank-stays : (p : List ℕ) (s : Screen) → is_next 241 1 s ≡ false → is_next 261 1 s ≡ false
    → (dot_of p s).vertical_blank ≡ s.vertical_blank
unfolding flagged raised
blank-stays p s apart far =
    blank-dot p s
    ∙ ap (λ e. e.vertical_blank) (if-false (is_next 241 1 (raised s)) _ _ (is_next-raised 241 1 s ∙ apart)
    ∙ if-false (is_next 261 1 (raised s)) _ (raised s) (is_next-raised 261 1 s ∙ far))

-- the two dots are not one
two-dots : (s : Screen) → is_next 261 1 s ≡ true → is_next 241 1 s ≡ false
unfolding is_next
two-dots s at = grind (arith, nat_tests, at)

pub blank-risen : (p : List ℕ) (s : Screen) → s.vertical_blank ≡ false → (dot_of p s).vertical_blank ≡ true
    → IsNext 241 1 s
blank-risen p s low high = elim (cases_Bool (is_next 241 1 s)) [
  | inl at ↦ next-is 241 1 s at
  | inr apart ↦ (elim (cases_Bool (is_next 261 1 s)) [
    | inl at ↦ absurd (true≢false (sym high ∙ blank-ends p s apart at))
    | inr far ↦ absurd (true≢false (sym high ∙ blank-stays p s apart far ∙ low))
  ])
]

pub blank-fallen : (p : List ℕ) (s : Screen) → s.vertical_blank ≡ true → (dot_of p s).vertical_blank ≡ false
    → IsNext 261 1 s
blank-fallen p s high low = elim (cases_Bool (is_next 261 1 s)) [
  | inl at ↦ next-is 261 1 s at
  | inr far ↦ (elim (cases_Bool (is_next 241 1 s)) [
    | inl at ↦ absurd (true≢false (ap (λ b. b || not s.hold) (sym high) ∙ sym (blank-begins p s at) ∙ low))
    | inr apart ↦ absurd (true≢false (sym high ∙ sym (blank-stays p s apart far) ∙ low))
  ])
]

or-not-false : (b h : Bool) → h ≡ false → (b || not h) ≡ true
or-not-false true h free = refl
or-not-false false true free = absurd (true≢false free)
or-not-false false false free = refl

pub blank-rises : (p : List ℕ) (s : Screen) → IsNext 241 1 s → s.hold ≡ false → (dot_of p s).vertical_blank ≡ true
blank-rises p s at free = blank-begins p s (is-next 241 1 s at) ∙ or-not-false s.vertical_blank s.hold free

pub blank-falls : (p : List ℕ) (s : Screen) → IsNext 261 1 s → (dot_of p s).vertical_blank ≡ false
blank-falls p s at = let there : is_next 261 1 s ≡ true = is-next 261 1 s at in blank-ends p s (two-dots s there) there

-- accesses: the flag stays but for a read of $2002
pub record SameBlank (s e : Screen) : Type 0 where
  pub blank : e.vertical_blank ≡ s.vertical_blank

blank-if : (b : Bool) (s x y : Screen) → SameBlank s x → SameBlank s y → SameBlank s (if b then x else y)
blank-if true s x y h k = h
blank-if false s x y h k = k

blank-refl : (s : Screen) → SameBlank s s
blank-refl s = record { blank = refl }

blank-after_oam_read : (s : Screen) → SameBlank s (after_oam_read s)
unfolding after_oam_read
blank-after_oam_read s = record { blank = refl }

blank-after_data_read : (p : List ℕ) (s : Screen) → SameBlank s (after_data_read p s)
unfolding after_data_read
blank-after_data_read p s = record { blank = refl }

-- a read of another register
blank-other-read : (reg : ℕ) (p : List ℕ) (s : Screen) → (reg == 2) ≡ false → SameBlank s (after_read reg p s)
unfolding after_read
blank-other-read reg p s other =
    let rest : SameBlank s (if reg == 4 then after_oam_read s else (if reg == 7 then after_data_read p s else s)) =
    blank-if _ s _ _ (blank-after_oam_read s) (blank-if _ s _ _ (blank-after_data_read p s) (blank-refl s)) in
    record { blank = ap (λ e. e.vertical_blank) (if-false (reg == 2) (after_status s) _ other) ∙ rest.blank }

-- a read of $2002
pub blank-status : (p : List ℕ) (s : Screen) → (after_read 2 p s).vertical_blank ≡ false
unfolding after_read after_status
blank-status p s = refl

blank-status-read : (reg : ℕ) (p : List ℕ) (s : Screen) → (reg == 2) ≡ true
    → (after_read reg p s).vertical_blank ≡ false
unfolding after_read after_status
blank-status-read reg p s at = ap (λ e. e.vertical_blank) (if-true (reg == 2) (after_status s) _ at)

pub blank-read-low : (reg : ℕ) (p : List ℕ) (s : Screen) → s.vertical_blank ≡ false
    → (after_read reg p s).vertical_blank ≡ false
blank-read-low reg p s low = elim (cases_Bool (reg == 2)) [
  | inl at ↦ blank-status-read reg p s at
  | inr other ↦ (let same : SameBlank s (after_read reg p s) = blank-other-read reg p s other in same.blank ∙ low)
]

pub blank-read-lowers : (reg : ℕ) (p : List ℕ) (s : Screen) → s.vertical_blank ≡ true
    → (after_read reg p s).vertical_blank ≡ false → reg ≡ 2
blank-read-lowers reg p s high low = elim (cases_Bool (reg == 2)) [
  | inl at ↦ eqb-true reg 2 at
  | inr other ↦
      (let same : SameBlank s (after_read reg p s) =
      blank-other-read reg p s other in absurd (true≢false (sym high ∙ sym same.blank ∙ low)))
]

blank-put_control : (value : ℕ) (s : Screen) → SameBlank s (put_control value s)
unfolding put_control
blank-put_control value s = record { blank = refl }

blank-put_mask : (value : ℕ) (s : Screen) → SameBlank s (put_mask value s)
unfolding put_mask
blank-put_mask value s = record { blank = refl }

blank-put_nothing : (value : ℕ) (s : Screen) → SameBlank s (put_nothing value s)
unfolding put_nothing
blank-put_nothing value s = record { blank = refl }

blank-put_oam_address : (value : ℕ) (s : Screen) → SameBlank s (put_oam_address value s)
unfolding put_oam_address
blank-put_oam_address value s = record { blank = refl }

blank-put_oam : (value : ℕ) (s : Screen) → SameBlank s (put_oam value s)
unfolding put_oam
blank-put_oam value s = record { blank = refl }

blank-put_scroll : (value : ℕ) (s : Screen) → SameBlank s (put_scroll value s)
unfolding put_scroll
blank-put_scroll value s = record { blank = refl }

blank-put_address : (value : ℕ) (s : Screen) → SameBlank s (put_address value s)
unfolding put_address
blank-put_address value s = record { blank = refl }

blank-put_data : (value : ℕ) (s : Screen) → SameBlank s (put_data value s)
unfolding put_data
blank-put_data value s = record { blank = refl }

pub blank-write : (reg value : ℕ) (s : Screen) → SameBlank s (after_write reg value s)
unfolding after_write
blank-write reg value s =
    blank-if _ s _ _ (blank-put_control value s)
    (blank-if _ s _ _ (blank-put_mask value s)
    (blank-if _ s _ _ (blank-put_nothing value s)
    (blank-if _ s _ _ (blank-put_oam_address value s)
    (blank-if _ s _ _ (blank-put_oam value s)
    (blank-if _ s _ _ (blank-put_scroll value s)
    (blank-if _ s _ _ (blank-put_address value s)
    (blank-put_data value s)))))))

-- the hit flag rises only where a hit was near
hit-flagged : (s : Screen) → s.sprite_zero_hit ≡ false → (flagged s).sprite_zero_hit ≡ false
unfolding flagged blank_begun blank_ended
hit-flagged s low = elim (cases_Bool (is_next 241 1 s)) [
  | inl at ↦ ap (λ e. e.sprite_zero_hit) (if-true (is_next 241 1 s) (blank_begun s) _ at) ∙ low
  | inr apart ↦ (elim (cases_Bool (is_next 261 1 s)) [
    | inl at ↦
        ap (λ e. e.sprite_zero_hit) (if-false (is_next 241 1 s) (blank_begun s) _ apart
        ∙ if-true (is_next 261 1 s) (blank_ended s) s at)
    | inr far ↦
        ap (λ e. e.sprite_zero_hit) (if-false (is_next 241 1 s) (blank_begun s) _ apart
        ∙ if-false (is_next 261 1 s) (blank_ended s) s far) ∙ low
  ])
]

hit-raised : (s : Screen) → s.sprite_zero_hit ≡ false → s.near ≡ false → (raised s).sprite_zero_hit ≡ false
unfolding raised
hit-raised s low far = ap (λ b. b || s.near) low ∙ far

pub hit-risen : (p : List ℕ) (s : Screen) → s.sprite_zero_hit ≡ false → (dot_of p s).sprite_zero_hit ≡ true
    → s.near ≡ true
hit-risen p s low high = elim (cases_Bool s.near) [
  | inl near ↦ near
  | inr far ↦ absurd (true≢false (sym high ∙ hit-dot p s ∙ hit-flagged (raised s) (hit-raised s low far)))
]

-- where a hit is near, the pixel may be one
pub record NearHere (s e : Screen) : Type 0 where
  pub place : e.near ≡ true → IsHitPlace s

near-where : (b : Bool) (s x y : Screen) → (b ≡ true → NearHere s x) → (b ≡ false → NearHere s y)
    → NearHere s (if b then x else y)
near-where true s x y h k = h refl
near-where false s x y h k = k refl

near-if : (b : Bool) (s x y : Screen) → NearHere s x → NearHere s y → NearHere s (if b then x else y)
near-if true s x y h k = h
near-if false s x y h k = k

-- a state in which none is near
near-far : (s e : Screen) → e.near ≡ false → NearHere s e
near-far s e far = record { place = λ near. absurd (true≢false (sym near ∙ far)) }

-- a hit pixel
hit-place : (s : Screen) → 1 ≤ s.position.dot → is_hit_pixel s ≡ true → IsHitPlace s
unfolding is_hit_pixel is_shown_column
hit-place s from hit = record {
  line = grind (arith, nat_tests, hit);
  from = from;
  last = grind (arith, nat_tests, hit);
  left = λ hidden_left. grind (arith, nat_tests, hit, hidden_left, from);
}

-- `near` stays
pub record SameNear (s e : Screen) : Type 0 where
  pub near : e.near ≡ s.near

same-if : (b : Bool) (s x y : Screen) → SameNear s x → SameNear s y → SameNear s (if b then x else y)
same-if true s x y h k = h
same-if false s x y h k = k

same-refl : (s : Screen) → SameNear s s
same-refl s = record { near = refl }

-- the end of a tile leaves `near`
near-tile_fetched : (p : List ℕ) (s : Screen) → SameNear s (tile_fetched p s)
unfolding tile_fetched
near-tile_fetched p s = record { near = refl }

near-line_ended : (p : List ℕ) (s : Screen) → SameNear s (line_ended p s)
unfolding line_ended tile_fetched
near-line_ended p s = record { near = refl }

near-tile_ended : (p : List ℕ) (s : Screen) → SameNear s (tile_ended p s)
unfolding tile_ended
near-tile_ended p s =
    same-if _ s _ _ (near-line_ended p s) (same-if _ s _ _ (near-tile_fetched p s) (same-refl s))

near-pixel : (s : Screen) → (pixel s).near ≡ is_hit_pixel s
unfolding pixel
near-pixel s = refl

near-latched : (p : List ℕ) (s : Screen) → (latched p s).near ≡ s.near
unfolding latched
near-latched p s = refl

near-sprites_fetched : (s : Screen) → (sprites_fetched s).near ≡ s.near
unfolding sprites_fetched
near-sprites_fetched s = refl

near-prefetched : (p : List ℕ) (s : Screen) → (prefetched p s).near ≡ s.near
unfolding prefetched
near-prefetched p s = refl

from-one : (dot : ℕ) → (nat_le 1 dot && nat_le dot 256) ≡ true → 1 ≤ dot
from-one dot h = grind (arith, nat_tests, h)

-- a pixel and the end of its tile
near-tile : (p : List ℕ) (s : Screen) → 1 ≤ s.position.dot → NearHere s (tile_ended p (pixel s))
near-tile p s from =
    let same : SameNear (pixel s) (tile_ended p (pixel s)) = near-tile_ended p (pixel s) in
    record { place = λ near. hit-place s from (sym (same.near ∙ near-pixel s) ∙ near) }

near-shown : (p : List ℕ) (s : Screen) → s.near ≡ false → NearHere s (shown p s)
unfolding shown
near-shown p s far =
    near-where _ s _ _ (λ here. near-tile p s (from-one s.position.dot here))
    (λ past. near-if _ s _ _ (near-far s (latched p s) (near-latched p s ∙ far))
    (near-if _ s _ _ (near-far s (sprites_fetched s) (near-sprites_fetched s ∙ far))
    (near-if _ s _ _ (near-far s (prefetched p s) (near-prefetched p s ∙ far)) (near-far s s far))))

near-emptied : (s : Screen) → SameNear s (emptied s)
unfolding emptied
near-emptied s = record { near = refl }

near-hidden : (s : Screen) → SameNear s (hidden s)
unfolding hidden
near-hidden s = same-if _ s _ _ (near-emptied s) (same-refl s)

near-hides : (s : Screen) → s.near ≡ false → NearHere s (hidden s)
near-hides s far = let same : SameNear s (hidden s) = near-hidden s in near-far s (hidden s) (same.near ∙ far)

near-drawn : (p : List ℕ) (s : Screen) → s.near ≡ false → NearHere s (drawn p s)
unfolding drawn
near-drawn p s far =
    near-if _ s _ _ (near-if _ s _ _ (near-shown p s far) (near-hides s far)) (near-far s s far)

-- before the pixel none is near
near-raised : (s : Screen) → (raised s).near ≡ false
unfolding raised
near-raised s = refl

near-begun : (s : Screen) → SameNear s (blank_begun s)
unfolding blank_begun
near-begun s = record { near = refl }

near-ended : (s : Screen) → SameNear s (blank_ended s)
unfolding blank_ended
near-ended s = record { near = refl }

near-flagged : (s : Screen) → SameNear s (flagged s)
unfolding flagged
near-flagged s = same-if _ s _ _ (near-begun s) (same-if _ s _ _ (near-ended s) (same-refl s))

-- a place of a hit, by position and mask alone
hit-place-same : (s e : Screen) → e.position ≡ s.position → e.mask ≡ s.mask → IsHitPlace e → IsHitPlace s
hit-place-same s e at mask h =
    let line : e.position.line ≡ s.position.line = ap (λ q. q.line) at in
    let dot : e.position.dot ≡ s.position.dot = ap (λ q. q.dot) at in
    record {
      line = omega (arith, h.line, line);
      from = omega (arith, h.from, dot);
      last = omega (arith, h.last, dot);
      left = λ hidden_left. (let there : 9 ≤ e.position.dot =
          h.left (ap shows_left_columns mask ∙ hidden_left) in omega (arith, there, dot));
    }

pub near-dot : (p : List ℕ) (s : Screen) → (dot_of p s).near ≡ true → IsHitPlace s
unfolding before_move
near-dot p s near =
    let moves : Moves (before_move p s) (moved (before_move p s)) = moves-moved (before_move p s) in
    let flags : Flags s (flagged (raised s)) = flags-flagged_raised s in
    let here : NearHere (flagged (raised s)) (drawn p (flagged (raised s))) =
    (let same : SameNear (raised s) (flagged (raised s)) =
    near-flagged (raised s) in near-drawn p (flagged (raised s)) (same.near ∙ near-raised s)) in
    hit-place-same s (flagged (raised s)) (ap (λ e. e.position) flags.same) (ap (λ e. e.mask) flags.same)
    (here.place (sym (ap (λ e. e.near) (dot_of-moved p s ∙ moves.same)) ∙ near))
