-- A visible line with a row of sprite zero: all but the hits is as without the row.
use Rattle.std.proofs.Common.{◌≡◌, ℕ, zero, suc, ◌+◌, ◌*◌, ◌%◌, ◌<◌, ◌≤◌, Bool, true, false, ◌||◌, ◌==◌, if◌then◌else◌, List, Option, refl, ap, sym, ◌∙◌, subst, arith, lit≤, inl, inr}
use Rattle.std.proofs.lemmas.Bool.{cases_eq}
use Rattle.nj_sprite0.specs.declared.row.SpriteRow.{SpriteRow}
use Rattle.nj_dots.specs.declared.screen.Screen.{Screen}
use Rattle.nj_dots.specs.Screen.{is_rendering}
use Rattle.nj_dots.specs.Dots.{raised, flagged, is_hit_pixel, pixel, fetched_row, tile_fetched, line_ended, tile_ended, shown, drawn, moved, dot_of, after_dots}
use Rattle.nj_dots.proofs.Moving.{if-true}
use Rattle.nj_catchup.specs.Idle.{at_dot}
use Rattle.nj_catchup.specs.Tiles.{may_hit, IsQuiet}
use Rattle.nj_catchup.proofs.Calm.{flagged-apart}
use Rattle.nj_dots.proofs.Stays.{Stays, stays-tile_ended}
use Rattle.nj_catchup.proofs.Idling.{moved-along}
use Rattle.nj_catchup.proofs.Tiles.{above, drawn-line, pixel-dot, tile_ended-dot, quiet-dot, fewer-quiet}
use Rattle.nj_catchup.proofs.Misses.{SameNear, SameRow, near-tile_ended, row-tile_ended}

-- a picture with the row, `near` and hit flag of its own
abbrev pub with_hit : Screen → Option SpriteRow → Bool → Bool → Screen
with_hit s row near hit = record s { sprite_row = row; near = near; sprite_zero_hit = hit }

-- the end of a tile does not look at them
pub hit-if : (b : Bool) (x y u v : Screen) (row : Option SpriteRow) (near hit : Bool) → u ≡ with_hit x row near hit
    → v ≡ with_hit y row near hit → (if b then u else v) ≡ with_hit (if b then x else y) row near hit
hit-if true x y u v row near hit h k = h
hit-if false x y u v row near hit h k = k

hit-line_ended : (p : List ℕ) (s : Screen) (row : Option SpriteRow) (near hit : Bool)
    → line_ended p (with_hit s row near hit) ≡ with_hit (line_ended p s) row near hit
unfolding line_ended tile_fetched fetched_row
hit-line_ended p s row near hit = refl

hit-tile_fetched : (p : List ℕ) (s : Screen) (row : Option SpriteRow) (near hit : Bool)
    → tile_fetched p (with_hit s row near hit) ≡ with_hit (tile_fetched p s) row near hit
unfolding tile_fetched fetched_row
hit-tile_fetched p s row near hit = refl

hit-tile_ended : (p : List ℕ) (s : Screen) (row : Option SpriteRow) (near hit : Bool)
    → tile_ended p (with_hit s row near hit) ≡ with_hit (tile_ended p s) row near hit
unfolding tile_ended
hit-tile_ended p s row near hit =
    let t : Screen = with_hit s row near hit in
    hit-if (s.position.dot == 256) (line_ended p s) (if s.position.dot % 8 == 0 then tile_fetched p s else s)
    (line_ended p t) _ row near hit (hit-line_ended p s row near hit)
    (hit-if (s.position.dot % 8 == 0) (tile_fetched p s) s (tile_fetched p t) t row near hit
    (hit-tile_fetched p s row near hit) refl)

hit-raised : (s : Screen) (row : Option SpriteRow) (near hit : Bool)
    → raised (with_hit s row near hit) ≡ with_hit s row false (hit || near)
unfolding raised
hit-raised s row near hit = refl

-- a pixel with the row
unfoldable pub hit-of : Screen → Option SpriteRow → Bool
hit-of s row = is_hit_pixel (record s { sprite_row = row })

hit-pixel : (s : Screen) (row : Option SpriteRow) (hit : Bool)
    → pixel (with_hit s row false hit) ≡ with_hit (record s { shift = s.shift * 2 % 65536 }) row (hit-of s row) hit
unfolding pixel is_hit_pixel hit-of
hit-pixel s row hit = refl

hit-drawn : (p : List ℕ) (s : Screen) (row : Option SpriteRow) (hit : Bool) → IsQuiet 1 s
    → drawn p (with_hit s row false hit)
    ≡ with_hit (tile_ended p (record s { shift = s.shift * 2 % 65536 })) row (hit-of s row) hit
unfolding drawn shown
hit-drawn p s row hit h =
    if-true _ _ _ (drawn-line s.position.line h.line) ∙ if-true _ _ _ h.renders
    ∙ if-true _ _ _ (pixel-dot s.position.dot h.from (omega (arith, h.last)))
    ∙ ap (tile_ended p) (hit-pixel s row hit)
    ∙ hit-tile_ended p (record s { shift = s.shift * 2 % 65536 }) row (hit-of s row) hit

-- a dot
hit-moved : (p : List ℕ) (s : Screen) (row : Option SpriteRow) (near hit : Bool) → s.position.dot ≤ 256
    → moved (with_hit (tile_ended p s) row near hit)
    ≡ with_hit (at_dot (tile_ended p s) (s.position.dot + 1)) row near hit
hit-moved p s row near hit last =
    let at : (tile_ended p s).position.dot ≡ s.position.dot = tile_ended-dot p s in
    moved-along (with_hit (tile_ended p s) row near hit) (omega (arith, at, last))
    ∙ ap (λ d. with_hit (at_dot (tile_ended p s) (d + 1)) row near hit) at

hit-next : (p : List ℕ) (s : Screen) (row : Option SpriteRow) (near hit : Bool) → IsQuiet 1 s
    → dot_of p (with_hit s row near hit) ≡ with_hit (dot_of p s) row (hit-of s row) (hit || near)
unfolding dot_of
hit-next p s row near hit h =
    let t : Screen = with_hit s row false (hit || near) in
    ap (λ e. moved (drawn p (flagged e))) (hit-raised s row near hit)
    ∙ ap (λ e. moved (drawn p e)) (flagged-apart t (above 241 t h.line (lit≤ tt)) (above 261 t h.line (lit≤ tt)))
    ∙ ap moved (hit-drawn p s row (hit || near) h)
    ∙ hit-moved p (record s { shift = s.shift * 2 % 65536 }) row (hit-of s row) (hit || near) (omega (arith, h.last))
    ∙ ap (λ e. with_hit e row (hit-of s row) (hit || near)) (sym (quiet-dot p s h))

-- the dots that follow a quiet one are quiet
quiet-next : (m : ℕ) (p : List ℕ) (s : Screen) → IsQuiet (suc m) s → IsQuiet m (dot_of p s)
quiet-next m p s h =
    let x : Screen = record s { shift = s.shift * 2 % 65536 } in
    let e : Screen = tile_ended p x in
    let is : dot_of p s ≡ at_dot e (s.position.dot + 1) = quiet-dot p s (fewer-quiet (suc m) 1 s (omega arith) h) in
    let st : Stays x e = stays-tile_ended p x in
    let n : SameNear x e = near-tile_ended p x in
    let r : SameRow x e = row-tile_ended p x in
    let mask : e.mask ≡ s.mask = ap (λ y. y.mask) st.same in
    let line : e.position.line ≡ s.position.line = ap (λ y. y.position.line) st.same in
    subst (IsQuiet m) (sym is) (record {
      line = omega (arith, line, h.line);
      from = omega arith;
      last = omega (arith, h.last);
      renders = ap is_rendering mask ∙ h.renders;
      far = n.near ∙ h.far;
      misses = λ d from below. ap (λ k. may_hit k e.sprite_row d) mask ∙ ap (λ k. may_hit s.mask k d) r.row
          ∙ h.misses d (omega (arith, from)) (omega (arith, below));
    })

pub quiet-after : (n m : ℕ) (p : List ℕ) (s : Screen) → IsQuiet (n + m) s → IsQuiet m (after_dots n p s)
unfolding after_dots
quiet-after zero m p s h = fewer-quiet (zero + m) m s (omega arith) h
quiet-after (suc n) m p s h =
    quiet-next m p (after_dots n p s)
    (quiet-after n (suc m) p s (fewer-quiet (suc n + m) (n + suc m) s (omega arith) h))

-- a hit among the first n dots, and one that has raised the flag
unfoldable pub near-after : ℕ → List ℕ → Screen → Option SpriteRow → Bool
near-after zero p s row = false
near-after (suc n) p s row = hit-of (after_dots n p s) row

pub any-after : ℕ → List ℕ → Screen → Option SpriteRow → Bool
any-after zero p s row = false
any-after (suc n) p s row = any-after n p s row || near-after n p s row

or-assoc : (a b c : Bool) → ((a || b) || c) ≡ (a || (b || c))
or-assoc true b c = refl
or-assoc false b c = refl

or-none : (a : Bool) → a ≡ (a || false)
or-none true = refl
or-none false = refl

pub hits-after : (n : ℕ) (p : List ℕ) (s : Screen) (row : Option SpriteRow) (hit : Bool) → IsQuiet n s
    → after_dots n p (with_hit s row false hit)
    ≡ with_hit (after_dots n p s) row (near-after n p s row) (hit || any-after n p s row)
unfolding after_dots near-after any-after
hits-after zero p s row hit h = ap (with_hit s row false) (or-none hit)
hits-after (suc n) p s row hit h =
    let e : Screen = after_dots n p s in
    let quiet : IsQuiet 1 e = quiet-after n 1 p s (fewer-quiet (suc n) (n + 1) s (omega arith) h) in
    ap (dot_of p) (hits-after n p s row hit (fewer-quiet (suc n) n s (omega arith) h))
    ∙ hit-next p e row (near-after n p s row) (hit || any-after n p s row) quiet
    ∙ ap (with_hit (dot_of p e) row (hit-of e row)) (or-assoc hit (any-after n p s row) (near-after n p s row))

or-true : (a b : Bool) → b ≡ true → (a || b) ≡ true
or-true true b h = refl
or-true false b h = h

-- whether there is one
pub any-none : (n : ℕ) (p : List ℕ) (s : Screen) (row : Option SpriteRow)
    → ((i : ℕ) → i < n → hit-of (after_dots i p s) row ≡ false) → any-after (suc n) p s row ≡ false
unfolding any-after near-after
any-none zero p s row none = refl
any-none (suc n) p s row none =
    ap (λ b. b || hit-of (after_dots n p s) row) (any-none n p s row (λ i within. none i (omega (arith, within))))
    ∙ none n (omega arith)

pub any-some : (n i : ℕ) (p : List ℕ) (s : Screen) (row : Option SpriteRow) → i < n
    → hit-of (after_dots i p s) row ≡ true → any-after (suc n) p s row ≡ true
unfolding any-after near-after
any-some zero i p s row within here = absurd (omega (arith, within))
any-some (suc n) i p s row within here = elim (cases_eq i n) [
  | inl last ↦ or-true (any-after (suc n) p s row) _ (ap (λ k. hit-of (after_dots k p s) row) (sym last) ∙ here)
  | inr before ↦
      ap (λ b. b || hit-of (after_dots n p s) row) (any-some n i p s row (omega (arith, within, before)) here)
]
