-- Met or not.
use Rattle.std.proofs.Common.{◌≡◌, ◌||◌, Bool, true, false, ℕ, List, Option, None, Some, ◌*◌, suc, refl, ap, sym, ◌∙◌, arith}
use Rattle.std.specs.Option.{is_some, IfSome, IfNone}
use Rattle.std.proofs.lemmas.Bool.{true≢false}
use Rattle.nj_sprite0.specs.declared.row.SpriteRow.{SpriteRow}
use Rattle.nj_sprite0.specs.Meeting.{meets_at}
use Rattle.nj_dots.specs.declared.screen.Screen.{Screen}
use Rattle.nj_dots.specs.Dots.{after_dots}
use Rattle.nj_catchup.specs.Tiles.{tiles_run, line_finished}
use Rattle.nj_catchup.specs.Line.{shown_byte}
use Rattle.nj_catchup.proofs.Meets.{with_hit, any-after}
use Rattle.nj_catchup.proofs.Lines.{IsLine, line-after, line-none, line-some, tiles-with_hit, finished-with_hit, line-tiles}
use Rattle.nj_catchup.proofs.line.run_line.Goals as goal

-- the picture without its row
abbrev rowless : Screen → Screen
rowless s = record s { sprite_row = None }

-- it with the row back
with-row : (s : Screen) (row : SpriteRow) → s.sprite_row ≡ Some row → s.near ≡ false
    → s ≡ with_hit (rowless s) (Some row) false s.sprite_zero_hit
with-row s row latched far =
    ap (λ r. record s { sprite_row = r }) latched ∙ ap (λ b. record s { sprite_row = Some row; near = b }) far

-- what the line's bytes tell
byte-with_hit : (s : Screen) (row : Option SpriteRow) (near hit : Bool)
    → shown_byte (with_hit s row near hit) ≡ shown_byte s
unfolding shown_byte
byte-with_hit s row near hit = refl

byte-rowless : (j : ℕ) (p : List ℕ) (s : Screen) (row : SpriteRow) → s.sprite_row ≡ Some row → s.near ≡ false
    → shown_byte (tiles_run j p s) ≡ shown_byte (tiles_run j p (rowless s))
byte-rowless j p s row latched far =
    ap (λ x. shown_byte (tiles_run j p x)) (with-row s row latched far)
    ∙ ap shown_byte (tiles-with_hit j p (rowless s) (Some row) false s.sprite_zero_hit)
    ∙ byte-with_hit (tiles_run j p (rowless s)) (Some row) false s.sprite_zero_hit

-- the whole line, as the code leaves it but for the flag
record LineIs (n : ℕ) (p : List ℕ) (s e : Screen) (row : SpriteRow) : Type 0 where
  all : after_dots n p s ≡ record e { sprite_zero_hit = s.sprite_zero_hit || any-after n p (rowless s) (Some row) }
  kept : e.sprite_zero_hit ≡ s.sprite_zero_hit

line-is : (n m : ℕ) (p opaque : List ℕ) (s e : Screen) (row : SpriteRow) → n ≡ 255 → m ≡ 31 → s.sprite_row ≡ Some row
    → IsLine (rowless s) opaque p → s.near ≡ false
    → e ≡ line_finished (tiles_run (suc m) p s) → LineIs (suc n) p s e row
line-is n m p opaque s e row last tiles latched h far is =
    let t : Screen = rowless s in
    let hit : Bool = s.sprite_zero_hit in
    let any : Bool = any-after (suc n) p t (Some row) in
    let is_row : s ≡ with_hit t (Some row) false hit = with-row s row latched far in
    let count : suc n ≡ 8 * suc m = omega (arith, last, tiles) in
    let whole : after_dots (suc n) p t ≡ line_finished (tiles_run (suc m) p t) =
    ap (λ k. after_dots k p t) count ∙ line-tiles m p t tiles h.quiet h.first in
    let here : e ≡ with_hit (line_finished (tiles_run (suc m) p t)) (Some row) false hit =
    is ∙ ap (λ x. line_finished (tiles_run (suc m) p x)) is_row
    ∙ ap line_finished (tiles-with_hit (suc m) p t (Some row) false hit)
    ∙ finished-with_hit (tiles_run (suc m) p t) (Some row) false hit in
    record {
      all = ap (after_dots (suc n) p) is_row ∙ line-after n t row opaque p hit last h
          ∙ ap (λ x. with_hit x (Some row) false (hit || any)) whole
          ∙ sym (ap (λ (x : Screen). record x { sprite_zero_hit = hit || any }) here);
      kept = ap (λ (x : Screen). x.sprite_zero_hit) here;
    }

-- whether the row meets the line
met : (m : Option ℕ) (row : SpriteRow) (opaque : List ℕ) (left any : Bool) → is_some m ≡ true
    → IfSome m (λ x. meets_at row opaque left x ≡ true) → ((x : ℕ) → meets_at row opaque left x ≡ true → any ≡ true)
    → any ≡ true
met (Some x) row opaque left any some meets then_ = then_ x meets
met None row opaque left any some meets then_ = absurd (true≢false (sym some))

unmet : (m : Option ℕ) (row : SpriteRow) (opaque : List ℕ) (left any : Bool) → is_some m ≡ false
    → IfNone m ((y : ℕ) → meets_at row opaque left y ≡ false)
    → (((y : ℕ) → meets_at row opaque left y ≡ false) → any ≡ false) → any ≡ false
unmet (Some x) row opaque left any none misses then_ = absurd (true≢false none)
unmet None row opaque left any none misses then_ = then_ misses

or-up : (a b : Bool) → b ≡ true → (a || b) ≡ true
or-up true b h = refl
or-up false b h = h

or-down : (a b : Bool) → b ≡ false → (a || b) ≡ a
or-down true b h = refl
or-down false b h = h

pub returns-then-is_some : goal.returns-then-is_some
returns-then-is_some c =
    let s = c.args.screen.now in
    let p = c.args.pattern.now in
    let row = c.args.row in
    let e = c.finish_line.new.screen in
    let opaque = c.run_tiles_of_line-opaque.result in
    let line : IsLine (rowless s) opaque p = record {
      quiet = c.requires.line.quiet;
      first = c.requires.line.first;
      both = c.requires.line.both;
      fine_x = c.requires.fine_x;
      bytes = λ j within. c.run_tiles_of_line-opaque.ensures.bytes j within
          ∙ byte-rowless j p s row c.requires.line.latched c.requires.line.quiet.far;
    } in
    let h : LineIs 256 p s e row =
    line-is 255 31 p opaque s e row refl refl c.requires.line.latched line c.requires.line.quiet.far
    (c.finish_line.ensures ∙ ap line_finished c.run_tiles_of_line-opaque.ensures.screen) in
    let any : any-after 256 p (rowless s) (Some row) ≡ true =
    met c.meeting.result row opaque c.shows_left_columns-left.result _ (sym c.is_some.ensures
    ∙ c.if-is_some.true) c.meeting.ensures.meets
    (λ x meets. line-some 255 x (rowless s) row opaque p refl line
    (ap (λ l. meets_at row opaque l x) (sym c.shows_left_columns-left.ensures) ∙ meets)) in
    sym (h.all ∙ ap (λ (b : Bool). record e { sprite_zero_hit = b }) (or-up s.sprite_zero_hit _ any))

pub returns-else-is_some : goal.returns-else-is_some
returns-else-is_some c =
    let s = c.args.screen.now in
    let p = c.args.pattern.now in
    let row = c.args.row in
    let e = c.finish_line.new.screen in
    let opaque = c.run_tiles_of_line-opaque.result in
    let line : IsLine (rowless s) opaque p = record {
      quiet = c.requires.line.quiet;
      first = c.requires.line.first;
      both = c.requires.line.both;
      fine_x = c.requires.fine_x;
      bytes = λ j within. c.run_tiles_of_line-opaque.ensures.bytes j within
          ∙ byte-rowless j p s row c.requires.line.latched c.requires.line.quiet.far;
    } in
    let h : LineIs 256 p s e row =
    line-is 255 31 p opaque s e row refl refl c.requires.line.latched line c.requires.line.quiet.far
    (c.finish_line.ensures ∙ ap line_finished c.run_tiles_of_line-opaque.ensures.screen) in
    let any : any-after 256 p (rowless s) (Some row) ≡ false =
    unmet c.meeting.result row opaque c.shows_left_columns-left.result _ (sym c.is_some.ensures
    ∙ c.if-is_some.false) c.meeting.ensures.none
    (λ misses. line-none 255 (rowless s) row opaque p refl line
    (λ y. ap (λ l. meets_at row opaque l y) (sym c.shows_left_columns-left.ensures) ∙ misses y)) in
    sym (h.all ∙ ap (λ (b : Bool). record e { sprite_zero_hit = b }) (or-down s.sprite_zero_hit _ any ∙ sym h.kept))
