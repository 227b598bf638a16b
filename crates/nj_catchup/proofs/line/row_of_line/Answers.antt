-- The row that is latched, if one is.
use Rattle.std.proofs.Common.{◌≡◌, ◌&&◌, ◌||◌, Bool, true, false, ℕ, Option, None, Some, refl, sym, arith}
use Rattle.std.specs.Option.{IfSome}
use Rattle.std.proofs.lemmas.Bool.{true≢false}
use Rattle.nj_sprite0.specs.Sprite.{has_bit}
use Rattle.nj_sprite0.specs.declared.row.SpriteRow.{SpriteRow}
use Rattle.nj_dots.specs.declared.screen.Screen.{Screen}
use Rattle.nj_dots.specs.Screen.{is_rendering, shows_both_layers}
use Rattle.nj_catchup.specs.Tiles.{may_hit}
use Rattle.nj_catchup.specs.Line.{IsRowLine}
use Rattle.nj_catchup.proofs.Misses.{and-false}
use Rattle.nj_catchup.proofs.line.row_of_line.Goals as goal

either-of : (a b : Bool) → (a && b) ≡ true → (a || b) ≡ true
either-of true b h = refl
either-of false b h = absurd (true≢false (sym h))

both-render : (mask : ℕ) → shows_both_layers mask ≡ true → is_rendering mask ≡ true
unfolding shows_both_layers is_rendering
both-render mask both = either-of (has_bit mask 3) (has_bit mask 4) both

none-hits : (mask d : ℕ) → may_hit mask None d ≡ false
unfolding may_hit
none-hits mask d = and-false (shows_both_layers mask) false refl

latched : (r : Option SpriteRow) (s : Screen) → s.sprite_row ≡ r
    → ((row : SpriteRow) → s.sprite_row ≡ Some row → IsRowLine row s) → IfSome r (λ row. IsRowLine row s)
latched (Some row) s is h = h row is
latched None s is h = tt

pub returns-then-begins_line-clause-line : goal.returns-then-begins_line-clause-line
returns-then-begins_line-clause-line c =
    let s = c.args.screen.now in
    let yes_ = c.if-begins_line.true in
    let both : shows_both_layers s.mask ≡ true = c.begins_line.ensures.both yes_ in
    let first : s.position.dot ≡ 1 = c.begins_line.ensures.first yes_ in
    latched s.sprite_row s refl (λ row is. record {
      quiet = record {
        line = c.begins_line.ensures.line yes_;
        from = omega (arith, first);
        last = omega (arith, first);
        renders = both-render s.mask both;
        far = c.begins_line.ensures.far yes_;
        misses = λ d from below. none-hits s.mask d;
      };
      first = first;
      both = both;
      latched = is;
    })
