-- The pixels of a tile, its last among them or not.
use Rattle.std.proofs.Common.{◌≡◌, ◌≤◌, ℕ, suc, ◌+◌, ◌-◌, ◌*◌, ◌/◌, ◌%◌, ◌^◌, List, ap, sym, ◌∙◌, subst, arith}
use Rattle.nj_dots.specs.declared.screen.Screen.{Screen}
use Rattle.nj_dots.specs.Dots.{tile_fetched, after_dots}
use Rattle.nj_catchup.specs.Idle.{at_dot}
use Rattle.nj_catchup.specs.Tiles.{IsQuiet, line_finished}
use Rattle.nj_catchup.proofs.Tiles.{shifted-is, pixels, pixels-last}
use Rattle.nj_catchup.proofs.visible.run_part.Goals as goal

-- the picture after so many pixels
abbrev after : ℕ → Screen → Screen
after n s = at_dot (record s { shift = s.shift * 2 ^ n % 65536 }) (s.position.dot + n)

part-last : (m n : ℕ) (p : List ℕ) (s : Screen) → m ≡ suc n → IsQuiet m s → (s.position.dot + 7) % 8 + m ≡ 8
    → after_dots m p s ≡ line_finished (tile_fetched p (after m s))
part-last m n p s some h whole =
    let all : IsQuiet (suc n) s = subst (λ i. IsQuiet i s) some h in
    let at : s.position.dot ≡ (s.position.dot - 1) / 8 * 8 + suc ((s.position.dot + 7) % 8) = omega (arith, h.from) in
    ap (λ i. after_dots i p s) some
    ∙ pixels-last n p s ((s.position.dot - 1) / 8) ((s.position.dot + 7) % 8) all at (omega (arith, some, whole))
    ∙ ap (λ z. line_finished (tile_fetched p (at_dot (record s { shift = z }) (s.position.dot + suc n))))
    (shifted-is n s.shift)
    ∙ ap (λ i. line_finished (tile_fetched p (after i s))) (sym some)

part-inner : (m n : ℕ) (p : List ℕ) (s : Screen) → m ≡ suc n → IsQuiet m s → (s.position.dot + 7) % 8 + m ≤ 7
    → after_dots m p s ≡ after m s
part-inner m n p s some h inner =
    let all : IsQuiet (suc n) s = subst (λ i. IsQuiet i s) some h in
    let at : s.position.dot ≡ (s.position.dot - 1) / 8 * 8 + suc ((s.position.dot + 7) % 8) = omega (arith, h.from) in
    ap (λ i. after_dots i p s) some
    ∙ pixels (suc n) p s ((s.position.dot - 1) / 8) ((s.position.dot + 7) % 8) all at (omega (arith, some, inner))
    ∙ ap (λ z. at_dot (record s { shift = z }) (s.position.dot + suc n)) (shifted-is n s.shift)
    ∙ ap (λ i. after i s) (sym some)

pub returns-then-screen-eq1 : goal.returns-then-screen-eq1
returns-then-screen-eq1 c =
    let m = c.args.dots in
    let s = c.args.screen.now in
    let p = c.args.pattern.now in
    let some : m ≡ suc (m - 1) = omega (arith, c.requires.some) in
    let whole : (s.position.dot + 7) % 8 + m ≡ 8 =
    omega (arith, c.requires.part, c.requires.some, c.requires.quiet.from, c.if-screen-eq1.true) in
    c.finish_line.ensures ∙ ap line_finished c.fetch_tile.ensures
    ∙ sym (part-last m (m - 1) p s some c.requires.quiet whole)

pub returns-else-screen-eq1 : goal.returns-else-screen-eq1
returns-else-screen-eq1 c =
    let m = c.args.dots in
    let s = c.args.screen.now in
    let some : m ≡ suc (m - 1) = omega (arith, c.requires.some) in
    let inner : (s.position.dot + 7) % 8 + m ≤ 7 =
    omega (arith, c.requires.part, c.requires.some, c.requires.quiet.from, c.if-screen-eq1.false) in
    sym (part-inner m (m - 1) c.args.pattern.now s some c.requires.quiet inner)
