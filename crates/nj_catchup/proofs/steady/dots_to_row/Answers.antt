-- Beside the row, and not at dot 257.
use Rattle.std.proofs.Common.{◌≡◌, ◌≤◌, ◌<◌, ◌+◌, ◌-◌, ℕ, false, ◌⊎◌, arith, rules, inl, inr}
use Rattle.std.proofs.lemmas.Bool.Decides.{nat_tests}
use Rattle.nj_sprite0.specs.declared.row.SpriteRow.{SpriteRow}
use Rattle.nj_sprite0.specs.Sprite.{is_opaque_at}
use Rattle.nj_catchup.proofs.steady.dots_to_row.Goals as goal

-- left of the row, or right of it
left-of : (row : SpriteRow) (x : ℕ) → x < row.x → is_opaque_at row x ≡ false
unfolding is_opaque_at
left-of row x left = grind (arith, nat_tests, left)

right-of : (row : SpriteRow) (x : ℕ) → row.x + 8 ≤ x → is_opaque_at row x ≡ false
unfolding is_opaque_at
right-of row x right = grind (arith, nat_tests, right)

-- a dot of the next line comes before the row, one of this line is past dot 257
next-line : (row : SpriteRow) (from n d : ℕ) → 257 < from → n < 340 + (row.x + 1) - from
    → (d ≡ from + n) ⊎ ((340 ≤ from + n) × (d ≤ from + n - 340)) → (257 < d) ⊎ (d ≤ row.x)
next-line row from n d past within along = elim along [
  | inl same ↦ inl (omega (arith, same, past))
  | inr next ↦ inr (omega (arith, next.0, next.1, within))
]

pub returns-then-dot-gt257 : goal.returns-then-dot-gt257
returns-then-dot-gt257 c = λ n d within along.
    let row = c.args.row in
    let where_ : (257 < d) ⊎ (d ≤ row.x) =
    next-line row c.args.dot n d c.if-dot-gt257.true (omega (arith, within, c.from.ensures, c.from-first.ensures))
    along in
    record {
      latch = λ at.
          (elim where_ [ inl past ↦ absurd (omega (arith, past, at)) | inr before ↦ absurd (omega (arith, before, at)) ]);
      miss = λ from last.
          (elim where_ [
            | inl past ↦ absurd (omega (arith, past, last))
            | inr before ↦
                left-of row (d - 1) (omega (arith, before, from))
          ]);
    }

pub returns-then-dot-first : goal.returns-then-dot-first
returns-then-dot-first c = λ n d within along.
    let row = c.args.row in
    let byte : row.x < 256 = search rules in
    let before : d ≤ row.x = (elim along [
      | inl same ↦ omega (arith, same, within, c.from-then-dot-first.ensures, c.from-first.ensures)
      | inr next ↦
          absurd (omega (
            arith,
            next.0,
            within,
            c.from-then-dot-first.ensures,
            c.from-first.ensures,
            c.if-dot-first.true,
            byte,
          ))
    ]) in
    record {
      latch = λ at. absurd (omega (arith, at, before, byte));
      miss = λ from last. left-of row (d - 1) (omega (arith, before, from));
    }

pub returns-else-dot-first-2 : goal.returns-else-dot-first-2
returns-else-dot-first-2 c = λ n d within along.
    let row = c.args.row in
    let before : d < 257 = (elim along [
      | inl same ↦ omega (arith, same, within, c.from-else-dot-first-2.ensures)
      | inr next ↦ absurd (omega (arith, next.0, within, c.from-else-dot-first-2.ensures))
    ]) in
    let past : row.x + 9 ≤ d = (elim along [
      | inl same ↦ omega (arith, same, c.if-dot-first-2.false, c.from-first.ensures)
      | inr next ↦ absurd (omega (arith, next.0, within, c.from-else-dot-first-2.ensures))
    ]) in
    record {
      latch = λ at. absurd (omega (arith, at, before));
      miss = λ from last. right-of row (d - 1) (omega (arith, past));
    }
