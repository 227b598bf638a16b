-- A picture's bytes in an image, and the picture that they give again.
use Rattle.std.proofs.Common.{◌≡◌, ℕ, ◌+◌, ◌*◌, ◌/◌, ◌%◌, ◌≤◌, ◌==◌, Bool, true, false, not, List, length, take, drop, replicate, refl, ap, sym, ◌∙◌, arith, if◌then◌else◌, Option, Some, None}
use Rattle.std.proofs.Math.ListN.{length-replicate}
use Rattle.nj_vram.specs.declared.Vram.{Vram}
use Rattle.nj_sprite0.specs.declared.row.SpriteRow.{SpriteRow}
use Rattle.nj_dots.specs.declared.screen.Screen.{Screen}
use Rattle.nj_dots.specs.Screen.{IsScreen}
use Rattle.nj_dots.specs.Image.{flag_byte, row_flag, row_left, row_pixels, register_bytes, with_registers, picture_bytes, overwritten, with_picture, picture_part, Holds}
use Rattle.nj_dots.proofs.Parts.{overwritten-five, Pieces, take-pieces}

-- there are 26 register bytes
pub length-register_bytes : (s : Screen) → length (register_bytes s) ≡ 26
unfolding register_bytes
length-register_bytes s = refl

-- writing the five parts one after another writes the picture
pub put_is : (s : Screen) (image : List ℕ) → IsScreen s → 4448 ≤ length image
    → overwritten 4410 (replicate 38 0)
    (overwritten 4384 (register_bytes s)
    (overwritten 4352 s.vram.palette (overwritten 4096 s.oam (overwritten 2048 s.vram.cells image))))
    ≡ with_picture s image
unfolding with_picture picture_bytes
put_is s image fits long =
    overwritten-five 2048 4096 4352 4384 4410 4448 s.vram.cells s.oam s.vram.palette (register_bytes s) (replicate 38 0)
    image
    (omega (arith, fits.vram.cells)) (omega (arith, fits.oam)) (omega (arith, fits.vram.palette))
    (omega (arith, length-register_bytes s)) (omega (arith, length-replicate {A = ℕ} 38 0)) (omega arith)

-- where a picture stands in an image, each part does
pub stored_pieces : (s : Screen) (image : List ℕ) → IsScreen s → 4448 ≤ length image
    → picture_part image ≡ picture_bytes s
    → Pieces 2048 4096 4352 4384 2048 256 32 26 s.vram.cells s.oam s.vram.palette (register_bytes s) image
unfolding picture_part picture_bytes
stored_pieces s image fits long known =
    take-pieces 2048 4096 4352 4384 2048 256 32 26 38 s.vram.cells s.oam s.vram.palette (register_bytes s)
    (replicate 38 0) image
    fits.vram.cells fits.oam fits.vram.palette (length-register_bytes s) (omega arith) (omega arith) (omega arith) long
    known

-- a word, a flag and a sprite row are read again as they were written
word-back : (n : ℕ) → n % 256 + 256 * (n / 256) ≡ n
word-back n = omega arith

flag-back : (b : Bool) → not (flag_byte b == 0) ≡ b
flag-back true = refl
flag-back false = refl

row-back : (row : Option SpriteRow)
    → (if not (row_flag row == 0) then Some (record { x = row_left row; bits = row_pixels row }) else None) ≡ row
row-back None = refl
row-back (Some row) = refl

-- the registers that were written are read again
pub with_registers-back : (s e : Screen) → e.ended ≡ false → s.oam ≡ e.oam → s.vram ≡ e.vram
    → with_registers (register_bytes e) s ≡ e
unfolding with_registers register_bytes
with_registers-back s e unmarked oam vram = simp (word-back, flag-back, row-back, oam, vram, sym unmarked)

-- the whole picture that stands in an image is read again
pub get_is : (s old : Screen) (cells oam palette registers image : List ℕ) → Holds image s
    → s.vram.vertical ≡ old.vram.vertical → 4448 ≤ length image → cells ≡ take 2048 (drop 2048 image)
    → oam ≡ take 256 (drop 4096 image) → palette ≡ take 32 (drop 4352 image) → registers ≡ take 26 (drop 4384 image)
    → with_registers registers
    (record old { oam = oam; vram = record { vertical = old.vram.vertical; cells = cells; palette = palette } }) ≡ s
get_is s old cells oam palette registers image holds mirroring long is_cells is_oam is_palette is_registers =
    let pieces : Pieces 2048 4096 4352 4384 2048 256 32 26 s.vram.cells s.oam s.vram.palette (register_bytes s) image =
    stored_pieces s image holds.fits long holds.bytes in
    let m : Vram = record { vertical = old.vram.vertical; cells = cells; palette = palette } in
    let same_cells : cells ≡ s.vram.cells = is_cells ∙ pieces.first in
    let same_palette : palette ≡ s.vram.palette = is_palette ∙ pieces.third in
    let same_vram : m ≡ s.vram =
    ap (λ v. record { vertical = v; cells = cells; palette = palette }) (sym mirroring)
    ∙ ap (λ l. record { vertical = s.vram.vertical; cells = l; palette = palette }) same_cells
    ∙ ap (λ l. record { vertical = s.vram.vertical; cells = s.vram.cells; palette = l }) same_palette in
    ap (λ bytes. with_registers bytes (record old { oam = oam; vram = m })) (is_registers ∙ pieces.fourth)
    ∙ with_registers-back (record old { oam = oam; vram = m }) s holds.unmarked (is_oam ∙ pieces.second) same_vram

-- the same, over what each step left
pub put_chain : (s : Screen) (image i1 i2 i3 i4 i5 registers : List ℕ) → IsScreen s → 4448 ≤ length image
    → i1 ≡ overwritten 2048 s.vram.cells image → i2 ≡ overwritten 4096 s.oam i1
    → i3 ≡ overwritten 4352 s.vram.palette i2 → registers ≡ register_bytes s → i4 ≡ overwritten 4384 registers i3
    → i5 ≡ overwritten 4410 (replicate 38 0) i4 → i5 ≡ with_picture s image
put_chain s image i1 i2 i3 i4 i5 registers fits long e1 e2 e3 er e4 e5 =
    let two : i2 ≡ overwritten 4096 s.oam (overwritten 2048 s.vram.cells image) = e2 ∙ ap (overwritten 4096 s.oam) e1 in
    let three : i3 ≡ overwritten 4352 s.vram.palette (overwritten 4096 s.oam (overwritten 2048 s.vram.cells image)) =
    e3 ∙ ap (overwritten 4352 s.vram.palette) two in
    let four : i4
    ≡ overwritten 4384 (register_bytes s)
    (overwritten 4352 s.vram.palette (overwritten 4096 s.oam (overwritten 2048 s.vram.cells image))) =
    e4 ∙ ap (λ bytes. overwritten 4384 bytes i3) er ∙ ap (overwritten 4384 (register_bytes s)) three in
    e5 ∙ ap (overwritten 4410 (replicate 38 0)) four ∙ put_is s image fits long
