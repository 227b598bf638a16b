-- Where sprite zero meets the background (NESdev Wiki, "PPU OAM", "Sprite zero hits").
use Rattle.std.specs.Prelude.{ℕ, ◌-◌, ◌/◌, ◌%◌, Bool, nat_lt, nat_le, ◌&&◌, ◌||◌, List, slice_index}
use Rattle.nj_sprite0.specs.declared.row.SpriteRow.{SpriteRow}
use Rattle.nj_sprite0.specs.Sprite.{is_opaque_at, has_bit}

-- the background is opaque at x: a bit of a line of 32 bytes, bit 7 of each leftmost
unfoldable pub background_at : List ℕ → ℕ → Bool
background_at opaque x = has_bit (slice_index opaque (x / 8)) (7 - x % 8)

-- both are opaque at x, which is no hidden left column and not the last pixel, 255
unfoldable pub meets_at : SpriteRow → List ℕ → Bool → ℕ → Bool
meets_at row opaque left x =
    nat_lt x 255 && (left || nat_le 8 x) && is_opaque_at row x && background_at opaque x
