-- Homes of addresses by cases: a byte of the nametables below $3F00, a colour from there on.
use Rattle.std.proofs.Common.{◌≡◌, ◌≢◌, ℕ, ◌+◌, ◌%◌, ◌<◌, ◌≤◌, Bool, true, false, length, refl, ap, sym, ◌∙◌, arith, get_or-set_same, get_or-set_other}
use Rattle.std.proofs.lemmas.Bool.Decides.{nat_tests}
use Rattle.std.proofs.Math.ListN.{length-set}
use Rattle.nj_vram.specs.declared.Vram.{Vram}
use Rattle.nj_vram.specs.Home.{Home, Cell, Colour, home, table_of, cell_of, colour_of, got, got_at, written, written_at}
use Rattle.nj_vram.specs.Laws.{IsMirror, IsSized}

-- below $3F00 the home is a byte of the nametables
pub home-cell : (v : Bool) (at : ℕ) → at < 0x3F00 → home v at ≡ Cell (cell_of v at)
unfolding home
home-cell v at below = grind (arith, nat_tests)

-- from $3F00 on it is a colour
pub home-colour : (v : Bool) (at : ℕ) → 0x3F00 ≤ at → home v at ≡ Colour (colour_of at)
unfolding home
home-colour v at from = grind (arith, nat_tests)

-- addresses of one byte of the nametables are mirrors
pub mirror_cells : (v : Bool) (a b : ℕ) → a < 0x3F00 → b < 0x3F00 → cell_of v a ≡ cell_of v b → IsMirror v a b
mirror_cells v a b in_a in_b same = home-cell v a in_a ∙ ap Cell same ∙ sym (home-cell v b in_b)

-- addresses of one colour are mirrors
pub mirror_colours : (v : Bool) (a b : ℕ) → 0x3F00 ≤ a → 0x3F00 ≤ b → colour_of a ≡ colour_of b → IsMirror v a b
mirror_colours v a b in_a in_b same = home-colour v a in_a ∙ ap Colour same ∙ sym (home-colour v b in_b)

-- homes that are equal are the same byte
pub cells_apart : (v : Bool) (a b : ℕ) → a < 0x3F00 → b < 0x3F00 → cell_of v a ≢ cell_of v b → home v a ≢ home v b
cells_apart v a b in_a in_b apart same =
    let at_a : home v a ≡ Cell (cell_of v a) = home-cell v a in_a in
    let at_b : home v b ≡ Cell (cell_of v b) = home-cell v b in_b in
    let one : cell_of v a ≡ cell_of v b = cc in
    apart one

-- the byte is below 2,048
pub cell_of-lt : (v : Bool) (at : ℕ) → cell_of v at < 2048
unfolding cell_of table_of
cell_of-lt true at = omega arith
cell_of-lt false at = omega arith

-- the colour is below 32
pub colour_of-lt : (at : ℕ) → colour_of at < 32
unfolding colour_of
colour_of-lt at = grind (arith, nat_tests)

-- a write keeps the sizes
pub written_at-sized : (h : Home) (value : ℕ) (m : Vram) → IsSized m → IsSized (written_at h value m)
written_at-sized (Cell n) value m sized = record { cells = length-set m.cells n value ∙ sized.cells; palette = sized.palette }
written_at-sized (Colour n) value m sized = record { cells = sized.cells; palette = length-set m.palette n (value % 64) ∙ sized.palette }

-- a write keeps the mirroring
pub written_at-vertical : (h : Home) (value : ℕ) (m : Vram) → (written_at h value m).vertical ≡ m.vertical
written_at-vertical (Cell n) value m = refl
written_at-vertical (Colour n) value m = refl

-- another home keeps its byte
pub got_at-other : (h k : Home) (value : ℕ) (m : Vram) → k ≢ h → got_at k (written_at h value m) ≡ got_at k m
got_at-other (Cell n) (Cell j) value m apart =
    let not_here : j ≢ n = λ e. apart (ap Cell e) in
    get_or-set_other m.cells n j value 0 not_here
got_at-other (Cell n) (Colour j) value m apart = refl
got_at-other (Colour n) (Cell j) value m apart = refl
got_at-other (Colour n) (Colour j) value m apart =
    let not_here : j ≢ n = λ e. apart (ap Colour e) in
    ap (λ x. x % 64) (get_or-set_other m.palette n j (value % 64) 0 not_here)

-- $3000 and up repeat $2000 and up
pub cell_of-same : (v : Bool) (n : ℕ) → cell_of v (0x3000 + n) ≡ cell_of v (0x2000 + n)
unfolding cell_of table_of
cell_of-same true n = omega arith
cell_of-same false n = omega arith

-- a byte of the nametables is read as it was written
pub got_at-cell : (n value : ℕ) (m : Vram) → n < length m.cells → got_at (Cell n) (written_at (Cell n) value m) ≡ value
got_at-cell n value m within = get_or-set_same m.cells n value 0 within

-- a colour is read with the six bits that it keeps
pub got_at-colour : (n value : ℕ) (m : Vram) → n < length m.palette → got_at (Colour n) (written_at (Colour n) value m) ≡ value % 64
got_at-colour n value m within =
    ap (λ x. x % 64) (get_or-set_same m.palette n (value % 64) 0 within) ∙ omega arith

-- the byte read at an address after a write, by homes alone
pub got-written : (m : Vram) (at value other : ℕ) → got (written m at value) other ≡ got_at (home m.vertical other) (written_at (home m.vertical at) value m)
unfolding got written
got-written m at value other =
    ap (λ v. got_at (home v other) (written_at (home m.vertical at) value m)) (written_at-vertical (home m.vertical at) value m)
