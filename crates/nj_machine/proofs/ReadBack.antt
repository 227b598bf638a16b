-- Image and state determine each other.
use Rattle.std.proofs.Common.{◌≡◌, ℕ, ◌+◌, ◌*◌, ◌/◌, ◌%◌, ◌≤◌, ◌==◌, Bool, true, false, not, List, ◌++◌, length, take, drop, replicate, refl, ap, sym, ◌∙◌, arith, subst, if◌then◌else◌, Option, Some, None, length-append, lit≤}
use Rattle.std.proofs.Math.ListN.{length-replicate}
use Rattle.std.proofs.lemmas.List.{take_at, drop_at, drop-drop}
use Rattle.nj_banked.specs.Banks.{Banks, IsBanks}
use Rattle.nj_vram.specs.Home.{blank}
use Rattle.nj_cpu.specs.declared.state.Note.{Note}
use Rattle.nj_cpu.specs.declared.state.Note.TheVariants.{None as NoNote, Late, Due}
use Rattle.nj_dots.specs.declared.screen.Screen.{Screen}
use Rattle.nj_dots.specs.Screen.{IsScreen, power_on as screen_at_power_on}
use Rattle.nj_dots.specs.Image.{flag_byte, picture_bytes, picture_part}
use Rattle.nj_dots.proofs.Stored.{length-register_bytes, get_is}
use Rattle.nj_machine.specs.State.{State, Rom, cells_of, pattern_rom, rom_in, rom_of}
use Rattle.nj_machine.specs.Frame.{IsReady, frames}
use Rattle.nj_machine.proofs.Boards.{ram_whole}
use Rattle.nj_machine.specs.Image.{note_byte, page_flag, page_byte, rest_bytes, pattern_ram, image_len, image_of, cpu_at, screen_at, board_at, cells_at, of_image, IsImage}

-- where each part of an image stands
pub record Parts (image ram picture rest pattern : List ℕ) : Type 0 where
  pub first : take 2048 image ≡ ram
  pub second : picture_part image ≡ picture
  pub third : take 32 (drop 4448 image) ≡ rest
  pub last : drop 4480 image ≡ pattern

parts_of : (ram picture rest pattern : List ℕ) → length ram ≡ 2048 → length picture ≡ 2400 → length rest ≡ 32 →
    Parts (ram ++ (picture ++ (rest ++ pattern))) ram picture rest pattern
unfolding picture_part
parts_of ram picture rest pattern r p m =
    let behind_ram = drop_at ram (picture ++ (rest ++ pattern)) 2048 r in
    let behind_picture : drop 4448 (ram ++ (picture ++ (rest ++ pattern))) ≡ rest ++ pattern =
    sym (drop-drop 2400 2048 (ram ++ (picture ++ (rest ++ pattern)))) ∙ ap (drop 2400) behind_ram
    ∙ drop_at picture (rest ++ pattern) 2400 p in
    record {
      first = take_at ram (picture ++ (rest ++ pattern)) 2048 r;
      second = ap (take 2400) behind_ram ∙ take_at picture (rest ++ pattern) 2400 p;
      third = ap (take 32) behind_picture ∙ take_at rest pattern 32 m;
      last = sym (drop-drop 32 4448 (ram ++ (picture ++ (rest ++ pattern)))) ∙ ap (drop 32) behind_picture
          ∙ drop_at rest pattern 32 m;
    }

-- the picture's part has 2,400 bytes
pub length-picture_bytes : (s : Screen) → IsScreen s → length (picture_bytes s) ≡ 2400
unfolding picture_bytes
length-picture_bytes s h =
    let cells : length s.vram.cells ≡ 2048 = h.vram.cells in
    let palette : length s.vram.palette ≡ 32 = h.vram.palette in
    let oam : length s.oam ≡ 256 = h.oam in
    let registers = length-register_bytes s in
    let zeros : length {A = ℕ} (replicate 38 0) ≡ 38 = length-replicate {A = ℕ} 38 0 in
    simp length-append (omega arith)

-- the rest has 32
pub length-rest : (s : State) → length (rest_bytes s ++ replicate 6 0) ≡ 32
unfolding rest_bytes
length-rest s = length-append (rest_bytes s) (replicate 6 0) ∙ ap (λ n. 26 + n) (length-replicate {A = ℕ} 6 0)

pub image_parts : (s : State) → IsReady s →
    Parts (image_of s) s.cells.ram (picture_bytes s.cells.screen) (rest_bytes s ++ replicate 6 0)
    (pattern_ram s.cells.board.chr_ram s.cells.board.chr)
unfolding image_of
image_parts s h =
    parts_of s.cells.ram (picture_bytes s.cells.screen) (rest_bytes s ++ replicate 6 0)
    (pattern_ram s.cells.board.chr_ram s.cells.board.chr)
    h.sized.ram (length-picture_bytes s.cells.screen h.sized.screen) (length-rest s)

-- bytes, flags, notes and pages are read again as they were written
word-back : (n : ℕ) → n % 256 + 256 * (n / 256) ≡ n
word-back n = omega arith

flag-back : (b : Bool) → not (flag_byte b == 0) ≡ b
flag-back true = refl
flag-back false = refl

note-back : (n : Note) → (if note_byte n == 0 then NoNote else (if note_byte n == 1 then Late else Due)) ≡ n
note-back NoNote = refl
note-back Late = refl
note-back Due = refl

page-back : (p : Option ℕ) → (if not (page_flag p == 0) then Some (page_byte p) else None) ≡ p
page-back None = refl
page-back (Some page) = refl

cpu-back : (s : State) → cpu_at (rest_bytes s ++ replicate 6 0) ≡ s.cpu
unfolding cpu_at rest_bytes
cpu-back s = simp (word-back, flag-back, note-back)

-- the picture is read again
screen-back : (s : Screen) (image : List ℕ) → IsScreen s → s.ended ≡ false → 4448 ≤ length image
    → picture_part image ≡ picture_bytes s →
    screen_at s.vram.vertical image ≡ s
unfolding screen_at screen_at_power_on blank
screen-back s image fits unmarked long holds =
    get_is s (screen_at_power_on s.vram.vertical) _ _ _ _ image
    (record { fits = fits; unmarked = unmarked; bytes = holds }) refl long refl refl refl refl

-- the board is read again
board-by : (b : Bool) (prg chr : List ℕ) (ram : List ℕ) → ram ≡ pattern_ram b chr
    → (if b then ram else pattern_rom b chr) ≡ chr
board-by true prg chr ram e = e
board-by false prg chr ram e = refl

board-back : (m : Banks) (vertical : Bool) (image : List ℕ) → drop 4480 image ≡ pattern_ram m.chr_ram m.chr
    → board_at (rom_in m vertical) image m.bank ≡ m
unfolding board_at
board-back m vertical image e = ap (λ chr. record m { chr = chr }) (board-by m.chr_ram m.prg m.chr (drop 4480 image) e)

-- the cells are read again
cells-back : (s : State)
    → cells_at (rom_of s) (image_of s) (rest_bytes s ++ replicate 6 0)
    ≡ cells_of (screen_at s.cells.screen.vram.vertical (image_of s)) (take 2048 (image_of s))
    (board_at (rom_of s) (image_of s) s.cells.board.bank) s.cells.bus_byte s.cells.page s.cells.odd s.cells.port_one
    s.cells.port_two
unfolding cells_at rest_bytes rom_of
cells-back s = simp (flag-back, page-back)

-- an image has its length, since pattern memory that is RAM has 8 KiB
pattern-length : (b : Bool) (chr : List ℕ) → (b ≡ true → length chr ≡ 8192)
    → 4480 + length (pattern_ram b chr) ≡ (if b then 12672 else 4480)
pattern-length true chr e = omega (arith, e refl)
pattern-length false chr e = refl

pub image-length : (s : State) → IsReady s → length (image_of s) ≡ image_len (rom_of s)
unfolding image_of image_len rom_of
image-length s h =
    let pattern = pattern_ram s.cells.board.chr_ram s.cells.board.chr in
    let whole = pattern-length s.cells.board.chr_ram s.cells.board.chr (ram_whole s.cells.board h.sized.board) in
    length-append s.cells.ram (picture_bytes s.cells.screen ++ ((rest_bytes s ++ replicate 6 0) ++ pattern))
    ∙ omega (
      arith,
      whole,
      h.sized.ram,
      length-picture_bytes s.cells.screen h.sized.screen,
      length-rest s,
      length-append (picture_bytes s.cells.screen) ((rest_bytes s ++ replicate 6 0) ++ pattern),
      length-append (rest_bytes s ++ replicate 6 0) pattern,
    )

long_enough : (b : Bool) → 4480 ≤ (if b then 12672 else 4480)
long_enough true = lit≤ tt
long_enough false = lit≤ tt

pub image-long : (rom : Rom) → 4480 ≤ image_len rom
unfolding image_len
image-long rom = long_enough rom.chr_ram

-- the state of an image's state is that state
pub again : (s : State) → IsReady s → of_image (rom_of s) (image_of s) ≡ s
unfolding of_image rom_of
again s h =
    let image = image_of s in
    let parts = image_parts s h in
    let long : 4448 ≤ length image = omega (arith, image-length s h, image-long (rom_of s)) in
    let screen = screen-back s.cells.screen image h.sized.screen h.clear long parts.second in
    let board = board-back s.cells.board s.cells.screen.vram.vertical image parts.last in
    let cells =
    cells-back s
    ∙ ap (λ x. cells_of x (take 2048 image) (board_at (rom_of s) image s.cells.board.bank) s.cells.bus_byte s.cells.page
    s.cells.odd s.cells.port_one s.cells.port_two) screen
    ∙ ap (λ x. cells_of s.cells.screen x (board_at (rom_of s) image s.cells.board.bank) s.cells.bus_byte s.cells.page
    s.cells.odd s.cells.port_one s.cells.port_two) parts.first
    ∙ ap (λ x. cells_of s.cells.screen s.cells.ram x s.cells.bus_byte s.cells.page s.cells.odd s.cells.port_one
    s.cells.port_two) board in
    ap (λ bytes. record { cpu = cpu_at bytes; cells = cells_at (rom_of s) image bytes }) parts.third
    ∙ ap (λ x. record { cpu = x; cells = cells_at (rom_of s) image (rest_bytes s ++ replicate 6 0) }) (cpu-back s)
    ∙ ap (λ x. record { cpu = s.cpu; cells = x }) cells

-- two states of one cartridge with one image are one
pub one : (s t : State) → IsReady s → IsReady t → rom_of s ≡ rom_of t → image_of s ≡ image_of t → s ≡ t
one s t h k rom image =
    sym (again s h) ∙ ap (λ r. of_image r (image_of s)) rom ∙ ap (of_image (rom_of t)) image ∙ again t k

-- the image of a state is one of its cartridge
pub saved : (s : State) → IsReady s → IsImage (rom_of s) (image_of s)
saved s h = record {
  sized = image-length s h;
  ready = subst IsReady (sym (again s h)) h;
  of_rom = ap rom_of (again s h);
  again = ap image_of (again s h);
}

-- a state that was saved and loaded goes on as it was
pub onward : (s : State) (pads : List ℕ) → IsReady s → frames (of_image (rom_of s) (image_of s)) pads ≡ frames s pads
onward s pads h = ap (λ x. frames x pads) (again s h)
