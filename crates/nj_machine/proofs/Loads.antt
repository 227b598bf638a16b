-- What is read from an image is the state that it is of.
use Rattle.std.proofs.Common.{◌≡◌, ℕ, ◌<◌, Bool, true, false, List, take, drop, slice_index, Option, refl, ap, sym, ◌∙◌, subst, if◌then◌else◌}
use Rattle.nj_banked.specs.Banks.{Banks, bank_count}
use Rattle.nj_banked.specs.Banked.{with_bank}
use Rattle.nj_cpu.specs.declared.state.Cpu.{Cpu}
use Rattle.nj_dots.specs.declared.screen.Screen.{Screen}
use Rattle.nj_dots.specs.Image.{flag_at, picture_part, Holds}
use Rattle.nj_pad.specs.declared.Port.{Port}
use Rattle.nj_machine.specs.State.{State, Rom, cells_of, pattern_rom, rom_in, rom_of}
use Rattle.nj_machine.specs.Image.{page_at, port_at, cpu_at, board_at, cells_at, of_image, IsImage}
use Rattle.nj_machine.proofs.ReadBack.{image_parts}

-- the picture that an image holds
pub holds_of : (rom : Rom) (image : List ℕ) → IsImage rom image → Holds image (of_image rom image).cells.screen
holds_of rom image h =
    let parts = image_parts (of_image rom image) h.ready in
    record {
      fits = h.ready.sized.screen;
      unmarked = h.ready.clear;
      bytes = ap picture_part (sym h.again) ∙ parts.second;
    }

-- its mirroring is the cartridge's
pub mirroring_of : (s : State) (image : List ℕ) → IsImage (rom_of s) image →
    (of_image (rom_of s) image).cells.screen.vram.vertical ≡ s.cells.screen.vram.vertical
unfolding rom_of
mirroring_of s image h = ap (λ r. r.vertical) h.of_rom

board-by : (b : Bool) (chr ram : List ℕ) → (if b then ram else chr) ≡ (if b then ram else pattern_rom b chr)
board-by true chr ram = refl
board-by false chr ram = refl

-- a board with its pattern memory from an image, where it is RAM
abbrev pub with_pattern : List ℕ → Banks → Banks
with_pattern image m = record m { chr = (if m.chr_ram then drop 4480 image else m.chr) }

board-is : (m : Banks) (vertical : Bool) (image : List ℕ) (bank : ℕ) →
    with_bank (with_pattern image m) bank ≡ board_at (rom_in m vertical) image bank
unfolding board_at
board-is m vertical image bank =
    ap (λ chr. record m { chr = chr; bank = bank }) (board-by m.chr_ram m.chr (drop 4480 image))

-- the bank of an image is one of the cartridge's
pub bank_below : (s : State) (image bytes : List ℕ) (board : Banks) → IsImage (rom_of s) image
    → bytes ≡ take 32 (drop 4448 image) →
    board ≡ with_pattern image s.cells.board → slice_index bytes 25 < bank_count board
unfolding of_image cells_at rom_of bank_count board_at
bank_below s image bytes board h rest is_board =
    let whole = board-is s.cells.board s.cells.screen.vram.vertical image (slice_index bytes 25) in
    let below = h.ready.sized.board.bank in
    rw (
      is_board,
      rest,
    ) (subst (λ m. slice_index (take 32 (drop 4448 image)) 25 < bank_count m)
    (sym (board-is s.cells.board s.cells.screen.vram.vertical image (slice_index (take 32 (drop 4448 image)) 25)))
    below)

-- the parts that a machine read from an image
pub record Read (s : State) (image bytes : List ℕ) (cpu : Cpu) (screen : Screen) (ram : List ℕ) (board : Banks)
    (page : Option ℕ) (odd : Bool) (one two : Port) : Type 0 where
  pub rest_is : bytes ≡ take 32 (drop 4448 image)
  pub cpu_is : cpu ≡ cpu_at bytes
  pub screen_is : screen ≡ (of_image (rom_of s) image).cells.screen
  pub ram_is : ram ≡ take 2048 image
  pub board_is : board ≡ with_bank (with_pattern image s.cells.board) (slice_index bytes 25)
  pub page_is : page ≡ page_at bytes 22
  pub odd_is : odd ≡ flag_at bytes 24
  pub one_is : one ≡ port_at bytes 15
  pub two_is : two ≡ port_at bytes 18

pub load_chain : (s : State) (image bytes : List ℕ) (cpu : Cpu) (screen : Screen) (ram : List ℕ) (board : Banks)
    (page : Option ℕ) (odd : Bool) (one two : Port) →
    Read s image bytes cpu screen ram board page odd one two →
    record { cpu = cpu; cells = cells_of screen ram board (slice_index bytes 21) page odd one two }
    ≡ of_image (rom_of s) image
unfolding of_image cells_at rom_of
load_chain s image bytes cpu screen ram board page odd one two r =
    let is_board = r.board_is ∙ board-is s.cells.board s.cells.screen.vram.vertical image (slice_index bytes 25) in
    rw (r.cpu_is, r.screen_is, r.ram_is, is_board, r.page_is, r.odd_is, r.one_is, r.two_is, r.rest_is) refl
