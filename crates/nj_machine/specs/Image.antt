-- The image of a state (the layout is this project's own): working memory from byte 0, the picture's part from byte
-- 2,048 (nametables, OAM, palette and 64 bytes of registers), 32 bytes of the rest from byte 4,448, and pattern memory
-- from byte 4,480 where it is RAM. What the cartridge fixes is no part of it.
use Rattle.std.specs.Prelude.{◌≡◌, ℕ, ◌+◌, ◌*◌, ◌/◌, ◌%◌, ◌==◌, Bool, true, false, List, [], ◌∷◌, ◌++◌, length, take, drop, replicate, slice_index, Option, Some, None, if◌then◌else◌}
use Rattle.nj_banked.specs.Banks.{Banks}
use Rattle.nj_cpu.specs.declared.state.Cpu.{Cpu}
use Rattle.nj_cpu.specs.declared.state.Note.{Note}
use Rattle.nj_cpu.specs.declared.state.Note.TheVariants.{None as NoNote, Late, Due}
use Rattle.nj_dots.specs.declared.screen.Screen.{Screen}
use Rattle.nj_dots.specs.Screen.{power_on as screen_at_power_on}
use Rattle.nj_dots.specs.Image.{flag_byte, flag_at, with_registers, picture_bytes}
use Rattle.nj_pad.specs.declared.Port.{Port}
use Rattle.nj_machine.specs.State.{Cells, State, Rom, cells_of, rom_of}
use Rattle.nj_machine.specs.Frame.{IsReady}

-- a note as a byte
abbrev pub note_byte : Note → ℕ
note_byte NoNote = 0
note_byte Late = 1
note_byte Due = 2

-- whether a page waits for its copy, as a byte
abbrev pub page_flag : Option ℕ → ℕ
page_flag None = 0
page_flag (Some page) = 1

-- the page, or 0
abbrev pub page_byte : Option ℕ → ℕ
page_byte None = 0
page_byte (Some page) = page

-- the processor, the ports, the data bus and the board's bank as 26 bytes, words low byte first
unfoldable pub rest_bytes : State → List ℕ
rest_bytes s =
    s.cpu.a ∷ s.cpu.x ∷ s.cpu.y ∷ s.cpu.s ∷ s.cpu.pc % 256 ∷ s.cpu.pc / 256
    ∷ flag_byte s.cpu.flags.n ∷ flag_byte s.cpu.flags.v ∷ flag_byte s.cpu.flags.d
    ∷ flag_byte s.cpu.flags.i ∷ flag_byte s.cpu.flags.z ∷ flag_byte s.cpu.flags.c
    ∷ note_byte s.cpu.note ∷ flag_byte s.cpu.line ∷ flag_byte s.cpu.jammed
    ∷ flag_byte s.cells.port_one.strobe ∷ s.cells.port_one.latch ∷ s.cells.port_one.count
    ∷ flag_byte s.cells.port_two.strobe ∷ s.cells.port_two.latch ∷ s.cells.port_two.count
    ∷ s.cells.bus_byte ∷ page_flag s.cells.page ∷ page_byte s.cells.page ∷ flag_byte s.cells.odd
    ∷ s.cells.board.bank ∷ []

-- pattern memory is a part of the state where it is RAM
abbrev pub pattern_ram : Bool → List ℕ → List ℕ
pattern_ram true chr = chr
pattern_ram false chr = []

-- how many bytes the image of a state has, 4,480 or 12,672
unfoldable pub image_len : Rom → ℕ
image_len rom = if rom.chr_ram then 12672 else 4480

-- the image of a state; six bytes before pattern memory are 0
unfoldable pub image_of : State → List ℕ
image_of s =
    s.cells.ram ++ (picture_bytes s.cells.screen
    ++ ((rest_bytes s ++ replicate 6 0) ++ pattern_ram s.cells.board.chr_ram s.cells.board.chr))

-- a note from its byte
abbrev pub note_at : List ℕ → ℕ → Note
note_at bytes i = if slice_index bytes i == 0 then NoNote else (if slice_index bytes i == 1 then Late else Due)

-- the page from its flag and byte
abbrev pub page_at : List ℕ → ℕ → Option ℕ
page_at bytes i = if flag_at bytes i then Some (slice_index bytes (i + 1)) else None

-- a port from its three bytes
abbrev pub port_at : List ℕ → ℕ → Port
port_at bytes i =
    record { strobe = flag_at bytes i; latch = slice_index bytes (i + 1); count = slice_index bytes (i + 2) }

-- the processor from the first 15 of the 32 bytes
unfoldable pub cpu_at : List ℕ → Cpu
cpu_at bytes = record {
  a = slice_index bytes 0;
  x = slice_index bytes 1;
  y = slice_index bytes 2;
  s = slice_index bytes 3;
  pc = slice_index bytes 4 + 256 * slice_index bytes 5;
  flags = record {
    n = flag_at bytes 6;
    v = flag_at bytes 7;
    d = flag_at bytes 8;
    i = flag_at bytes 9;
    z = flag_at bytes 10;
    c = flag_at bytes 11;
  };
  note = note_at bytes 12;
  line = flag_at bytes 13;
  jammed = flag_at bytes 14;
}

-- the picture from an image, no end marked
unfoldable pub screen_at : Bool → List ℕ → Screen
screen_at vertical image =
    with_registers (take 26 (drop 4384 image)) (let s = screen_at_power_on vertical in record s {
      oam = take 256 (drop 4096 image);
      vram = record { vertical = vertical; cells = take 2048 (drop 2048 image); palette = take 32 (drop 4352 image) };
    })

-- the board of this cartridge with this bank chosen, with pattern memory from an image where it is RAM
unfoldable pub board_at : Rom → List ℕ → ℕ → Banks
board_at rom image bank = record {
  prg = rom.prg;
  chr = (if rom.chr_ram then drop 4480 image else rom.chr);
  chr_ram = rom.chr_ram;
  mapper = rom.mapper;
  bank = bank;
}

-- the cells from an image and its 32 bytes
unfoldable pub cells_at : Rom → List ℕ → List ℕ → Cells
cells_at rom image bytes =
    cells_of (screen_at rom.vertical image) (take 2048 image) (board_at rom image (slice_index bytes 25))
    (slice_index bytes 21) (page_at bytes 22) (flag_at bytes 24) (port_at bytes 15) (port_at bytes 18)

-- the state of this cartridge that has this image
unfoldable pub of_image : Rom → List ℕ → State
of_image rom image =
    let bytes = take 32 (drop 4448 image) in record { cpu = cpu_at bytes; cells = cells_at rom image bytes }

-- the bytes are the image of a state of this cartridge
pub record IsImage (rom : Rom) (image : List ℕ) : Type 0 where
  pub sized : length image ≡ image_len rom
  pub ready : IsReady (of_image rom image)
  pub of_rom : rom_of (of_image rom image) ≡ rom
  pub again : image_of (of_image rom image) ≡ image
