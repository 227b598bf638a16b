-- What one access of the machine's bus keeps, and that it lowers the number of dots left by three.
use Rattle.std.proofs.Common.{◌≡◌, ℕ, ◌-◌, ◌%◌, ◌≤◌, Bool, true, false, if◌then◌else◌, List, refl, ap, ◌∙◌, arith}
use Rattle.std.proofs.Math.ListN.{length-set}
use Rattle.nj_vram.specs.declared.Vram.{Vram}
use Rattle.nj_vram.specs.Home.{Home, Cell, Colour, home, written as vram_written, written_at}
use Rattle.nj_banked.specs.Banks.{Banks, IsBanks}
use Rattle.nj_banked.specs.Banked.{pattern_of, put_at, written as board_written}
use Rattle.nj_machine.proofs.Boards.{KeepsBoard, keeps-put, keeps-written}
use Rattle.nj_dots.specs.declared.screen.Screen.{Screen}
use Rattle.nj_dots.specs.Screen.{IsScreen}
use Rattle.nj_dots.specs.Dots.{after_dots}
use Rattle.nj_dots.specs.Registers.{after_status, after_oam_read, data_address, after_data_read, after_read as screen_after_read, put_control, put_mask, put_nothing, put_oam_address, put_oam, put_scroll, put_address, put_data, after_write as screen_after_write, to_pattern}
use Rattle.nj_dots.proofs.Accesses.{after_read-fits, after_write-fits}
use Rattle.nj_machine.specs.State.{Rom, rom_in}
use Rattle.nj_machine.specs.Wires.{Wired, dots_run, register_read, port_one_read, port_two_read, answered, pattern_put, ram_put, register_put, copy_asked, ports_strobed, board_put, written, over, byte_read, after_read, after_write, page_taken, wires}
use Rattle.nj_machine.specs.Frame.{IsSized}
use Rattle.nj_cpu.proofs.Lower.{Lower, Lowers, lower-same, lower-and}
use Rattle.nj_machine.proofs.Dots.{still_left, dots-fall}

-- an access of a register leaves the place, the mark and the mirroring
record Same (s e : Screen) : Type 0 where
  place : e.position ≡ s.position
  mark : e.ended ≡ s.ended
  vertical : e.vram.vertical ≡ s.vram.vertical

same-if : (b : Bool) (s x y : Screen) → Same s x → Same s y → Same s (if b then x else y)
same-if true s x y h k = h
same-if false s x y h k = k

same-status : (s : Screen) → Same s (after_status s)
unfolding after_status
same-status s = record { place = refl; mark = refl; vertical = refl }

same-oam_read : (s : Screen) → Same s (after_oam_read s)
unfolding after_oam_read
same-oam_read s = record { place = refl; mark = refl; vertical = refl }

same-data_read : (p : List ℕ) (s : Screen) → Same s (after_data_read p s)
unfolding after_data_read
same-data_read p s = record { place = refl; mark = refl; vertical = refl }

same-read : (reg : ℕ) (p : List ℕ) (s : Screen) → Same s (screen_after_read reg p s)
unfolding screen_after_read
same-read reg p s =
    same-if _ s _ _ (same-status s)
    (same-if _ s _ _ (same-oam_read s)
    (same-if _ s _ _ (same-data_read p s) (record { place = refl; mark = refl; vertical = refl })))

-- a write of the picture's memory leaves the mirroring
vertical-written_at : (h : Home) (value : ℕ) (m : Vram) → (written_at h value m).vertical ≡ m.vertical
vertical-written_at (Cell n) value m = refl
vertical-written_at (Colour n) value m = refl

vertical-if : (b : Bool) (at value : ℕ) (m : Vram) → (if b then m else vram_written m at value).vertical ≡ m.vertical
unfolding vram_written
vertical-if true at value m = refl
vertical-if false at value m = vertical-written_at (home m.vertical at) value m

same-data : (value : ℕ) (s : Screen) → Same s (put_data value s)
unfolding put_data
same-data value s = record { place = refl; mark = refl; vertical = vertical-if _ (data_address s) value s.vram }

same-put_control : (value : ℕ) (s : Screen) → Same s (put_control value s)
unfolding put_control
same-put_control value s = record { place = refl; mark = refl; vertical = refl }

same-put_mask : (value : ℕ) (s : Screen) → Same s (put_mask value s)
unfolding put_mask
same-put_mask value s = record { place = refl; mark = refl; vertical = refl }

same-put_nothing : (value : ℕ) (s : Screen) → Same s (put_nothing value s)
unfolding put_nothing
same-put_nothing value s = record { place = refl; mark = refl; vertical = refl }

same-put_oam_address : (value : ℕ) (s : Screen) → Same s (put_oam_address value s)
unfolding put_oam_address
same-put_oam_address value s = record { place = refl; mark = refl; vertical = refl }

same-put_oam : (value : ℕ) (s : Screen) → Same s (put_oam value s)
unfolding put_oam
same-put_oam value s = record { place = refl; mark = refl; vertical = refl }

same-put_scroll : (value : ℕ) (s : Screen) → Same s (put_scroll value s)
unfolding put_scroll
same-put_scroll value s = record { place = refl; mark = refl; vertical = refl }

same-put_address : (value : ℕ) (s : Screen) → Same s (put_address value s)
unfolding put_address
same-put_address value s = record { place = refl; mark = refl; vertical = refl }

same-write : (reg value : ℕ) (s : Screen) → Same s (screen_after_write reg value s)
unfolding screen_after_write
same-write reg value s =
    same-if _ s _ _ (same-put_control value s)
    (same-if _ s _ _ (same-put_mask value s)
    (same-if _ s _ _ (same-put_nothing value s)
    (same-if _ s _ _ (same-put_oam_address value s)
    (same-if _ s _ _ (same-put_oam value s)
    (same-if _ s _ _ (same-put_scroll value s)
    (same-if _ s _ _ (same-put_address value s) (same-data value s)))))))

-- the cells are sized and of this cartridge
pub record Keeps (rom : Rom) (w : Wired) : Type 0 where
  pub sized : IsSized w.cells
  pub of_rom : rom_in w.cells.board w.cells.screen.vram.vertical ≡ rom

abbrev pub left_of : Wired → ℕ
left_of w = still_left w.cells.screen

-- from one to the other nothing is lost and no dot is added
abbrev Stays : Rom → Wired → Wired → Type 0
Stays rom w e = Lower (Keeps rom) left_of 0 w e

-- the same dots are left where place and mark are the same
same_left : (s e : Screen) → Same s e → still_left e ≡ still_left s
same_left s e same = rw (same.place, same.mark) refl

-- another picture, with fewer dots by n
with_screen : (rom : Rom) (n : ℕ) (w : Wired) (e : Screen) → Keeps rom w → IsScreen e
    → still_left e ≤ still_left w.cells.screen - n →
    e.vram.vertical ≡ w.cells.screen.vram.vertical →
    Lower (Keeps rom) left_of n w (record w { cells = (let c = w.cells in record c { screen = e }) })
with_screen rom n w e h fits fewer vertical =
    record {
      stays = record {
        sized = record { screen = fits; ram = h.sized.ram; board = h.sized.board };
        of_rom = ap (λ v. rom_in w.cells.board v) vertical ∙ h.of_rom;
      };
      fewer = fewer;
    }

-- the three dots of a cycle
dots_run-lowers : (rom : Rom) (w : Wired) → Keeps rom w → Lower (Keeps rom) left_of 3 w (dots_run w)
unfolding dots_run
dots_run-lowers rom w h =
    let fall = dots-fall 3 (pattern_of w.cells.board) w.cells.screen h.sized.screen in
    with_screen rom 3 w (after_dots 3 (pattern_of w.cells.board) w.cells.screen) h fall.0 fall.1.fewer fall.1.vertical

-- an access of a register
accessed : (rom : Rom) (w : Wired) (e : Screen) → Keeps rom w → IsScreen e → Same w.cells.screen e →
    Stays rom w (record w { cells = (let c = w.cells in record c { screen = e }) })
accessed rom w e h fits same =
    with_screen rom 0 w e h fits (omega (arith, same_left w.cells.screen e same)) same.vertical

lower-if : (rom : Rom) (b : Bool) (w x y : Wired) → Stays rom w x → Stays rom w y → Stays rom w (if b then x else y)
lower-if rom true w x y h k = h
lower-if rom false w x y h k = k

-- a read of a register, and of a port
register_read-stays : (rom : Rom) (reg : ℕ) (w : Wired) → Keeps rom w → Stays rom w (register_read reg w)
unfolding register_read
register_read-stays rom reg w h =
    accessed rom w (screen_after_read reg (pattern_of w.cells.board) w.cells.screen) h
    (after_read-fits reg (pattern_of w.cells.board) w.cells.screen h.sized.screen)
    (same-read reg (pattern_of w.cells.board) w.cells.screen)

port_one_read-stays : (rom : Rom) (w : Wired) → Keeps rom w → Stays rom w (port_one_read w)
unfolding port_one_read
port_one_read-stays rom w h =
    record {
      stays =
          record {
            sized = record { screen = h.sized.screen; ram = h.sized.ram; board = h.sized.board };
            of_rom = h.of_rom;
          };
      fewer = omega arith;
    }

port_two_read-stays : (rom : Rom) (w : Wired) → Keeps rom w → Stays rom w (port_two_read w)
unfolding port_two_read
port_two_read-stays rom w h =
    record {
      stays =
          record {
            sized = record { screen = h.sized.screen; ram = h.sized.ram; board = h.sized.board };
            of_rom = h.of_rom;
          };
      fewer = omega arith;
    }

-- what a read changes
answered-stays : (rom : Rom) (w : Wired) (at : ℕ) → Keeps rom w → Stays rom w (answered w at)
unfolding answered
answered-stays rom w at h =
    lower-if rom _ w _ _ (lower-same (Keeps rom) left_of w h)
    (lower-if rom _ w _ _ (register_read-stays rom (at % 8) w h)
    (lower-if rom _ w _ _ (port_one_read-stays rom w h)
    (lower-if rom _ w _ _ (port_two_read-stays rom w h) (lower-same (Keeps rom) left_of w h))))

-- a write of working memory, of a register, of $4014 and of $4016
ram_put-stays : (rom : Rom) (place value : ℕ) (w : Wired) → Keeps rom w → Stays rom w (ram_put place value w)
unfolding ram_put
ram_put-stays rom place value w h =
    record {
      stays = record {
        sized = record {
          screen = h.sized.screen;
          ram = length-set w.cells.ram place value ∙ h.sized.ram;
          board = h.sized.board;
        };
        of_rom = h.of_rom;
      };
      fewer = omega arith;
    }

register_put-stays : (rom : Rom) (reg value : ℕ) (w : Wired) → Keeps rom w → Stays rom w (register_put reg value w)
unfolding register_put
register_put-stays rom reg value w h =
    let e = screen_after_write reg value w.cells.screen in
    let same = same-write reg value w.cells.screen in
    let board = keeps-put w.cells.board (to_pattern reg value w.cells.screen) h.sized.board in
    record {
      stays = record {
        sized = record {
          screen = after_write-fits reg value w.cells.screen h.sized.screen;
          ram = h.sized.ram;
          board = board.sized;
        };
        of_rom = board.rom e.vram.vertical ∙ ap (λ v. rom_in w.cells.board v) same.vertical ∙ h.of_rom;
      };
      fewer = omega (arith, same_left w.cells.screen e same);
    }

copy_asked-stays : (rom : Rom) (page : ℕ) (w : Wired) → Keeps rom w → Stays rom w (copy_asked page w)
unfolding copy_asked
copy_asked-stays rom page w h =
    record {
      stays =
          record {
            sized = record { screen = h.sized.screen; ram = h.sized.ram; board = h.sized.board };
            of_rom = h.of_rom;
          };
      fewer = omega arith;
    }

ports_strobed-stays : (rom : Rom) (value : ℕ) (w : Wired) → Keeps rom w → Stays rom w (ports_strobed value w)
unfolding ports_strobed
ports_strobed-stays rom value w h =
    record {
      stays =
          record {
            sized = record { screen = h.sized.screen; ram = h.sized.ram; board = h.sized.board };
            of_rom = h.of_rom;
          };
      fewer = omega arith;
    }

-- a write to the board
board_put-stays : (rom : Rom) (at value : ℕ) (w : Wired) → Keeps rom w → Stays rom w (board_put at value w)
unfolding board_put
board_put-stays rom at value w h =
    let board = keeps-written w.cells.board at value h.sized.board in
    record {
      stays = record {
        sized = record { screen = h.sized.screen; ram = h.sized.ram; board = board.sized };
        of_rom = board.rom w.cells.screen.vram.vertical ∙ h.of_rom;
      };
      fewer = omega arith;
    }

-- what a write changes
written-stays : (rom : Rom) (w : Wired) (at value : ℕ) → Keeps rom w → Stays rom w (written w at value)
unfolding written
written-stays rom w at value h =
    lower-if rom _ w _ _ (ram_put-stays rom (at % 2048) value w h)
    (lower-if rom _ w _ _ (register_put-stays rom (at % 8) value w h)
    (lower-if rom _ w _ _ (copy_asked-stays rom value w h)
    (lower-if rom _ w _ _ (ports_strobed-stays rom value w h)
    (lower-if rom _ w _ _ (board_put-stays rom at value w h) (lower-same (Keeps rom) left_of w h)))))

-- the end of a cycle
over-stays : (rom : Rom) (w : Wired) (byte : ℕ) → Keeps rom w → Stays rom w (over byte w)
unfolding over
over-stays rom w byte h =
    record {
      stays =
          record {
            sized = record { screen = h.sized.screen; ram = h.sized.ram; board = h.sized.board };
            of_rom = h.of_rom;
          };
      fewer = omega arith;
    }

taken-stays : (rom : Rom) (w : Wired) → Keeps rom w → Stays rom w (page_taken w)
unfolding page_taken
taken-stays rom w h =
    record {
      stays =
          record {
            sized = record { screen = h.sized.screen; ram = h.sized.ram; board = h.sized.board };
            of_rom = h.of_rom;
          };
      fewer = omega arith;
    }

reads-lower : (rom : Rom) (w : Wired) (at : ℕ) → Keeps rom w → Lower (Keeps rom) left_of 3 w (after_read w at)
unfolding after_read
reads-lower rom w at h =
    let dots = dots_run-lowers rom w h in
    let access = answered-stays rom (dots_run w) at dots.stays in
    lower-and (Keeps rom) left_of 3 _ _ _ (lower-and (Keeps rom) left_of 3 _ _ _ dots access)
    (over-stays rom (answered (dots_run w) at) (byte_read w at) access.stays)

writes-lower : (rom : Rom) (w : Wired) (at value : ℕ) → Keeps rom w
    → Lower (Keeps rom) left_of 3 w (after_write w at value)
unfolding after_write
writes-lower rom w at value h =
    let dots = dots_run-lowers rom w h in
    let access = written-stays rom (dots_run w) at value dots.stays in
    lower-and (Keeps rom) left_of 3 _ _ _ (lower-and (Keeps rom) left_of 3 _ _ _ dots access)
    (over-stays rom (written (dots_run w) at value) value access.stays)

-- every access of the machine's bus
pub wires-lower : (rom : Rom) → Lowers wires (Keeps rom) left_of 3
wires-lower rom = record { reads = reads-lower rom; writes = writes-lower rom; takes = taken-stays rom }
