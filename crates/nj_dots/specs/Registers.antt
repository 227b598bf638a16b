-- What an access of each register does (NESdev Wiki, "PPU registers"). The dot at which a read of $2002 holds the
-- vertical blank flag, a latch that never decays, and plain $2004 and $2007 while rendering are this project's own.
use Rattle.std.specs.Prelude.{ℕ, ◌+◌, ◌-◌, ◌*◌, ◌/◌, ◌%◌, Bool, true, false, ◌||◌, ◌==◌, nat_lt, if◌then◌else◌, List, slice_index, slice_set, Option, Some, None}
use Rattle.nj_vram.specs.Home.{got, written}
use Rattle.nj_sprite0.specs.Sprite.{has_bit}
use Rattle.nj_dots.specs.declared.screen.Screen.{Screen}
use Rattle.nj_dots.specs.Scroll.{scrolled, addressed}
use Rattle.nj_dots.specs.Screen.{is_next}

-- a flag as a bit of that weight
abbrev pub weighed : Bool → ℕ → ℕ
weighed true weight = weight
weighed false weight = 0

-- $2002 as read: vertical blank, hit and overflow over the latch's five low bits
unfoldable pub status_byte : Screen → ℕ
status_byte s =
    weighed s.vertical_blank 128 + weighed s.sprite_zero_hit 64 + weighed s.sprite_overflow 32 + s.latch % 32

-- after a read of $2002: vertical blank and w are clear, and the flag is held where its dot is next ("NMI", race)
unfoldable pub after_status : Screen → Screen
after_status s = record s {
  latch = status_byte s;
  vertical_blank = false;
  scroll = (let c = s.scroll in record c { w = false });
  hold = s.hold || is_next 241 1 s;
}

-- $2004 as read: the byte of OAM at the OAM address
unfoldable pub oam_byte : Screen → ℕ
oam_byte s = slice_index s.oam s.oam_address

-- after a read of $2004
unfoldable pub after_oam_read : Screen → Screen
after_oam_read s = record s { latch = oam_byte s }

-- where $2007 reads and writes: the 14 low bits of v
unfoldable pub data_address : Screen → ℕ
data_address s = s.scroll.v % 16384

-- the byte at an address below $4000: pattern memory below $2000
unfoldable pub cell_at : List ℕ → Screen → ℕ → ℕ
cell_at pattern s at = if nat_lt at 0x2000 then slice_index pattern at else got s.vram at

-- v after an access of $2007: one more, or 32 more where bit 2 of $2000 is set
unfoldable pub next_address : ℕ → ℕ → ℕ
next_address control v = (v + (if has_bit control 2 then 32 else 1)) % 32768

-- $2007 as read: the buffer, or from $3F00 on a colour under the latch's two high bits
unfoldable pub data_byte : Screen → ℕ
data_byte s =
    if nat_lt (data_address s) 0x3F00 then s.buffer
    else s.latch / 64 * 64 + got s.vram (data_address s)

-- which address a read of $2007 brings into the buffer: under the palette, the nametable's
unfoldable pub buffered_address : ℕ → ℕ
buffered_address at = if nat_lt at 0x3F00 then at else at - 0x1000

-- after a read of $2007
unfoldable pub after_data_read : List ℕ → Screen → Screen
after_data_read pattern s = record s {
  latch = data_byte s;
  buffer = cell_at pattern s (buffered_address (data_address s));
  scroll = (let c = s.scroll in record c { v = next_address s.control c.v });
}

-- the byte that a register answers; those that are only written answer the latch
unfoldable pub read_byte : ℕ → Screen → ℕ
read_byte reg s =
    if reg == 2 then status_byte s
    else (if reg == 4 then oam_byte s else (if reg == 7 then data_byte s else s.latch))

-- the picture after a read of a register
unfoldable pub after_read : ℕ → List ℕ → Screen → Screen
after_read reg pattern s =
    if reg == 2 then after_status s
    else (if reg == 4 then after_oam_read s else (if reg == 7 then after_data_read pattern s else s))

-- a write of $2000: bits 0 and 1 go to bits 10 and 11 of t
unfoldable pub put_control : ℕ → Screen → Screen
put_control value s = record s {
  control = value;
  latch = value;
  scroll = (let c = s.scroll in record c { t = c.t / 4096 * 4096 + value % 4 * 1024 + c.t % 1024 });
}

-- a write of $2001
unfoldable pub put_mask : ℕ → Screen → Screen
put_mask value s = record s { mask = value; latch = value }

-- a write of $2002, which has no register, leaves the byte on the latch
unfoldable pub put_nothing : ℕ → Screen → Screen
put_nothing value s = record s { latch = value }

-- a write of $2003
unfoldable pub put_oam_address : ℕ → Screen → Screen
put_oam_address value s = record s { oam_address = value; latch = value }

-- the byte of OAM that a write leaves: an attribute byte has no bits 2 to 4 (NESdev Wiki, "PPU OAM", byte 2)
unfoldable pub oam_kept : ℕ → ℕ → ℕ
oam_kept address value = if address % 4 == 2 then value / 32 * 32 + value % 4 else value

-- a write of $2004
unfoldable pub put_oam : ℕ → Screen → Screen
put_oam value s = record s {
  oam = slice_set s.oam s.oam_address (oam_kept s.oam_address value);
  oam_address = (s.oam_address + 1) % 256;
  latch = value;
}

-- a write of $2005
unfoldable pub put_scroll : ℕ → Screen → Screen
put_scroll value s = record s { scroll = scrolled value s.scroll; latch = value }

-- a write of $2006
unfoldable pub put_address : ℕ → Screen → Screen
put_address value s = record s { scroll = addressed value s.scroll; latch = value }

-- a write of $2007: a cell of this memory changes; pattern memory is left to the board
unfoldable pub put_data : ℕ → Screen → Screen
put_data value s = record s {
  vram = (if nat_lt (data_address s) 0x2000 then s.vram else written s.vram (data_address s) value);
  scroll = (let c = s.scroll in record c { v = next_address s.control c.v });
  latch = value;
}

-- the picture after a write of a register
unfoldable pub after_write : ℕ → ℕ → Screen → Screen
after_write reg value s =
    if reg == 0 then put_control value s
    else (if reg == 1 then put_mask value s
    else (if reg == 2 then put_nothing value s
    else (if reg == 3 then put_oam_address value s
    else (if reg == 4 then put_oam value s
    else (if reg == 5 then put_scroll value s
    else (if reg == 6 then put_address value s
    else put_data value s))))))

-- the write to pattern memory that a write of a register asks for: place and byte
unfoldable pub to_pattern : ℕ → ℕ → Screen → Option (ℕ × ℕ)
to_pattern reg value s =
    if reg == 7 then (if nat_lt (data_address s) 0x2000 then Some (data_address s, value) else None) else None
