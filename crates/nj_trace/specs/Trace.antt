-- `trace`: the units of one frame of a movie, one a line. The layout is our own.
use Rattle.std.specs.Prelude.{ℕ, ◌+◌, ◌-◌, ◌/◌, ◌%◌, nat_lt, true, false, List, [], ◌∷◌, ◌++◌, length, take, get_or, codes, Result, Ok, Err, if◌then◌else◌}
use Rattle.std.specs.Fmt.{decimal, digit_glyph}
use Rattle.std.specs.List.{flat_map}
use Rattle.nj_alu.specs.FlagByte.{flag_byte}
use Rattle.nj_cpu.specs.declared.state.Cpu.{Cpu}
use Rattle.nj_ines.specs.Cartridge.{Cartridge}
use Rattle.nj_machine.specs.Frame.{play}
use Rattle.nj_machine.specs.declared.seeing.UnitKind.{UnitKind}
use Rattle.nj_machine.specs.declared.seeing.UnitKind.TheVariants.{Nothing, Copy, Nmi, Jam, Code}
use Rattle.nj_machine.specs.declared.seeing.UnitSeen.{UnitSeen}
use Rattle.nj_asm.specs.Listing.{listing_of}
use Rattle.nj_trace.specs.declared.tracing.TraceRefused.{TraceRefused}
use Rattle.nj_trace.specs.declared.tracing.TraceRefused.TheVariants.{NoFrame}
use Rattle.nj_trace.specs.Units.{frame_units}

-- a byte as two hexadecimal digits, in upper case
abbrev pub hex_byte : ℕ → List ℕ
hex_byte byte = digit_glyph true (byte / 16) ∷ digit_glyph true (byte % 16) ∷ []

-- an address as four
abbrev pub hex_word : ℕ → List ℕ
hex_word word = hex_byte (word / 256) ++ hex_byte (word % 256)

-- the picture's line and dot before a unit
unfoldable pub place_text : ℕ → ℕ → List ℕ
place_text line dot = codes "L=" ++ (decimal line ++ (codes " D=" ++ (decimal dot ++ codes " ")))

-- the registers before a unit; P is the flag byte, bit 5 set and bit 4 clear (NESdev Wiki, "Status flags")
unfoldable pub registers_text : Cpu → List ℕ
registers_text cpu =
    codes "A=" ++ (hex_byte cpu.a ++ (codes " X=" ++ (hex_byte cpu.x ++ (codes " Y=" ++ (hex_byte cpu.y ++ (codes " S="
    ++ (hex_byte cpu.s ++ (codes " P=" ++ (hex_byte (flag_byte cpu.flags false) ++ codes " ")))))))))

-- the word for a unit that is no code; the processor stays jammed at the opcode that jams
abbrev pub unit_word : UnitKind → List ℕ
unit_word Copy = codes "DMA"
unit_word Nmi = codes "NMI"
unit_word _ = codes "JAM"

-- the address of a unit that is no code, its word and a line feed
unfoldable pub event_text : ℕ → UnitKind → List ℕ
event_text pc kind = hex_word pc ++ (codes " " ++ (unit_word kind ++ 10 ∷ []))

-- what a unit was: an instruction's line in a listing, or the address and the word of another unit, with a line feed
abbrev pub unit_text : UnitKind → ℕ → List ℕ → List ℕ
unit_text Code pc bytes = listing_of pc bytes
unit_text kind pc bytes = event_text pc kind

-- the line of a unit
unfoldable pub unit_line : UnitSeen → List ℕ
unit_line seen =
    place_text seen.line seen.dot
    ++ (registers_text seen.cpu ++ unit_text seen.kind seen.cpu.pc (take seen.len seen.bytes))

-- the first line
unfoldable pub trace_head : ℕ → ℕ → List ℕ
trace_head frame units = codes "# trace frame=" ++ (decimal frame ++ (codes " units=" ++ (decimal units ++ 10 ∷ [])))

-- the text of a frame's units
unfoldable pub trace_text : ℕ → List UnitSeen → List ℕ
trace_text frame units = trace_head frame (length units) ++ flat_map unit_line units

-- the units of frame n of a movie, counted from 1
unfoldable pub movie_units : Cartridge → List ℕ → ℕ → List UnitSeen
movie_units cart movie frame = frame_units (get_or movie (frame - 1) 0) (play cart (take (frame - 1) movie))

-- the trace of a frame, or that the movie has no such frame
unfoldable pub trace_of : Cartridge → List ℕ → ℕ → Result (List ℕ) TraceRefused
trace_of cart movie frame =
    if nat_lt (length movie) frame then Err (NoFrame frame (length movie))
    else Ok (trace_text frame (movie_units cart movie frame))
