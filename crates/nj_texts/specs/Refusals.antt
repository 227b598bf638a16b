-- The line of a refusal: `nj: `, what is refused, and the refusal, which is its number, its name and each of its
-- fields. Our own.
use Rattle.std.specs.Prelude.{ℕ, nat_le, ◌&&◌, List, [], ◌∷◌, ◌++◌, map, codes, if◌then◌else◌}
use Rattle.std.specs.Fmt.{decimal, signed_decimal}
use Rattle.nj_asm.specs.declared.refusals.AsmRefused.{AsmRefused}
use Rattle.nj_asm.specs.declared.refusals.AsmRefused.TheVariants as sources
use Rattle.nj_ines.specs.declared.CartRefused.{CartRefused}
use Rattle.nj_ines.specs.declared.CartRefused.TheVariants as carts
use Rattle.nj_movie.specs.declared.MovieRefused.{MovieRefused}
use Rattle.nj_movie.specs.declared.MovieRefused.TheVariants as movies
use Rattle.nj_replay.specs.declared.ReplayRefused.{ReplayRefused}
use Rattle.nj_replay.specs.declared.ReplayRefused.TheVariants as replays
use Rattle.nj_saved.specs.declared.refusal.SavedRefused.{SavedRefused}
use Rattle.nj_saved.specs.declared.refusal.SavedRefused.TheVariants as saves
use Rattle.nj_fields.specs.declared.refusal.ScriptRefused.{ScriptRefused}
use Rattle.nj_fields.specs.declared.refusal.ScriptRefused.TheVariants as scripts
use Rattle.nj_trace.specs.declared.tracing.TraceRefused.{TraceRefused}
use Rattle.nj_trace.specs.declared.tracing.TraceRefused.TheVariants as traces
use Rattle.nj_texts.specs.Kinds.{kind_name}
use Rattle.nj_texts.specs.declared.kinds.Kind.{Kind}

-- a refused cartridge; want of memory is no refusal
unfoldable pub cart_refusal : CartRefused → List ℕ
cart_refusal carts.NotInes = codes "1 NotInes"
cart_refusal carts.Trainer = codes "2 Trainer"
cart_refusal carts.FourScreen = codes "3 FourScreen"
cart_refusal (carts.Mapper number) = codes "4 Mapper number=" ++ decimal number
cart_refusal (carts.PrgUnits n) = codes "5 PrgUnits n=" ++ decimal n
cart_refusal (carts.ChrUnits n) = codes "6 ChrUnits n=" ++ decimal n
cart_refusal (carts.Timing n) = codes "7 Timing n=" ++ decimal n
cart_refusal (carts.Short need have) = codes "8 Short need=" ++ (decimal need ++ (codes " have=" ++ decimal have))
cart_refusal carts.NoMemory = []

-- a refused movie; want of memory is no refusal
unfoldable pub movie_refusal : MovieRefused → List ℕ
movie_refusal (movies.Line line) = codes "1 Line line=" ++ decimal line
movie_refusal (movies.TooManyFrames line) = codes "2 TooManyFrames line=" ++ decimal line
movie_refusal movies.NoMemory = []

-- a movie that is not a start movie and whole steps behind it; want of memory is no refusal
unfoldable pub replay_refusal : ReplayRefused → List ℕ
replay_refusal (replays.NotStart frame) = codes "3 NotStart frame=" ++ decimal frame
replay_refusal (replays.NotHeld frame) = codes "4 NotHeld frame=" ++ decimal frame
replay_refusal replays.NoMemory = []

-- a frame that a movie does not have; want of memory is no refusal
unfoldable pub trace_refusal : TraceRefused → List ℕ
trace_refusal (traces.NoFrame frame frames) = codes "6 NoFrame frame=" ++
    (decimal frame ++ (codes " frames=" ++ decimal frames))
trace_refusal traces.NoMemory = []

-- a byte of a text in a refusal: one from space to ~ as it is, and any other as ?
unfoldable pub shown_byte : ℕ → ℕ
shown_byte byte = if nat_le 32 byte && nat_le byte 126 then byte else 63

-- a text in a refusal
abbrev pub shown : List ℕ → List ℕ
shown text = map shown_byte text

-- a refused script; want of memory is no refusal
unfoldable pub script_refusal : ScriptRefused → List ℕ
script_refusal scripts.NotJson = codes "1 NotJson"
script_refusal (scripts.Missing key) = codes "2 Missing key=" ++ shown key
script_refusal (scripts.UnknownKey key) = codes "3 UnknownKey key=" ++ shown key
script_refusal (scripts.WrongKind key) = codes "4 WrongKind key=" ++ shown key
script_refusal (scripts.OutOfRange key value) = codes "5 OutOfRange key=" ++
    (shown key ++ (codes " value=" ++ signed_decimal value))
script_refusal (scripts.UnknownName name) = codes "6 UnknownName name=" ++ shown name
script_refusal (scripts.TwiceNamed name) = codes "7 TwiceNamed name=" ++ shown name
script_refusal (scripts.TooMany key limit) = codes "8 TooMany key=" ++ (shown key ++ (codes " limit=" ++ decimal limit))
script_refusal (scripts.Version n) = codes "9 Version n=" ++ signed_decimal n
script_refusal scripts.NoMemory = []

-- a refused source; want of memory is no refusal
unfoldable pub asm_refusal : AsmRefused → List ℕ
asm_refusal (sources.Syntax line) = codes "1 Syntax line=" ++ decimal line
asm_refusal (sources.UnknownOp line) = codes "2 UnknownOp line=" ++ decimal line
asm_refusal (sources.NoMode line) = codes "3 NoMode line=" ++ decimal line
asm_refusal (sources.Range line) = codes "4 Range line=" ++ decimal line
asm_refusal (sources.UnknownLabel line) = codes "5 UnknownLabel line=" ++ decimal line
asm_refusal (sources.TwiceLabel line) = codes "6 TwiceLabel line=" ++ decimal line
asm_refusal (sources.TooLong line) = codes "7 TooLong line=" ++ decimal line
asm_refusal sources.NoMemory = []

-- a refused saved search; want of memory is no refusal
unfoldable pub saved_refusal : SavedRefused → List ℕ
saved_refusal saves.NotSaved = codes "1 NotSaved"
saved_refusal (saves.Version n) = codes "2 Version n=" ++ decimal n
saved_refusal (saves.OtherCartridge kept now) = codes "3 OtherCartridge kept=" ++
    (decimal kept ++ (codes " now=" ++ decimal now))
saved_refusal (saves.OtherScript kept now) = codes "4 OtherScript kept=" ++
    (decimal kept ++ (codes " now=" ++ decimal now))
saved_refusal (saves.Short at) = codes "5 Short at=" ++ decimal at
saved_refusal (saves.Range at) = codes "6 Range at=" ++ decimal at
saved_refusal (saves.Trailing at) = codes "7 Trailing at=" ++ decimal at
saved_refusal (saves.Damaged kept now) = codes "9 Damaged kept=" ++ (decimal kept ++ (codes " now=" ++ decimal now))
saved_refusal saves.NoMemory = []

-- a file with more bytes than its limit, by the number that its kind of file gives this refusal
unfoldable pub too_long : ℕ → ℕ → List ℕ
too_long number limit = decimal number ++ (codes " TooLong limit=" ++ decimal limit)

-- the line of a refusal of this kind
unfoldable pub refusal_line : Kind → List ℕ → List ℕ
refusal_line kind refusal = codes "nj: " ++ kind_name kind ++ codes " " ++ refusal ++ 10 ∷ []
