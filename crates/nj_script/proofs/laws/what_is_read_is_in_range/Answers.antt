-- A script that is read is in range, and names bytes alone.
use Rattle.std.proofs.Common.{ℕ, List, Err, IfOk}
use Rattle.nj_script.specs.Script.{IsInRange, json_of, script_in, script_of}
use Rattle.nj_fields.proofs.Accepted.{holds_of, ok_if_there}
use Rattle.nj_script.proofs.InRange.{ok_script_in}
use Rattle.nj_script.proofs.PadBytes.{NamesBytes, ok_script_of}
use Rattle.nj_script.proofs.laws.what_is_read_is_in_range.Goals as goal

ok_in_range : (bytes : List ℕ) → IfOk (script_of bytes) IsInRange
unfolding script_of
ok_in_range bytes = ok_if_there (json_of bytes) (Err _) script_in IsInRange tt ok_script_in

pub returns : goal.returns
returns c = λ bytes script read. (
  holds_of (script_of bytes) IsInRange script (ok_in_range bytes) read,
  holds_of (script_of bytes) NamesBytes script (ok_script_of c.a_text_shows_its_pad.ensures.byte bytes) read,
)
