-- A text that is not of eight characters shows no pad.
use Rattle.std.proofs.Common.{arith, sym}
use Rattle.nj_pad.specs.Pad.{pad_of_text, text_places}
use Rattle.nj_pad.proofs.PadLemmas.{places_value-other_length}
use Rattle.nj_pad.proofs.Pad.from_text.Goals as goal
use Rattle.nj_pad.proofs.Pad.from_text.Goals.{in_default-via-then-text-lt8, in_default-via-else-text-lt8+else-text-lt9}

pub returns-in_default : goal.returns-in_default
unfolding pad_of_text
returns-in_default c =
    sym (places_value-other_length text_places c.args.text.now
    (λ same. elim c.in_default.branch [
      | in_default-via-then-text-lt8 w ↦ grind arith
      | in_default-via-else-text-lt8+else-text-lt9 w ↦ grind arith
    ]))
