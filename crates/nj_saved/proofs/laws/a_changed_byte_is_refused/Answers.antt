-- A changed byte is refused, since two files of which nothing is refused do not differ in one byte.
use Rattle.std.proofs.Common.{◌≡◌, ◌++◌, ◌∷◌, refl, rules}
use Rattle.std.specs.Prelude.{Result, Ok, Err, IsErr}
use Rattle.nj_saved.specs.declared.saved.Saved.{Saved}
use Rattle.nj_saved.specs.declared.refusal.SavedRefused.{SavedRefused}
use Rattle.nj_saved.specs.Reading.{saved_of}
use Rattle.nj_saved.proofs.Accepted.{accepted}
use Rattle.nj_saved.proofs.Changed.{unchanged}
use Rattle.nj_saved.proofs.laws.a_changed_byte_is_refused.Goals as goal

pub returns : goal.returns
returns c before behind byte changed cart script saved are are' small small' apart two is =
    go (saved_of (before ++ changed ∷ behind) cart script) refl
  where
    go : (r : Result Saved SavedRefused) → saved_of (before ++ changed ∷ behind) cart script ≡ r → IsErr r
    go (Ok other) same = absurd (apart (unchanged before behind byte changed are are' small small' cart script two
        (accepted (before ++ byte ∷ behind) cart script saved is)
        (accepted (before ++ changed ∷ behind) cart script other same)))
    go (Err refused) same = search (rules)
