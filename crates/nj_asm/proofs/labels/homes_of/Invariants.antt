-- The map has the labels of the lines so far.
use Rattle.std.proofs.Common.{◌≡◌, ℕ, List, drop}
use Rattle.std.specs.Option.{option_or}
use Rattle.nj_asm.specs.Assembly.{home_in, homes}
use Rattle.nj_asm.proofs.labels.homes_of.Given as goal

abbrev pub invariant-loop-index : goal.invariant-loop-index
invariant-loop-index l = (name : List ℕ) → home_in name l.origin 0 l.lines
    ≡ option_or (homes l.labels name) (home_in name l.place l.index (drop l.index l.lines))
