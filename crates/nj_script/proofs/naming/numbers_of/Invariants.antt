use Rattle.std.proofs.Common.{◌≡◌, [], drop}
use Rattle.nj_fields.specs.Lists.{collected}
use Rattle.nj_fields.specs.Names.{number_of}
use Rattle.nj_script.proofs.naming.numbers_of.Given as goal

-- the names that are left bring what is missing
abbrev pub invariant-loop-name : goal.invariant-loop-name
invariant-loop-name l =
    collected (number_of l.names) l.numbers (drop l.name-index l.also) ≡ collected (number_of l.names) [] l.also
