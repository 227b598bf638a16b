use Rattle.std.proofs.Common.{arith}
use Rattle.std.proofs.lemmas.Int.{ints, to_z-of_z}
use Rattle.nj_rules.specs.Rules.{worth_of}
use Rattle.nj_rules.proofs.Sums.{worth_fits, abs_le-worth}
use Rattle.nj_rules.proofs.judging.worth.Goals as goal

pub overflow_mul-result : goal.overflow_mul-result
overflow_mul-result c = grind (arith, ints, to_z-of_z, worth_fits)

pub returns-clause-value : goal.returns-clause-value
unfolding worth_of
returns-clause-value c = grind (arith, ints, to_z-of_z, worth_fits)

pub returns-clause-bound : goal.returns-clause-bound
returns-clause-bound c = grind (arith, ints, to_z-of_z, worth_fits, abs_le-worth)
