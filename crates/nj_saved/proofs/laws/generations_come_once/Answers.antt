-- Generations, in the words of lists.
use Rattle.nj_saved.proofs.Once.{come_once, are_generations, in_order, never_zero}
use Rattle.nj_saved.proofs.laws.generations_come_once.Goals as goal

pub returns-clause-once : goal.returns-clause-once
returns-clause-once c generations are = come_once generations are

pub returns-clause-all : goal.returns-clause-all
returns-clause-all c generations are = are_generations generations are

pub returns-clause-in_order : goal.returns-clause-in_order
returns-clause-in_order c generations are = in_order generations are

pub returns-clause-never_zero : goal.returns-clause-never_zero
returns-clause-never_zero c generations are = never_zero generations are
