-- The fields that were made are those of the state at power-on.
use Rattle.std.proofs.Common.{ap, ◌∙◌}
use Rattle.nj_cpu.specs.Unit.{powered_on}
use Rattle.nj_dots.specs.Screen.{power_on as screen_at_power_on}
use Rattle.nj_machine.proofs.Begins.{made_is, made_ready}
use Rattle.nj_machine.proofs.frames.Console.power_on.Goals as goal

pub invariant_of-result : goal.invariant_of-result
invariant_of-result g c =
    made_ready c.args.cart.now _ _ _ _ _ _ (record {
      registers = c.power_on-cpu.ensures ∙ ap (λ pc. powered_on pc) c.reset_vector.ensures;
      picture = c.power_on.ensures _ ∙ ap screen_at_power_on c.vertical.ensures;
      zeros = c.zeros.ensures;
      memory = c.in_ok-board.ensures.board;
      first = c.new.ensures;
      second = c.new-2.ensures;
    }) c.in_ok-board.ensures.sized

pub returns-clause-begun : goal.returns-clause-begun
returns-clause-begun g c =
    made_is c.args.cart.now _ _ _ _ _ _ (record {
      registers = c.power_on-cpu.ensures ∙ ap (λ pc. powered_on pc) c.reset_vector.ensures;
      picture = c.power_on.ensures _ ∙ ap screen_at_power_on c.vertical.ensures;
      zeros = c.zeros.ensures;
      memory = c.in_ok-board.ensures.board;
      first = c.new.ensures;
      second = c.new-2.ensures;
    })

pub returns-clause-ready : goal.returns-clause-ready
returns-clause-ready g c = invariant_of-result g c
