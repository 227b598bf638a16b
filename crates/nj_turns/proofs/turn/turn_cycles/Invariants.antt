use Rattle.nj_turns.specs.Dry.{begun}
use Rattle.nj_turns.proofs.Found.{Ran}
use Rattle.nj_turns.proofs.turn.turn_cycles.Given as goal

-- so many units have led from the processor to where it stands, over a bus that is dry still
abbrev pub invariant-loop : goal.invariant-loop
invariant-loop l =
    Ran l.counter l.fn.cpu (begun l.fn.ram l.fn.board l.fn.status l.fn.line l.fn.bus_byte) l.now
    (record {
      ram = l.dry.ram.now;
      board = l.dry.board.now;
      status = l.dry.status;
      line = l.dry.line;
      bus_byte = l.dry.bus_byte;
      cycles = l.dry.cycles;
      lost = l.dry.lost;
    })
