use Rattle.std.proofs.Common.{◌≡◌, ◌+◌, ◌*◌, ◌≤◌, length, map, take}
use Rattle.nj_machine.specs.State.{rom_of}
use Rattle.nj_pool.specs.Front.{bytes_held}
use Rattle.nj_candidate.specs.Again.{Before, statuses_of, judged_again, pool_again}
use Rattle.nj_candidate.proofs.again.run_rows.Given as goal

-- the rows so far were run again, each by the frames of a step
abbrev pub invariant-loop-row : goal.invariant-loop-row
invariant-loop-row g l =
    let before : Before =
    record {
      rom = rom_of l.fn.machine;
      script = l.script;
      images = l.front.images;
      statuses = statuses_of l.judged;
    } in
    record {
      cartridge : rom_of l.machine ≡ rom_of l.fn.machine;
      long : length l.image.items ≡ length l.front.base;
      pool : l.again.pool ≡ pool_again before l.front.base l.limit (take l.row-index l.rows);
      judged : l.again.judged.items ≡ map (judged_again before) (take l.row-index l.rows);
      bytes : bytes_held l.again.pool ≤ l.row-index * (length l.front.base + 16);
      frames : l.steps ≤ l.fn.steps + l.script.hold * l.row-index;
      never_falls : l.fn.steps ≤ l.steps;
    }
