-- What the run of the start movie gives. All of it is this project's own.
use Rattle.std.specs.Prelude.{◌≡◌, []}
use Rattle.nj_machine.specs.State.{rom_of}
use Rattle.nj_game.specs.Plan.{Plan}
use Rattle.nj_game.specs.Words.{state_of, judged_of}
use Rattle.nj_candidate.specs.declared.opening.Begun.{Begun}
use Rattle.nj_candidate.specs.Front.{rom_in, image_at}

-- the start movie of a plan was run: its state of this cartridge, its image and how the rules judge it
pub record IsBegun (plan : Plan) (begun : Begun) : Type 0 where
  pub machine : begun.machine ≡ state_of plan []
  pub cartridge : rom_of begun.machine ≡ rom_in plan
  pub image : begun.image.items ≡ image_at plan []
  pub judged : begun.judged ≡ judged_of plan []
