-- The frames of a replay are its movie's, and none where it is refused.
use Rattle.nj_commands.specs.Replay.{replay_finding}
use Rattle.nj_texts.specs.Refusals.{replay_refusal}
use Rattle.nj_tasks.proofs.Serving.{frames_either}
use Rattle.nj_commands.proofs.replay.ReplayJobTuple2Tuple2CartScriptTuple2MovieMovie.find.Goals as goal

pub returns-in-Ok-clause-frames : goal.returns-in-Ok-clause-frames
unfolding replay_finding
returns-in-Ok-clause-frames g c = frames_either replay_refusal _ _ _ _ c.in-Ok.ensures.refused c.in-Ok.ensures.frames

pub returns-in-Err-NoMemory-clause-frames : goal.returns-in-Err-NoMemory-clause-frames
unfolding replay_finding
returns-in-Err-NoMemory-clause-frames g c =
    frames_either replay_refusal _ _ _ _ c.replay.ensures.refused c.replay.ensures.frames

pub returns-clause-frames : goal.returns-clause-frames
unfolding replay_finding
returns-clause-frames g c =
    frames_either replay_refusal _ _ _ _ c.replay.ensures.refused c.replay.ensures.frames
