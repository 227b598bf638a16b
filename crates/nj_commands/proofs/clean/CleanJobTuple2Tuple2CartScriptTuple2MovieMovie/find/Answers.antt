-- The frames of a cleaning are those that its movie allows, and none where it is refused.
use Rattle.std.proofs.Common.{◌+◌, ◌≤◌, ℕ, List, Result, Ok, Err}
use Rattle.nj_clean.specs.Clean.{clean_frames, clean_of, end_told, frames_told}
use Rattle.nj_game.specs.Plan.{Plan}
use Rattle.nj_replay.specs.declared.ReplayRefused.{ReplayRefused}
use Rattle.nj_search_defs.specs.Game.{Word}
use Rattle.nj_texts.specs.Refusals.{replay_refusal}
use Rattle.nj_commands.specs.Clean.{clean_finding}
use Rattle.nj_tasks.specs.Work.{frames_for, refusal_told}
use Rattle.nj_commands.proofs.clean.CleanJobTuple2Tuple2CartScriptTuple2MovieMovie.find.Goals as goal

either_end : (plan : Plan) (r : Result Word ReplayRefused) (new old : ℕ) → new ≤ old + frames_told plan r →
    new ≤ old + frames_for (refusal_told replay_refusal (end_told plan r)) (frames_told plan r)
either_end plan (Ok word) new old h = h
either_end plan (Err e) new old h = h

cleaned_frames : (plan : Plan) (movie : List ℕ) (new old : ℕ) → new ≤ old + clean_frames plan movie →
    new ≤ old + frames_for (refusal_told replay_refusal (clean_of plan movie)) (clean_frames plan movie)
unfolding clean_of clean_frames
cleaned_frames plan movie new old h = either_end plan _ new old h

pub returns-in-Ok-clause-frames : goal.returns-in-Ok-clause-frames
unfolding clean_finding
returns-in-Ok-clause-frames g c = cleaned_frames _ c.args.said.1.1 _ _ c.in-Ok.ensures.frames

pub returns-in-Err-NoMemory-clause-frames : goal.returns-in-Err-NoMemory-clause-frames
unfolding clean_finding
returns-in-Err-NoMemory-clause-frames g c = cleaned_frames _ c.args.said.1.1 _ _ c.clean.ensures.frames

pub returns-clause-frames : goal.returns-clause-frames
unfolding clean_finding
returns-clause-frames g c = cleaned_frames _ c.args.said.1.1 _ _ c.clean.ensures.frames
