-- The frames of a listing are those up to its frame, and none where the movie does not have it.
use Rattle.std.proofs.Common.{◌≡◌, ◌+◌, ◌≤◌, ℕ, Bool, true, false, cond, List, length, nat_lt, Ok, Err, arith, refl}
use Rattle.std.proofs.lemmas.Bool.Decides.{nat_tests}
use Rattle.nj_ines.specs.Cartridge.{Cartridge}
use Rattle.nj_texts.specs.Refusals.{trace_refusal}
use Rattle.nj_trace.specs.Trace.{trace_of}
use Rattle.nj_trace.specs.declared.tracing.TraceRefused.{TraceRefused}
use Rattle.nj_commands.specs.Trace.{trace_finding}
use Rattle.nj_tasks.specs.Work.{frames_for, refusal_told}
use Rattle.nj_commands.proofs.trace.TraceJobTuple2CartMovie.find.Goals as goal

either_end : (past : Bool) (refusal : TraceRefused) (text : List ℕ) (frame new old : ℕ) →
    (past ≡ true → new ≡ old) → new ≤ old + frame →
    new ≤ old + frames_for (refusal_told trace_refusal (cond past (Err refusal) (Ok text))) frame
either_end true refusal text frame new old none some = omega (arith, none refl)
either_end false refusal text frame new old none some = some

past_frames : (movie : List ℕ) (frame : ℕ) → nat_lt (length movie) frame ≡ true → length movie + 1 ≤ frame
past_frames movie frame e = grind (arith, nat_tests)

traced_frames : (cart : Cartridge) (movie : List ℕ) (frame new old : ℕ) →
    (length movie + 1 ≤ frame → new ≡ old) → new ≤ old + frame →
    new ≤ old + frames_for (refusal_told trace_refusal (trace_of cart movie frame)) frame
unfolding trace_of
traced_frames cart movie frame new old none some =
    either_end (nat_lt (length movie) frame) _ _ frame new old (λ e. none (past_frames movie frame e)) some

pub returns-in-Ok-clause-frames : goal.returns-in-Ok-clause-frames
unfolding trace_finding
returns-in-Ok-clause-frames g c =
    traced_frames c.args.said.0 c.args.said.1 c.args.self.now.frame _ _ c.in-Ok.ensures.refused c.in-Ok.ensures.frames

pub returns-in-Err-NoMemory-clause-frames : goal.returns-in-Err-NoMemory-clause-frames
unfolding trace_finding
returns-in-Err-NoMemory-clause-frames g c =
    traced_frames c.args.said.0 c.args.said.1 c.args.self.now.frame _ _ c.trace.ensures.refused c.trace.ensures.frames

pub returns-clause-frames : goal.returns-clause-frames
unfolding trace_finding
returns-clause-frames g c =
    traced_frames c.args.said.0 c.args.said.1 c.args.self.now.frame _ _ c.trace.ensures.refused c.trace.ensures.frames
