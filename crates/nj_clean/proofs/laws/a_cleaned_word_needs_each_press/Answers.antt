use Rattle.nj_clean.specs.Sweeps.{cleaned}
use Rattle.nj_clean.proofs.Words.{AreBytes}
use Rattle.nj_clean.proofs.Sweeps.{cleaned_wins, cleaned_long, cleaned_among, cleaned_bytes, cleaned_ends, needed}
use Rattle.nj_clean.proofs.Frames.{movies_long}
use Rattle.nj_clean.proofs.laws.a_cleaned_word_needs_each_press.Goals as goal

pub returns-clause-wins : goal.returns-clause-wins
returns-clause-wins c = cleaned_wins

pub returns-clause-steps : goal.returns-clause-steps
returns-clause-steps c = cleaned_long

pub returns-clause-frames : goal.returns-clause-frames
returns-clause-frames c plan word = movies_long plan (cleaned plan word) word (cleaned_long plan word)

pub returns-clause-among : goal.returns-clause-among
returns-clause-among c = cleaned_among

pub returns-clause-needed : goal.returns-clause-needed
returns-clause-needed c plan word press bytes held =
    needed plan (cleaned plan word) press (cleaned_bytes plan word bytes) (cleaned_ends plan word bytes) held
