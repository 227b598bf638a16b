-- The work for the words is that of their command, or the refusal of words without a reading.
use Rattle.std.proofs.Common.{Err, ap, inl, inr, refl}
use Rattle.nj_app.proofs.Lines.{no_command, no_memory, work_of_command}
use Rattle.nj_app.proofs.running.reply_to.Goals as goal

pub returns-in-Ok-clause-serves : goal.returns-in-Ok-clause-serves
returns-in-Ok-clause-serves g c = λ files told. rw (work_of_command _ _ c.in-Ok.ensures.read)
    (c.carry_out.ensures.serves files told)

pub returns-in-Ok-clause-frames : goal.returns-in-Ok-clause-frames
returns-in-Ok-clause-frames g c = λ files told. rw (work_of_command _ _ c.in-Ok.ensures.read)
    (c.carry_out.ensures.frames files told)

pub returns-in-Err-Usage-clause-serves : goal.returns-in-Err-Usage-clause-serves
returns-in-Err-Usage-clause-serves g c = λ files told. no_command files _ _
    (c.in-Err-Usage.ensures.usage (ap Err c.in-Err-Usage.field-0-is))

pub returns-in-Err-NoMemory-clause-serves : goal.returns-in-Err-NoMemory-clause-serves
returns-in-Err-NoMemory-clause-serves g c = λ files told. no_memory files _ _

pub returns-in-Ok-clause-done : goal.returns-in-Ok-clause-done
returns-in-Ok-clause-done g c = c.carry_out.ensures.done

pub returns-in-Ok-clause-fault : goal.returns-in-Ok-clause-fault
returns-in-Ok-clause-fault g c = c.carry_out.ensures.fault

pub returns-in-Ok-clause-no_fault : goal.returns-in-Ok-clause-no_fault
returns-in-Ok-clause-no_fault g c = c.carry_out.ensures.no_fault

pub returns-in-Ok-clause-never_falls : goal.returns-in-Ok-clause-never_falls
returns-in-Ok-clause-never_falls g c = c.carry_out.ensures.never_falls

pub returns-in-Ok-clause-content : goal.returns-in-Ok-clause-content
returns-in-Ok-clause-content g c = c.carry_out.ensures.content

pub returns-in-Ok-clause-put_faults : goal.returns-in-Ok-clause-put_faults
returns-in-Ok-clause-put_faults g c = c.carry_out.ensures.put_faults

pub returns-in-Ok-clause-saved : goal.returns-in-Ok-clause-saved
returns-in-Ok-clause-saved g c = rw c.in-Ok.ensures.read c.carry_out.ensures.saved

pub returns-in-Ok-clause-usage : goal.returns-in-Ok-clause-usage
returns-in-Ok-clause-usage g c = λ usage. absurd (c.carry_out.ensures.not_words usage)

pub returns-in-Ok-clause-fault_name : goal.returns-in-Ok-clause-fault_name
returns-in-Ok-clause-fault_name g c = λ fault. rw c.in-Ok.ensures.read (c.carry_out.ensures.fault_name fault)

pub returns-in-Err-Usage-clause-unread : goal.returns-in-Err-Usage-clause-unread
returns-in-Err-Usage-clause-unread g c = λ none. inl refl

pub returns-in-Err-Usage-clause-no_fault : goal.returns-in-Err-Usage-clause-no_fault
returns-in-Err-Usage-clause-no_fault g c = λ other. refl

pub returns-in-Err-Usage-clause-no_frames : goal.returns-in-Err-Usage-clause-no_frames
returns-in-Err-Usage-clause-no_frames g c = λ none. refl

pub returns-in-Err-Usage-clause-content : goal.returns-in-Err-Usage-clause-content
returns-in-Err-Usage-clause-content g c = refl

pub returns-in-Err-Usage-clause-put_faults : goal.returns-in-Err-Usage-clause-put_faults
returns-in-Err-Usage-clause-put_faults g c = refl

pub returns-in-Err-NoMemory-clause-unread : goal.returns-in-Err-NoMemory-clause-unread
returns-in-Err-NoMemory-clause-unread g c = λ none. inr refl

pub returns-in-Err-NoMemory-clause-no_fault : goal.returns-in-Err-NoMemory-clause-no_fault
returns-in-Err-NoMemory-clause-no_fault g c = λ other. refl

pub returns-in-Err-NoMemory-clause-no_frames : goal.returns-in-Err-NoMemory-clause-no_frames
returns-in-Err-NoMemory-clause-no_frames g c = λ none. refl

pub returns-in-Err-NoMemory-clause-content : goal.returns-in-Err-NoMemory-clause-content
returns-in-Err-NoMemory-clause-content g c = refl

pub returns-in-Err-NoMemory-clause-put_faults : goal.returns-in-Err-NoMemory-clause-put_faults
returns-in-Err-NoMemory-clause-put_faults g c = refl
