use Rattle.std.proofs.Common.{Ok}
use Rattle.nj_fields.specs.Reading.{then_read}
use Rattle.nj_script.specs.Kinds.{flags_in}
use Rattle.nj_script.proofs.rules.flags_in.Goals as goal

pub returns : goal.returns
unfolding flags_in
returns c = λ i.
    then_read (c.in_ok-win.ensures i) (λ win. then_read (c.in_ok-fail.ensures i) (λ fail.
    then_read (c.in_ok-checkpoint.ensures i) (λ checkpoint.
    Ok (record { win = win; fail = fail; checkpoint = checkpoint }))))
