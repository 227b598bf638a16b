-- Each is one part of the meeting.
use Rattle.std.proofs.Common.{arith}
use Rattle.std.proofs.lemmas.Bool.Decides.{nat_tests}
use Rattle.nj_sprite0.specs.Meeting.{meets_at}
use Rattle.nj_sprite0.specs.Sprite.{is_opaque_at}
use Rattle.nj_sprite0.proofs.laws.where_sprite_zero_meets.Goals as goal

pub returns-clause-last : goal.returns-clause-last
unfolding meets_at
returns-clause-last c r o l x meets = grind (arith, nat_tests, meets)

pub returns-clause-left : goal.returns-clause-left
unfolding meets_at
returns-clause-left c r o x meets = grind (arith, nat_tests, meets)

pub returns-clause-from : goal.returns-clause-from
unfolding meets_at is_opaque_at
returns-clause-from c r o l x meets = grind (arith, nat_tests, meets)

pub returns-clause-below : goal.returns-clause-below
unfolding meets_at is_opaque_at
returns-clause-below c r o l x meets = grind (arith, nat_tests, meets)
