use Rattle.nj_banked.proofs.Fits.{nrom-count}
use Rattle.nj_banked.proofs.Shown.{one-byte, one-written, one-pattern, one-put}
use Rattle.nj_banked.proofs.laws.one_bank_is_nrom.Goals as goal

pub returns-clause-byte : goal.returns-clause-byte
returns-clause-byte c = one-byte

pub returns-clause-write : goal.returns-clause-write
returns-clause-write c = one-written

pub returns-clause-pattern : goal.returns-clause-pattern
returns-clause-pattern c = one-pattern

pub returns-clause-put : goal.returns-clause-put
returns-clause-put c = one-put

pub returns-clause-count : goal.returns-clause-count
returns-clause-count c = nrom-count
