use Rattle.nj_dots.proofs.Bits.{dot_of-scroll, after_read-scroll, after_write-scroll}
use Rattle.nj_dots.proofs.laws.scroll_registers_keep_their_bits.Goals as goal

pub returns-clause-dot : goal.returns-clause-dot
returns-clause-dot c p s fits = (dot_of-scroll p s (record { scroll = fits })).scroll

pub returns-clause-read : goal.returns-clause-read
returns-clause-read c reg p s fits = (after_read-scroll reg p s (record { scroll = fits })).scroll

pub returns-clause-write : goal.returns-clause-write
returns-clause-write c reg value s byte fits = (after_write-scroll reg value s byte (record { scroll = fits })).scroll
