-- Each clause is a lemma on texts without line feeds.
use Rattle.nj_lines.proofs.PlainLemmas.{IsEnded-plain, IsPlain-append, IsPlain-decimal, IsPlain-signed}
use Rattle.nj_lines.proofs.printed_numbers_have_no_line_feed.Goals as goal

pub returns-clause-ended : goal.returns-clause-ended
returns-clause-ended c = IsEnded-plain

pub returns-clause-joined : goal.returns-clause-joined
returns-clause-joined c = IsPlain-append

pub returns-clause-unsigned : goal.returns-clause-unsigned
returns-clause-unsigned c = IsPlain-decimal

pub returns-clause-signed : goal.returns-clause-signed
returns-clause-signed c = IsPlain-signed
