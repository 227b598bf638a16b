-- As many strings as ends.
use Rattle.std.proofs.Common.{length, ap, arith}
use Rattle.nj_pool.proofs.Behind.{strings_count}
use Rattle.nj_pool.proofs.strings.Strings.len.Goals as goal

pub returns : goal.returns
returns c =
    omega (
      arith,
      c.len.ensures,
      c.self.inside.ends.ok.0,
      strings_count 0 c.self.inside.ends.items c.self.inside.bytes.items,
      ap length c.self.view_is,
    )
