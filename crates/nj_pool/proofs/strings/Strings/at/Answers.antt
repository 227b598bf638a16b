-- There are as many ends as strings.
use Rattle.std.proofs.Common.{◌<◌, ℕ, length, sym, ap, subst, ◌∙◌}
use Rattle.nj_pool.proofs.Behind.{strings_count}
use Rattle.nj_pool.proofs.strings.Strings.at.Goals as goal

pub string_at-requires-clause-place : goal.string_at-requires-clause-place
string_at-requires-clause-place c =
    subst (λ (count : ℕ). c.args.place < count)
    (sym (ap length c.self.view_is) ∙ (strings_count 0 c.self.inside.ends.items c.self.inside.bytes.items
    ∙ sym (ap length c.as_slice-2.ensures.value)))
    c.requires
