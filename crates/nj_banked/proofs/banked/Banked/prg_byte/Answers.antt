-- The window's byte is that of the board.
use Rattle.std.proofs.Common.{arith, ◌∙◌, ap}
use Rattle.std.proofs.lemmas.List.{get_or_default}
use Rattle.nj_banked.specs.Banked.{prg_byte}
use Rattle.nj_banked.proofs.Fits.{window-seen}
use Rattle.nj_banked.proofs.banked.Banked.prg_byte.Goals as goal

pub overflow_add-window : goal.overflow_add-window
overflow_add-window c =
    let seen = window-seen _ c.self.inside.windows _ c.args.at c.self.invariant c.requires (omega arith) in
    omega (arith, seen.few)

pub index-requires : goal.index-requires
index-requires c =
    let seen = window-seen _ c.self.inside.windows _ c.args.at c.self.invariant c.requires (omega arith) in
    omega (arith, seen.inside)

pub returns : goal.returns
returns c =
    let seen = window-seen _ c.self.inside.windows _ c.args.at c.self.invariant c.requires (omega arith) in
    c.index.ensures ∙ (get_or_default _ _ _ 0 seen.inside ∙ (seen.byte ∙ ap (λ m. prg_byte m c.args.at) c.self.view_is))
