-- One string more.
use Rattle.std.proofs.Common.{ℕ, List, ◌∷◌, [], ◌++◌, ap, ◌∙◌, arith}
use Rattle.nj_pool.proofs.Behind.{IsOneMore, is_one_more}
use Rattle.nj_pool.proofs.strings.Strings.push.Goals as goal

more : (c : goal.After-push_reserved) → IsOneMore c.self.inside.ends.items c.self.inside.bytes.items c.args.string.now
    c.push_reserved.new.self.items c.extend_from_slice.new.self.items
more c =
    is_one_more c.self.inside.ends.items c.self.inside.bytes.items c.args.string.now c.push_reserved.new.self.items
    c.extend_from_slice.new.self.items c.len.result
    (omega (arith, c.len.ensures, c.extend_from_slice.new.self.ok.0)) c.in_ok-extend_from_slice.ensures.items
    (c.push_reserved.ensures.items ∙ ap (λ (e : List ℕ). e ++ c.len.result ∷ []) c.in_ok-reserve.ensures.items)
    c.self.invariant

pub invariant_of-self-2 : goal.invariant_of-self-2
invariant_of-self-2 c = (more c).are_ends

pub returns : goal.returns
returns c = (more c).one_more ∙ ap (λ strings. strings ++ c.args.string.now ∷ []) c.self.view_is
