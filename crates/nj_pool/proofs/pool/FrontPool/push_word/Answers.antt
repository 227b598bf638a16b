-- One state more.
use Rattle.std.proofs.Common.{rules, ◌≡◌, ℕ, ◌+◌, ◌≤◌, ◌∷◌, [], ◌++◌, List, length, take, sym, ap, subst, ◌∙◌, arith, Bool, IfErr, if◌then◌else◌}
use Rattle.std.specs.Prelude.{sum_by}
use Rattle.nj_image.specs.Packing.{packing}
use Rattle.nj_pool.specs.Front.{Front, need, images_in}
use Rattle.nj_pool.specs.Refused.{Refuses, RefusesBy}
use Rattle.nj_pool.proofs.Packs.{octets, packed_more}
use Rattle.nj_pool.proofs.pool.FrontPool.push_word.Goals as goal

pub returns-in_err-size-clause-refused : goal.returns-in_err-size-clause-refused
returns-in_err-size-clause-refused c =
    let base = c.self.inside.base.items in
    let by : IfErr c.from_residual.result (λ refused. RefusesBy c.self.inside.bytes
    (need c.as_slice-base.result.now c.args.image.now) c.self.inside.limit refused) = search rules in
    subst (λ (pool : Front). IfErr c.from_residual.result (Refuses c.args.image.now pool)) c.self.view_is
    (subst (λ (b : List ℕ). IfErr c.from_residual.result (RefusesBy (sum_by (need base) (images_in base
    c.self.inside.packings)) (need b c.args.image.now) c.self.inside.limit)) c.as_slice-base.ensures.value
    (subst (λ (held : ℕ). IfErr c.from_residual.result (RefusesBy held
    (need c.as_slice-base.result.now c.args.image.now) c.self.inside.limit)) c.self.invariant.counted by))

pub returns-in_err-push_root-clause-refused : goal.returns-in_err-push_root-clause-refused
returns-in_err-push_root-clause-refused c =
    let base = c.self.inside.base.items in
    let within : c.self.inside.bytes + need c.as_slice-base.result.now c.args.image.now ≤ c.self.inside.limit =
    c.in_ok-size.ensures.room in
    let by : IfErr c.from_residual-in_err-push_root.result (λ refused. RefusesBy c.self.inside.bytes
    (need c.as_slice-base.result.now c.args.image.now) c.self.inside.limit refused) = search rules in
    subst (λ (pool : Front). IfErr c.from_residual-in_err-push_root.result (Refuses c.args.image.now pool))
    c.self.view_is
    (subst (λ (b : List ℕ). IfErr c.from_residual-in_err-push_root.result (RefusesBy (sum_by (need base) (images_in base
    c.self.inside.packings)) (need b c.args.image.now) c.self.inside.limit)) c.as_slice-base.ensures.value
    (subst (λ (held : ℕ). IfErr c.from_residual-in_err-push_root.result (RefusesBy held
    (need c.as_slice-base.result.now c.args.image.now) c.self.inside.limit)) c.self.invariant.counted by))

pub invariant_of-self-2 : goal.invariant_of-self-2
invariant_of-self-2 c =
    let base = c.self.inside.base.items in
    let value = c.as_slice-base.ensures.value in
    let added : c.push.new.self ≡ c.self.inside.packings ++ take c.in_ok-size.size c.deref.result.now ∷ [] =
    c.push.ensures ∙ ap (λ (ok : Bool). if ok then c.self.inside.packings ++ take c.in_ok-size.size c.deref.result.now
    ∷ [] else c.self.inside.packings) c.if-is_err.ensures.negation in
    let more : c.self.inside.bytes + (c.in_ok-size.size + 15) ≡ c.self.inside.bytes + need c.self.inside.base.items
    c.args.image.now =
    omega (arith, c.in_ok-size.ensures.size, ap (λ b. length (packing c.args.image.now b)) value) in
    let within : c.self.inside.bytes + (c.in_ok-size.size + 15) ≤ c.self.inside.limit =
    omega (arith, c.in_ok-size.ensures.room, c.in_ok-size.ensures.size) in
    packed_more base c.self.inside.room.items c.pack_within.new.into.items c.args.image.now
    (take c.in_ok-size.size c.deref.result.now) c.self.inside.limit c.self.inside.bytes _ c.self.inside.packings _
    c.a_packing_tells_its_image.ensures.told c.a_packing_tells_its_image.ensures.packed c.self.invariant
    c.in_ok-size.ensures.long (c.requires.long ∙ ap (λ (p : Front). length p.base) (sym c.self.view_is))
    (octets c.args.image.now c.type_inv.image)
    (ap (take c.in_ok-size.size) c.deref.ensures.value
    ∙ (c.in_ok-size.ensures.packing ∙ ap (packing c.args.image.now) value)) added more within
