-- One key more.
use Rattle.std.proofs.Common.{◌≡◌, ◌<◌, inr, subst, sym, arith}
use Rattle.std.proofs.lemmas.Result.{err_from_is_err_and}
use Rattle.nj_saved.specs.Fields.{u32_at}
use Rattle.nj_saved.specs.Steps.{AreKeys}
use Rattle.nj_saved.proofs.Loops.{no_keys, one_key, all_keys, key_refused}
use Rattle.nj_saved.proofs.generations.read_keys.Goals as goal

pub loop-k-init : goal.loop-k-init
loop-k-init c = no_keys c.args.file.now c.args.older.now c.args.at _ c.requires.reached c.new-keys.ensures.items

pub returns-in_err-last : goal.returns-in_err-last
returns-in_err-last c =
    let p = err_from_is_err_and c.from_residual.result c.from_residual.ensures.1 in
    let below : c.loop-k.k < u32_at c.args.file.now c.args.at = omega (arith, c.loop-k-test.true, c.requires.count) in
    rw (p.1, p.2)
    (inr
    (key_refused c.args.file.now c.args.older.now c.args.at c.loop-k.k _ _ c.in_err-last.field-0.0 c.loop-k.invariant
    below c.in_err-last.ensures.test))

pub loop-k-preserved : goal.loop-k-preserved
loop-k-preserved c =
    one_key c.args.file.now c.args.older.now c.args.at c.loop-k.k _ _ c.in_ok-last.last _ c.loop-k.invariant
    c.in_ok-last.ensures.test c.in_ok-last.ensures.key
    c.in_ok-last.ensures.there c.in_ok-push.ensures.items

pub returns : goal.returns
returns c =
    let end : c.loop-k.k ≡ u32_at c.args.file.now c.args.at =
    omega (arith, c.loop-k-test.false, c.loop-k.auto.k-end, c.requires.count) in
    subst (AreKeys c.args.file.now c.args.older.now c.args.at) (sym c.from_vec.ensures)
    (all_keys c.args.file.now c.args.older.now c.args.at c.loop-k.k _ _ c.loop-k.invariant end)
