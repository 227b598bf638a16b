-- One row more.
use Rattle.std.proofs.Common.{◌-◌, drop, nat_eq, rules}
use Rattle.std.specs.HashSet.{contains}
use Rattle.nj_seen.specs.Held.{oldest_step}
use Rattle.nj_seen.proofs.Firsts.{all_met}
use Rattle.nj_seen.proofs.Added.{one_unseen}
use Rattle.nj_seen.proofs.adding.unseen.Goals as goal

pub loop-row-init : goal.loop-row-init
loop-row-init c = λ seen step holds. search rules

pub loop-row-preserved : goal.loop-row-preserved
loop-row-preserved c = λ seen step holds.
    one_unseen c.args.words.now seen step c.args.from holds c.args.rows.now c.loop-row.row-index
    _ (contains nat_eq c.loop-row.met) (contains nat_eq c.is_first.new.met)
    c.loop-row.fresh.items c.push_if.new.rows.items c.in_ok-is_new.is_new c.loop-row-test.true c.requires.rising
    (c.loop-row.invariant seen step holds)
    c.in_ok-is_new.ensures.first c.in_ok-is_new.ensures.met c.in_ok-push_if.ensures

pub returns : goal.returns
returns c = λ seen step holds.
    all_met (drop (c.args.from - oldest_step step seen) seen) c.args.rows.now c.loop-row.row-index
    (contains nat_eq c.loop-row.met) c.loop-row.fresh.items c.loop-row-test.false
    (c.loop-row.invariant seen step holds)
