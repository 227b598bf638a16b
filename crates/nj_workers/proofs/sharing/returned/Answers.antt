-- One worker more is back.
use Rattle.std.proofs.Common.{◌++◌, length, refl, sym, ap, ◌∙◌, arith}
use Rattle.nj_claims.specs.Passes.{PassView}
use Rattle.nj_workers.specs.Desks.{rows_all}
use Rattle.nj_workers.proofs.Together.{taker_of}
use Rattle.nj_workers.proofs.Sitting.{still_back, begun_back, over_back}
use Rattle.nj_workers.proofs.Backs.{joined_next, rows_next, own_next, joined_end, rows_end}
use Rattle.nj_workers.proofs.sharing.returned.Goals as goal

pub loop-end-init : goal.loop-end-init
loop-end-init c =
    let none = ap length c.requires.empty in
    let long = c.args.takers.now.ok.0 in
    let room = c.requires.room in (
      refl,
      begun_back taker_of c.args.ends.items c.args.takers.now.items c.requires.empty,
      ap (λ rows. rows ++ rows_all c.args.ends.items) c.requires.no_rows,
      c.requires.own,
      c.requires.root,
      c.requires.others,
      omega arith,
    )

pub loop-end-preserved : goal.loop-end-preserved
loop-end-preserved c =
    let was = c.loop-end.invariant in
    let one = c.in-Some.ensures.cases in
    let more = c.push_reserved.ensures.len in
    let same = c.push_reserved.ensures.capacity in
    let room = was.6 in (
      joined_next c.loop-end.pass c.join_end-taker.new.pass c.loop-end.ends.items c.pop.new.self.items c.in-Some.end _
          c.in-Some.ensures.items c.join_end-taker.ensures.pass was.0,
      still_back taker_of c.loop-end.ends.items c.pop.new.self.items c.in-Some.end _ c.loop-end.takers.items
          c.push_reserved.new.self.items _ (sym c.join_end-taker.ensures.taker) c.in-Some.ensures.items
          c.push_reserved.ensures.items was.1,
      rows_next c.loop-end.added c.add_rows-added.result c.loop-end.rows.items c.add_rows-added.new.rows.items
          c.as_slice.result.now c.loop-end.ends.items c.pop.new.self.items c.in-Some.end _
          c.in-Some.ensures.items (c.as_slice.ensures.value
          ∙ c.join_end-taker.ensures.rows) c.add_rows-added.ensures.before c.add_rows-added.ensures.rows was.2,
      ap (λ (p : PassView). p.table) c.join_end-taker.ensures.pass ∙ was.3,
      ap (λ (p : PassView). p.is_root) c.join_end-taker.ensures.pass ∙ was.4,
      own_next c.args.table.now c.loop-end.ends.items c.pop.new.self.items c.in-Some.end c.in-Some.ensures.items was.5,
      omega arith,
    )

pub returns-clause-pass : goal.returns-clause-pass
returns-clause-pass c =
    let none = c.in_default.ensures.cases in
    let long = c.loop-end.ends.ok.0 in
    joined_end c.loop-end.pass c.loop-end.ends.items _ (omega arith) c.loop-end.invariant.0

pub returns-clause-takers : goal.returns-clause-takers
returns-clause-takers c =
    let none = c.in_default.ensures.cases in
    let long = c.loop-end.ends.ok.0 in
    c.reverse.ensures.items
    ∙ over_back taker_of c.loop-end.ends.items c.loop-end.takers.items _ (omega arith) c.loop-end.invariant.1

pub returns-clause-rows : goal.returns-clause-rows
returns-clause-rows c =
    let none = c.in_default.ensures.cases in
    let long = c.loop-end.ends.ok.0 in
    rows_end c.loop-end.added c.loop-end.rows.items c.loop-end.ends.items _ (omega arith) c.loop-end.invariant.2
