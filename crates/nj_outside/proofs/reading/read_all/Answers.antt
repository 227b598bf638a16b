-- A read that gave some bytes makes a longer beginning, one that gave none shows that it was the whole file.
use Rattle.std.proofs.Common.{◌≡◌, ◌<◌, Some, length, ap, ◌∙◌, arith, vec_len}
use Rattle.nj_outside.proofs.Beginnings.{begun_more, begun_whole, begun_past}
use Rattle.nj_outside.proofs.reading.read_all.Goals as goal

pub returns-then-count-eq0-clause-whole : goal.returns-then-count-eq0-clause-whole
returns-then-count-eq0-clause-whole g c files told =
    let now : g.S.Shelf.content c.loop-piece.shelf ≡ Some files = c.loop-piece.invariant.content ∙ told in
    let place : c.len-in-loop-piece.result ≡ length c.loop-piece.bytes.items =
    c.len-in-loop-piece.ensures ∙ c.loop-piece.bytes.ok.0 in
    let room : 0 < length c.read_at.new.into = omega arith in
    begun_whole _ _ (c.loop-piece.invariant.begun files told)
    (λ none. let missing = c.in-Ok.ensures.missing files now none in cc)
    (λ file is. let ends = c.in-Ok.ensures.end files now file is c.if-count-eq0.true room in omega (arith, ends))

pub loop-piece-preserved : goal.loop-piece-preserved
loop-piece-preserved g c = record {
  begun = λ files told.
      let now : g.S.Shelf.content c.loop-piece.shelf ≡ Some files = c.loop-piece.invariant.content ∙ told in
      let place : c.len-in-loop-piece.result ≡ length c.loop-piece.bytes.items =
      c.len-in-loop-piece.ensures ∙ c.loop-piece.bytes.ok.0 in
      rw c.in_ok-extend_from_slice.ensures.items
      (begun_more _ _ _ _ (c.loop-piece.invariant.begun files told) c.in-Ok.ensures.within
      (λ none. let missing = c.in-Ok.ensures.missing files now none in cc)
      (λ file is. rw (← place) (c.in-Ok.ensures.bytes files now file is)));
  content = c.in-Ok.ensures.content ∙ c.loop-piece.invariant.content;
  counted = c.in-Ok.ensures.no_fault ∙ c.loop-piece.invariant.counted;
  put_faults = c.in-Ok.ensures.put_faults ∙ c.loop-piece.invariant.put_faults;
  failed_put = c.in-Ok.ensures.failed_put ∙ c.loop-piece.invariant.failed_put;
}

pub returns-clause-too_long : goal.returns-clause-too_long
returns-clause-too_long g c files told n _ =
    let place : vec_len c.loop-piece.bytes ≡ length c.loop-piece.bytes.items = c.loop-piece.bytes.ok.0 in
    begun_past _ _ _ (c.loop-piece.invariant.begun files told) (omega arith)

pub returns-clause-fits : goal.returns-clause-fits
returns-clause-fits g c files told file is fits _ =
    let place : vec_len c.loop-piece.bytes ≡ length c.loop-piece.bytes.items = c.loop-piece.bytes.ok.0 in
    let past = begun_past (files c.args.name.now) c.loop-piece.bytes.items c.args.limit
    (c.loop-piece.invariant.begun files told) (omega arith) in
    let same : past.0 ≡ file = cc (past.1, is) in
    let long : length past.0 ≡ length file = ap length same in
    let over : c.args.limit < length past.0 = past.2 in
    absurd (omega arith)
