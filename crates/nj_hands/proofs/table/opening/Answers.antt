-- The table has room for the step.
use Rattle.nj_hands.proofs.Rooms.{room_fits, opened_for}
use Rattle.nj_hands.proofs.table.opening.Goals as goal

pub exponent_for-requires-clause-fits : goal.exponent_for-requires-clause-fits
exponent_for-requires-clause-fits c =
    room_fits c.bounds-bounds.result c.args.search.now.plan.script c.args.search.now.bounds c.front_len.result
    c.bounds-bounds.ensures.bounds
    c.front_len.ensures.within c.bounds-bounds.ensures.fits

pub returns : goal.returns
returns c =
    opened_for c.args.search.now c.bounds-bounds.result c.in_ok-claims.claims.items c.front_len.result
    c.exponent_for.result c.bounds-bounds.ensures.bounds c.front_len.ensures.len
    c.in_ok-claims.ensures.table c.in_ok-claims.ensures.slots c.in_ok-claims.ensures.empty
    (c.no_key_is_seen.ensures c.in_ok-claims.claims.items c.args.search.now.state.step c.in_ok-claims.ensures.owners)
    c.exponent_for.ensures.fits
