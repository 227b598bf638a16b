-- The place is that of the picture after the dots.
use Rattle.nj_dots.specs.Screen.{place_of}
use Rattle.std.proofs.Common.{◌≡◌, ◌/◌, ◌%◌, ap, ◌∙◌, arith}
use Rattle.nj_dots.specs.declared.position.Position.{Position}
use Rattle.nj_catchup.specs.Place.{place_ahead}
use Rattle.nj_catchup.proofs.Ahead.{to_event-small, skips-of, position-after}
use Rattle.nj_catchup.proofs.place.position_ahead.Goals as goal

pub place_ahead-ahead-requires-clause-dots : goal.place_ahead-ahead-requires-clause-dots
place_ahead-ahead-requires-clause-dots c =
    omega (arith, to_event-small c.args.screen.now c.requires.fits, c.requires.before_event)

pub returns : goal.returns
returns c = λ p.
    let s = c.args.screen.now in
    let k = c.args.dots in
    let at : c.place_ahead-ahead.result ≡ place_ahead k (place_of s.position) (skips-of s) =
    c.place_ahead-ahead.ensures.place
    ∙ ap (λ n. place_ahead k n c.skips_dot.result) c.place.ensures
    ∙ ap (place_ahead k (place_of s.position)) c.skips_dot.ensures in
    ap (λ n. let q : Position = record { line = n / 341; dot = n % 341 } in q) at
    ∙ position-after k p s c.requires.fits c.requires.before_event
