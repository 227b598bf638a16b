-- The pending dots run first, or the read and they change places.
use Rattle.std.proofs.Common.{ap, ◌∙◌}
use Rattle.nj_dots.specs.Dots.{after_dots}
use Rattle.nj_dots.specs.Registers.{after_read}
use Rattle.nj_catchup.specs.Limit.{pending_of}
use Rattle.nj_catchup.proofs.Sums.{dots-zero}
use Rattle.nj_catchup.proofs.Status.{read-untimed, steady-byte, steady-read}
use Rattle.nj_catchup.proofs.Limits.{lull-untimed}
use Rattle.nj_catchup.proofs.CatchUpPicture.read.Goals as goal

pub invariant_of-self : goal.invariant_of-self
invariant_of-self c =
    let s = c.args.self.now in
    let e = c.read-byte.new.self in
    let two = c.is_steady.ensures.status c.if-is_steady.true in
    record {
      fits = c.read-byte.ensures.fits;
      lulls = lull-untimed s.lull _ s.screen e s.lulls
          (read-untimed c.args.reg c.args.pattern.now s.screen e two c.read-byte.ensures.after)
          (ap (λ b. record s.lull { line = b }) c.nmi_line-self.ensures);
    }

pub returns-then-is_steady-clause-byte : goal.returns-then-is_steady-clause-byte
returns-then-is_steady-clause-byte c =
    let s = c.args.self.now in
    let p = c.args.pattern.now in
    c.read-byte.ensures.byte
    ∙ steady-byte c.args.reg (pending_of s.lull) p s.screen s.fits (c.is_steady.ensures.status c.if-is_steady.true)
    (c.is_steady.ensures.steady p c.if-is_steady.true)

pub returns-then-is_steady-clause-after : goal.returns-then-is_steady-clause-after
returns-then-is_steady-clause-after c = λ p same.
    let s = c.args.self.now in
    let q = c.args.pattern.now in
    let two = c.is_steady.ensures.status c.if-is_steady.true in
    ap (λ r. after_dots (pending_of s.lull) r c.read-byte.new.self) (same two)
    ∙ ap (after_dots (pending_of s.lull) q) c.read-byte.ensures.after
    ∙ steady-read c.args.reg (pending_of s.lull) q q s.screen s.fits two
    (c.is_steady.ensures.steady q c.if-is_steady.true)

pub returns-clause-after : goal.returns-clause-after
returns-clause-after c = λ p same.
    dots-zero (pending_of c.of-self.result) p c.read-byte-2.new.self c.of-self.ensures.pending
    ∙ c.read-byte-2.ensures.after ∙ ap (after_read c.args.reg c.args.pattern.now) c.catch_up.ensures.screen
