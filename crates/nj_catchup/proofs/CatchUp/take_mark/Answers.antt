-- The mark has no part in what a picture must keep.
use Rattle.nj_catchup.proofs.CatchUp.take_mark.Goals as goal

pub invariant_of-self : goal.invariant_of-self
invariant_of-self c =
    let s = c.args.self.now in
    record {
      fits = record { placed = s.fits.placed; fine_x = s.fits.fine_x; oam = s.fits.oam; vram = s.fits.vram };
      lulls = c.of-self.ensures.lull;
    }
