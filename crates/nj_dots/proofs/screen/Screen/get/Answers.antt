-- Each part is read again, and with it the picture.
use Rattle.std.proofs.Common.{sym, ◌∙◌, subst, refl}
use Rattle.nj_dots.specs.Screen.{IsScreen}
use Rattle.nj_dots.proofs.Stored.{get_is}
use Rattle.nj_dots.proofs.screen.Screen.get.Goals as goal

pub returns-clause-state : goal.returns-clause-state
returns-clause-state c s holds mirroring =
    c.take_registers.ensures
    ∙ get_is s c.args.self.now _ _ _ _ c.args.image.now holds mirroring c.requires.long
    c.copy_from_slice.ensures.after c.copy_from_slice-2.ensures.after c.copy_from_slice-3.ensures.after refl

pub returns-clause-fits : goal.returns-clause-fits
returns-clause-fits c =
    let stored = c.requires.stored in
    subst IsScreen (sym (returns-clause-state c stored.0 stored.1.0 stored.1.1)) stored.1.0.fits
