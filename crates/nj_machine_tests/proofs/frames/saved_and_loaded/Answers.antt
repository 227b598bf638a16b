-- The image is one that the first machine saved, whose cartridge is the second's.
use Rattle.std.proofs.Common.{sym, ap, ◌∙◌, subst}
use Rattle.std.proofs.lemmas.List.{take_at}
use Rattle.nj_machine.specs.State.{rom_of}
use Rattle.nj_machine.specs.Image.{IsImage}
use Rattle.nj_machine_tests.proofs.frames.saved_and_loaded.Goals as goal

pub load-requires : goal.load-requires
load-requires g c =
    subst (λ bytes. IsImage (rom_of c.in_ok-second.second) bytes)
    (sym (c.as_slice.ensures.value ∙ take_at c.save.new.image _ _ (c.save.auto.image ∙ c.as_mut_slice.ensures.len)))
    (subst (λ rom. IsImage rom c.save.new.image) (c.played.ensures
    ∙ ap rom_of (c.in_ok-first.ensures.begun ∙ sym c.in_ok-second.ensures.begun)) c.save.ensures.is_image)
