-- The picture sees all of pattern memory where it is RAM.
use Rattle.std.proofs.Common.{◌≡◌, true, if◌then◌else◌, sym, ap, ◌∙◌}
use Rattle.nj_dots.specs.Image.{overwritten}
use Rattle.nj_machine.proofs.Boards.{ram_pattern}
use Rattle.nj_machine.proofs.images.place_pattern.Goals as goal

pub returns-then-has_chr_ram : goal.returns-then-has_chr_ram
returns-then-has_chr_ram c =
    let ram : c.args.board.now.chr_ram ≡ true = sym c.has_chr_ram.ensures ∙ c.if-has_chr_ram.true in
    let image = c.args.image.now in
    c.place.ensures
    ∙ ap (λ l. overwritten 4480 l image) (c.pattern.ensures.bytes ∙ ram_pattern c.args.board.now c.fits.ensures ram)
    ∙ sym (ap (λ b. if b then overwritten 4480 c.args.board.now.chr image else image) ram)
