-- What was read is what the file holds.
use Rattle.std.proofs.Common.{sym}
use Rattle.nj_ines.proofs.CartLemmas.{contents_of-read, IsCartridge-read}
use Rattle.nj_ines.proofs.Cart.contents.Goals as goal

pub invariant_of-result : goal.invariant_of-result
invariant_of-result c =
    IsCartridge-read c.args.file.now _ _ c.prg_units.result c.chr_units-chr_units.result c.mapper.result
    c.has_bit.result (record {
      readable = c.requires;
      prg_units_are = c.prg_units.ensures.units;
      chr_units_are = c.chr_units-chr_units.ensures.units;
      mapper_is = c.mapper.ensures.number;
      prg_is = c.in_ok-prg.ensures.items;
      chr_is = c.in_ok-chr.ensures;
      vertical_is = c.has_bit.ensures;
    })

pub returns : goal.returns
returns c =
    sym (contents_of-read c.args.file.now _ _ c.prg_units.result c.chr_units-chr_units.result c.mapper.result
    c.has_bit.result (record {
      readable = c.requires;
      prg_units_are = c.prg_units.ensures.units;
      chr_units_are = c.chr_units-chr_units.ensures.units;
      mapper_is = c.mapper.ensures.number;
      prg_is = c.in_ok-prg.ensures.items;
      chr_is = c.in_ok-chr.ensures;
      vertical_is = c.has_bit.ensures;
    }))
