-- The bytes that were written are the packing.
use Rattle.std.proofs.Common.{sym, ◌∙◌}
use Rattle.nj_image.proofs.Packed.{packed-all, packed-some, room-for}
use Rattle.nj_image.proofs.packing.pack.Goals as goal

pub returns-then-every_flagged-clause-bytes : goal.returns-then-every_flagged-clause-bytes
returns-then-every_flagged-clause-bytes c =
    (packed-all c.args.image.now c.args.base.now c.page_mask.new.mask c.args.into.now c.place.new.into c.requires.base
    c.requires.image c.requires.room c.page_mask.ensures.mask
    (sym c.every_flagged.ensures ∙ c.if-every_flagged.true) c.place.ensures).0

pub returns-then-every_flagged-clause-len : goal.returns-then-every_flagged-clause-len
returns-then-every_flagged-clause-len c =
    (packed-all c.args.image.now c.args.base.now c.page_mask.new.mask c.args.into.now c.place.new.into c.requires.base
    c.requires.image c.requires.room c.page_mask.ensures.mask
    (sym c.every_flagged.ensures ∙ c.if-every_flagged.true) c.place.ensures).1

pub put_flagged-requires-clause-room : goal.put_flagged-requires-clause-room
put_flagged-requires-clause-room c =
    room-for c.args.image.now c.args.base.now c.page_mask.new.mask c.args.into.now c.place-2.new.into c.requires.base
    c.requires.image c.requires.room c.page_mask.ensures.mask
    (sym c.every_flagged.ensures ∙ c.if-every_flagged.false) c.place-2.ensures

pub returns-clause-bytes : goal.returns-clause-bytes
returns-clause-bytes c =
    (packed-some c.args.image.now c.args.base.now c.page_mask.new.mask c.args.into.now c.place-2.new.into
    c.put_flagged.new.into c.put_flagged.result c.requires.base c.requires.image c.requires.room
    c.page_mask.ensures.mask (sym c.every_flagged.ensures
    ∙ c.if-every_flagged.false) c.place-2.ensures c.put_flagged.ensures.bytes c.put_flagged.ensures.end).0

pub returns-clause-len : goal.returns-clause-len
returns-clause-len c =
    (packed-some c.args.image.now c.args.base.now c.page_mask.new.mask c.args.into.now c.place-2.new.into
    c.put_flagged.new.into c.put_flagged.result c.requires.base c.requires.image c.requires.room
    c.page_mask.ensures.mask (sym c.every_flagged.ensures
    ∙ c.if-every_flagged.false) c.place-2.ensures c.put_flagged.ensures.bytes c.put_flagged.ensures.end).1
