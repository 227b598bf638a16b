-- Five parts written one after another are the picture's bytes.
use Rattle.nj_dots.proofs.Stored.{put_chain}
use Rattle.nj_dots.proofs.screen.Screen.put.Goals as goal

pub returns : goal.returns
returns c =
    put_chain c.args.self.now c.args.image.now c.place.new.image c.place-2.new.image c.place-3.new.image
    c.place-4.new.image
    c.place-5.new.image c.register_bytes.result c.requires.fits c.requires.long
    c.place.ensures c.place-2.ensures c.place-3.ensures c.register_bytes.ensures c.place-4.ensures c.place-5.ensures
