use Rattle.nj_clean.proofs.Standing.{is_image, state_again, image_length}
use Rattle.nj_clean.proofs.bench.an_image_stands_for_its_word.Goals as goal

pub returns-clause-is_image : goal.returns-clause-is_image
returns-clause-is_image c plan word held =
    is_image plan word (c.a_word_keeps_the_cartridge.ensures.ready plan word held)
    (c.a_word_keeps_the_cartridge.ensures.cartridge plan word held)
    c.an_image_tells_its_state.ensures.saved

pub returns-clause-state : goal.returns-clause-state
returns-clause-state c plan word held =
    state_again plan word (c.a_word_keeps_the_cartridge.ensures.ready plan word held)
    (c.a_word_keeps_the_cartridge.ensures.cartridge plan word held)
    c.an_image_tells_its_state.ensures.again

pub returns-clause-len : goal.returns-clause-len
returns-clause-len c plan word held =
    image_length plan word (c.a_word_keeps_the_cartridge.ensures.ready plan word held)
    (c.a_word_keeps_the_cartridge.ensures.cartridge plan word held)
    c.an_image_tells_its_state.ensures.len
