use Rattle.nj_candidate.proofs.Words.{is_image, state_again, image_length, few_bytes}
use Rattle.nj_candidate.proofs.laws.an_image_stands_for_its_word.Goals as goal

pub returns-clause-is_image : goal.returns-clause-is_image
returns-clause-is_image c plan word nrom =
    is_image plan word (c.a_word_keeps_the_cartridge.ensures.ready plan word nrom)
    (c.a_word_keeps_the_cartridge.ensures.cartridge plan word nrom)
    c.an_image_tells_its_state.ensures.saved

pub returns-clause-state : goal.returns-clause-state
returns-clause-state c plan word nrom =
    state_again plan word (c.a_word_keeps_the_cartridge.ensures.ready plan word nrom)
    (c.a_word_keeps_the_cartridge.ensures.cartridge plan word nrom)
    c.an_image_tells_its_state.ensures.again

pub returns-clause-len : goal.returns-clause-len
returns-clause-len c plan word nrom =
    image_length plan word (c.a_word_keeps_the_cartridge.ensures.ready plan word nrom)
    (c.a_word_keeps_the_cartridge.ensures.cartridge plan word nrom)
    c.an_image_tells_its_state.ensures.len

pub returns-clause-few : goal.returns-clause-few
returns-clause-few c = few_bytes
