-- What a worker has done, fact by fact.
use Rattle.nj_hands.proofs.Turns.{work_of}
use Rattle.nj_hands.proofs.serving.work.Goals as goal

pub returns-clause-pieces : goal.returns-clause-pieces
returns-clause-pieces g c =
    (work_of c.args.table.now c.args.pieces.now c.args.hand c.serve.new.end.hand c.new.result.items
    c.serve.new.end.rows.items c.args.steps.now c.serve.new.steps c.new.ensures.items c.serve.ensures.worked).taken

pub returns-clause-claimed : goal.returns-clause-claimed
returns-clause-claimed g c =
    (work_of c.args.table.now c.args.pieces.now c.args.hand c.serve.new.end.hand c.new.result.items
    c.serve.new.end.rows.items c.args.steps.now c.serve.new.steps c.new.ensures.items c.serve.ensures.worked).claimed

pub returns-clause-pass : goal.returns-clause-pass
returns-clause-pass g c =
    (work_of c.args.table.now c.args.pieces.now c.args.hand c.serve.new.end.hand c.new.result.items
    c.serve.new.end.rows.items c.args.steps.now c.serve.new.steps c.new.ensures.items c.serve.ensures.worked).pass

pub returns-clause-frames : goal.returns-clause-frames
returns-clause-frames g c =
    (work_of c.args.table.now c.args.pieces.now c.args.hand c.serve.new.end.hand c.new.result.items
    c.serve.new.end.rows.items c.args.steps.now c.serve.new.steps c.new.ensures.items c.serve.ensures.worked).frames
