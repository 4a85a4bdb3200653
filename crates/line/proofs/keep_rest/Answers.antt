-- `line::keep_rest` moves the bytes held to the front, at once.
use Rattle.line.proofs.Moves.{kept}
use Rattle.line.proofs.keep_rest.Goals as goal

pub returns : goal.returns
returns c =
    let a = c.args in
    kept a.buffer.now c.copy_within.new.self a.from a.held c.min-end.result c.min-start.result c.min-end.ensures c.min-start.ensures c.copy_within.ensures.after
