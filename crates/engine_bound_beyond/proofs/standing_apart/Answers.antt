-- `engine_bound_beyond::standing_apart` meets its contract: its calls are the set. Assumes nothing.
use Rattle.engine_bound_beyond.specs.BoundBeyond.{apart_is}
use Rattle.engine_bound_beyond.proofs.standing_apart.Goals as goal

pub returns : goal.returns
returns c =
    let a = c.args in
    rw (c.difference.ensures, c.without.ensures)
    (apart_is 64 a.set a.k a.word c.ranges.set.fits c.ranges.word.fits c.requires)
