-- `engine_transposition::transpose` meets its contract: its six rounds compose.
use Rattle.std.proofs.Common.{arith}
use Rattle.engine_transposition.specs.Transpose.{masks, transposed}
use Rattle.engine_transposition.proofs.transpose.Goals as goal

pub exchange-halves-requires : goal.exchange-halves-requires
exchange-halves-requires c = masks 5 (omega arith)

pub exchange-quarters-requires : goal.exchange-quarters-requires
exchange-quarters-requires c = masks 4 (omega arith)

pub exchange-bytes-requires : goal.exchange-bytes-requires
exchange-bytes-requires c = masks 3 (omega arith)

pub exchange-nibbles-requires : goal.exchange-nibbles-requires
exchange-nibbles-requires c = masks 2 (omega arith)

pub exchange-pairs-requires : goal.exchange-pairs-requires
exchange-pairs-requires c = masks 1 (omega arith)

pub exchange-requires : goal.exchange-requires
exchange-requires c = masks 0 (omega arith)

pub returns : goal.returns
returns c =
    transposed c.args.words.now c.exchange-halves.result c.exchange-quarters.result c.exchange-bytes.result
    c.exchange-nibbles.result c.exchange-pairs.result c.exchange.result c.exchange-halves.ensures c.exchange-quarters.ensures
    c.exchange-bytes.ensures c.exchange-nibbles.ensures c.exchange-pairs.ensures c.exchange.ensures
