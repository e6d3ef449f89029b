-- The round is the least above what was seen.
use Rattle.std.proofs.Common.{arith}
use Rattle.protocol.proofs.RoundLaws.{least_next}
use Rattle.protocol.proofs.round.round_above.Goals as goal

pub returns-clause-least : goal.returns-clause-least
returns-clause-least c = least_next c.args.seen c.args.i c.args.n (omega arith) (omega arith)
