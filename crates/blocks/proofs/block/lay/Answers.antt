-- The bytes listed one by one are the parts laid out.
use Rattle.std.proofs.Common.{arith}
use Rattle.blocks.proofs.Places.{lays}
use Rattle.blocks.proofs.block.lay.Goals as goal

pub returns : goal.returns
returns c = lays c.args.tag c.args.r c.args.a c.args.v (omega arith) (omega arith) (omega arith)
