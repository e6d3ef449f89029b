-- There are as many cells as registers.
use Rattle.std.proofs.Common.{arith}
use Rattle.blocks.proofs.BlockBanks.{blocks_length}
use Rattle.blocks.proofs.bytes.count.Goals as goal

pub returns-clause-cells : goal.returns-clause-cells
returns-clause-cells g c = rw blocks_length (omega arith)
