-- There are as many cells as registers.
use Rattle.std.proofs.Common.{arith}
use Rattle.record_bank.proofs.RecordBanks.{record_count}
use Rattle.record_bank.proofs.count.Goals as goal

pub returns : goal.returns
returns g c = rw record_count (omega arith)
