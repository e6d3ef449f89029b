-- A read answers what the register below that is named there does.
use Rattle.std.proofs.Common.{arith}
use Rattle.std.proofs.lemmas.Grind.{common_steps}
use Rattle.layers.proofs.PermutedViews.{placed}
use Rattle.layers.proofs.permuted.PermutedReadBank.read.Goals as goal

pub returns : goal.returns
returns g c = grind (arith, common_steps, placed)
