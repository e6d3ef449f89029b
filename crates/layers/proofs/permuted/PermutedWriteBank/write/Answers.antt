-- A write goes to the register below that is named there, and to no other.
use Rattle.std.proofs.Common.{arith}
use Rattle.std.proofs.lemmas.Grind.{common_steps}
use Rattle.layers.proofs.PermutedViews.{placed, permuted_write}
use Rattle.layers.proofs.permuted.PermutedWriteBank.write.Goals as goal

pub returns-clause-answer : goal.returns-clause-answer
returns-clause-answer g c = grind (arith, common_steps, placed)

pub returns-clause-after : goal.returns-clause-after
returns-clause-after g c = grind (arith, common_steps, permuted_write)
