-- A write goes to the register below that the window shows there, and to no other.
use Rattle.std.proofs.Common.{arith}
use Rattle.std.proofs.lemmas.Grind.{common_steps}
use Rattle.layers.proofs.WindowViews.{window_write}
use Rattle.layers.proofs.window.WindowWriteBank.write.Goals as goal

pub returns-clause-after : goal.returns-clause-after
returns-clause-after g c = grind (arith, common_steps, window_write)
