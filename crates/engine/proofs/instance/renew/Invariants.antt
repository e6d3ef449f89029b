-- The workers before this place are new.
use Rattle.std.proofs.Common.{◌≡◌, ℕ, ◌+◌, ◌<◌, get_or}
use Rattle.protocol.specs.declared.state.State.{State}
use Rattle.engine.specs.Instances.{fresh}
use Rattle.engine.specs.Rows.{states}
use Rattle.engine.proofs.instance.renew.Given as goal

-- the places so far have new workers
abbrev pub invariant-loop-i : goal.invariant-loop-i
invariant-loop-i g l = (k : ℕ) (d : State g.row.V.Denot) → k < l.i → get_or (states l.workers) k d ≡ fresh (k + 1) l.total
