-- What was counted is the count of the workers so far.
use Rattle.std.proofs.Common.{◌≡◌, ◌≤◌, take}
use Rattle.std.specs.List.{count_by}
use Rattle.engine.specs.Instances.{has_decided}
use Rattle.engine.specs.Rows.{states}
use Rattle.engine.proofs.instance.tally.Given as goal

-- how many of the workers so far
abbrev pub invariant-loop-worker : goal.invariant-loop-worker
invariant-loop-worker g l = record {
  few_decided : l.decided ≤ l.worker-index;
  few_crashed : l.crashed ≤ l.worker-index;
  decided : l.decided ≡ count_by (λ s. has_decided s.phase) (take l.worker-index (states l.workers));
  crashed : l.crashed ≡ count_by (λ s. s.crashed) (take l.worker-index (states l.workers));
}
