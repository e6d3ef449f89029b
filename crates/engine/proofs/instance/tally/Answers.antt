-- Each turn counts one more worker.
use Rattle.engine.specs.Instances.{has_decided}
use Rattle.engine.proofs.Counting.{count_fits, count_more}
use Rattle.engine.proofs.instance.tally.Goals as goal

pub loop-worker-preserved : goal.loop-worker-preserved
loop-worker-preserved g c =
    let ws = c.args.workers.now in
    let k = c.loop-worker.worker-index in
    let w = c.worker-item.result in
    record {
      few_decided = count_fits _ k _ _ c.loop-worker.invariant.few_decided c.from-decided.ensures;
      few_crashed = count_fits _ k _ _ c.loop-worker.invariant.few_crashed c.from-crashed.ensures;
      decided = count_more (λ s. has_decided s.phase) ws k w c.worker-item.is c.loop-worker-test.true _ _ _ c.has_decided.ensures c.from-decided.ensures c.loop-worker.invariant.decided;
      crashed = count_more (λ s. s.crashed) ws k w c.worker-item.is c.loop-worker-test.true _ _ _ c.has_crashed.ensures c.from-crashed.ensures c.loop-worker.invariant.crashed;
    }
