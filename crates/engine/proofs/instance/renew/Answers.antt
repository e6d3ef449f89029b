-- Each turn puts one more new worker in its place.
use Rattle.std.proofs.Common.{◌+◌, length, get_or, set, ap, ◌∙◌, arith}
use Rattle.std.proofs.lemmas.List.FromFn.{fill_by_all}
use Rattle.std.proofs.lemmas.List.Edits.{fill_by_more}
use Rattle.engine.specs.Instances.{fresh}
use Rattle.engine.specs.Rows.{states}
use Rattle.engine.proofs.Rows.{states_length, states_set}
use Rattle.engine.proofs.instance.renew.Goals as goal

pub loop-i-preserved : goal.loop-i-preserved
loop-i-preserved g c = λ k d h.
    let n = length c.args.workers.now in
    let ws = c.loop-i.workers in
    let put = states_set ws c.loop-i.i c.opened.result ∙ ap (set (states ws) c.loop-i.i) c.opened.ensures in
    ap (λ row. get_or row k d) put
    ∙ fill_by_more (λ j. fresh (j + 1) n) (states ws) c.loop-i.i d (omega (arith, states_length ws)) (λ j l. c.loop-i.invariant j d l) k h

pub returns : goal.returns
returns g c =
    let n = length c.args.workers.now in
    let ws = c.loop-i.workers in
    fill_by_all (λ j. fresh (j + 1) n) (states ws) n (fresh 1 1) (omega (arith, states_length ws)) (λ k l. c.loop-i.invariant k (fresh 1 1) (omega arith))
