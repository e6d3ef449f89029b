-- A proposal changes its worker, and a refused one no worker.
use Rattle.std.proofs.Common.{set, sym, ap, ◌∙◌}
use Rattle.calls.specs.CallRefusals.{call_numbered}
use Rattle.engine.specs.Rows.{states}
use Rattle.engine.proofs.Rows.{states_set}
use Rattle.engine.proofs.Wholes.{propose_size, propose_nowhere, propose_here, propose_kept}
use Rattle.engine.proofs.instance.propose.Goals as goal

pub returns-in_err-check_row-clause-workers : goal.returns-in_err-check_row-clause-workers
returns-in_err-check_row-clause-workers g c =
    ap (λ r. r.states) (propose_size c.args.workers.now c.args.worker c.args.value _ _ c.check_row.ensures c.in_err-check_row.was)

pub returns-in_err-place-clause-workers : goal.returns-in_err-place-clause-workers
returns-in_err-place-clause-workers g c =
    let fit = sym c.check_row.ensures ∙ ap call_numbered c.in_ok-check_row.was in
    ap (λ r. r.states) (propose_nowhere c.args.workers.now c.args.worker c.args.value _ _ fit c.place.ensures.value c.in_err-place.was)

pub returns : goal.returns
returns g c =
    let ws = c.args.workers.now in
    let k = c.in_ok-place.place in
    let fit = sym c.check_row.ensures ∙ ap call_numbered c.in_ok-check_row.was in
    let at = sym c.place.ensures.value ∙ ap call_numbered c.in_ok-place.was in
    let e = propose_here ws c.args.worker k at c.index-workers-place.result c.args.value fit in
    let answer = c.propose.ensures.answer ∙ ap (λ r. r.answer) e in
    let workers = states_set ws k c.propose.new.self ∙ ap (set (states ws) k) c.propose.ensures.state ∙ ap (λ r. r.states) e in
    record { answer = answer; workers = workers; kept = propose_kept ws c.args.worker c.args.value _ _ answer workers }
