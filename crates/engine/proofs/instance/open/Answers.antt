-- Opening a bank that fits makes all new, and another changes nothing.
use Rattle.std.proofs.Common.{length, Ok, Err, sym, ap, ◌∙◌}
use Rattle.std.proofs.lemmas.Result.{err_from_is_err_and}
use Rattle.calls.specs.CallRefusals.{call_numbered}
use Rattle.engine.specs.Steps.{whole}
use Rattle.engine.specs.Instances.{fresh_states}
use Rattle.engine.specs.Rows.{states}
use Rattle.engine.proofs.Opening.{open_size, open_here}
use Rattle.engine.proofs.instance.open.Goals as goal

pub returns-in_err-check_sizes-clause-whole : goal.returns-in_err-check_sizes-clause-whole
returns-in_err-check_sizes-clause-whole g c =
    let ws = c.args.workers.now in
    let cells = g.B.ReadBank.cells c.args.bank.now in
    let p = err_from_is_err_and c.from_residual.result c.from_residual.ensures.1 in
    ap (λ r. whole r (states ws) cells) (p.1 ∙ ap Err p.2) ∙ open_size ws cells _ c.size.ensures _ _ c.check_sizes.ensures c.in_err-check_sizes.was

pub returns-clause-whole : goal.returns-clause-whole
returns-clause-whole g c =
    let ws = c.args.workers.now in
    let fit = sym c.check_sizes.ensures ∙ ap call_numbered c.in_ok-check_sizes.was in
    ap (λ row. whole (Ok tt) row (g.B.ReadBank.cells c.clear.new.bank)) c.renew.ensures
    ∙ ap (whole (Ok tt) (fresh_states (length ws))) c.clear.ensures.cells
    ∙ open_here ws (g.B.ReadBank.cells c.args.bank.now) _ c.size.ensures fit
