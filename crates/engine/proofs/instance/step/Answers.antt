-- A step of the row is that of its worker, and a refused one changes nothing.
use Rattle.std.proofs.Common.{Err, sym, refl, ap, ◌∙◌, subst}
use Rattle.std.proofs.lemmas.Result.{err_from_is_err_and}
use Rattle.calls.specs.CallRefusals.{call_numbered}
use Rattle.engine.specs.Steps.{whole, in_place}
use Rattle.engine.specs.Rows.{states}
use Rattle.engine.proofs.Rows.{states_set}
use Rattle.engine.proofs.Wholes.{step_size, step_nowhere, step_here, Laws, whole_laws}
use Rattle.engine.proofs.instance.step.Goals as goal

pub returns-in_err-check_sizes : goal.returns-in_err-check_sizes
returns-in_err-check_sizes g c =
    let ws = c.args.workers.now in
    let cells = g.B.ReadBank.cells c.args.bank.now in
    let p = err_from_is_err_and c.from_residual.result c.from_residual.ensures.1 in
    let e = ap (λ r. whole r (states ws) cells) (p.1 ∙ ap Err p.2) ∙ step_size ws c.args.worker _ cells c.args.hint c.size.ensures _ _ c.check_sizes.ensures c.in_err-check_sizes.was in
    let l = subst (Laws ws c.args.worker cells c.args.hint) (sym e) (whole_laws ws c.args.worker cells c.args.hint) in
    record { whole = e; rest = refl; kept = l.kept; law = l.law; unreadable = l.unreadable }

pub returns-in_err-place : goal.returns-in_err-place
returns-in_err-place g c =
    let ws = c.args.workers.now in
    let cells = g.B.ReadBank.cells c.args.bank.now in
    let p = err_from_is_err_and c.from_residual-in_err-place.result c.from_residual-in_err-place.ensures.1 in
    let fit = sym c.check_sizes.ensures ∙ ap call_numbered c.in_ok-check_sizes.was in
    let e = ap (λ r. whole r (states ws) cells) (p.1 ∙ ap Err p.2) ∙ step_nowhere ws c.args.worker _ cells c.args.hint c.size.ensures _ _ fit c.place.ensures.value c.in_err-place.was in
    let l = subst (Laws ws c.args.worker cells c.args.hint) (sym e) (whole_laws ws c.args.worker cells c.args.hint) in
    record { whole = e; rest = refl; kept = l.kept; law = l.law; unreadable = l.unreadable }

pub returns : goal.returns
returns g c =
    let ws = c.args.workers.now in
    let cells = g.B.ReadBank.cells c.args.bank.now in
    let k = c.in_ok-place.place in
    let fit = sym c.check_sizes.ensures ∙ ap call_numbered c.in_ok-check_sizes.was in
    let at = sym c.place.ensures.value ∙ ap call_numbered c.in_ok-place.was in
    let e =
    ap (λ row. whole c.step.result row (g.B.ReadBank.cells c.step.new.bank)) (states_set ws k c.step.new.self)
    ∙ ap (λ a. in_place a (states ws) k) c.step.ensures.after
    ∙ step_here ws c.args.worker k at c.index-workers-place.result _ cells c.args.hint c.size.ensures fit in
    let l = subst (Laws ws c.args.worker cells c.args.hint) (sym e) (whole_laws ws c.args.worker cells c.args.hint) in
    record { whole = e; rest = c.step.ensures.rest; kept = l.kept; law = l.law; unreadable = l.unreadable }
