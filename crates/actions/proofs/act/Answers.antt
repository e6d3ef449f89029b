-- A worker that is ready puts its candidate.
use Rattle.std.proofs.Common.{sym, ap, ◌∙◌}
use Rattle.actions.specs.Actions.{put, acted, reading}
use Rattle.actions.proofs.act.Goals as goal

pub returns-in-Ready-default-clause-after : goal.returns-in-Ready-default-clause-after
returns-in-Ready-default-clause-after g c =
    let s = c.args.state.now in
    let cells = g.B.ReadBank.cells c.args.bank.now in
    c.offer.ensures.after
    ∙ ap (put s cells) c.candidate-candidate.ensures
    ∙ ap (λ x. acted x c.args.hint s cells c.args.proposal (reading c.args.hint s cells)) (sym c.in-Ready-default.is-0)
