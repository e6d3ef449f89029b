-- A step leaves its worker sound.
use Rattle.std.proofs.Common.{◌≡◌, true, sym, ap, subst}
use Rattle.engine.specs.Sound.{is_sound}
use Rattle.engine.proofs.Stepping.{taken_fine}
use Rattle.engine.proofs.worker.Worker.step.Goals as goal

pub invariant_of-self : goal.invariant_of-self
invariant_of-self g c =
    let s = c.args.self.now in
    let fine = taken_fine s.state (g.B.ReadBank.cells c.args.bank.now) s.sound c.args.hint c.in_ok-proposal.proposal in
    record { sound = subst (λ z. is_sound z ≡ true) (sym (ap (λ a. a.state) c.act.ensures.after)) fine.went.sound }
