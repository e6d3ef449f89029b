-- A look-up ends at the first register that is decided or unreadable, or behind the last.
use Rattle.std.proofs.Common.{◌-◌, Ok, sym, refl, ap, ◌∙◌, subst, arith}
use Rattle.registers.specs.Decision.{Looked}
use Rattle.registers.specs.Refusals.{numbered}
use Rattle.registers.proofs.Looking.{looked_decided, looked_on, looked_all}
use Rattle.registers.proofs.decision.look_up.Goals as goal
use Rattle.registers.proofs.decision.look_up.Goals.{else-loop-register-test, then-loop-register-test+in_ok-read+in_default+else-register-register-end}

pub returns-in-Dec : goal.returns-in-Dec
returns-in-Dec g c =
    let cs = g.B.ReadBank.cells c.args.bank.now in
    let r = c.in_ok-read.field-0 in
    let l = looked_decided cs c.loop-register.register (omega arith) (omega arith) c.loop-register.invariant.1 r (sym c.read.ensures ∙ ap numbered c.in_ok-read.was) (sym (ap (λ f. f.tag) c.fields-fields.ensures.value) ∙ c.in-Dec.is) in
    let same = ap (λ f. f.value) c.fields-fields.ensures.value in
    record { value = ap Ok same ∙ sym (c.loop-register.invariant.0 ∙ l.0); first = subst (λ v. Looked cs (Ok v)) (sym same) l.1 }

pub returns : goal.returns
returns g c =
    let cs = g.B.ReadBank.cells c.args.bank.now in
    elim c.loop-register-test.branch [
      | else-loop-register-test w ↦
          let l = looked_all cs (c.loop-register.register - 1) (omega arith) c.loop-register.invariant.1 in
          record { value = sym (c.loop-register.invariant.0 ∙ l.0); first = l.1 }
      | then-loop-register-test+in_ok-read+in_default+else-register-register-end w ↦
          let l = looked_on cs c.loop-register.register (omega arith) (omega arith) c.loop-register.invariant.1 w.in_ok-read.field-0 (sym w.read.ensures ∙ ap numbered w.in_ok-read.was) (λ e. w.in_default.not-Dec (ap (λ f. f.tag) w.fields-fields.ensures.value ∙ e)) c.loop-register.register refl in
          let m = looked_all cs c.loop-register.register (omega arith) l.1 in
          record { value = sym (c.loop-register.invariant.0 ∙ l.0 ∙ m.0); first = m.1 }
    ]
