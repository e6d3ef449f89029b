-- The report is whole once the last line stands behind those of the registers.
use Rattle.std.proofs.Common.{◌≡◌, ◌+◌, ◌-◌, ◌++◌, length, string_bytes, refl, ap, ◌∙◌, append_assoc, arith, rules}
use Rattle.registers.specs.Cells.{read_answer}
use Rattle.registers.specs.Decision.{shown}
use Rattle.report.specs.Lines.{size_row, register_line, register_lines, decision_line}
use Rattle.report.proofs.Reporting.{line_more, line_all}
use Rattle.report.proofs.view.report.Goals as goal
use Rattle.report.proofs.view.report.Goals.{else-loop-register-test, then-loop-register-test+in_ok-line+in_ok-push_str+else-register-register-end}

pub returns : goal.returns
returns g c =
    let cs = g.B.ReadBank.cells c.args.bank.now in
    let t = g.K.Kind.text_of in
    let j = c.loop-register.register in
    let out = string_bytes c.loop-register.out in
    let all = size_row (length cs) ++ register_lines t 1 cs in
    let written : string_bytes c.loop-register-test.out ≡ size_row (length (g.B.ReadBank.cells c.args.bank.now)) ++ register_lines g.K.Kind.text_of 1 (g.B.ReadBank.cells c.args.bank.now) = elim c.loop-register-test.branch [
      | else-loop-register-test w ↦ ap string_bytes w.out-is ∙ line_all t cs j (j - 1) (omega arith) out all c.loop-register.invariant
      | then-loop-register-test+in_ok-line+in_ok-push_str+else-register-register-end w ↦
          let grown : string_bytes w.push_str.new.self ≡ string_bytes c.loop-register.out ++ register_line g.K.Kind.text_of c.loop-register.register (read_answer (g.B.ReadBank.cells c.args.bank.now) c.loop-register.register) = search rules in
          ap string_bytes w.out-is ∙ grown ∙ line_all t cs (j + 1) j (omega arith) (out ++ register_line t j (read_answer cs j)) all (line_more t cs j j (omega arith) (omega arith) refl out all c.loop-register.invariant)
    ] in
    let last : string_bytes c.push_str-2.new.self ≡ string_bytes c.loop-register-test.out ++ decision_line g.K.Kind.text_of (shown (g.B.ReadBank.cells c.args.bank.now)) = search rules in
    last ∙ ap (λ l. l ++ decision_line t (shown cs)) written ∙ append_assoc (size_row (length cs)) (register_lines t 1 cs) (decision_line t (shown cs))
