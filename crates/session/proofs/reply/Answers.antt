-- A line that is taken is answered as its call is, and another by its refusal.
use Rattle.std.proofs.Common.{◌≡◌, IfOk, Err, string_bytes, sym, refl, ap, ◌∙◌, subst}
use Rattle.script.specs.Shapes.{asked_answer}
use Rattle.script.specs.Lines.{head_line}
use Rattle.answers.specs.Answers.{answer_text}
use Rattle.session.proofs.Replying.{no_head, line_asks, line_refused}
use Rattle.session.proofs.reply.Goals as goal

pub returns-in-Ok : goal.returns-in-Ok
returns-in-Ok g c =
    let bytes = c.args.line.now in
    let parsed = sym c.parse.ensures.value ∙ ap asked_answer c.in-Ok.is in
    let e = line_asks g.K.Kind.of_text c.args.workers.now (g.B.ReadBank.cells c.args.bank.now) bytes _ parsed in
    let w = c.call.ensures in
    let text = ap (λ h. answer_text g.K.Kind.text_of c.args.number h c.numbered-answer.result) (sym (c.head-head.ensures.whole bytes parsed)) ∙ ap (answer_text g.K.Kind.text_of c.args.number (head_line bytes)) (c.numbered-answer.ensures ∙ ap (λ z. z.answer) (w.whole ∙ e)) in
    record {
      text = subst (λ t. IfOk c.answer_line.result (λ s. string_bytes s ≡ t)) text c.answer_line.ensures;
      workers = ap (λ z. z.states) (w.whole ∙ e);
      cells = ap (λ z. z.cells) (w.whole ∙ e);
      rest = w.rest;
    }

pub returns-in-Err : goal.returns-in-Err
returns-in-Err g c =
    let bytes = c.args.line.now in
    let parsed = sym c.parse.ensures.value ∙ ap asked_answer c.in-Err.is in
    let e = line_refused g.K.Kind.of_text c.args.workers.now (g.B.ReadBank.cells c.args.bank.now) bytes _ parsed in
    let text = ap (λ h. answer_text g.K.Kind.text_of c.args.number h (Err c.from.result)) (sym (no_head bytes _ parsed)) ∙ ap (answer_text g.K.Kind.text_of c.args.number (head_line bytes)) (ap Err c.from.ensures.value ∙ ap (λ z. z.answer) e) in
    record {
      text = subst (λ t. IfOk c.answer_line-in-Err.result (λ s. string_bytes s ≡ t)) text c.answer_line-in-Err.ensures;
      workers = ap (λ z. z.states) e;
      cells = ap (λ z. z.cells) e;
      rest = refl;
    }
