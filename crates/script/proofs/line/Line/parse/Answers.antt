-- The answer is the definition's, and so keeps both laws.
use Rattle.std.proofs.Common.{◌≡◌, None, Some, Option, sym, refl, ap, ◌∙◌}
use Rattle.std.specs.Option.{ok_or, option_map}
use Rattle.script.specs.declared.line.Line.{Line}
use Rattle.script.specs.declared.refusal.LineRefusal.TheVariants.{Shape}
use Rattle.script.specs.LineRefusals.{line_refusal_number}
use Rattle.script.specs.Shapes.{asked, asked_answer, line_of}
use Rattle.script.proofs.LineLaws.{line_only, line_back}
use Rattle.script.proofs.line.Line.parse.Goals as goal

answered : (o : Option Line) → asked_answer (ok_or o Shape) ≡ ok_or (option_map asked o) (line_refusal_number Shape)
answered None = refl
answered (Some line) = refl

same : (c : goal.After-ok_or) → asked_answer c.ok_or.result ≡ line_of c.args.line.now
same c = ap asked_answer c.ok_or.ensures.value ∙ answered c.read_line.result ∙ ap (λ o. ok_or o (line_refusal_number Shape)) c.read_line.ensures.value

pub returns-clause-only : goal.returns-clause-only
returns-clause-only c a ok = line_only _ a (sym (same c) ∙ ok)

pub returns-clause-back : goal.returns-clause-back
returns-clause-back c a w = same c ∙ line_back _ a w
