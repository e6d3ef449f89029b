-- A text that is not UTF-8 is no number's.
use Rattle.std.proofs.Common.{◌≡◌, ap, ◌∙◌, arith}
use Rattle.std.proofs.lemmas.Grind.{common_steps}
use Rattle.decimals.specs.Decimals.{read_decimal}
use Rattle.decimals.proofs.DecimalLaws.{back_decimal, not_text}
use Rattle.decimals.proofs.read_decimal.Goals as goal

pub returns-in_err-digits-clause-back : goal.returns-in_err-digits-clause-back
returns-in_err-digits-clause-back c n small is =
    let e : c.from_residual.result ≡ read_decimal c.args.text.now = grind (arith, common_steps, not_text) in
    e ∙ ap read_decimal is ∙ back_decimal n small
