-- The region and the edition in decimal read back.
use Rattle.choices.proofs.ChoiceLaws.{back_choice_text}
use Rattle.choices.proofs.choice.methods.ChoiceKind.append_text.Goals as goal

pub returns-clause-back : goal.returns-clause-back
returns-clause-back c = back_choice_text c.args.self
