-- The image of a choice reads back, since its bounds fit the bytes.
use Rattle.std.proofs.Common.{rules}
use Rattle.choices.proofs.ChoiceLaws.{back_choice_image}
use Rattle.choices.proofs.choice.methods.ChoiceKind.image.Goals as goal

pub returns : goal.returns
returns c = record { bytes = search rules; back = back_choice_image c.args.self }
