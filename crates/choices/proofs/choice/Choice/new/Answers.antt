-- A pair within its bounds makes the one choice that has it, and no other pair makes one.
use Rattle.std.proofs.Common.{arith}
use Rattle.std.proofs.lemmas.Bool.Decides.{nat_tests}
use Rattle.choices.proofs.ChoiceLaws.{choice_some, choice_none}
use Rattle.choices.proofs.choice.Choice.new.Goals as goal

pub returns-then-edition-ge-FIRST_EDITION : goal.returns-then-edition-ge-FIRST_EDITION
returns-then-edition-ge-FIRST_EDITION c = choice_some c.args.region c.args.edition _

pub returns-else-region-le-LAST_REGION : goal.returns-else-region-le-LAST_REGION
returns-else-region-le-LAST_REGION c = choice_none c.args.region c.args.edition (grind (arith, nat_tests))
