-- An answer without register and round has its word, and its value if it has one.
use Rattle.std.proofs.Common.{rules}
use Rattle.answers.proofs.answer_line.Goals as goal

pub returns-in-Ok-Opened : goal.returns-in-Ok-Opened
returns-in-Ok-Opened g c = rw c.in-Ok-Opened.is (rw c.in-Ok-Opened.field-0-is (search rules))

pub returns-in_ok-value-in-Ok-Proposed : goal.returns-in_ok-value-in-Ok-Proposed
returns-in_ok-value-in-Ok-Proposed g c = rw c.in-Ok-Proposed.is (rw c.in-Ok-Proposed.field-0-is (search rules))
