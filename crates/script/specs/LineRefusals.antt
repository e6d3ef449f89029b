-- The number of each refusal of a line, and an answer with its refusal as a number.
use Rattle.std.specs.Prelude.{ℕ, Result}
use Rattle.registers.specs.Refusals.{numbered_by}
use Rattle.script.specs.declared.refusal.LineRefusal.{LineRefusal}
use Rattle.script.specs.declared.refusal.LineRefusal.TheVariants.{Shape, BeforeOpen, OpenAgain, NoValue, BadValue}

abbrev pub line_refusal_number : LineRefusal → ℕ
line_refusal_number Shape = 13
line_refusal_number BeforeOpen = 14
line_refusal_number OpenAgain = 15
line_refusal_number NoValue = 16
line_refusal_number BadValue = 17

abbrev pub line_numbered : {X : Type 0} → Result X LineRefusal → Result X ℕ
line_numbered answer = numbered_by line_refusal_number answer
