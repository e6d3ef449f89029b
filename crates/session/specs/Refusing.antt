-- The number of a refusal of a line or of the call that it asks for, and what a line opens with its refusal as a number.
use Rattle.std.specs.Prelude.{ℕ, Some, Ok, Err, Option, Result}
use Rattle.registers.specs.Refusals.{numbered_by}
use Rattle.calls.specs.CallRefusals.{call_refusal_number}
use Rattle.script.specs.LineRefusals.{line_refusal_number}
use Rattle.script.specs.declared.line.Head.{Head}
use Rattle.script.specs.declared.line.Opening.{Opening}
use Rattle.script.specs.declared.refusal.LineRefusal.{LineRefusal}
use Rattle.session.specs.declared.Refused.{Refused}
use Rattle.session.specs.declared.Refused.TheVariants.{Line, Call}

abbrev pub refused_number : Refused → ℕ
refused_number (Line refusal) = line_refusal_number refusal
refused_number (Call refusal) = call_refusal_number refusal

abbrev pub refused_numbered : {X : Type 0} → Result X Refused → Result X ℕ
refused_numbered answer = numbered_by refused_number answer

-- what the answer repeats of the line, and what the line opens; a line that opens something has a head
abbrev pub opened : Result (Head × Opening) (Option Head × LineRefusal) → Option Head × Result Opening ℕ
opened (Ok p) = (Some p.0, Ok p.1)
opened (Err p) = (p.0, Err (line_refusal_number p.1))
