-- The number of each refusal of a call, and an answer with its refusal as a number.
use Rattle.std.specs.Prelude.{ℕ, Result}
use Rattle.registers.specs.Refusals.{numbered_by}
use Rattle.calls.specs.declared.refusal.CallRefusal.{CallRefusal}
use Rattle.calls.specs.declared.refusal.CallRefusal.TheVariants.{Size, NoWorker, Misplaced, Crashed, Proposed, NoProposal, Decided, RoundLimit, Bank}

abbrev pub call_refusal_number : CallRefusal → ℕ
call_refusal_number Size = 4
call_refusal_number NoWorker = 5
call_refusal_number Misplaced = 6
call_refusal_number Crashed = 7
call_refusal_number Proposed = 8
call_refusal_number NoProposal = 9
call_refusal_number Decided = 10
call_refusal_number RoundLimit = 11
call_refusal_number Bank = 12

abbrev pub call_numbered : {X : Type 0} → Result X CallRefusal → Result X ℕ
call_numbered answer = numbered_by call_refusal_number answer
