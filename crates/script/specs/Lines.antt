-- What a line asks for, before an O is accepted and after it, and what its answer repeats of it.
-- The first of these that holds refuses it: another shape (13); no O, and none was accepted (14); an O, and one was accepted (15); an empty value (16); a value that is no text of the kind (17).
use Rattle.std.specs.Prelude.{ℕ, cond, List, length, Some, None, Ok, Err, Option, Result, ◌==◌}
use Rattle.std.specs.Option.{option_map, ok_or}
use Rattle.std.specs.Result.{result_ok}
use Rattle.calls.specs.declared.call.Call.{Call}
use Rattle.calls.specs.declared.call.Call.TheVariants.{Propose, Step}
use Rattle.calls.specs.declared.hint.Hint.TheVariants.{Go, Wait}
use Rattle.calls.specs.Hints.{hint_of_leader, hint_of_suspects}
use Rattle.script.specs.declared.line.Opening.{Opening}
use Rattle.script.specs.declared.line.Head.{Head}
use Rattle.script.specs.declared.refusal.LineRefusal.TheVariants.{BeforeOpen, OpenAgain, NoValue, BadValue}
use Rattle.script.specs.LineRefusals.{line_refusal_number}
use Rattle.script.specs.Shapes.{Asked, opens, proposes, goes, waits, follows, suspects, line_of}

-- before an O is accepted
abbrev pub opening_of : Asked → Result Opening ℕ
opening_of (opens n k) = Ok (record { workers = n; kind = k })
opening_of another = Err (line_refusal_number BeforeOpen)

module _ {V : Type 0} (of_text : List ℕ → Option V) where
  -- an empty value is refused before it is read as one of the kind
  abbrev pub value_call : ℕ → List ℕ → Result (Call V) ℕ
  value_call i value = cond (length value == 0) (Err (line_refusal_number NoValue)) (ok_or (option_map (Propose i) (of_text value)) (line_refusal_number BadValue))

  -- after an O for n workers
  abbrev pub call_of : ℕ → Asked → Result (Call V) ℕ
  call_of n (opens m kind) = Err (line_refusal_number OpenAgain)
  call_of n (proposes i value) = value_call i value
  call_of n (goes i) = Ok (Step i Go)
  call_of n (waits i) = Ok (Step i Wait)
  call_of n (follows i leader) = Ok (Step i (hint_of_leader leader i))
  call_of n (suspects i mask) = Ok (Step i (hint_of_suspects mask n i))

-- a shape that is refused ends it
abbrev pub then : {X : Type 0} → Result Asked ℕ → (Asked → Result X ℕ) → Result X ℕ
then (Ok a) f = f a
then (Err e) f = Err e

-- A line where no O was accepted: 13 comes before 14.
abbrev pub opening_line : List ℕ → Result Opening ℕ
opening_line bytes = then (line_of bytes) opening_of

-- A line after an O for n workers: 13 comes before 15, 16 and 17, and 16 before 17.
abbrev pub call_line : {V : Type 0} → (List ℕ → Option V) → ℕ → List ℕ → Result (Call V) ℕ
call_line of_text n bytes = then (line_of bytes) (call_of of_text n)

abbrev pub head_with : ℕ → Option ℕ → Head
head_with c w = record { letter = c; worker = w }

-- the letter of a line and its worker, where it names one
abbrev pub head_of : Asked → Head
head_of (opens n kind) = head_with 79 None
head_of (proposes i value) = head_with 80 (Some i)
head_of (goes i) = head_with 71 (Some i)
head_of (waits i) = head_with 87 (Some i)
head_of (follows i leader) = head_with 76 (Some i)
head_of (suspects i mask) = head_with 83 (Some i)

abbrev pub head_if : Result Asked ℕ → Option Head
head_if shape = option_map head_of (result_ok shape)

-- of another shape there is none
abbrev pub head_line : List ℕ → Option Head
head_line bytes = head_if (line_of bytes)
