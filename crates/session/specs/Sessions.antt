-- A line on an open instance as a whole: the answer, the row and the cells after it. A refused line changes nothing.
use Rattle.std.specs.Prelude.{ℕ, List, length, Ok, Err, Option, Result}
use Rattle.registers.specs.Cells.{Cell}
use Rattle.calls.specs.declared.call.Call.{Call}
use Rattle.calls.specs.declared.call.Answer.{Answer}
use Rattle.protocol.specs.declared.state.State.{State}
use Rattle.engine.specs.Steps.{Whole}
use Rattle.engine.specs.Calls.{call_whole}
use Rattle.script.specs.Shapes.{Asked}
use Rattle.script.specs.Lines.{call_of, call_line}

module _ {V : Type 0} where
  -- a call is made, and a refused line makes none
  abbrev pub reply_whole : Result (Call V) ℕ → List (State V) → List (Cell V) → Whole (Answer V) V
  reply_whole (Ok call) states cells = call_whole call states cells
  reply_whole (Err e) states cells = record { answer = Err e; states = states; cells = cells }

  module _ (of_text : List ℕ → Option V) where
    abbrev pub asked_whole : Asked → List (State V) → List (Cell V) → Whole (Answer V) V
    asked_whole a states cells = reply_whole (call_of of_text (length states) a) states cells

    abbrev pub line_whole : List ℕ → List (State V) → List (Cell V) → Whole (Answer V) V
    line_whole bytes states cells = reply_whole (call_line of_text (length states) bytes) states cells
