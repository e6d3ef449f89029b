-- One call of a list, as a whole: the answer, the row and the cells after it.
use Rattle.std.specs.Prelude.{ℕ, List, Ok, Err, Result}
use Rattle.registers.specs.Cells.{Cell}
use Rattle.calls.specs.declared.call.Call.{Call}
use Rattle.calls.specs.declared.call.Call.TheVariants.{Propose, Step}
use Rattle.calls.specs.declared.call.Answer.{Answer}
use Rattle.calls.specs.declared.call.Answer.TheVariants.{Proposed, Stepped}
use Rattle.calls.specs.declared.outcome.Effect.{Effect}
use Rattle.protocol.specs.declared.state.State.{State}
use Rattle.engine.specs.Steps.{Whole, step_whole}
use Rattle.engine.specs.Instances.{Row, propose_row}

-- an accepted answer, named as the answer of its call
abbrev pub answered : {X Y : Type 0} → (X → Y) → Result X ℕ → Result Y ℕ
answered f (Ok x) = Ok (f x)
answered f (Err e) = Err e

module _ {V : Type 0} where
  abbrev pub of_proposal : V → Row (Unit {0}) V → List (Cell V) → Whole (Answer V) V
  of_proposal v r cells = record { answer = answered (λ _. Proposed v) r.answer; states = r.states; cells = cells }

  abbrev pub of_step : Whole (Effect V) V → Whole (Answer V) V
  of_step w = record { answer = answered Stepped w.answer; states = w.states; cells = w.cells }

  abbrev pub call_whole : Call V → List (State V) → List (Cell V) → Whole (Answer V) V
  call_whole (Propose i v) states cells = of_proposal v (propose_row states i v) cells
  call_whole (Step i h) states cells = of_step (step_whole states cells i h)
