-- What a step does on the whole row: the answer, the workers and the cells after it, as one definition.
use Rattle.std.specs.Prelude.{ℕ, ◌-◌, Bool, cond, ◌&&◌, List, length, Some, None, Ok, Err, Option, Result, ◌==◌, nat_le, slice_set}
use Rattle.std.specs.List.{slice_get}
use Rattle.registers.specs.Cells.{Cell, stands, index_or}
use Rattle.registers.specs.Refusals.{numbered_by}
use Rattle.calls.specs.declared.hint.Hint.{Hint}
use Rattle.calls.specs.declared.outcome.Effect.{Effect}
use Rattle.calls.specs.declared.refusal.CallRefusal.{CallRefusal}
use Rattle.calls.specs.declared.refusal.CallRefusal.TheVariants.{Size, NoWorker, Misplaced, Crashed, NoProposal}
use Rattle.calls.specs.CallRefusals.{call_refusal_number}
use Rattle.protocol.specs.declared.state.State.{State}
use Rattle.protocol.specs.Rounds.{max_workers}
use Rattle.actions.specs.Actions.{After, refused, taken}

-- what a call leaves of the whole row
pub record Whole (X V : Type 0) : Type 0 where
  pub answer : Result X ℕ
  pub states : List (State V)
  pub cells : List (Cell V)

-- a row has 2 to 8 workers
abbrev pub is_row : ℕ → Bool
is_row n = nat_le 2 n && nat_le n max_workers

-- and a bank as many registers as the row has workers
abbrev pub sizes_fit : ℕ → ℕ → Bool
sizes_fit size n = is_row size && size == n

-- the place of worker i in a row of n, from 0
abbrev pub place_answer : ℕ → ℕ → Result ℕ ℕ
place_answer i n = index_or (call_refusal_number NoWorker) n i

abbrev pub row_answer : ℕ → Result (Unit {0}) ℕ
row_answer n = cond (is_row n) (Ok tt) (Err (call_refusal_number Size))

abbrev pub sizes_answer : ℕ → ℕ → Result (Unit {0}) ℕ
sizes_answer size n = cond (sizes_fit size n) (Ok tt) (Err (call_refusal_number Size))

module _ {V : Type 0} where
  abbrev pub proposing : Option V → Hint → State V → List (Cell V) → After V
  proposing None h s cells = refused NoProposal s cells
  proposing (Some p) h s cells = taken h s cells p

  -- the worker was opened at place i of a row of n
  abbrev pub is_at : State V → ℕ → ℕ → Bool
  is_at s i n = s.number == i && s.total == n

  -- it was, and has not crashed
  abbrev pub fit_answer : State V → ℕ → ℕ → Result (Unit {0}) ℕ
  fit_answer s i n =
      cond (is_at s i n)
      (cond s.crashed (Err (call_refusal_number Crashed)) (Ok tt))
      (Err (call_refusal_number Misplaced))

  -- the step of the worker at place i of n
  abbrev pub worker_step : Hint → State V → ℕ → ℕ → List (Cell V) → After V
  worker_step h s i n cells =
      cond (is_at s i n)
      (cond s.crashed (refused Crashed s cells) (proposing s.proposal h s cells))
      (refused Misplaced s cells)

  module _ {X : Type 0} where
    -- what a call left, by its answer, the row and the cells at the return; `number` gives each refusal its number
    abbrev pub whole_by : {R : Type 0} → (R → ℕ) → Result X R → List (State V) → List (Cell V) → Whole X V
    whole_by number answer states cells = record { answer = numbered_by number answer; states = states; cells = cells }

    abbrev pub whole : Result X CallRefusal → List (State V) → List (Cell V) → Whole X V
    whole answer states cells = whole_by call_refusal_number answer states cells

    abbrev pub unchanged : CallRefusal → List (State V) → List (Cell V) → Whole X V
    unchanged e states cells = record { answer = Err (call_refusal_number e); states = states; cells = cells }

  -- the worker's step, put in its place
  abbrev pub in_place : After V → List (State V) → ℕ → Whole (Effect V) V
  in_place a states k = record { answer = a.answer; states = slice_set states k a.state; cells = a.cells }

  abbrev pub step_at : Option (State V) → List (State V) → List (Cell V) → ℕ → Hint → Whole (Effect V) V
  step_at None states cells i h = unchanged NoWorker states cells
  step_at (Some s) states cells i h = in_place (worker_step h s i (length states) cells) states (i - 1)

  abbrev pub step_whole : List (State V) → List (Cell V) → ℕ → Hint → Whole (Effect V) V
  step_whole states cells i h =
      cond (sizes_fit (length cells) (length states))
      (cond (stands (length states) i) (step_at (slice_get states (i - 1)) states cells i h) (unchanged NoWorker states cells))
      (unchanged Size states cells)
