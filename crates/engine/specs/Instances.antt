-- What open and propose do, and what a tally counts.
use Rattle.std.specs.Prelude.{ℕ, ◌+◌, ◌-◌, Bool, true, false, cond, List, map, length, Some, None, Ok, Err, Option, Result, slice_set}
use Rattle.std.specs.List.{slice_get, range_with_len, count_by}
use Rattle.registers.specs.Records.{fields_of, blank}
use Rattle.registers.specs.Cells.{Cell, stands}
use Rattle.calls.specs.declared.refusal.CallRefusal.{CallRefusal}
use Rattle.calls.specs.declared.refusal.CallRefusal.TheVariants.{Size, NoWorker, Misplaced, Crashed, Proposed}
use Rattle.calls.specs.CallRefusals.{call_refusal_number}
use Rattle.protocol.specs.declared.state.Phase.{Phase}
use Rattle.protocol.specs.declared.state.Phase.TheVariants.{Idle, First, Ready, Second, Sure, Decided}
use Rattle.protocol.specs.declared.state.State.{State}
use Rattle.engine.specs.Steps.{Whole, is_row, sizes_fit, is_at, unchanged}

-- what a proposal leaves of its worker
pub record Proposal (V : Type 0) : Type 0 where
  pub answer : Result (Unit {0}) ℕ
  pub state : State V

-- what a call without a bank leaves of the row
pub record Row (X V : Type 0) : Type 0 where
  pub answer : Result X ℕ
  pub states : List (State V)

module _ {V : Type 0} where
  -- worker i of n before its first call
  abbrev pub fresh : ℕ → ℕ → State V
  fresh i n = record { number = i; total = n; crashed = false; proposal = None; seen = 0; own = fields_of blank; watch = 1; phase = Idle }

  -- the row of n workers, and the cells of n blank registers
  abbrev pub fresh_states : ℕ → List (State V)
  fresh_states n = map (λ k. fresh (k + 1) n) (range_with_len 0 n)

  abbrev pub blank_cells : ℕ → List (Cell V)
  blank_cells n = map (λ k. Some blank) (range_with_len 0 n)

  abbrev pub opened : ℕ → Whole (Unit {0}) V
  opened n = record { answer = Ok tt; states = fresh_states n; cells = blank_cells n }

  -- whatever the registers held, unreadable ones too
  abbrev pub open_whole : List (State V) → List (Cell V) → Whole (Unit {0}) V
  open_whole states cells =
      cond (sizes_fit (length cells) (length states)) (opened (length states)) (unchanged Size states cells)

  module _ {X : Type 0} where
    abbrev pub row_unchanged : CallRefusal → List (State V) → Row X V
    row_unchanged e states = record { answer = Err (call_refusal_number e); states = states }

  abbrev pub unproposed : CallRefusal → State V → Proposal V
  unproposed e s = record { answer = Err (call_refusal_number e); state = s }

  abbrev pub first_proposal : Option V → State V → V → Proposal V
  first_proposal None s v = record { answer = Ok tt; state = record s { proposal = Some v } }
  first_proposal (Some p) s v = unproposed Proposed s

  -- the proposal of the worker at place i of n
  abbrev pub worker_propose : State V → ℕ → ℕ → V → Proposal V
  worker_propose s i n v =
      cond (is_at s i n)
      (cond s.crashed (unproposed Crashed s) (first_proposal s.proposal s v))
      (unproposed Misplaced s)

  abbrev pub propose_at : Option (State V) → List (State V) → ℕ → V → Row (Unit {0}) V
  propose_at None states i v = row_unchanged NoWorker states
  propose_at (Some s) states i v = record { answer = (worker_propose s i (length states) v).answer; states = slice_set states (i - 1) (worker_propose s i (length states) v).state }

  -- no register is read or written
  abbrev pub propose_row : List (State V) → ℕ → V → Row (Unit {0}) V
  propose_row states i v =
      cond (is_row (length states))
      (cond (stands (length states) i) (propose_at (slice_get states (i - 1)) states i v) (row_unchanged NoWorker states))
      (row_unchanged Size states)

  abbrev pub has_decided : Phase V → Bool
  has_decided Idle = false
  has_decided (First next kept) = false
  has_decided (Ready kept) = false
  has_decided (Second next candidate) = false
  has_decided (Sure candidate) = false
  has_decided (Decided value) = true

  -- how many have decided, and how many have crashed
  abbrev pub tally_of : List (State V) → ℕ × ℕ
  tally_of states = (count_by (λ s. has_decided s.phase) states, count_by (λ s. s.crashed) states)
