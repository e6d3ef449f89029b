-- What a worker does in one step: the answer, the worker and the cells after it. The record that its read answered is an argument.
use Rattle.std.specs.Prelude.{ℕ, max, List, Some, None, Ok, Err, Option, Result}
use Rattle.registers.specs.declared.tag.Tag.{Tag}
use Rattle.registers.specs.declared.tag.Tag.TheVariants.{Pro, Dec}
use Rattle.registers.specs.declared.record.Fields.{Fields}
use Rattle.registers.specs.declared.record.Record.{Record}
use Rattle.registers.specs.Records.{fields_of, blank}
use Rattle.registers.specs.Cells.{Cell, read_answer, write_answer, write_cells}
use Rattle.calls.specs.declared.hint.Hint.{Hint}
use Rattle.calls.specs.declared.hint.Hint.TheVariants.{Go, Wait}
use Rattle.calls.specs.declared.outcome.Outcome.{Outcome}
use Rattle.calls.specs.declared.outcome.Outcome.TheVariants.{Begun, Put, Decided as DecidedNow}
use Rattle.calls.specs.declared.outcome.Effect.{Effect}
use Rattle.calls.specs.declared.refusal.CallRefusal.{CallRefusal}
use Rattle.calls.specs.declared.refusal.CallRefusal.TheVariants.{Decided as HasDecided, RoundLimit, Bank}
use Rattle.calls.specs.CallRefusals.{call_refusal_number, call_numbered}
use Rattle.protocol.specs.declared.state.Phase.{Phase}
use Rattle.protocol.specs.declared.state.Phase.TheVariants.{Idle, First, Ready, Second, Sure, Decided}
use Rattle.protocol.specs.declared.state.State.{State}
use Rattle.protocol.specs.Rounds.{round_of_worker}
use Rattle.protocol.specs.Turns.{Turn, effect_of, candidate_of, watch_turn, first_turn, second_turn}

-- what a step leaves of its worker: its answer, with a refusal as its number, the worker's state, and the cells
pub record After (V : Type 0) : Type 0 where
  pub answer : Result (Effect V) ℕ
  pub state : State V
  pub cells : List (Cell V)

module _ {V : Type 0} where
  -- what a call left, by its answer, its worker and its cells at the return
  abbrev pub left : Result (Effect V) CallRefusal → State V → List (Cell V) → After V
  left answer s cells = record { answer = call_numbered answer; state = s; cells = cells }

  abbrev pub refused : CallRefusal → State V → List (Cell V) → After V
  refused e s cells = record { answer = Err (call_refusal_number e); state = s; cells = cells }

  abbrev pub accepted : Effect V → State V → List (Cell V) → After V
  accepted e s cells = record { answer = Ok e; state = s; cells = cells }

  -- the worker after it wrote f into its register; it has seen what it wrote
  abbrev pub after_write : State V → Fields V → Phase V → State V
  after_write s f next = record s { seen = max s.seen f.round; own = f; phase = next }

  abbrev pub on_write : Result (Unit {0}) ℕ → After V → After V → After V
  on_write (Ok u) after before = after
  on_write (Err e) after before = before

  -- a write of f into the worker's own register
  abbrev pub stored : State V → List (Cell V) → Fields V → Phase V → Outcome → After V
  stored s cells f next o =
      on_write (write_answer cells s.number f)
      (accepted (effect_of o s.number f.round f.value) (after_write s f next) (write_cells cells s.number f))
      (refused Bank s cells)

  -- a new round, with what was accepted before
  abbrev pub begun_fields : ℕ → Fields V → Fields V
  begun_fields r own = record own { round = r }

  -- a value under the worker's round
  abbrev pub value_fields : ℕ → Tag → V → Fields V
  value_fields r t v = record { round = r; accepted = r; tag = t; value = Some v }

  abbrev pub begun_at : Option ℕ → State V → List (Cell V) → After V
  begun_at None s cells = refused RoundLimit s cells
  begun_at (Some r) s cells = stored s cells (begun_fields r s.own) (First 1 (fields_of blank)) Begun

  abbrev pub begun : State V → List (Cell V) → After V
  begun s cells = begun_at (round_of_worker s.seen s.number s.total) s cells

  -- a candidate under the worker's round, put forward or as decided
  abbrev pub offered : State V → List (Cell V) → Tag → V → Phase V → Outcome → After V
  offered s cells t v next o = stored s cells (value_fields s.own.round t v) next o

  abbrev pub put : State V → List (Cell V) → V → After V
  put s cells v = offered s cells Pro v (Second 1 v) Put

  abbrev pub decided : State V → List (Cell V) → V → After V
  decided s cells v = offered s cells Dec v (Decided v) DecidedNow

  -- a read that answered `got`, and the turn that follows a record
  abbrev pub looked : State V → List (Cell V) → Result (Record V) ℕ → (Fields V → Turn V) → After V
  looked s cells (Ok r) t = accepted (t (fields_of r)).effect (t (fields_of r)).state cells
  looked s cells (Err e) t = refused Bank s cells

  -- what a worker does depends on its phase and the hint together; p is its proposal, and `got` is what its read answered
  abbrev pub acted : Phase V → Hint → State V → List (Cell V) → V → Result (Record V) ℕ → After V
  acted Idle Go s cells p got = begun s cells
  acted Idle Wait s cells p got = looked s cells got (watch_turn s)
  acted (First next kept) h s cells p got = looked s cells got (first_turn s next kept p)
  acted (Ready kept) h s cells p got = put s cells (candidate_of kept p)
  acted (Second next candidate) h s cells p got = looked s cells got (second_turn s next candidate)
  acted (Sure candidate) h s cells p got = decided s cells candidate
  acted (Decided value) h s cells p got = refused HasDecided s cells

  -- the register that a step reads, and 0 where it reads none
  abbrev pub register_read : Phase V → Hint → ℕ → ℕ
  register_read Idle Go watch = 0
  register_read Idle Wait watch = watch
  register_read (First next kept) h watch = next
  register_read (Ready kept) h watch = 0
  register_read (Second next candidate) h watch = next
  register_read (Sure candidate) h watch = 0
  register_read (Decided value) h watch = 0

  -- the one place that says where the record comes from
  abbrev pub reading : Hint → State V → List (Cell V) → Result (Record V) ℕ
  reading h s cells = read_answer cells (register_read s.phase h s.watch)

  -- the step of a worker that has proposed p and not crashed
  abbrev pub taken : Hint → State V → List (Cell V) → V → After V
  taken h s cells p = acted s.phase h s cells p (reading h s cells)
