-- What every step leaves true, whatever the hint and the records that it reads.
use Rattle.std.specs.Prelude.{◌≡◌, ℕ, ◌-◌, ◌≤◌, List, Some, Ok, Err, Result, ◌≢◌}
use Rattle.std.specs.List.{slice_get}
use Rattle.registers.specs.declared.refusal.Refusal.TheVariants.{Unreadable}
use Rattle.registers.specs.Refusals.{refusal_number}
use Rattle.registers.specs.Cells.{Cell}
use Rattle.calls.specs.declared.hint.Hint.{Hint}
use Rattle.calls.specs.declared.refusal.CallRefusal.TheVariants.{Bank}
use Rattle.calls.specs.CallRefusals.{call_refusal_number}
use Rattle.protocol.specs.declared.state.Phase.TheVariants.{Decided}
use Rattle.protocol.specs.declared.state.State.{State}
use Rattle.actions.specs.Actions.{reading}

-- two lists agree but for the place k
abbrev pub SameBut : {A : Type 0} → ℕ → List A → List A → Type 0
SameBut k before after = (j : ℕ) → (j ≢ k) → slice_get after j ≡ slice_get before j

module _ {V : Type 0} where
  -- the worker went on: no round fell, and a decision stayed
  pub record Later (before after : State V) : Type 0 where
    pub seen : before.seen ≤ after.seen
    pub round : before.own.round ≤ after.own.round
    pub decision : (v : V) → before.phase ≡ Decided v → after.phase ≡ Decided v

  -- a step of worker i changes no other worker and no other register, and worker i goes on
  pub record StepLaw (i : ℕ) (states states' : List (State V)) (cells cells' : List (Cell V)) : Type 0 where
    pub workers : SameBut (i - 1) states states'
    pub registers : SameBut (i - 1) cells cells'
    pub onward : (s s' : State V) → slice_get states (i - 1) ≡ Some s → slice_get states' (i - 1) ≡ Some s' → Later s s'

  -- the bank refuses a step only where it reads an unreadable register: what a step writes is lawful, and every
  -- register that it reads or writes stands
  abbrev pub OnlyUnreadable : {X : Type 0} → Result X ℕ → List (State V) → List (Cell V) → ℕ → Hint → Type 0
  OnlyUnreadable answer states cells i h =
      answer ≡ Err (call_refusal_number Bank) → (s : State V) → slice_get states (i - 1) ≡ Some s → reading h s cells ≡ Err (refusal_number Unreadable)

  -- a refusal changes nothing: for a call without a bank, and for one with
  abbrev pub RowKept : {X : Type 0} → Result X ℕ → List (State V) → List (State V) → Type 0
  RowKept (Ok x) states states' = Unit {0}
  RowKept (Err e) states states' = states' ≡ states

  abbrev pub Kept : {X : Type 0} → Result X ℕ → List (State V) → List (State V) → List (Cell V) → List (Cell V) → Type 0
  Kept (Ok x) states states' cells cells' = Unit {0}
  Kept (Err e) states states' cells cells' = (states' ≡ states) × (cells' ≡ cells)
