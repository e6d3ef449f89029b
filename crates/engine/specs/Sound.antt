-- Which states a worker can be in: what it writes is lawful, and what it reads stands.
use Rattle.std.specs.Prelude.{ℕ, Bool, true, ◌&&◌, nat_le}
use Rattle.registers.specs.Cells.{stands}
use Rattle.registers.specs.Lawful.{is_lawful}
use Rattle.protocol.specs.declared.state.Phase.{Phase}
use Rattle.protocol.specs.declared.state.Phase.TheVariants.{Idle, First, Ready, Second, Sure, Decided}
use Rattle.protocol.specs.declared.state.State.{State}

module _ {V : Type 0} where
  -- inside a round, the worker has begun one; a collect reads the registers of the row
  abbrev pub phase_sound : ℕ → ℕ → Phase V → Bool
  phase_sound n round Idle = true
  phase_sound n round (First next kept) = nat_le 1 round && stands n next
  phase_sound n round (Ready kept) = nat_le 1 round
  phase_sound n round (Second next candidate) = nat_le 1 round && stands n next
  phase_sound n round (Sure candidate) = nat_le 1 round
  phase_sound n round (Decided value) = true

  abbrev pub is_sound : State V → Bool
  is_sound s =
      stands s.total s.number
      && (stands s.total s.watch
      && (is_lawful s.own
      && (nat_le s.own.round s.seen
      && phase_sound s.total s.own.round s.phase)))
