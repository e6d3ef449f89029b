-- What a worker makes of a record that it read. The record is an argument, whatever bank answered it.
use Rattle.std.specs.Prelude.{◌≡◌, ℕ, ◌+◌, ◌<◌, max, cond, Some, None, Option, nat_lt}
use Rattle.std.specs.Option.{unwrap_or, option_map}
use Rattle.registers.specs.declared.record.Fields.{Fields}
use Rattle.registers.specs.declared.tag.Tag.{Tag}
use Rattle.registers.specs.declared.tag.Tag.TheVariants.{None as Untagged, Pro, Dec}
use Rattle.calls.specs.declared.outcome.Outcome.{Outcome}
use Rattle.calls.specs.declared.outcome.Outcome.TheVariants.{Read, Failed, Ready as ReadyNow, Adopted}
use Rattle.calls.specs.declared.outcome.Effect.{Effect}
use Rattle.protocol.specs.declared.state.Phase.{Phase}
use Rattle.protocol.specs.declared.state.Phase.TheVariants.{Idle, First, Ready, Second, Sure, Decided}
use Rattle.protocol.specs.declared.state.State.{State}

-- the register after this one, the first after the last
abbrev pub around : ℕ → ℕ → ℕ
around k n = cond (nat_lt k n) (k + 1) 1

-- the worker and the effect that a read leaves
pub record Turn (V : Type 0) : Type 0 where
  pub state : State V
  pub effect : Effect V

module _ {V : Type 0} where
  abbrev pub turn : State V → Effect V → Turn V
  turn s e = record { state = s; effect = e }

  abbrev pub effect_of : Outcome → ℕ → ℕ → Option V → Effect V
  effect_of o k r v = record { outcome = o; register = k; round = r; value = v }

  abbrev pub read_effect : ℕ → Fields V → Effect V
  read_effect k f = effect_of Read k f.round f.value

  -- the value that a record shows as decided
  abbrev pub decided_value : Tag → Option V → Option V
  decided_value Untagged v = None
  decided_value Pro v = None
  decided_value Dec v = v

  abbrev pub raised : State V → Fields V → State V
  raised s f = record s { seen = max s.seen f.round }

  abbrev pub adopting : Option V → State V → State V
  adopting None s = s
  adopting (Some v) s = record s { phase = Decided v }

  -- every read raises `seen`, and a decided record is adopted
  abbrev pub noticed : State V → Fields V → State V
  noticed s f = adopting (decided_value f.tag f.value) (raised s f)

  abbrev pub adoption : ℕ → Fields V → Option (Effect V)
  adoption k f = option_map (λ v. effect_of Adopted k f.round (Some v)) (decided_value f.tag f.value)

  -- a read of register k that answered f: an adoption, or else the turn that the phase has for it
  abbrev pub on_read : Option (Effect V) → State V → Turn V → Turn V
  on_read None s onward = onward
  on_read (Some e) s onward = turn s e

  -- what the first collect leaves to put forward: the kept value, or else the proposal
  abbrev pub candidate_of : Fields V → V → V
  candidate_of kept p = unwrap_or kept.value p

  -- of two records the one with the greater accepted round, the earlier one if they are equal
  abbrev pub greater : Fields V → Fields V → Fields V
  greater kept f = cond (nat_lt kept.accepted f.accepted) f kept

  -- at the last register of a collect: failed if a round above the worker's own was seen
  abbrev pub end_turn : State V → ℕ → Fields V → Phase V → V → Turn V
  end_turn s k f next candidate =
      cond (nat_lt s.own.round s.seen)
      (turn (record s { phase = Idle }) (effect_of Failed k s.seen f.value))
      (turn (record s { phase = next }) (effect_of ReadyNow k s.own.round (Some candidate)))

  -- an idle worker that waits has read the register at its watch place, which moves on
  abbrev pub moved : State V → State V
  moved s = record s { watch = around s.watch s.total }

  abbrev pub watch_turn : State V → Fields V → Turn V
  watch_turn s f = on_read (adoption s.watch f) (noticed (moved s) f) (turn (noticed (moved s) f) (read_effect s.watch f))

  -- a collect, with s after `seen` was raised: it goes on in one phase, or ends in another with a candidate
  abbrev pub onward : State V → ℕ → Fields V → (ℕ → Phase V) → Phase V → V → Turn V
  onward s k f collecting collected candidate =
      cond (nat_lt k s.total)
      (turn (record s { phase = collecting (k + 1) }) (read_effect k f))
      (end_turn s k f collected candidate)

  -- the same, where the phase that goes on is what a closure answers, which is asked only where a register follows
  abbrev pub Onward : (ℕ → Phase V → Type 0) → State V → ℕ → Fields V → Phase V → V → State V → Effect V → Type 0
  Onward Collecting s k f collected candidate s' e =
      (p : Phase V) × (k < s.total → Collecting (k + 1) p)
      × (s' ≡ (onward s k f (λ _. p) collected candidate).state)
      × (e ≡ (onward s k f (λ _. p) collected candidate).effect)

  abbrev pub first_turn : State V → ℕ → Fields V → V → Fields V → Turn V
  first_turn s k kept p f =
      let kept' = greater kept f in
      on_read (adoption k f) (noticed s f) (onward (noticed s f) k f (λ next. First next kept') (Ready kept') (candidate_of kept' p))

  abbrev pub second_turn : State V → ℕ → V → Fields V → Turn V
  second_turn s k c f =
      on_read (adoption k f) (noticed s f) (onward (noticed s f) k f (λ next. Second next c) (Sure c) c)
