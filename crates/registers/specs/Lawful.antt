-- Which fields a lawful record has: the rule, and a test that decides it.
use Rattle.std.specs.Prelude.{◌≡◌, ℕ, ◌≤◌, Bool, true, not, ◌&&◌, is_some, None as Absent, Option, ◌==◌, nat_le}
use Rattle.registers.specs.declared.tag.Tag.{Tag}
use Rattle.registers.specs.declared.tag.Tag.TheVariants.{None, Pro, Dec}
use Rattle.registers.specs.declared.record.Fields.{Fields}

abbrev pub max_round : ℕ
max_round = 1000000000

-- with tag none nothing was accepted; with another a value was, in a round from 1 on
abbrev pub Accepts : {V : Type 0} → ℕ → Tag → Option V → Type 0
Accepts a None v = (a ≡ 0) × (v ≡ Absent)
Accepts a Pro v = (1 ≤ a) × (is_some v ≡ true)
Accepts a Dec v = (1 ≤ a) × (is_some v ≡ true)

pub record Lawful {V : Type 0} (f : Fields V) : Type 0 where
  pub limited : f.round ≤ max_round
  pub ordered : f.accepted ≤ f.round
  pub accepts : Accepts f.accepted f.tag f.value

abbrev pub accepting : {V : Type 0} → ℕ → Tag → Option V → Bool
accepting a None v = a == 0 && not (is_some v)
accepting a Pro v = nat_le 1 a && is_some v
accepting a Dec v = nat_le 1 a && is_some v

abbrev pub is_lawful : {V : Type 0} → Fields V → Bool
is_lawful f = nat_le f.round max_round && (nat_le f.accepted f.round && accepting f.accepted f.tag f.value)
