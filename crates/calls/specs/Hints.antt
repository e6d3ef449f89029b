-- The hint for a step: by a named leader, and by a mask of suspects.
use Rattle.std.specs.Prelude.{◌≡◌, ℕ, zero, suc, ◌+◌, ◌-◌, ◌/◌, ◌%◌, ◌^◌, ◌<◌, ◌≤◌, cond, Some, None, Option, ◌==◌}
use Rattle.calls.specs.declared.hint.Hint.{Hint}
use Rattle.calls.specs.declared.hint.Hint.TheVariants.{Go, Wait}

abbrev pub hint_of_leader : ℕ → ℕ → Hint
hint_of_leader leader i = cond (leader == i) Go Wait

-- of n workers from j on, the first whose bit is 0, where the lowest bit of the mask is that of j
abbrev pub leader_from : ℕ → ℕ → ℕ → Option ℕ
leader_from zero j mask = None
leader_from (suc n) j mask = cond (mask % 2 == 0) (Some j) (leader_from n (j + 1) (mask / 2))

-- of workers 1 to n
abbrev pub trusted_leader : ℕ → ℕ → Option ℕ
trusted_leader suspects n = leader_from n 1 suspects

abbrev pub led_by : Option ℕ → ℕ → Hint
led_by None i = Wait
led_by (Some leader) i = hint_of_leader leader i

abbrev pub hint_of_suspects : ℕ → ℕ → ℕ → Hint
hint_of_suspects suspects n i = led_by (trusted_leader suspects n) i

-- the bit of value 2 ^ (j - 1) is set
abbrev pub Suspected : ℕ → ℕ → Type 0
Suspected suspects j = suspects / 2 ^ (j - 1) % 2 ≡ 1

abbrev pub AllSuspectedBefore : ℕ → ℕ → Type 0
AllSuspectedBefore suspects n = (j : ℕ) → 1 ≤ j → j < n → Suspected suspects j

-- the leader is one of the workers and not suspected, and all before it are; with none, all are suspected
abbrev pub Leads : ℕ → ℕ → Option ℕ → Type 0
Leads suspects n None = AllSuspectedBefore suspects (n + 1)
Leads suspects n (Some j) = (1 ≤ j) × (j ≤ n) × (Suspected suspects j → ⊥) × AllSuspectedBefore suspects j
