-- The round that a worker begins next: the number, and what it says among the rounds of that worker.
use Rattle.std.specs.Prelude.{◌≡◌, ℕ, ◌+◌, ◌-◌, ◌*◌, ◌%◌, ◌<◌, ◌≤◌, Bool, cond, ◌&&◌, Some, None, Option, nat_le, nat_lt}
use Rattle.registers.specs.Lawful.{max_round}
use Rattle.registers.specs.Cells.{stands}

-- a row has no more
abbrev pub max_workers : ℕ
max_workers = 8

-- the least number above seen of the form i + k * n
abbrev pub next_round : ℕ → ℕ → ℕ → ℕ
next_round seen i n = cond (nat_lt seen i) i (seen + (n - (seen - i) % n))

-- none where it would be above the greatest round
abbrev pub begin_round : ℕ → ℕ → ℕ → Option ℕ
begin_round seen i n = cond (nat_lt max_round (next_round seen i n)) None (Some (next_round seen i n))

-- one of at most 8 workers
abbrev pub is_worker : ℕ → ℕ → Bool
is_worker i n = stands n i && nat_le n max_workers

abbrev pub round_of_worker : ℕ → ℕ → ℕ → Option ℕ
round_of_worker seen i n = cond (is_worker i n) (begin_round seen i n) None

-- r is the least number above seen of the form i + k * n
abbrev pub LeastRound : ℕ → ℕ → ℕ → ℕ → Type 0
LeastRound seen i n r = (seen < r) × ((k : ℕ) × (r ≡ i + k * n)) × ((k : ℕ) → seen < i + k * n → r ≤ i + k * n)

-- what the answer for worker i of n says: the least round of its own above seen, or that all of them are too great
abbrev pub BeginsAt : ℕ → ℕ → ℕ → Option ℕ → Type 0
BeginsAt seen i n (Some r) = (r ≤ max_round) × LeastRound seen i n r
BeginsAt seen i n None = 1 ≤ i → i ≤ n → n ≤ max_workers → (k : ℕ) → seen < i + k * n → max_round < i + k * n
