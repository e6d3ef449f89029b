-- The next round is the least of the worker's own above what it has seen.
use Rattle.std.proofs.Common.{◌≡◌, ℕ, ◌+◌, ◌-◌, ◌*◌, ◌/◌, ◌%◌, ◌<◌, ◌≤◌, Some, ⊎_elim, mul-le-mul_right, mod-lt, add-mul, div-add-mod', arith}
use Rattle.std.proofs.lemmas.Bool.{cases_lt}
use Rattle.std.proofs.lemmas.Bool.Decides.{nat_tests}
use Rattle.registers.specs.Lawful.{max_round}
use Rattle.protocol.specs.Rounds.{round_of_worker, LeastRound}

pub least_next : (seen i n : ℕ) → 0 < n → i ≤ seen → LeastRound seen i n (seen + (n - (seen - i) % n))
least_next seen i n pos h =
    let past = seen - i in
    let q = past / n in
    let whole : q * n + past % n ≡ past = div-add-mod' past n in
    let small : past % n < n = mod-lt past pos in
    let more : (q + 1) * n ≡ q * n + 1 * n = add-mul q 1 n in
    let one : 1 * n ≡ n = omega arith in (
      omega arith,
      (q + 1, omega arith),
      λ k l. ⊎_elim
          (λ (a : q < k). let up : (q + 1) * n ≤ k * n = mul-le-mul_right n (omega arith) in omega arith)
          (λ (a : k ≤ q). let down : k * n ≤ q * n = mul-le-mul_right n a in omega arith)
          (cases_lt q k),
    )

-- the tests of a round that is begun
pub record Begun (seen r : ℕ) : Type 0 where
  pub above : seen < r
  pub limited : r ≤ max_round

pub begun_round : (seen i n r : ℕ) → round_of_worker seen i n ≡ Some r → Begun seen r
begun_round seen i n r e = record { above = grind (arith, nat_tests, mod-lt); limited = grind (arith, nat_tests) }
