-- The number of each refusal, and an answer with its refusal as a number.
use Rattle.std.specs.Prelude.{◌≡◌, ℕ, Result}
use Rattle.std.specs.Result.{result_map_both}
use Rattle.registers.specs.declared.refusal.Refusal.{Refusal}
use Rattle.registers.specs.declared.refusal.Refusal.TheVariants.{NoRegister, Unlawful, Unreadable}

-- For every type R of refusals with a number for each: n is the number of this refusal, and of no other.
pub record Numbers {R : Type 0} (number : R → ℕ) (r : R) (n : ℕ) : Type 0 where
  pub value : n ≡ number r
  pub tells : (other : R) → number other ≡ n → other ≡ r

abbrev pub numbered_by : {X R : Type 0} → (R → ℕ) → Result X R → Result X ℕ
numbered_by number answer = result_map_both (λ x. x) number answer

abbrev pub refusal_number : Refusal → ℕ
refusal_number NoRegister = 1
refusal_number Unlawful = 2
refusal_number Unreadable = 3

abbrev pub numbered : {X : Type 0} → Result X Refusal → Result X ℕ
numbered answer = numbered_by refusal_number answer
