-- A list that names each of as many registers as it is long exactly once names only those, and none at two places.
use Rattle.std.proofs.Common.{◌≡◌, ℕ, zero, suc, ◌+◌, ◌-◌, ◌<◌, ◌≤◌, true, cond, eqb, leb, ◌&&◌, List, [], ◌∷◌, length, get_or, sym, inl, inr, add-one, arith, length-take}
use Rattle.std.specs.List.{range_with_len, remove, sum_by}
use Rattle.std.proofs.lemmas.Bool.{and_parts, leb-true, cases_order}
use Rattle.std.proofs.lemmas.Bool.Decides.{nat_tests}
use Rattle.std.proofs.lemmas.List.Sums.{sum_by-remove, get_or-le-sum_by, count_by-le-length}
use Rattle.std.proofs.lemmas.List.Folds.{list_all_at}
use Rattle.std.proofs.lemmas.List.FromFn.{get_or-range_with_len, length-range_with_len}
use Rattle.std.proofs.lemmas.Grind.{common_steps}
use Rattle.std.proofs.lemmas.List.Edits.{length-remove, get_or-remove_below}
use Rattle.layers.specs.Permutations.{max_permuted, times, each_once, Permutes}
use Rattle.layers.specs.declared.permutation.Permutation.{Permutation}
use Rattle.layers.specs.Permuting.{named}

-- 1 if x is one of the registers 1 to n, else 0
abbrev among : ℕ → ℕ → ℕ
among n x = cond (leb 1 x && leb x n) 1 0

-- how many places name one of the registers 1 to n: at least those that name n, and those before
more_among : (n : ℕ) (xs : List ℕ) → sum_by (among n) xs + times (n + 1) xs ≤ sum_by (among (n + 1)) xs
more_among n [] = omega arith
more_among n (x ∷ xs) = grind (arith, nat_tests, common_steps, more_among n xs)

all_among : (n : ℕ) (xs : List ℕ) → ((j : ℕ) → 1 ≤ j → j ≤ n → times j xs ≡ 1) → n ≤ sum_by (among n) xs
all_among zero xs once = omega arith
all_among (suc n) xs once = rw (← add-one n) (omega (arith, more_among n xs, all_among n xs (λ j low high. once j low (omega arith)), once (n + 1) (omega arith) (omega arith)))

module _ (xs : List ℕ) (once : each_once xs ≡ true) where
  named_once : (j : ℕ) → 1 ≤ j → j ≤ length xs → times j xs ≡ 1
  named_once j low high =
      let at : get_or (range_with_len 1 (length xs)) (j - 1) 0 ≡ j = omega (arith, get_or-range_with_len 1 (length xs) (j - 1) 0 (omega arith)) in
      let else = list_all_at (λ k. eqb (times k xs) 1) (range_with_len 1 (length xs)) (j - 1) 0 (omega (arith, length-range_with_len 1 (length xs))) in
      grind (arith, nat_tests, else)

  named_among : (i : ℕ) → i < length xs → (1 ≤ get_or xs i 0) × (get_or xs i 0 ≤ length xs)
  named_among i h =
      let n = length xs in
      let others : sum_by (among n) (remove xs i) ≤ length (remove xs i) = count_by-le-length (λ x. leb 1 x && leb x n) (remove xs i) in
      grind (arith, nat_tests, all_among n xs named_once, sum_by-remove (among n) xs i 0 h, length-remove xs i h)

  -- two places that name the same register would count it twice
  apart : (i k : ℕ) → i < k → k < length xs → get_or xs i 0 ≡ get_or xs k 0 → ⊥
  apart i k p q e =
      let y = get_or xs k 0 in
      let hit : ℕ → ℕ = λ x. cond (eqb x y) 1 0 in
      grind (arith, nat_tests, named_among k q, named_once y, sum_by-remove hit xs k 0 q, get_or-remove_below xs k 0 i p q, get_or-le-sum_by hit (remove xs k) i 0, length-remove xs k q)

  named_apart : (i k : ℕ) → i < length xs → k < length xs → get_or xs i 0 ≡ get_or xs k 0 → i ≡ k
  named_apart i k p q e =
      elim (cases_order i k) [
        | inl same ↦ same
        | inr (inl less) ↦ absurd (apart i k less q e)
        | inr (inr more) ↦ absurd (apart k i more p (sym e))
      ]

  pub permutes : length xs ≤ max_permuted → Permutes xs
  permutes few = record {
    few = few;
    once = named_once;
    low = λ i h. (named_among i h).0;
    high = λ i h. (named_among i h).1;
    apart = named_apart;
  }

pub lawful_permutes : (p : Permutation) → Permutes (named p)
lawful_permutes p =
    let t = and_parts (leb p.count max_permuted) (each_once (named p)) p.lawful in
    permutes (named p) t.1 (omega (arith, leb-true p.count max_permuted t.0, length-take p.count p.places))
