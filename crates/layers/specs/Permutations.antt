-- Which lists are permutations: those that name each register from 1 to their length exactly once.
use Rattle.std.specs.Prelude.{◌≡◌, ℕ, ◌<◌, ◌≤◌, Bool, if◌then◌else◌, ◌&&◌, List, [], length, take, count_by, ◌==◌, nat_le, slice_index}
use Rattle.std.specs.List.{list_all, range_with_len}

-- a permutation has at most as many registers
abbrev pub max_permuted : ℕ
max_permuted = 8

-- how often the list names register j
abbrev pub times : ℕ → List ℕ → ℕ
times j xs = count_by (λ x. x == j) xs

abbrev pub each_once : List ℕ → Bool
each_once xs = list_all (λ j. times j xs == 1) (range_with_len 1 (length xs))

abbrev pub is_permutation : List ℕ → ℕ → Bool
is_permutation places count = nat_le count max_permuted && each_once (take count places)

-- the list itself if it is a permutation, else the one of no register
abbrev pub kept_list : List ℕ → List ℕ
kept_list xs = if nat_le (length xs) max_permuted && each_once xs then xs else []

-- what the test means: each register is named exactly once, nothing else is named, and no two places name the same
pub record Permutes (xs : List ℕ) : Type 0 where
  pub few : length xs ≤ max_permuted
  pub once : (j : ℕ) → 1 ≤ j → j ≤ length xs → times j xs ≡ 1
  pub low : (i : ℕ) → i < length xs → 1 ≤ slice_index xs i
  pub high : (i : ℕ) → i < length xs → slice_index xs i ≤ length xs
  pub apart : (i k : ℕ) → i < length xs → k < length xs → slice_index xs i ≡ slice_index xs k → i ≡ k
