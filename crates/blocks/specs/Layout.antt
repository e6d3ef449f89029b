-- Where the parts of a block stand: the tag, three bytes 00, the round, the accepted round, and the value.
use Rattle.std.specs.Prelude.{ℕ, ◌+◌, Bool, ◌&&◌, List, ◌∷◌, ◌++◌, length, ◌==◌, slice_index}
use Rattle.std.specs.List.{list_all}
use Rattle.kinds.specs.Words.{word32}

abbrev pub block_len : ℕ
block_len = 20

abbrev pub laid : ℕ → List ℕ → List ℕ → List ℕ → List ℕ
laid tag round accepted value = tag ∷ 0 ∷ 0 ∷ 0 ∷ (round ++ (accepted ++ value))

-- 20 bytes with the three bytes 00 in their place
abbrev pub is_laid : List ℕ → Bool
is_laid b = length b == block_len && (slice_index b 1 == 0 && (slice_index b 2 == 0 && slice_index b 3 == 0))

abbrev pub word_at : List ℕ → ℕ → ℕ
word_at b at = word32 (slice_index b at) (slice_index b (at + 1)) (slice_index b (at + 2)) (slice_index b (at + 3))

abbrev pub all_zero : List ℕ → Bool
all_zero xs = list_all (λ x. x == 0) xs
