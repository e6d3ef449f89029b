-- A word and its bytes give each other back.
use Rattle.std.proofs.Common.{◌≡◌, ℕ, ◌/◌, ◌%◌, ◌^◌, ◌<◌, List, [], ◌∷◌, length, get_or, refl, arith, rules}
use Rattle.std.proofs.lemmas.List.FromFn.{fill_by_all}
use Rattle.kinds.specs.Words.{word16, bytes32, word32}

pub half_of_bytes : (n : ℕ) → n < 2 ^ 16 → word16 (n / 256 % 256) (n % 256) ≡ n
half_of_bytes n h = omega arith

pub word_of_bytes : (n : ℕ) → n < 2 ^ 32 → word32 (n / 16777216 % 256) (n / 65536 % 256) (n / 256 % 256) (n % 256) ≡ n
word_of_bytes n h = search rules

pub bytes_of_word : (a b c d : ℕ) → a < 256 → b < 256 → c < 256 → d < 256 → bytes32 (word32 a b c d) ≡ a ∷ b ∷ c ∷ d ∷ []
bytes_of_word a b c d p q r s =
    let first : word32 a b c d / 16777216 % 256 ≡ a = omega arith in
    let second : word32 a b c d / 65536 % 256 ≡ b = omega arith in
    let third : word32 a b c d / 256 % 256 ≡ c = omega arith in
    let fourth : word32 a b c d % 256 ≡ d = omega arith in
    cc

-- eight bytes, by their places
pub eight : (xs : List ℕ) → length xs ≡ 8 → xs ≡ get_or xs 0 0 ∷ get_or xs 1 0 ∷ get_or xs 2 0 ∷ get_or xs 3 0 ∷ get_or xs 4 0 ∷ get_or xs 5 0 ∷ get_or xs 6 0 ∷ get_or xs 7 0 ∷ []
eight xs h = fill_by_all (λ k. get_or xs k 0) xs 8 0 h (λ k p. refl)
