-- A batch as eight bytes and as a text.
use Rattle.std.specs.Prelude.{ℕ, ◌^◌, Bool, cond, ◌&&◌, List, ◌∷◌, Some, None, decimal, Option, ◌==◌, nat_lt, slice_index}
use Rattle.batches.specs.declared.batch.Batch.{Batch}
use Rattle.decimals.specs.Decimals.{read_decimal}
use Rattle.kinds.specs.Words.{bytes32, word32}

abbrev pub batch : ℕ → Batch
batch n = record { number = n }

abbrev pub batch_image : Batch → List ℕ
batch_image b = 0x42 ∷ 0 ∷ 0 ∷ 0 ∷ bytes32 b.number

-- the first four bytes of an image are those of a batch
abbrev pub is_batch_image : List ℕ → Bool
is_batch_image xs = slice_index xs 0 == 0x42 && (slice_index xs 1 == 0 && (slice_index xs 2 == 0 && slice_index xs 3 == 0))

abbrev pub batch_of_image : List ℕ → Option Batch
batch_of_image xs = cond (is_batch_image xs) (Some (batch (word32 (slice_index xs 4) (slice_index xs 5) (slice_index xs 6) (slice_index xs 7)))) None

abbrev pub batch_text : Batch → List ℕ
batch_text b = decimal b.number

abbrev pub batch_from : Option ℕ → Option Batch
batch_from None = None
batch_from (Some n) = cond (nat_lt n (2 ^ 32)) (Some (batch n)) None

abbrev pub batch_of_text : List ℕ → Option Batch
batch_of_text bs = batch_from (read_decimal bs)
