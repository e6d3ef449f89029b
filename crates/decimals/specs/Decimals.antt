-- The number that a text writes in decimal.
use Rattle.std.specs.Prelude.{ℕ, ◌^◌, Bool, cond, ◌&&◌, ◌||◌, List, length, Some, None, Option, ◌==◌, nat_le, nat_lt, slice_index}
use Rattle.std.specs.Str.Parse.{digits_value}
use Rattle.std.specs.Str.{all_ascii_digits}

-- 0 by itself, or a first digit from 1 to 9
abbrev pub begins : List ℕ → Bool
begins ds = (length ds == 1 && slice_index ds 0 == 48) || (nat_le 49 (slice_index ds 0) && nat_le (slice_index ds 0) 57)

-- a number past 64 bits is none
unfoldable pub read_decimal : List ℕ → Option ℕ
read_decimal ds = cond (begins ds && (all_ascii_digits ds && nat_lt (digits_value 10 ds) (2 ^ 64))) (Some (digits_value 10 ds)) None
