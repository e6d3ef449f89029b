-- The shapes of script lines, and what a line of each asks.
use Rattle.std.specs.Prelude.{ℕ, ◌+◌, Bool, cond, ◌&&◌, List, length, drop, Some, None, Option, Result, ◌==◌, nat_le, nat_lt, slice_index}
use Rattle.std.specs.Option.{option_and_then, option_map, option_zip, ok_or}
use Rattle.std.specs.Result.{result_map_both}
use Rattle.decimals.specs.Decimals.{read_decimal}
use Rattle.kinds.specs.KindNames.{kind_of}
use Rattle.kinds.specs.declared.name.KindName.{KindName}
use Rattle.script.specs.declared.line.Line.{Line}
use Rattle.script.specs.declared.line.Line.TheVariants.{Open, Propose, Go, Wait, Leader, Suspects}
use Rattle.script.specs.declared.refusal.LineRefusal.{LineRefusal}
use Rattle.script.specs.declared.refusal.LineRefusal.TheVariants.{Shape}
use Rattle.script.specs.Fields.{comma, field_end, part}
use Rattle.script.specs.LineRefusals.{line_refusal_number}

-- a line as plain data, its value by its bytes
pub data Asked : Type 0 where
  opens : ℕ → KindName → Asked
  proposes : ℕ → List ℕ → Asked
  goes : ℕ → Asked
  waits : ℕ → Asked
  follows : ℕ → ℕ → Asked
  suspects : ℕ → ℕ → Asked

abbrev pub asked : Line → Asked
asked (Open n kind) = opens n kind
asked (Propose i value) = proposes i value.now
asked (Go i) = goes i
asked (Wait i) = waits i
asked (Leader i leader) = follows i leader
asked (Suspects i mask) = suspects i mask

-- a number from 0 to 255
abbrev pub number_of : List ℕ → Option ℕ
number_of field = option_and_then (λ n. cond (nat_lt n 256) (Some n) None) (read_decimal field)

-- The first field ends at a comma, and the one behind that comma ends at the end: there are two.
abbrev pub are_two : List ℕ → Bool
are_two rest = nat_lt (field_end rest 0) (length rest) && field_end rest (field_end rest 0 + 1) == length rest

abbrev pub first_field : List ℕ → List ℕ
first_field rest = part rest 0 (field_end rest 0)

abbrev pub second_field : List ℕ → List ℕ
second_field rest = part rest (field_end rest 0 + 1) (field_end rest (field_end rest 0 + 1))

abbrev pub two_fields : List ℕ → Option (List ℕ × List ℕ)
two_fields rest = cond (are_two rest) (Some (first_field rest, second_field rest)) None

-- The rules of the letters, by their fields: `O,n,kind`, `P,i,value`, and one or two numbers behind the other letters.
abbrev pub open_of : Option (List ℕ × List ℕ) → Option Asked
open_of None = None
open_of (Some (n, kind)) = option_map (λ p. opens p.0 p.1) (option_zip (number_of n) (kind_of kind))

abbrev pub propose_of : Option (List ℕ × List ℕ) → Option Asked
propose_of None = None
propose_of (Some (i, value)) = option_map (λ n. proposes n value) (number_of i)

abbrev pub numbers_of : Option (List ℕ × List ℕ) → Option (ℕ × ℕ)
numbers_of None = None
numbers_of (Some (i, n)) = option_zip (number_of i) (number_of n)

-- What a letter asks with what stands behind its comma. In ASCII, O is 79, P 80, G 71, W 87, L 76 and S 83; another letter is another shape.
abbrev pub shape : ℕ → List ℕ → Option Asked
shape letter rest =
    cond (letter == 79) (open_of (two_fields rest))
    (cond (letter == 80) (propose_of (two_fields rest))
    (cond (letter == 71) (option_map goes (number_of rest))
    (cond (letter == 87) (option_map waits (number_of rest))
    (cond (letter == 76) (option_map (λ p. follows p.0 p.1) (numbers_of (two_fields rest)))
    (cond (letter == 83) (option_map (λ p. suspects p.0 p.1) (numbers_of (two_fields rest)))
    None)))))

abbrev pub max_line : ℕ
max_line = 40

-- a letter, a comma, and the rest
abbrev pub is_line : List ℕ → Bool
is_line bytes = nat_le (length bytes) max_line && (nat_le 2 (length bytes) && slice_index bytes 1 == comma)

-- none where the shape is another
abbrev pub whole_line : List ℕ → Option Asked
whole_line bytes = cond (is_line bytes) (shape (slice_index bytes 0) (drop 2 bytes)) None

abbrev pub line_of : List ℕ → Result Asked ℕ
line_of bytes = ok_or (whole_line bytes) (line_refusal_number Shape)

-- what the parser answers, as plain data
abbrev pub asked_answer : Result Line LineRefusal → Result Asked ℕ
asked_answer answer = result_map_both asked line_refusal_number answer
