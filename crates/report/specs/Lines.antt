-- The text of a report, line by line. A kind of value comes in by its text.
use Rattle.std.specs.Prelude.{ℕ, ◌+◌, List, [], ◌∷◌, ◌++◌, length, Ok, Err, codes, decimal, Option, Result}
use Rattle.registers.specs.Tags.{tag_word}
use Rattle.registers.specs.declared.record.Record.{Record}
use Rattle.registers.specs.Cells.{Cell, cell_answer}
use Rattle.registers.specs.Decision.{shown}
use Rattle.kinds.specs.Texts.{value_text, refusal_text}

abbrev pub comma : List ℕ
comma = 44 ∷ []

abbrev pub line_feed : List ℕ
line_feed = 10 ∷ []

abbrev pub size_row : ℕ → List ℕ
size_row n = codes "registers," ++ (decimal n ++ line_feed)

-- number, tag, round, accepted round, value
abbrev pub record_row : ℕ → List ℕ → ℕ → ℕ → List ℕ → List ℕ
record_row n tag round accepted value = decimal n ++ (comma ++ (tag ++ (comma ++ (decimal round ++ (comma ++ (decimal accepted ++ (comma ++ (value ++ line_feed))))))))

abbrev pub decision_row : List ℕ → List ℕ
decision_row value = codes "decision," ++ (value ++ line_feed)

-- in the place of the tag, and nothing after it
abbrev pub refusal_row : ℕ → ℕ → List ℕ
refusal_row n e = decimal n ++ (comma ++ (refusal_text e ++ (codes ",,," ++ line_feed)))

module _ {V : Type 0} (text_of : V → List ℕ) where
  abbrev pub register_line : ℕ → Result (Record V) ℕ → List ℕ
  register_line n (Ok r) = record_row n (tag_word r.fields.tag) r.fields.round r.fields.accepted (value_text text_of r.fields.value)
  register_line n (Err e) = refusal_row n e

  -- the lines of registers n, n + 1 and so on
  abbrev pub register_lines : ℕ → List (Cell V) → List ℕ
  register_lines n [] = []
  register_lines n (c ∷ cs) = register_line n (cell_answer c) ++ register_lines (n + 1) cs

  abbrev pub decision_line : Result (Option V) ℕ → List ℕ
  decision_line (Ok v) = decision_row (value_text text_of v)
  decision_line (Err e) = decision_row (refusal_text e)

  abbrev pub report_text : List (Cell V) → List ℕ
  report_text cells = size_row (length cells) ++ (register_lines 1 cells ++ decision_line (shown cells))
