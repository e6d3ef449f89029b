-- A report grows line by line.
use Rattle.std.proofs.Common.{◌≡◌, ℕ, ◌+◌, ◌-◌, ◌≤◌, List, ◌++◌, length, get_or, drop, None, sym, ap, ◌∙◌, append_assoc, append-nil, arith}
use Rattle.std.proofs.lemmas.List.{drop_more, drop_all}
use Rattle.registers.specs.Cells.{Cell, cell_answer, read_answer}
use Rattle.registers.proofs.Answering.{reads}
use Rattle.report.specs.Lines.{register_line, register_lines}

module _ {V : Type 0} (text_of : V → List ℕ) (cells : List (Cell V)) where
  -- the line of register j goes from what is left to what is written
  pub line_more : (j k : ℕ) → 1 ≤ j → j ≤ length cells → j ≡ k → (written all : List ℕ) → written ++ register_lines text_of j (drop (j - 1) cells) ≡ all → (written ++ register_line text_of j (read_answer cells j)) ++ register_lines text_of (j + 1) (drop k cells) ≡ all
  line_more j k low high e written all inv =
      let back : j - 1 + 1 ≡ k = omega arith in
      append_assoc written (register_line text_of j (read_answer cells j)) (register_lines text_of (j + 1) (drop k cells))
      ∙ ap (λ a. written ++ (register_line text_of j a ++ register_lines text_of (j + 1) (drop k cells))) (reads cells j low high)
      ∙ ap (λ n. written ++ (register_line text_of j (cell_answer (get_or cells (j - 1) None)) ++ register_lines text_of (j + 1) (drop n cells))) (sym back)
      ∙ ap (λ l. written ++ register_lines text_of j l) (sym (drop_more cells (j - 1) None (omega arith)))
      ∙ inv

  -- no register is left
  pub line_all : (j i : ℕ) → length cells ≤ i → (written all : List ℕ) → written ++ register_lines text_of j (drop i cells) ≡ all → written ≡ all
  line_all j i h written all inv = sym (append-nil written) ∙ ap (λ l. written ++ register_lines text_of j l) (sym (drop_all i cells h)) ∙ inv
