-- The line that answers a line. A kind of value comes in by its text.
use Rattle.std.specs.Prelude.{ℕ, List, [], ◌∷◌, ◌++◌, Some, None, Ok, Err, codes, decimal, Option, Result}
use Rattle.std.proofs.Math.Utf8.{encode}
use Rattle.kinds.specs.Texts.{value_text, refusal_text}
use Rattle.calls.specs.declared.call.Answer.{Answer}
use Rattle.calls.specs.declared.call.Answer.TheVariants.{Opened, Proposed, Stepped}
use Rattle.calls.specs.Outcomes.{outcome_word}
use Rattle.script.specs.declared.line.Head.{Head}

abbrev pub line_feed : List ℕ
line_feed = 10 ∷ []

abbrev pub letter_text : Option Head → List ℕ
letter_text None = []
letter_text (Some h) = encode h.letter

abbrev pub number_text : Option ℕ → List ℕ
number_text None = []
number_text (Some n) = decimal n

abbrev pub worker_text : Option Head → List ℕ
worker_text None = []
worker_text (Some h) = number_text h.worker

-- An answer has seven fields. The first three: the line's number, its letter and its worker.
abbrev pub start_row : ℕ → List ℕ → List ℕ → List ℕ
start_row number letter worker = decimal number ++ (codes "," ++ (letter ++ (codes "," ++ worker)))

abbrev pub start_text : ℕ → Option Head → List ℕ
start_text number head = start_row number (letter_text head) (worker_text head)

-- and the last four: outcome, register, round, value
abbrev pub answer_row : List ℕ → List ℕ → List ℕ → List ℕ → List ℕ → List ℕ
answer_row start outcome register round value = start ++ (codes "," ++ (outcome ++ (codes "," ++ (register ++ (codes "," ++ (round ++ (codes "," ++ (value ++ line_feed))))))))

abbrev pub answer_word : {V : Type 0} → Answer V → List ℕ
answer_word Opened = codes "opened"
answer_word (Proposed v) = codes "proposed"
answer_word (Stepped e) = outcome_word e.outcome

module _ {V : Type 0} (text_of : V → List ℕ) (start : List ℕ) where
  -- what goes with the word: nothing, the value, or the register, the round and the value
  abbrev pub accepted_row : Answer V → List ℕ
  accepted_row Opened = answer_row start (answer_word {V = V} Opened) [] [] []
  accepted_row (Proposed v) = answer_row start (answer_word (Proposed v)) [] [] (text_of v)
  accepted_row (Stepped e) = answer_row start (answer_word (Stepped e)) (decimal e.register) (decimal e.round) (value_text text_of e.value)

  -- a refusal stands in the outcome's place, with nothing after it
  abbrev pub result_row : Result (Answer V) ℕ → List ℕ
  result_row (Ok a) = accepted_row a
  result_row (Err n) = answer_row start (refusal_text n) [] [] []

abbrev pub answer_text : {V : Type 0} → (V → List ℕ) → ℕ → Option Head → Result (Answer V) ℕ → List ℕ
answer_text text_of number head answer = result_row text_of (start_text number head) answer
