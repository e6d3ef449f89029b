-- The text of a value that may be absent, and of a refusal.
use Rattle.std.specs.Prelude.{ℕ, List, [], ◌++◌, Some, None, codes, decimal, Option}

abbrev pub value_text : {V : Type 0} → (V → List ℕ) → Option V → List ℕ
value_text text_of None = []
value_text text_of (Some v) = text_of v

-- how a refusal stands in a line: r and its number
abbrev pub refusal_text : ℕ → List ℕ
refusal_text n = codes "r" ++ decimal n
