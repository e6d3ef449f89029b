-- The decision that a list of cells shows: by recursion, and what that says of its registers.
use Rattle.std.specs.Prelude.{◌≡◌, ℕ, ◌<◌, List, [], ◌∷◌, length, Some, None, Ok, Err, Option, Result, slice_index_or}
use Rattle.registers.specs.declared.tag.Tag.{Tag}
use Rattle.registers.specs.declared.tag.Tag.TheVariants.{None as Untagged, Pro, Dec}
use Rattle.registers.specs.declared.refusal.Refusal.TheVariants.{Unreadable}
use Rattle.registers.specs.Cells.{Cell}
use Rattle.registers.specs.Refusals.{refusal_number}

module _ {V : Type 0} where
  -- a record with tag dec shows its value, and any other leaves it to the registers after it
  abbrev pub by_tag : Tag → Option V → Result (Option V) ℕ → Result (Option V) ℕ
  by_tag Untagged v rest = rest
  by_tag Pro v rest = rest
  by_tag Dec v rest = Ok v

  abbrev pub shown : List (Cell V) → Result (Option V) ℕ
  shown [] = Ok None
  shown (None ∷ cs) = Err (refusal_number Unreadable)
  shown (Some r ∷ cs) = by_tag r.fields.tag r.fields.value (shown cs)

  -- the register holds a record, with another tag than dec
  abbrev pub Undecided : Cell V → Type 0
  Undecided None = ⊥
  Undecided (Some r) = r.fields.tag ≡ Dec → ⊥

  -- each of the first n registers does
  abbrev pub UndecidedBefore : List (Cell V) → ℕ → Type 0
  UndecidedBefore cells n = (k : ℕ) → k < n → Undecided (slice_index_or cells k None)

  abbrev pub DecidedWith : Cell V → V → Type 0
  DecidedWith None v = ⊥
  DecidedWith (Some r) v = (r.fields.tag ≡ Dec) × (r.fields.value ≡ Some v)

  -- what an answer to a look-up says: with a value, that the first register that is not undecided has decided it; with
  -- none, that all registers are undecided; and a refusal is 3, and the first that is not undecided is unreadable
  abbrev pub Looked : List (Cell V) → Result (Option V) ℕ → Type 0
  Looked cells (Ok None) = UndecidedBefore cells (length cells)
  Looked cells (Ok (Some v)) = (k : ℕ) × (k < length cells) × UndecidedBefore cells k × DecidedWith (slice_index_or cells k None) v
  Looked cells (Err e) = (k : ℕ) × (k < length cells) × UndecidedBefore cells k × (slice_index_or cells k None ≡ None) × (e ≡ refusal_number Unreadable)
