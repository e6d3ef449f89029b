-- A choice as eight bytes and as a text.
use Rattle.std.specs.Prelude.{◌≡◌, ℕ, ◌+◌, Bool, true, false, cond, ◌&&◌, List, [], ◌∷◌, ◌++◌, take, drop, position, Some, None, decimal, Option, ◌==◌, slice_index, refl}
use Rattle.choices.specs.declared.choice.Choice.{Choice}
use Rattle.decimals.specs.Decimals.{read_decimal}
use Rattle.choices.specs.Regions.{is_choice}
use Rattle.kinds.specs.Words.{bytes16, word16}

abbrev pub choice_if : (region edition : ℕ) (b : Bool) → is_choice region edition ≡ b → Option Choice
choice_if region edition true e = Some (record { region = region; edition = edition; lawful = e })
choice_if region edition false e = None

unfoldable pub choice_of : ℕ → ℕ → Option Choice
choice_of region edition = choice_if region edition (is_choice region edition) refl

abbrev pub choice_image : Choice → List ℕ
choice_image c = 0x43 ∷ c.region ∷ (bytes16 c.edition ++ (0 ∷ 0 ∷ 0 ∷ 0 ∷ []))

-- the first byte and the last four are those of a choice
abbrev pub is_choice_image : List ℕ → Bool
is_choice_image xs = slice_index xs 0 == 0x43 && (slice_index xs 4 == 0 && (slice_index xs 5 == 0 && (slice_index xs 6 == 0 && slice_index xs 7 == 0)))

abbrev pub choice_of_image : List ℕ → Option Choice
choice_of_image xs = cond (is_choice_image xs) (choice_of (slice_index xs 1) (word16 (slice_index xs 2) (slice_index xs 3))) None

abbrev pub slash : ℕ
slash = 47

abbrev pub choice_text : Choice → List ℕ
choice_text c = decimal c.region ++ (slash ∷ decimal c.edition)

abbrev pub first_slash : List ℕ → Option ℕ
first_slash bs = position (λ b. b == slash) bs

abbrev pub choice_from : Option ℕ → Option ℕ → Option Choice
choice_from None edition = None
choice_from (Some region) None = None
choice_from (Some region) (Some edition) = choice_of region edition

-- the region before the slash at this place, the edition behind it
abbrev pub choice_around : List ℕ → Option ℕ → Option Choice
choice_around bs None = None
choice_around bs (Some at) = choice_from (read_decimal (take at bs)) (read_decimal (drop (at + 1) bs))

abbrev pub choice_of_text : List ℕ → Option Choice
choice_of_text bs = choice_around bs (first_slash bs)
