-- Where a text is split: its first slash.
use Rattle.std.proofs.Common.{◌≡◌, ℕ, suc, ◌+◌, ◌<◌, true, false, not, eqb, List, [], ◌∷◌, ◌++◌, length, get_or, take, drop, Some, refl, ap, ◌∙◌, add-one, one-add, arith, length-append, take-append-drop, drop-cons}
use Rattle.std.specs.Char.{is_ascii_digit}
use Rattle.std.specs.Str.{all_ascii_digits}
use Rattle.std.specs.List.{position_or_len}
use Rattle.std.proofs.lemmas.List.Quantifiers.{position-Some}
use Rattle.std.proofs.lemmas.Bool.{cond-true, and_parts, eqb-true, lt-ltb}
use Rattle.std.proofs.lemmas.Bool.Decides.{nat_tests}
use Rattle.choices.specs.ChoiceForms.{slash, first_slash}

pub slash_splits : (bs : List ℕ) (at : ℕ) → first_slash bs ≡ Some at → bs ≡ take at bs ++ (slash ∷ drop (at + 1) bs)
slash_splits bs at e =
    let found = position-Some (λ b. eqb b slash) bs at 0 e in
    let whole = take-append-drop at bs in
    let rest = drop-cons bs at 0 found.0 in
    let here = eqb-true (get_or bs at 0) slash found.1 in
    let next = add-one at in
    cc

-- digits hold no slash
before_slash : (ds es : List ℕ) → all_ascii_digits ds ≡ true → position_or_len (λ b. eqb b slash) (ds ++ (slash ∷ es)) ≡ length ds
before_slash [] es e = refl
before_slash (d ∷ ds) es e =
    let p = and_parts (is_ascii_digit d) (all_ascii_digits ds) e in
    let other : eqb d slash ≡ false = grind (arith, nat_tests) in
    let n = position_or_len (λ b. eqb b slash) (ds ++ (slash ∷ es)) in
    cond-true (not (eqb d slash)) (1 + n) 0 (ap not other) ∙ one-add n ∙ ap suc (before_slash ds es p.1)

pub slash_after : (ds es : List ℕ) → all_ascii_digits ds ≡ true → first_slash (ds ++ (slash ∷ es)) ≡ Some (length ds)
slash_after ds es e =
    let bs = ds ++ (slash ∷ es) in
    let n = position_or_len (λ b. eqb b slash) bs in
    let at : n ≡ length ds = before_slash ds es e in
    let within : n < length bs = omega (arith, at, length-append ds (slash ∷ es)) in
    cond-true _ _ _ (lt-ltb n (length bs) within) ∙ ap Some at
