-- What is read in decimal is what `decimal` writes, and is read back.
use Rattle.std.proofs.Common.{◌≡◌, ℕ, ◌^◌, ◌<◌, Bool, true, false, ◌&&◌, ltb, ◌⊎◌, List, [], ◌∷◌, length, get_or, Some, None, Ok, Err, IsUtf8, decimal, Result, sym, ap, ◌∙◌, inl, inr, arith}
use Rattle.std.specs.Result.{OkIff, result_ok}
use Rattle.std.specs.Str.Parse.{digits_value, ParsesUnsigned}
use Rattle.std.specs.Str.{all_ascii_digits}
use Rattle.std.proofs.lemmas.Fmt.{decimal-digits_value, digits_decimal, digits_value-decimal, decimal_nonempty, first_decimal, decimal_digit, IsAscii-from_digits}
use Rattle.std.proofs.lemmas.Option.{cond_some}
use Rattle.std.proofs.lemmas.Str.Parse.{IsNumeralModel, numerals_by_value, tells_all_ascii_digits, digit_at, parse_plain}
use Rattle.std.proofs.lemmas.Bool.{and_from, both_ways, cases_eq, cond-true, cond-false, false_from_ne_true, lt-ltb}
use Rattle.std.proofs.lemmas.Str.{IsUtf8-from_ascii}
use Rattle.std.proofs.lemmas.Bool.Decides.{nat_tests}
use Rattle.decimals.specs.Decimals.{begins, read_decimal}

own : IsNumeralModel (λ ds. all_ascii_digits ds ≡ true) (digits_value 10)
own = numerals_by_value _ tells_all_ascii_digits

-- what the definition of `read_decimal` tests
abbrev reads : List ℕ → Bool
reads ds = begins ds && (all_ascii_digits ds && ltb (digits_value 10 ds) (2 ^ 64))

read_some : (ds : List ℕ) → reads ds ≡ true → read_decimal ds ≡ Some (digits_value 10 ds)
unfolding read_decimal
read_some ds = cond-true (reads ds) (Some (digits_value 10 ds)) None

read_none : (ds : List ℕ) → (reads ds ≡ true → ⊥) → read_decimal ds ≡ None
unfolding read_decimal
read_none ds no_read = cond-false (reads ds) (Some (digits_value 10 ds)) None (false_from_ne_true (reads ds) no_read)

some_read : (ds : List ℕ) (n : ℕ) → read_decimal ds ≡ Some n → (reads ds ≡ true) × (digits_value 10 ds ≡ n)
unfolding read_decimal
some_read ds n = cond_some (reads ds) (digits_value 10 ds) n

parts : (ds : List ℕ) → reads ds ≡ true → (begins ds ≡ true) × (all_ascii_digits ds ≡ true) × (digits_value 10 ds < 2 ^ 64)
parts ds e = grind (arith, nat_tests)

whole : (ds : List ℕ) → begins ds ≡ true → all_ascii_digits ds ≡ true → digits_value 10 ds < 2 ^ 64 → reads ds ≡ true
whole ds b d small = and_from (begins ds) _ b (and_from (all_ascii_digits ds) _ d (lt-ltb (digits_value 10 ds) (2 ^ 64) small))

-- a text that begins well is not empty, and has no leading zero
begins_some : (ds : List ℕ) → begins ds ≡ true → 0 < length ds
begins_some [] e = cc
begins_some (d ∷ ds) e = omega arith

begins_zero : (ds : List ℕ) → begins ds ≡ true → get_or ds 0 0 ≡ 48 → length ds ≡ 1
begins_zero ds e z = grind (arith, nat_tests)

begins_digit : (ds : List ℕ) → begins ds ≡ true → get_or ds 0 0 ≡ 43 → ⊥
begins_digit ds e z = grind (arith, nat_tests)

pub only_decimal : (ds : List ℕ) (n : ℕ) → read_decimal ds ≡ Some n → ds ≡ decimal n
only_decimal ds n e =
    let r = some_read ds n e in
    let p = parts ds r.0 in
    sym (decimal-digits_value own ds p.1 (begins_some ds p.0) (begins_zero ds p.0) p.2) ∙ ap decimal r.1

pub decimal_digits : (n : ℕ) → n < 2 ^ 64 → all_ascii_digits (decimal n) ≡ true
decimal_digits = digits_decimal own

pub begins_decimal : (n : ℕ) → n < 2 ^ 64 → begins (decimal n) ≡ true
begins_decimal n h = by (cases_eq n 0)
  where
    by : ((n ≡ 0) ⊎ (n ≡ 0 → ⊥)) → begins (decimal n) ≡ true
    by (inl e) = ap (λ m. begins (decimal m)) e ∙ ap begins (decimal_digit 0 (omega arith))
    by (inr e) =
        let low = first_decimal n (omega arith) h in
        let high = digit_at (decimal n) 0 (own.to (decimal n) (decimal_digits n h)) (decimal_nonempty n h) in
        grind (arith, nat_tests)

pub back_decimal : (n : ℕ) → n < 2 ^ 64 → read_decimal (decimal n) ≡ Some n
back_decimal n h =
    let v = digits_value-decimal own n h in
    let small : digits_value 10 (decimal n) < 2 ^ 64 = rw v h in
    read_some (decimal n) (whole (decimal n) (begins_decimal n h) (decimal_digits n h) small) ∙ ap Some v

-- what the steps of `read_decimal` answer
pub parsed : {E : Type 0} (ds : List ℕ) (r : Result ℕ E) → begins ds ≡ true → ParsesUnsigned 64 10 ds r → result_ok r ≡ read_decimal ds
parsed {E} ds r b h = by r (parse_plain own 64 ds r h (begins_digit ds b))
  where
    by : (r : Result ℕ E) → OkIff r ((all_ascii_digits ds ≡ true) × (0 < length ds) × (digits_value 10 ds < 2 ^ 64)) (digits_value 10 ds) → result_ok r ≡ read_decimal ds
    by (Ok n) (p, e) = ap Some e ∙ sym (read_some ds (whole ds b p.0 p.2))
    by (Err x) none = sym (read_none ds (λ e. none ((parts ds e).1, begins_some ds b, (parts ds e).2)))

pub not_text : (ds : List ℕ) → (IsUtf8 ds → ⊥) → None ≡ read_decimal ds
not_text ds no_text = sym (read_none ds (λ e. no_text (IsUtf8-from_ascii ds (IsAscii-from_digits ds (own.to ds (parts ds e).1)))))

pub not_begun : (ds : List ℕ) → begins ds ≡ false → None ≡ read_decimal ds
not_begun ds f = sym (read_none ds (λ e. both_ways (begins ds) f (parts ds e).0))

pub ruleset read_steps = (not_begun, not_text, parsed, only_decimal, back_decimal, begins_decimal)
