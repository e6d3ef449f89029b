-- Eight bytes, or a text, that read as a choice are its image, or its text, and give it back.
use Rattle.std.proofs.Common.{◌≡◌, ℕ, ◌+◌, ◌^◌, ◌<◌, Bool, true, false, ◌⊎◌, List, [], ◌∷◌, length, get_or, take, drop, Some, None, decimal, Option, sym, refl, ap, ◌∙◌, inl, inr, true≢false, arith}
use mathlib.Core.Bool.{Bool-set}
use lib.Seq.{take-append_seam, drop-append-add}
use Rattle.std.proofs.lemmas.Bool.{cases_Bool, cond-true, cond-false}
use Rattle.std.proofs.lemmas.Bool.Decides.{nat_tests}
use Rattle.choices.specs.declared.choice.Choice.{Choice}
use Rattle.choices.specs.ChoiceForms.{choice_if, choice_of, choice_image, is_choice_image, choice_of_image, slash, choice_text, first_slash, choice_from, choice_around, choice_of_text}
use Rattle.decimals.specs.Decimals.{read_decimal}
use Rattle.choices.specs.Regions.{is_choice}
use Rattle.kinds.specs.Words.{bytes16, word16}
use Rattle.std.proofs.lemmas.Option.{none-some}
use Rattle.decimals.proofs.DecimalLaws.{only_decimal, back_decimal, decimal_digits}
use Rattle.choices.proofs.SlashLaws.{slash_splits, slash_after}
use Rattle.kinds.proofs.WordLaws.{half_of_bytes, eight}

abbrev kept : (region edition : ℕ) → is_choice region edition ≡ true → Choice
kept region edition e = record { region = region; edition = edition; lawful = e }

choice_if_some : (r e : ℕ) (b : Bool) (p : is_choice r e ≡ b) (t : is_choice r e ≡ true) → choice_if r e b p ≡ Some (kept r e t)
choice_if_some r e true p t = ap (λ q. Some (kept r e q)) (Bool-set (is_choice r e) true p t)
choice_if_some r e false p t = absurd (true≢false (sym t ∙ p))

choice_if_none : (r e : ℕ) (b : Bool) (p : is_choice r e ≡ b) → is_choice r e ≡ false → choice_if r e b p ≡ None
choice_if_none r e true p f = absurd (true≢false (sym p ∙ f))
choice_if_none r e false p f = refl

choice_if_only : (r e : ℕ) (b : Bool) (p : is_choice r e ≡ b) (c : Choice) → choice_if r e b p ≡ Some c → (c.region ≡ r) × (c.edition ≡ e)
choice_if_only r e true p c q =
    let same : kept r e p ≡ c = cc in
    (sym (ap (λ d. d.region) same), sym (ap (λ d. d.edition) same))
choice_if_only r e false p c q = absurd (none-some _ q)

-- what a lawful pair makes, and an unlawful one
pub choice_some : (r e : ℕ) (t : is_choice r e ≡ true) → Some (kept r e t) ≡ choice_of r e
unfolding choice_of
choice_some r e t = sym (choice_if_some r e (is_choice r e) refl t)

pub choice_none : (r e : ℕ) → is_choice r e ≡ false → None ≡ choice_of r e
unfolding choice_of
choice_none r e f = sym (choice_if_none r e (is_choice r e) refl f)

pub choice_only : (r e : ℕ) (c : Choice) → choice_of r e ≡ Some c → (c.region ≡ r) × (c.edition ≡ e)
unfolding choice_of
choice_only r e = choice_if_only r e (is_choice r e) refl

again : (c : Choice) → choice_of c.region c.edition ≡ Some c
again c = sym (choice_some c.region c.edition c.lawful)

-- images
pub back_choice_image : (c : Choice) → choice_of_image (choice_image c) ≡ Some c
back_choice_image c =
    let l = c.lawful in
    let small : c.edition < 2 ^ 16 = grind (arith, nat_tests) in
    ap (choice_of c.region) (half_of_bytes c.edition small) ∙ again c

pub only_choice_image : (xs : List ℕ) → length xs ≡ 8 → bytes16 (word16 (get_or xs 2 0) (get_or xs 3 0)) ≡ get_or xs 2 0 ∷ get_or xs 3 0 ∷ [] → (c : Choice) → choice_of_image xs ≡ Some c → xs ≡ choice_image c
only_choice_image xs long half c e = by (cases_Bool (is_choice_image xs))
  where
    read : Option Choice
    read = choice_of (get_or xs 1 0) (word16 (get_or xs 2 0) (get_or xs 3 0))

    by : ((is_choice_image xs ≡ true) ⊎ (is_choice_image xs ≡ false)) → xs ≡ choice_image c
    by (inl t) =
        let kind : get_or xs 0 0 ≡ 0x43 = grind (arith, nat_tests) in
        let four : get_or xs 4 0 ≡ 0 = grind (arith, nat_tests) in
        let five : get_or xs 5 0 ≡ 0 = grind (arith, nat_tests) in
        let six : get_or xs 6 0 ≡ 0 = grind (arith, nat_tests) in
        let seven : get_or xs 7 0 ≡ 0 = grind (arith, nat_tests) in
        let fields = choice_only (get_or xs 1 0) (word16 (get_or xs 2 0) (get_or xs 3 0)) c (sym (cond-true (is_choice_image xs) read None t) ∙ e) in
        let edition = ap bytes16 fields.1 ∙ half in
        let all = eight xs long in
        cc
    by (inr f) = absurd (none-some _ (sym (cond-false (is_choice_image xs) read None f) ∙ e))

from_only : (a b : Option ℕ) (c : Choice) → choice_from a b ≡ Some c → (a ≡ Some c.region) × (b ≡ Some c.edition)
from_only None b c e = absurd (none-some _ e)
from_only (Some r) None c e = absurd (none-some _ e)
from_only (Some r) (Some n) c e = let p = choice_only r n c e in (ap Some (sym p.0), ap Some (sym p.1))

-- texts
pub only_choice_text : (bs : List ℕ) (c : Choice) → choice_of_text bs ≡ Some c → bs ≡ choice_text c
only_choice_text bs c e = by (first_slash bs) refl e
  where
    by : (o : Option ℕ) → first_slash bs ≡ o → choice_around bs o ≡ Some c → bs ≡ choice_text c
    by None h e = absurd (none-some _ e)
    by (Some at) h e =
        let p = from_only (read_decimal (take at bs)) (read_decimal (drop (at + 1) bs)) c e in
        let region = only_decimal (take at bs) c.region p.0 in
        let edition = only_decimal (drop (at + 1) bs) c.edition p.1 in
        let split = slash_splits bs at h in
        cc

pub back_choice_text : (c : Choice) → choice_of_text (choice_text c) ≡ Some c
back_choice_text c =
    let l = c.lawful in
    let small : c.region < 2 ^ 64 = grind (arith, nat_tests) in
    let short : c.edition < 2 ^ 64 = grind (arith, nat_tests) in
    let ds = decimal c.region in
    let es = decimal c.edition in
    let region = ap read_decimal (take-append_seam ds (slash ∷ es)) ∙ back_decimal c.region small in
    let edition = ap read_decimal (drop-append-add ds (slash ∷ es) 1) ∙ back_decimal c.edition short in
    ap (choice_around (choice_text c)) (slash_after ds es (decimal_digits c.region small))
    ∙ ap (λ a. choice_from a (read_decimal (drop (length ds + 1) (choice_text c)))) region
    ∙ ap (choice_from (Some c.region)) edition
    ∙ again c

-- numbers past their bounds choose nothing
pub from_high_region : (r : ℕ) (b : Option ℕ) → 95 < r → None ≡ choice_from (Some r) b
from_high_region r None h = refl
from_high_region r (Some e) h = choice_none r e (grind (arith, nat_tests))

pub from_high_edition : (a : Option ℕ) (e : ℕ) → 65535 < e → None ≡ choice_from a (Some e)
from_high_edition None e h = refl
from_high_edition (Some r) e h = choice_none r e (grind (arith, nat_tests))
