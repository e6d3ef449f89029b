-- A line asks what its text says, and a text that says it is read so.
use Rattle.std.proofs.Common.{◌≡◌, ℕ, zero, suc, ◌<◌, ◌≤◌, true, cond, ◌&&◌, eqb, leb, ltb, List, [], ◌∷◌, ◌++◌, length, get_or, drop, Some, None, Ok, decimal, Option, sym, refl, ap, ◌∙◌, subst, arith}
use Rattle.std.proofs.lemmas.Fmt.{decimal_is_IsNumeral}
use Rattle.std.proofs.lemmas.Str.Parse.{digit_at}
use Rattle.std.proofs.lemmas.Bool.{and_from, and_parts, eqb-true, le-leb, leb-true, lt-ltb, ltb-true, cond-true, cond_both}
use Rattle.decimals.specs.Decimals.{read_decimal}
use Rattle.decimals.proofs.DecimalLaws.{only_decimal, back_decimal}
use Rattle.kinds.specs.KindNames.{is_byte, kind_of}
use Rattle.kinds.specs.declared.name.KindName.{KindName}
use Rattle.kinds.specs.declared.name.KindName.TheVariants.{Batch, Choice}
use Rattle.script.specs.Fields.{comma}
use Rattle.script.specs.Shapes.{Asked, opens, proposes, goes, waits, follows, suspects, number_of, two_fields, open_of, propose_of, numbers_of, shape, is_line, whole_line, line_of}
use Rattle.script.specs.LineTexts.{kind_text, line_text, NoComma, Fit, Writes}
use Rattle.script.proofs.Options.{map_some, zip_some}
use Rattle.std.specs.Option.{option_and_then, option_map, option_zip, ok_or}
use Rattle.std.proofs.lemmas.Option.{none-some, same_Some, cond_some, option_and_then_some}
use Rattle.script.proofs.TwoFields.{two_only, two_back}

abbrev below_256 : ℕ → Option ℕ
below_256 n = cond (ltb n 256) (Some n) None

-- numbers
number_only : (ds : List ℕ) (n : ℕ) → number_of ds ≡ Some n → (ds ≡ decimal n) × (n < 256)
number_only ds n e = option_and_then_some below_256 (read_decimal ds) n e found
  where
    found : (m : ℕ) → read_decimal ds ≡ Some m → below_256 m ≡ Some n → (ds ≡ decimal n) × (n < 256)
    found m is c =
        let t = cond_some (ltb m 256) m n c in
        (only_decimal ds n (is ∙ ap Some t.1), omega (arith, ltb-true m 256 t.0))

number_back : (n : ℕ) → n < 256 → number_of (decimal n) ≡ Some n
number_back n h = ap (option_and_then below_256) (back_decimal n (omega arith)) ∙ cond-true _ _ _ (lt-ltb n 256 h)

decimal_free : (n : ℕ) → n < 256 → NoComma (decimal n)
decimal_free n h k inside c =
    let digit = digit_at (decimal n) k (decimal_is_IsNumeral n (omega arith)).0.1 inside in
    omega (arith, digit, c)

-- kinds
one_byte : (b : ℕ) (text : List ℕ) → is_byte b text ≡ true → text ≡ b ∷ []
one_byte b [] e = cc
one_byte b (x ∷ []) e = ap (λ y. y ∷ []) (eqb-true x b e)
one_byte b (x ∷ y ∷ more) e = absurd (omega (arith, eqb-true _ _ (and_parts (eqb (length (x ∷ y ∷ more)) 1) (eqb x b) e).0))

kind_only : (text : List ℕ) (k : KindName) → kind_of text ≡ Some k → text ≡ kind_text k
kind_only text k =
    cond_both (is_byte 66 text) (Some Batch) (cond (is_byte 67 text) (Some Choice) None) (λ o. o ≡ Some k → text ≡ kind_text k)
    (λ e p. one_byte 66 text e ∙ ap kind_text (same_Some Batch k p))
    (λ _. cond_both (is_byte 67 text) (Some Choice) None (λ o. o ≡ Some k → text ≡ kind_text k) (λ e p. one_byte 67 text e ∙ ap kind_text (same_Some Choice k p)) (λ _ p. absurd (none-some k p)))

kind_back : (k : KindName) → kind_of (kind_text k) ≡ Some k
kind_back Batch = refl
kind_back Choice = refl

kind_free : (k : KindName) → NoComma (kind_text k)
kind_free Batch zero h c = omega (arith, c)
kind_free Batch (suc k) h c = omega (arith, h)
kind_free Choice zero h c = omega (arith, c)
kind_free Choice (suc k) h c = omega (arith, h)

-- a letter and the rest of a line say what is asked
abbrev Says : ℕ → List ℕ → Asked → Type 0
Says letter rest a = (letter ∷ comma ∷ rest ≡ line_text a) × Fit a

parts_are : (letter : ℕ) (rest x y x' y' : List ℕ) → rest ≡ x ++ (comma ∷ y) → x ≡ x' → y ≡ y' → letter ∷ comma ∷ rest ≡ letter ∷ comma ∷ (x' ++ (comma ∷ y'))
parts_are letter rest x y x' y' e p q = cc

open_only : (rest : List ℕ) (a : Asked) → open_of (two_fields rest) ≡ Some a → Says 79 rest a
open_only rest a = by (two_fields rest) refl
  where
    by : (o : Option (List ℕ × List ℕ)) → two_fields rest ≡ o → open_of o ≡ Some a → Says 79 rest a
    by None e p = absurd (none-some a p)
    by (Some (x, y)) e p =
        let t = two_only rest x y e in
        let m = map_some _ _ a p in
        let z = zip_some (number_of x) (kind_of y) m.0 m.1 in
        let n = number_only x m.0.0 z.0 in
        subst (Says 79 rest) m.2 (parts_are 79 rest x y (decimal m.0.0) (kind_text m.0.1) t.whole n.0 (kind_only y m.0.1 z.1), n.1)

propose_only : (rest : List ℕ) (a : Asked) → propose_of (two_fields rest) ≡ Some a → Says 80 rest a
propose_only rest a = by (two_fields rest) refl
  where
    by : (o : Option (List ℕ × List ℕ)) → two_fields rest ≡ o → propose_of o ≡ Some a → Says 80 rest a
    by None e p = absurd (none-some a p)
    by (Some (x, y)) e p =
        let t = two_only rest x y e in
        let m = map_some (λ i. proposes i y) (number_of x) a p in
        let n = number_only x m.0 m.1 in
        subst (Says 80 rest) m.2 (parts_are 80 rest x y (decimal m.0) y t.whole n.0 refl, (n.1, t.second_free))

-- a letter with one number
one_only : (letter : ℕ) (ask : ℕ → Asked) → ((i : ℕ) → letter ∷ comma ∷ decimal i ≡ line_text (ask i)) → ((i : ℕ) → i < 256 → Fit (ask i)) → (rest : List ℕ) (a : Asked) → option_map ask (number_of rest) ≡ Some a → Says letter rest a
one_only letter ask text fit rest a e =
    let m = map_some ask (number_of rest) a e in
    let n = number_only rest m.0 m.1 in
    subst (Says letter rest) m.2 (ap (λ r. letter ∷ comma ∷ r) n.0 ∙ text m.0, fit m.0 n.1)

-- two numbers
pub record TwoNumbers (rest : List ℕ) (i n : ℕ) : Type 0 where
  pub whole : rest ≡ decimal i ++ (comma ∷ decimal n)
  pub first : i < 256
  pub second : n < 256

numbers_only : (rest : List ℕ) (p : ℕ × ℕ) → numbers_of (two_fields rest) ≡ Some p → TwoNumbers rest p.0 p.1
numbers_only rest p = by (two_fields rest) refl
  where
    by : (o : Option (List ℕ × List ℕ)) → two_fields rest ≡ o → numbers_of o ≡ Some p → TwoNumbers rest p.0 p.1
    by None e q = absurd (none-some p q)
    by (Some (x, y)) e q =
        let z = zip_some (number_of x) (number_of y) p q in
        let a = number_only x p.0 z.0 in
        let b = number_only y p.1 z.1 in
        record { whole = (two_only rest x y e).whole ∙ ap (λ u. u ++ (comma ∷ y)) a.0 ∙ ap (λ v. decimal p.0 ++ (comma ∷ v)) b.0; first = a.1; second = b.1 }

-- a letter with two numbers
both_only : (letter : ℕ) (ask : ℕ → ℕ → Asked) → ((i n : ℕ) → letter ∷ comma ∷ (decimal i ++ (comma ∷ decimal n)) ≡ line_text (ask i n)) → ((i n : ℕ) → i < 256 → n < 256 → Fit (ask i n)) → (rest : List ℕ) (a : Asked) → option_map (λ p. ask p.0 p.1) (numbers_of (two_fields rest)) ≡ Some a → Says letter rest a
both_only letter ask text fit rest a e =
    let m = map_some (λ (p : ℕ × ℕ). ask p.0 p.1) (numbers_of (two_fields rest)) a e in
    let w = numbers_only rest m.0 m.1 in
    subst (Says letter rest) m.2 (ap (λ r. letter ∷ comma ∷ r) w.whole ∙ text m.0.0 m.0.1, fit m.0.0 m.0.1 w.first w.second)

-- one letter of several: what holds of its rule holds of the line
letter_or : (letter b : ℕ) (rest : List ℕ) (a : Asked) (x y : Option Asked) → (x ≡ Some a → Says b rest a) → (y ≡ Some a → Says letter rest a) → cond (eqb letter b) x y ≡ Some a → Says letter rest a
letter_or letter b rest a x y here there = cond_both (eqb letter b) x y (λ o. o ≡ Some a → Says letter rest a) (λ e p. subst (λ l. Says l rest a) (sym (eqb-true letter b e)) (here p)) (λ _. there)

shape_only : (letter : ℕ) (rest : List ℕ) (a : Asked) → shape letter rest ≡ Some a → Says letter rest a
shape_only l rest a =
    letter_or l 79 rest a _ _ (open_only rest a)
    (letter_or l 80 rest a _ _ (propose_only rest a)
    (letter_or l 71 rest a _ _ (one_only 71 goes (λ _. refl) (λ _ h. h) rest a)
    (letter_or l 87 rest a _ _ (one_only 87 waits (λ _. refl) (λ _ h. h) rest a)
    (letter_or l 76 rest a _ _ (both_only 76 follows (λ _ _. refl) (λ _ _ h k. (h, k)) rest a)
    (letter_or l 83 rest a _ _ (both_only 83 suspects (λ _ _. refl) (λ _ _ h k. (h, k)) rest a) (λ p. absurd (none-some a p)))))))

-- a line that is read is the text of what it asks
asked_some : (o : Option Asked) (refusal : ℕ) (a : Asked) → ok_or o refusal ≡ Ok a → o ≡ Some a
asked_some None refusal a e = cc
asked_some (Some b) refusal a e = cc

apart : (bytes : List ℕ) → 2 ≤ length bytes → get_or bytes 1 0 ≡ comma → bytes ≡ get_or bytes 0 0 ∷ comma ∷ drop 2 bytes
apart [] h e = absurd (omega arith)
apart (x ∷ []) h e = absurd (omega arith)
apart (x ∷ y ∷ more) h e = ap (λ c. x ∷ c ∷ more) e

pub line_only : (bytes : List ℕ) (a : Asked) → line_of bytes ≡ Ok a → Writes bytes a
line_only bytes a p = cond_both (is_line bytes) (shape (get_or bytes 0 0) (drop 2 bytes)) None (λ o. o ≡ Some a → Writes bytes a) found (λ _ e. absurd (none-some a e)) (asked_some (whole_line bytes) 13 a p)
  where
    found : is_line bytes ≡ true → shape (get_or bytes 0 0) (drop 2 bytes) ≡ Some a → Writes bytes a
    found t e =
        let most = and_parts (leb (length bytes) 40) (leb 2 (length bytes) && eqb (get_or bytes 1 0) comma) t in
        let rest = and_parts (leb 2 (length bytes)) (eqb (get_or bytes 1 0) comma) most.1 in
        let says = shape_only (get_or bytes 0 0) (drop 2 bytes) a e in
        record { text = apart bytes (leb-true _ _ rest.0) (eqb-true _ _ rest.1) ∙ says.0; short = leb-true _ _ most.0; fit = says.1 }

-- and the text of what is asked is read so
rule_back : (letter : ℕ) (rest : List ℕ) (a : Asked) → shape letter rest ≡ Some a → length (letter ∷ comma ∷ rest) ≤ 40 → line_of (letter ∷ comma ∷ rest) ≡ Ok a
rule_back letter rest a is short =
    let line : List ℕ = letter ∷ comma ∷ rest in
    let least : leb 2 (length line) ≡ true = le-leb 2 (length line) (omega arith) in
    let fits : is_line line ≡ true = and_from (leb (length line) 40) _ (le-leb _ _ short) (and_from (leb 2 (length line)) _ least refl) in
    ap (λ o. ok_or o 13) (cond-true _ _ _ fits ∙ is)

both_back : (i n : ℕ) → i < 256 → n < 256 → numbers_of (two_fields (decimal i ++ (comma ∷ decimal n))) ≡ Some (i, n)
both_back i n p q =
    ap numbers_of (two_back (decimal i) (decimal n) (decimal_free i p) (decimal_free n q))
    ∙ ap (λ u. option_zip u (number_of (decimal n))) (number_back i p)
    ∙ ap (option_zip (Some i)) (number_back n q)

abbrev opened : Option (ℕ × KindName) → Option Asked
opened o = option_map (λ p. opens p.0 p.1) o

text_back : (a : Asked) → Fit a → length (line_text a) ≤ 40 → line_of (line_text a) ≡ Ok a
text_back (opens n k) f short = rule_back 79 (decimal n ++ (comma ∷ kind_text k)) (opens n k) (ap open_of (two_back (decimal n) (kind_text k) (decimal_free n f) (kind_free k)) ∙ ap (λ u. opened (option_zip u (kind_of (kind_text k)))) (number_back n f) ∙ ap (λ u. opened (option_zip (Some n) u)) (kind_back k)) short
text_back (proposes i value) f short = rule_back 80 (decimal i ++ (comma ∷ value)) (proposes i value) (ap propose_of (two_back (decimal i) value (decimal_free i f.0) f.1) ∙ ap (option_map (λ n. proposes n value)) (number_back i f.0)) short
text_back (goes i) f short = rule_back 71 (decimal i) (goes i) (ap (option_map goes) (number_back i f)) short
text_back (waits i) f short = rule_back 87 (decimal i) (waits i) (ap (option_map waits) (number_back i f)) short
text_back (follows i n) f short = rule_back 76 (decimal i ++ (comma ∷ decimal n)) (follows i n) (ap (option_map (λ p. follows p.0 p.1)) (both_back i n f.0 f.1)) short
text_back (suspects i n) f short = rule_back 83 (decimal i ++ (comma ∷ decimal n)) (suspects i n) (ap (option_map (λ p. suspects p.0 p.1)) (both_back i n f.0 f.1)) short

pub line_back : (bytes : List ℕ) (a : Asked) → Writes bytes a → line_of bytes ≡ Ok a
line_back bytes a w = ap line_of w.text ∙ text_back a w.fit (subst (λ b. length b ≤ 40) w.text w.short)
