-- Two fields and the comma between them make the text, and only so.
use Rattle.std.proofs.Common.{◌≡◌, ℕ, ◌+◌, ◌-◌, ◌<◌, true, eqb, ltb, List, ◌∷◌, ◌++◌, length, take, drop, Some, Option, sym, ap, ◌∙◌, subst, arith, length-append, length-drop, length-take, get_or-drop, get_or-take}
use Rattle.std.proofs.Math.Seq.{take-append_seam, drop-append-add, get_or-append_seam}
use Rattle.std.proofs.lemmas.List.Sums.{split_at_first, passes_at_first, position_or_len_is}
use Rattle.std.specs.List.{before_first, after_first}
use Rattle.std.proofs.lemmas.List.{take_all, get_or_append_left}
use Rattle.std.proofs.lemmas.Bool.{and_from, and_parts, eq-eqb, eqb-true, ne_eqb, lt-ltb, ltb-true, cond-true}
use Rattle.script.specs.Fields.{comma, is_comma, before_comma, field_end}
use Rattle.script.specs.Shapes.{are_two, first_field, second_field, two_fields}
use Rattle.script.specs.LineTexts.{NoComma}
use Rattle.std.proofs.lemmas.Option.{cond_some}
use Rattle.script.proofs.FieldLaws.{parted}

pub record Two (text a b : List ℕ) : Type 0 where
  pub whole : text ≡ a ++ (comma ∷ b)
  pub first_free : NoComma a
  pub second_free : NoComma b

abbrev pub pair : List ℕ → List ℕ → Option (List ℕ × List ℕ)
pair a b = Some (a, b)

-- from a text that has two
module _ (text : List ℕ) (inside : field_end text 0 < length text) (last : field_end text (field_end text 0 + 1) ≡ length text) where
  first_is : first_field text ≡ take (field_end text 0) text
  first_is = let same : field_end text 0 - 0 ≡ field_end text 0 = omega arith in ap (λ n. take n text) same

  second_is : second_field text ≡ drop (field_end text 0 + 1) text
  second_is = take_all _ (drop (field_end text 0 + 1) text) (omega (arith, length-drop (field_end text 0 + 1) text, last))

  joined : text ≡ take (field_end text 0) text ++ (comma ∷ drop (field_end text 0 + 1) text)
  joined =
      let within : before_comma text < length text = omega arith in
      let split = split_at_first is_comma text 0 within ∙ ap (λ c. before_first is_comma text ++ (c ∷ after_first is_comma text)) (eqb-true _ _ (passes_at_first is_comma text 0 within)) in
      let at_start : before_comma text ≡ field_end text 0 = omega arith in
      subst (λ n. text ≡ take n text ++ (comma ∷ drop (n + 1) text)) at_start split

  free_first : NoComma (take (field_end text 0) text)
  free_first k h c =
      let short : k < field_end text 0 = omega (arith, length-take (field_end text 0) text) in
      (parted text 0 (omega arith)).no_comma k (omega arith) short (sym (get_or-take (field_end text 0) text k 0 short) ∙ c)

  free_second : NoComma (drop (field_end text 0 + 1) text)
  free_second k h c =
      let s : ℕ = field_end text 0 + 1 in
      let inner : s + k < field_end text s = omega (arith, length-drop s text, last) in
      (parted text s (omega arith)).no_comma (s + k) (omega arith) inner (sym (get_or-drop s text k 0) ∙ c)

  two_parts : Two text (first_field text) (second_field text)
  two_parts = record {
    whole = joined ∙ ap (λ a. a ++ (comma ∷ drop (field_end text 0 + 1) text)) (sym first_is) ∙ ap (λ b. first_field text ++ (comma ∷ b)) (sym second_is);
    first_free = subst NoComma (sym first_is) free_first;
    second_free = subst NoComma (sym second_is) free_second;
  }

pub two_only : (text a b : List ℕ) → two_fields text ≡ pair a b → Two text a b
two_only text a b e =
    let c = cond_some (are_two text) (first_field text, second_field text) (a, b) e in
    let p = and_parts (ltb (field_end text 0) (length text)) (eqb (field_end text (field_end text 0 + 1)) (length text)) c.0 in
    let two = two_parts text (ltb-true _ _ p.0) (eqb-true _ _ p.1) in
    subst (λ (q : List ℕ × List ℕ). Two text q.0 q.1) c.1 two

-- from two fields
all_free : (b : List ℕ) → NoComma b → before_comma b ≡ length b
all_free b free = position_or_len_is is_comma b (length b) 0 (omega arith) (λ k h. ne_eqb _ _ (free k h)) (λ h. absurd (omega arith))

front_free : (a b : List ℕ) → NoComma a → before_comma (a ++ (comma ∷ b)) ≡ length a
front_free a b free =
    position_or_len_is is_comma (a ++ (comma ∷ b)) (length a) 0 (omega (arith, length-append a (comma ∷ b)))
    (λ k h. ne_eqb _ _ (λ e. free k h (sym (get_or_append_left a (comma ∷ b) 0 k h) ∙ e)))
    (λ _. eq-eqb _ _ (get_or-append_seam a comma b 0))

module _ (a b : List ℕ) (free_a : NoComma a) (free_b : NoComma b) where
  abbrev text : List ℕ
  text = a ++ (comma ∷ b)

  size : length text ≡ length a + (length b + 1)
  size = omega (arith, length-append a (comma ∷ b))

  ends_first : field_end text 0 ≡ length a
  ends_first = omega (arith, front_free a b free_a)

  rest : drop (length a + 1) text ≡ b
  rest = drop-append-add a (comma ∷ b) 1

  ends_second : field_end text (length a + 1) ≡ length text
  ends_second = let all : before_comma (drop (length a + 1) text) ≡ length b = ap before_comma rest ∙ all_free b free_b in omega (arith, size)

  ends_there : field_end text (field_end text 0 + 1) ≡ length text
  ends_there = ap (λ n. field_end text (n + 1)) ends_first ∙ ends_second

  are : are_two text ≡ true
  are = and_from _ _ (lt-ltb _ _ (omega (arith, ends_first, size))) (eq-eqb _ _ ends_there)

  first_same : first_field text ≡ a
  first_same = let n : field_end text 0 - 0 ≡ length a = omega (arith, ends_first) in ap (λ n. take n text) n ∙ take-append_seam a (comma ∷ b)

  second_same : second_field text ≡ b
  second_same =
      take_all _ (drop (field_end text 0 + 1) text) (omega (arith, length-drop (field_end text 0 + 1) text, ends_there))
      ∙ ap (λ n. drop (n + 1) text) ends_first
      ∙ rest

  pub two_back : two_fields (a ++ (comma ∷ b)) ≡ pair a b
  two_back = cond-true _ _ _ are ∙ ap (λ x. pair x (second_field text)) first_same ∙ ap (pair a) second_same
