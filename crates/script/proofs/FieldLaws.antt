-- Where a field ends, and the law that it keeps.
use Rattle.std.proofs.Common.{◌≡◌, ℕ, ◌+◌, ◌-◌, ◌≤◌, List, length, get_or, drop, sym, ap, ◌∙◌, arith, length-drop, get_or-drop, ltb, Some, None, refl}
use Rattle.std.specs.Prelude.{position, unwrap_or, slice_range}
use Rattle.std.proofs.lemmas.List.{take_all}
use Rattle.std.proofs.lemmas.List.Sums.{prefix_len-le-length, fails_before_first, passes_at_first}
use Rattle.std.proofs.lemmas.Bool.{eqb-true, eqb-false, cond_both, ltb-false}
use Rattle.script.specs.Fields.{is_comma, before_comma, field_end, Parted}

pub before_within : (text : List ℕ) → before_comma text ≤ length text
before_within text = prefix_len-le-length _ text

before_found : (text : List ℕ) → unwrap_or (position is_comma text) (length text) ≡ before_comma text
before_found text =
    cond_both (ltb (before_comma text) (length text)) (Some (before_comma text)) None (λ o. unwrap_or o (length text) ≡ before_comma text)
    (λ _. refl)
    (λ e. omega (arith, before_within text, ltb-false (before_comma text) (length text) e))

-- as `field_at` finds it: the first comma of what is left of the line, or else its end
pub end_found : (line rest : List ℕ) (start : ℕ) → rest ≡ slice_range line start (length line) → start + unwrap_or (position is_comma rest) (length rest) ≡ field_end line start
end_found line rest start e = ap (λ n. start + n) (before_found rest ∙ ap before_comma (e ∙ take_all _ (drop start line) (omega (arith, length-drop start line))))

pub parted : (line : List ℕ) (start : ℕ) → start ≤ length line → Parted line start (field_end line start)
parted line start h =
    let rest : List ℕ = drop start line in
    let size = length-drop start line in
    record {
      ordered = omega arith;
      within = omega (arith, before_within rest, size);
      no_comma = λ k p q e.
          let same : start + (k - start) ≡ k = omega arith in
          eqb-false _ _ (fails_before_first is_comma rest (k - start) 0 (omega arith)) (get_or-drop start line (k - start) 0 ∙ ap (λ j. get_or line j 0) same ∙ e);
      ends = λ p. sym (get_or-drop start line (before_comma rest) 0) ∙ eqb-true _ _ (passes_at_first is_comma rest 0 (omega (arith, size)));
    }
