-- A look-up goes over the registers one by one.
use Rattle.std.proofs.Common.{◌≡◌, ◌≢◌, ℕ, ◌+◌, ◌-◌, ◌≤◌, true, List, ◌∷◌, length, get_or, drop, is_some, Some, None, Ok, Err, Option, Result, sym, refl, ap, ◌∙◌, subst, true≢false, arith, below_more}
use Rattle.std.proofs.lemmas.List.{drop_more, drop_all}
use Rattle.registers.specs.declared.tag.Tag.{Tag}
use Rattle.registers.specs.declared.tag.Tag.TheVariants.{None as Untagged, Pro, Dec}
use Rattle.registers.specs.declared.record.Record.{Record}
use Rattle.registers.specs.Lawful.{Accepts}
use Rattle.registers.specs.Cells.{Cell, cell_answer, read_answer}
use Rattle.registers.specs.Decision.{by_tag, shown, Undecided, UndecidedBefore, DecidedWith, Looked}
use Rattle.registers.proofs.Making.{lawful}
use Rattle.registers.proofs.Answering.{reads}

module _ {V : Type 0} where
  -- what the next register shows, by what its read answers
  abbrev onward : Result (Record V) ℕ → Result (Option V) ℕ → Result (Option V) ℕ
  onward (Ok r) rest = by_tag r.fields.tag r.fields.value rest
  onward (Err e) rest = Err e

  step : (o : Cell V) (cs : List (Cell V)) → shown (o ∷ cs) ≡ onward (cell_answer o) (shown cs)
  step None cs = refl
  step (Some r) cs = refl

  answered : (o : Cell V) (r : Record V) → cell_answer o ≡ Ok r → o ≡ Some r
  answered None r e = let z : ◌≡◌ {A = ℕ} 0 1 = cc in let n : ⊥ = omega arith in absurd n
  answered (Some x) r e = cc

  other_tag : (t : Tag) (v : Option V) (rest : Result (Option V) ℕ) → (t ≡ Dec → ⊥) → by_tag t v rest ≡ rest
  other_tag Untagged v rest n = refl
  other_tag Pro v rest n = refl
  other_tag Dec v rest n = absurd (n refl)

  decided_value : (r : Record V) → r.fields.tag ≡ Dec → is_some r.fields.value ≡ true
  decided_value r t = (subst (λ x. Accepts r.fields.accepted x r.fields.value) t (lawful r).accepts).1

  module _ (cells : List (Cell V)) (j : ℕ) (low : 1 ≤ j) (high : j ≤ length cells) where
    back : j - 1 + 1 ≡ j
    back = omega arith

    next : shown (drop (j - 1) cells) ≡ onward (read_answer cells j) (shown (drop j cells))
    next =
        ap shown (drop_more cells (j - 1) None (omega arith))
        ∙ step (get_or cells (j - 1) None) (drop (j - 1 + 1) cells)
        ∙ ap (λ a. onward a (shown (drop (j - 1 + 1) cells))) (sym (reads cells j low high))
        ∙ ap (λ k. onward (read_answer cells j) (shown (drop k cells))) back

    module _ (before : UndecidedBefore cells (j - 1)) where
      module _ (r : Record V) (a : read_answer cells j ≡ Ok r) where
        holds : get_or cells (j - 1) None ≡ Some r
        holds = answered (get_or cells (j - 1) None) r (sym (reads cells j low high) ∙ a)

        shows : shown (drop (j - 1) cells) ≡ by_tag r.fields.tag r.fields.value (shown (drop j cells))
        shows = next ∙ ap (λ x. onward x (shown (drop j cells))) a

        pub looked_decided : r.fields.tag ≡ Dec → (shown (drop (j - 1) cells) ≡ Ok r.fields.value) × Looked cells (Ok r.fields.value)
        looked_decided t = (shows ∙ ap (λ x. by_tag x r.fields.value (shown (drop j cells))) t, by r.fields.value refl (decided_value r t))
          where
            by : (v : Option V) → r.fields.value ≡ v → is_some v ≡ true → Looked cells (Ok v)
            by None e p = absurd (true≢false (sym p))
            by (Some v) e p = (j - 1, omega arith, before, subst (λ o. DecidedWith o v) (sym holds) (t, e))

        pub looked_on : r.fields.tag ≢ Dec → (k : ℕ) → j ≡ k → (shown (drop (j - 1) cells) ≡ shown (drop k cells)) × UndecidedBefore cells k
        looked_on n k e = (
          shows ∙ other_tag r.fields.tag r.fields.value (shown (drop j cells)) n ∙ ap (λ m. shown (drop m cells)) e,
          subst (UndecidedBefore cells) (back ∙ e) (below_more (λ m. Undecided (get_or cells m None)) (j - 1) before (subst Undecided (sym holds) n)),
        )

  pub looked_all : (cells : List (Cell V)) (i : ℕ) → length cells ≤ i → UndecidedBefore cells i → (shown (drop i cells) ≡ Ok None) × Looked cells (Ok None)
  looked_all cells i p before = (ap shown (drop_all i cells p), λ k h. before k (omega arith))
