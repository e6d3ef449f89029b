-- The least worker whose bit is 0 is the one after the lowest ones, which the library counts.
use Rattle.std.proofs.Common.{◌≡◌, ℕ, zero, suc, ◌+◌, ◌-◌, ◌/◌, ◌%◌, ◌<◌, ◌≤◌, nat_le, Some, None, Option, sym, refl, ap, ◌∙◌, subst, ⊎_elim, w8, arith}
use Rattle.std.specs.Bool.{then_some}
use Rattle.std.specs.Int.{bit_at, trailing_ones}
use Rattle.std.specs.Int.Count.{count_trailing_zeros}
use Rattle.std.proofs.lemmas.Nat.Bits.{bit_at-suc, bit_at_lowest, bit_at_ones, bit_at-trailing_ones}
use Rattle.std.proofs.lemmas.Bool.{eq-eqb, ne_eqb, cases_lt, le-leb, lt-leb, cond-true, cond-false}
use Rattle.calls.specs.Hints.{leader_from, Suspected, Leads}

-- the bits below t are set, and that of t is not
pub record FirstZero (mask t : ℕ) : Type 0 where
  pub here : bit_at mask t ≡ 0
  pub below : (i : ℕ) → i < t → bit_at mask i ≡ 1

halved : (mask t : ℕ) → FirstZero mask (suc t) → FirstZero (mask / 2) t
halved mask t z = record {
  here = sym (bit_at-suc mask t) ∙ z.here;
  below = λ i l. sym (bit_at-suc mask i) ∙ z.below (suc i) (omega arith);
}

-- of n workers from j on, the leader is that of the first bit that is 0
led_on : (n j mask t : ℕ) → FirstZero mask (suc t) → leader_from (suc n) j mask ≡ leader_from n (j + 1) (mask / 2)
led_on n j mask t z = let odd : mask % 2 ≡ 1 = sym (bit_at_lowest mask) ∙ z.below 0 (omega arith) in cond-false _ _ _ (ne_eqb (mask % 2) 0 (omega (arith, odd)))

led_by_first : (n j mask t : ℕ) → FirstZero mask t → t < n → leader_from n j mask ≡ Some (j + t)
led_by_first zero j mask t z l = absurd (omega arith)
led_by_first (suc n) j mask zero z l = cond-true _ _ _ (eq-eqb (mask % 2) 0 (sym (bit_at_lowest mask) ∙ z.here)) ∙ ap Some (omega arith)
led_by_first (suc n) j mask (suc t) z l = led_on n j mask t z ∙ led_by_first n (j + 1) (mask / 2) t (halved mask t z) (omega arith) ∙ ap Some (omega arith)

led_by_none : (n j mask t : ℕ) → FirstZero mask t → n ≤ t → leader_from n j mask ≡ None
led_by_none zero j mask t z l = refl
led_by_none (suc n) j mask zero z l = absurd (omega arith)
led_by_none (suc n) j mask (suc t) z l = led_on n j mask t z ∙ led_by_none n (j + 1) (mask / 2) t (halved mask t z) (omega arith)

-- a mask of eight bits has its first 0 behind its lowest ones
first_zero : (mask : ℕ) → mask < 256 → FirstZero mask (trailing_ones w8 mask)
unfolding count_trailing_zeros
first_zero mask fits = ⊎_elim
    (λ (l : mask < 255). let b = bit_at-trailing_ones w8 mask (omega arith) in record { here = b.1; below = b.2 })
    (λ (l : 255 ≤ mask). let all : 255 ≡ mask = omega arith in subst (λ m. FirstZero m (trailing_ones w8 m)) all (record { here = refl; below = bit_at_ones 8 }))
    (cases_lt mask 255)

module _ (mask n t : ℕ) (fits : mask < 256) (is : t ≡ trailing_ones w8 mask) where
  z : FirstZero mask t
  z = subst (FirstZero mask) (sym is) (first_zero mask fits)

  suspected : (j : ℕ) → 1 ≤ j → j < t + 1 → Suspected mask j
  suspected j l h = z.below (j - 1) (omega arith)

  leads_first : t + 1 ≤ n → (Some (t + 1) ≡ leader_from n 1 mask) × Leads mask n (Some (t + 1))
  leads_first l =
      let back : t + 1 - 1 ≡ t = omega arith in
      (sym (led_by_first n 1 mask t z (omega arith) ∙ ap Some (omega arith)), (omega arith, l, (λ h. omega (arith, h, ap (bit_at mask) back, z.here)), suspected))

  leads_none : n < t + 1 → (None ≡ leader_from n 1 mask) × Leads mask n None
  leads_none l = (sym (led_by_none n 1 mask t z (omega arith)), λ j p q. suspected j p (omega arith))

  -- the worker after those of the lowest ones leads, if the row has it
  pub leads : (o : Option ℕ) → o ≡ then_some (nat_le (t + 1) n) (t + 1) → (o ≡ leader_from n 1 mask) × Leads mask n o
  leads o e = ⊎_elim
      (λ (l : t < n). by (some l) (leads_first (omega arith)))
      (λ (l : n ≤ t). by (none l) (leads_none (omega arith)))
      (cases_lt t n)
    where
      by : {p : Option ℕ} → o ≡ p → (p ≡ leader_from n 1 mask) × Leads mask n p → (o ≡ leader_from n 1 mask) × Leads mask n o
      by q h = subst (λ x. (x ≡ leader_from n 1 mask) × Leads mask n x) (sym q) h

      some : t < n → o ≡ Some (t + 1)
      some l = e ∙ ap (λ b. then_some b (t + 1)) (le-leb (t + 1) n (omega arith))

      none : n ≤ t → o ≡ None
      none l = e ∙ ap (λ b. then_some b (t + 1)) (lt-leb (t + 1) n (omega arith))
