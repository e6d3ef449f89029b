-- A tally counts the workers so far, one by one.
use Rattle.std.proofs.Common.{◌≡◌, ℕ, ◌+◌, ◌<◌, ◌≤◌, Bool, true, false, List, length, get_or, take, sym, ap, ◌∙◌, arith}
use mir.Val.{bool_byte}
use Rattle.std.specs.List.{count_by}
use Rattle.std.proofs.lemmas.List.Sums.{count_by_more_yes, count_by_more_no}
use Rattle.protocol.specs.declared.state.State.{State}
use Rattle.engine.specs.declared.worker.Worker.{Worker}
use Rattle.engine.specs.Rows.{states}
use Rattle.engine.proofs.Rows.{states_length, states_get_or}

-- one more place, one more at most
pub count_fits : (n k b : ℕ) (t : Bool) → n ≤ k → b ≡ bool_byte t → n + b ≤ k + 1
count_fits n k b true h e = omega arith
count_fits n k b false h e = omega arith

module _ {V : Type 0} (p : State V → Bool) (ws : List (Worker V)) (k : ℕ) where
  pub count_more : (w : Worker V) → w ≡ get_or ws k w → k < length ws → (n b : ℕ) (t : Bool) → t ≡ p w.state → b ≡ bool_byte t → n ≡ count_by p (take k (states ws)) → n + b ≡ count_by p (take (k + 1) (states ws))
  count_more w here h n b t q e m = by t q e
    where
      passes : p (get_or (states ws) k w.state) ≡ p w.state
      passes = ap p (states_get_or ws k w h) ∙ ap (λ z. p z.state) (sym here)

      by : (t : Bool) → t ≡ p w.state → b ≡ bool_byte t → n + b ≡ count_by p (take (k + 1) (states ws))
      by true q e = let more = count_by_more_yes p (states ws) k w.state (omega (arith, states_length ws)) (passes ∙ sym q) in omega arith
      by false q e = let more = count_by_more_no p (states ws) k w.state (omega (arith, states_length ws)) (passes ∙ sym q) in omega arith
