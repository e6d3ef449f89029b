-- Lists of which one place was set, and the states of a row.
use Rattle.std.proofs.Common.{◌≡◌, ℕ, zero, suc, ◌<◌, true, List, [], ◌∷◌, length, get_or, set, Some, sym, ap, ◌∙◌, arith}
use Rattle.std.specs.List.{slice_get}
use Rattle.std.proofs.lemmas.Grind.{common_steps}
use Rattle.std.proofs.lemmas.List.{set-get_or, length-map, map-set, get_or-map}
use Rattle.std.proofs.lemmas.Option.{gets, slice_get-map, get_or_from_slice_get}
use Rattle.protocol.specs.declared.state.State.{State}
use Rattle.engine.specs.declared.worker.Worker.{Worker}
use Rattle.engine.specs.Sound.{is_sound}
use Rattle.engine.specs.Rows.{states}

pub slice_get-set_other : {A : Type 0} (xs : List A) (k j : ℕ) (x : A) → (j ≡ k → ⊥) → slice_get (set xs k x) j ≡ slice_get xs j
slice_get-set_other xs k j x n = grind (arith, common_steps, gets)

pub slice_get-set_same : {A : Type 0} (xs : List A) (k : ℕ) (x y : A) → slice_get xs k ≡ Some y → slice_get (set xs k x) k ≡ Some x
slice_get-set_same xs k x y e = grind (arith, common_steps, gets)

pub set-slice_get : {A : Type 0} (xs : List A) (k : ℕ) (x : A) → slice_get xs k ≡ Some x → set xs k x ≡ xs
set-slice_get xs k x e = ap (set xs k) (sym (get_or_from_slice_get xs k x x e)) ∙ set-get_or xs k x

module _ {V : Type 0} where
  pub states_length : (ws : List (Worker V)) → length (states ws) ≡ length ws
  states_length ws = length-map ws (λ w. w.state)

  pub states_set : (ws : List (Worker V)) (k : ℕ) (w : Worker V) → states (set ws k w) ≡ set (states ws) k w.state
  states_set ws k w = map-set (λ w. w.state) ws k w

  pub states_get_or : (ws : List (Worker V)) (k : ℕ) (d : Worker V) → k < length ws → get_or (states ws) k d.state ≡ (get_or ws k d).state
  states_get_or ws k d h = get_or-map (λ w. w.state) ws k d d.state h

  pub states_nth : (ws : List (Worker V)) (k : ℕ) (d : Worker V) → k < length ws → slice_get (states ws) k ≡ Some (get_or ws k d).state
  states_nth ws k d h = grind (arith, common_steps, gets, slice_get-map)

  -- every worker of a row is sound
  pub states_sound : (ws : List (Worker V)) (k : ℕ) (s : State V) → slice_get (states ws) k ≡ Some s → is_sound s ≡ true
  states_sound [] k s e = cc
  states_sound (w ∷ ws) zero s e = grind (arith, w.sound)
  states_sound (w ∷ ws) (suc k) s e = states_sound ws k s e
