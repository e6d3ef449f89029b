-- From what a chain of options answers to what each of them was.
use Rattle.std.proofs.Common.{◌≡◌, Some, None, Option, refl, ap}
use Rattle.std.specs.Option.{option_map, option_zip}
use Rattle.std.proofs.lemmas.Option.{none-some, same_Some, some_pair_parts}

pub map_some : {A B : Type 0} (f : A → B) (o : Option A) (y : B) → option_map f o ≡ Some y → (x : A) × (o ≡ Some x) × (f x ≡ y)
map_some f None y e = absurd (none-some y e)
map_some f (Some x) y e = (x, refl, same_Some (f x) y e)

pub zip_some : {A B : Type 0} (u : Option A) (v : Option B) (p : A × B) → option_zip u v ≡ Some p → (u ≡ Some p.0) × (v ≡ Some p.1)
zip_some None v p e = absurd (none-some p e)
zip_some (Some x) None p e = absurd (none-some p e)
zip_some (Some x) (Some y) p e = let q = some_pair_parts x p.0 y p.1 e in (ap Some q.0, ap Some q.1)
