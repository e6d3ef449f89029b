-- Which tax region and rate edition make a choice.
use Rattle.std.specs.Prelude.{ℕ, Bool, ◌&&◌, nat_le}

abbrev pub is_choice : ℕ → ℕ → Bool
is_choice region edition = nat_le region 95 && (nat_le 1 edition && nat_le edition 65535)
