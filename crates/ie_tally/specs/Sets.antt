-- Sets of positions 0 to 63, as numbers: bit p, worth 2 to the p, says whether the position p is in.
--   has             the position is in the set
--   with_position   the set with one position more; one above 63 is left out
--   has_above       the set has a greater position
use Rattle.std.specs.Prelude.{ℕ, ◌/◌, ◌%◌, ◌^◌, Bool, cond, ◌&&◌, ◌==◌, bit_or, nat_lt}
use Rattle.ie_catalogue.specs.Below.{some_below}

abbrev pub has : ℕ → ℕ → Bool
has s p = nat_lt p 64 && s / 2 ^ p % 2 == 1

abbrev pub with_position : ℕ → ℕ → ℕ
with_position s p = cond (nat_lt p 64) (bit_or s (2 ^ p)) s

abbrev pub has_above : ℕ → ℕ → Bool
has_above s p = some_below (λ q. nat_lt p q && has s q) 64
