-- Sets of positions as a tally.
--   no_positions, union   the empty set; all positions of two sets
use Rattle.std.specs.Prelude.{bit_or}
use Rattle.ie_tally.specs.declared.positions.Positions.{Positions}

abbrev pub no_positions : Positions
no_positions = record { bits = 0 }

abbrev pub union : Positions → Positions → Positions
union x y = record { bits = bit_or x.bits y.bits }
