-- Skipped IEs and octets as a tally.
--   saturating      the sum, which stops at the most that 32 bits hold; a number that is above that, as no tally
--                   has, stays as it is, so that 0 is neutral for every number
--   no_skip, sums   nothing skipped; what two skips come to
use Rattle.std.specs.Prelude.{ℕ, ◌+◌, min, max}
use Rattle.ie_tally.specs.declared.skipped.Skipped.{Skipped}

-- the most that 32 bits hold
abbrev pub most : ℕ
most = 4294967295

abbrev pub saturating : ℕ → ℕ → ℕ
saturating x y = max (max x y) (min (x + y) most)

abbrev pub no_skip : Skipped
no_skip = record { ies = 0; octets = 0 }

abbrev pub sums : Skipped → Skipped → Skipped
sums x y = record { ies = saturating x.ies y.ies; octets = saturating x.octets y.octets }
