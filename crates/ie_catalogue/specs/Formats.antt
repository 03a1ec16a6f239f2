-- The standard's number of each format.
use Rattle.std.specs.Prelude.{ℕ}
use Rattle.ie_catalogue.specs.declared.row.Format.{Format}
use Rattle.ie_catalogue.specs.declared.row.Format.TheVariants.{TvHalf, T, Tv, Tlv, TlvE}

abbrev pub format_number : Format → ℕ
format_number TvHalf = 1
format_number T = 2
format_number Tv = 3
format_number Tlv = 4
format_number TlvE = 6
