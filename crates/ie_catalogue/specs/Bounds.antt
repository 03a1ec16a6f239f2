-- The bounds of an entry's fields.
--   framed        IEI, least and greatest value length, by format
--   tested        the numbers in a test
--   well_formed   a row within all bounds
--   keeps         what every entry keeps
use Rattle.std.specs.Prelude.{ℕ, Bool, true, ◌&&◌, Some, None, Option, ◌==◌, nat_le}
use Rattle.ie_catalogue.specs.declared.row.EntryRow.{EntryRow}
use Rattle.ie_catalogue.specs.declared.row.Format.{Format}
use Rattle.ie_catalogue.specs.declared.row.Format.TheVariants.{TvHalf, T, Tv, Tlv, TlvE}
use Rattle.ie_catalogue.specs.declared.row.Test.{Test}
use Rattle.ie_catalogue.specs.declared.row.Test.TheVariants.{Never, IfPresent, IfAbsent, IfOctet}

abbrev pub framed : Format → ℕ → ℕ → ℕ → Bool
framed TvHalf iei least greatest = nat_le iei 15 && (least == 0 && greatest == 0)
framed T iei least greatest = nat_le iei 255 && (least == 0 && greatest == 0)
framed Tv iei least greatest = nat_le iei 255 && (least == greatest && (nat_le 1 least && nat_le greatest 255))
framed Tlv iei least greatest = nat_le iei 255 && (nat_le least greatest && nat_le greatest 255)
framed TlvE iei least greatest = nat_le iei 255 && (nat_le least greatest && nat_le greatest 65535)

abbrev pub tested : Test → Bool
tested Never = true
tested (IfPresent position) = nat_le position 63
tested (IfAbsent position) = nat_le position 63
tested (IfOctet place mask value) = nat_le place 65534

abbrev pub well_formed : EntryRow → Bool
well_formed r =
    framed r.format r.iei r.least r.greatest
    && ((nat_le 1 r.limit && nat_le r.limit 16)
    && (nat_le r.release 99
    && (tested r.expect && tested r.forbid)))

-- the absent entry alone stands outside the table
abbrev pub keeps : Option EntryRow → Bool
keeps None = true
keeps (Some r) = well_formed r
