-- What follows an IEI.
--   entry_shape   of a known IE: by its entry's format, format 3 with its length
--   frame_shape   of an unknown IE: by its frame
use Rattle.std.specs.Prelude.{ℕ, Some, None, Option}
use Rattle.ie_catalogue.specs.declared.entry.Entry.{Entry}
use Rattle.ie_catalogue.specs.declared.row.EntryRow.{EntryRow}
use Rattle.ie_catalogue.specs.declared.row.Format.{Format}
use Rattle.ie_catalogue.specs.declared.row.Format.TheVariants as format
use Rattle.ie_walk.specs.declared.skip.Frame.{Frame}
use Rattle.ie_walk.specs.declared.skip.Frame.TheVariants as frame
use Rattle.ie_walk.specs.declared.cut.Shape.{Shape}
use Rattle.ie_walk.specs.declared.cut.Shape.TheVariants.{Fixed, Tlv, TlvE}

abbrev pub format_shape : Format → ℕ → Shape
format_shape format.TvHalf least = Fixed 0
format_shape format.T least = Fixed 0
format_shape format.Tv least = Fixed least
format_shape format.Tlv least = Tlv
format_shape format.TlvE least = TlvE

-- the absent entry covers no octet, so its shape never matters
abbrev pub row_shape : Option EntryRow → Shape
row_shape (Some r) = format_shape r.format r.least
row_shape None = Fixed 0

abbrev pub entry_shape : Entry → Shape
entry_shape e = row_shape e.row

abbrev pub frame_shape : Frame → Shape
frame_shape frame.OneOctet = Fixed 0
frame_shape frame.Tlv = Tlv
frame_shape frame.TlvE = TlvE
