-- The octets that an entry covers.
--   span   the first of them, and the end behind the last
use Rattle.std.specs.Prelude.{ℕ, ◌+◌, ◌*◌, Bool, cond, Some, None, Option}
use Rattle.ie_catalogue.specs.declared.row.EntryRow.{EntryRow}
use Rattle.ie_catalogue.specs.declared.row.Format.{Format}
use Rattle.ie_catalogue.specs.declared.entry.Entry.{Entry}
use Rattle.ie_catalogue.specs.Entries.{has_half}

abbrev pub span_if : Bool → ℕ → ℕ × ℕ
span_if half iei = cond half (iei * 16, iei * 16 + 16) (iei, iei + 1)

abbrev pub span_by : Format → ℕ → ℕ × ℕ
span_by f iei = span_if (has_half f) iei

abbrev pub span_row : Option EntryRow → ℕ × ℕ
span_row None = (0, 0)
span_row (Some r) = span_by r.format r.iei

abbrev pub span : Entry → ℕ × ℕ
span e = span_row e.row
