-- Lent rows.
--   lent_entries   what they mean: an ill-formed row means the absent entry
--   rows_lent      an answer to lending, by the rows that are lent
--   lending        the answer to lending rows: 6 where there are more than 64
use Rattle.std.specs.Borrow.{Bor}
use Rattle.std.specs.Prelude.{cond, List, map, length, Ok, Err, Result, nat_lt}
use Rattle.ie_catalogue.specs.declared.entry.Entry.{Entry}
use Rattle.ie_catalogue.specs.declared.row.EntryRow.{EntryRow}
use Rattle.ie_catalogue.specs.declared.lent.LentRows.{LentRows}
use Rattle.ie_catalogue.specs.Entries.{meant}
use Rattle.ie_catalogue.specs.Refusals.{Refusal, refused}

abbrev pub lent_entries : LentRows → List Entry
lent_entries lent = map meant lent.rows.now

abbrev pub rows_lent : {E : Type 0} → Result LentRows E → Result (Bor (List EntryRow)) E
rows_lent (Ok lent) = Ok lent.rows
rows_lent (Err e) = Err e

abbrev pub lending : Bor (List EntryRow) → Result (Bor (List EntryRow)) Refusal
lending rows = cond (nat_lt 64 (length rows.now)) (Err (refused 6)) (Ok rows)
