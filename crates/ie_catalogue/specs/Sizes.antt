-- The size test of a value.
--   sized     shorter than the least length, longer than the greatest, or neither
--   size_of   by the entry's lengths; the absent entry has no value
use Rattle.std.specs.Prelude.{ℕ, cond, Some, None, Option, nat_lt}
use Rattle.ie_catalogue.specs.declared.row.EntryRow.{EntryRow}
use Rattle.ie_catalogue.specs.declared.size.Size.{Size}
use Rattle.ie_catalogue.specs.declared.size.Size.TheVariants.{Short, Fitting, Long}
use Rattle.ie_catalogue.specs.declared.entry.Entry.{Entry}

abbrev pub sized : ℕ → ℕ → ℕ → Size
sized least greatest n = cond (nat_lt n least) Short (cond (nat_lt greatest n) Long Fitting)

abbrev pub size_row : Option EntryRow → ℕ → Size
size_row None n = sized 0 0 n
size_row (Some r) n = sized r.least r.greatest n

abbrev pub size_of : Entry → ℕ → Size
size_of e n = size_row e.row n
