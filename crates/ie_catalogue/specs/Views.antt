-- What a view turns into the absent entry.
--   later    the entry's release is above the view's
--   across   the entry is of the other direction only
--   hiding   the entry, or the absent one where the test holds of it
use Rattle.std.specs.Prelude.{ℕ, Bool, true, false, cond, Some, None, Option, nat_lt}
use Rattle.ie_catalogue.specs.declared.row.EntryRow.{EntryRow}
use Rattle.ie_catalogue.specs.declared.row.Direction.{Direction}
use Rattle.ie_catalogue.specs.declared.row.Direction.TheVariants as way
use Rattle.ie_catalogue.specs.declared.direction.Link.{Link}
use Rattle.ie_catalogue.specs.declared.direction.Link.TheVariants as link
use Rattle.ie_catalogue.specs.declared.entry.Entry.{Entry}
use Rattle.ie_catalogue.specs.Entries.{absent}

abbrev pub later_row : ℕ → Option EntryRow → Bool
later_row release None = false
later_row release (Some r) = nat_lt release r.release

abbrev pub later : ℕ → Entry → Bool
later release e = later_row release e.row

abbrev pub against : Link → Direction → Bool
against link.Up way.Up = false
against link.Up way.Down = true
against link.Up way.Both = false
against link.Down way.Up = true
against link.Down way.Down = false
against link.Down way.Both = false

abbrev pub across_row : Link → Option EntryRow → Bool
across_row l None = false
across_row l (Some r) = against l r.direction

abbrev pub across : Link → Entry → Bool
across l e = across_row l e.row

abbrev pub unless_hidden : Bool → Entry → Entry
unless_hidden hide e = cond hide absent e

abbrev pub hiding : (Entry → Bool) → Entry → Entry
hiding hide e = unless_hidden (hide e) e
