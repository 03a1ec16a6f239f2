-- The three tallies of a report.
--   no_tallies, each_joined   nothing at all; each kind joined with its like
--   severity_total, positions_total, skipped_total   what a list of each kind comes to
use Rattle.std.specs.Prelude.{List}
use Rattle.ie_tally.specs.declared.positions.Positions.{Positions}
use Rattle.ie_tally.specs.declared.severity.Severity.{Severity}
use Rattle.ie_tally.specs.declared.skipped.Skipped.{Skipped}
use Rattle.ie_tally.specs.declared.tallies.Tallies.{Tallies}
use Rattle.ie_tally.specs.Totals.{total}
use Rattle.ie_tally.specs.Severities.{clear, greater}
use Rattle.ie_tally.specs.Unions.{no_positions, union}
use Rattle.ie_tally.specs.Skips.{no_skip, sums}

abbrev pub no_tallies : Tallies
no_tallies = record { severity = clear; taken = no_positions; skipped = no_skip }

abbrev pub each_joined : Tallies → Tallies → Tallies
each_joined x y =
    record { severity = greater x.severity y.severity; taken = union x.taken y.taken; skipped = sums x.skipped y.skipped }

abbrev pub severity_total : List Severity → Severity
severity_total xs = total clear greater xs

abbrev pub positions_total : List Positions → Positions
positions_total xs = total no_positions union xs

abbrev pub skipped_total : List Skipped → Skipped
skipped_total xs = total no_skip sums xs
