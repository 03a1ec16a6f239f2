-- Severities.
--   severity_number   the number of each
--   clear, greater    the least of them; the greater of two
--   by_presence       that of an ill-sized IE, by the presence of its entry
use Rattle.std.specs.Prelude.{ℕ, cond, nat_lt}
use Rattle.ie_catalogue.specs.declared.row.Presence.{Presence}
use Rattle.ie_catalogue.specs.declared.row.Presence.TheVariants as presence
use Rattle.ie_tally.specs.declared.severity.Severity.{Severity}
use Rattle.ie_tally.specs.declared.severity.Severity.TheVariants.{Clear, Conditional, Mandatory}

abbrev pub severity_number : Severity → ℕ
severity_number Clear = 0
severity_number Conditional = 1
severity_number Mandatory = 2

abbrev pub clear : Severity
clear = Clear

abbrev pub greater : Severity → Severity → Severity
greater x y = cond (nat_lt (severity_number x) (severity_number y)) y x

abbrev pub by_presence : Presence → Severity
by_presence presence.Mandatory = Mandatory
by_presence presence.Conditional = Conditional
by_presence presence.Optional = Clear
