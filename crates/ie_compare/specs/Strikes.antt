-- Striking out.
--   whole             the octets of an IE
--   end_of_ies        the place behind the last whole IE
--   strike            a message without its skippable IEs: its imperative part, the octets of every other IE, and the
--                     unfinished tail, if there is one
--   struck            the message that is left; its imperative part ends where it did
--   SameWhenStruck    what two messages must share to say the same
--   skipped_before    the octets of the skippable IEs that start below a place
use Rattle.std.specs.Prelude.{◌≡◌, ℕ, ◌+◌, Bool, ◌&&◌, List, ◌++◌, length, drop, nat_lt}
use Rattle.std.specs.List.{flat_map, filter}
use Rattle.ie_walk.specs.Reading.{Reading}
use Rattle.ie_walk.specs.Walks.{Found}
use Rattle.ie_report.specs.Rows.{skips, stays}
use Rattle.ie_report.specs.Reports.{Message, imperative, tokens}

abbrev pub whole : Found → List ℕ
whole f = f.part.whole

abbrev pub end_of_ies : Reading → Message → ℕ
end_of_ies R m = m.end + length (flat_map whole (tokens R m))

unfoldable pub strike : Reading → Message → List ℕ
strike R m = imperative m ++ (flat_map whole (filter stays (tokens R m)) ++ drop (end_of_ies R m) m.octets)

abbrev pub struck : Reading → Message → Message
struck R m = record { octets = strike R m; end = m.end }

abbrev pub SameWhenStruck : Reading → Message → Message → Type 0
SameWhenStruck R m n = strike R m ≡ strike R n

abbrev pub skipped_below : ℕ → Found → Bool
skipped_below p f = skips f.kind && nat_lt f.part.place p

unfoldable pub skipped_before : Reading → Message → ℕ → ℕ
skipped_before R m p = length (flat_map whole (filter (skipped_below p) (tokens R m)))
