use Rattle.std.proofs.Common.{◌≡◌, ◌-◌, ◌++◌, map, length, string_bytes}
use Rattle.ie_walk.specs.Runs.{left}
use Rattle.iewalk.specs.Lines.{text, ie_line}
use Rattle.iewalk.proofs.listing.push_ies.Given as goal

-- the lines so far, and then those of what is ahead
abbrev pub invariant-loop-token : goal.invariant-loop-token
invariant-loop-token g l =
    let ahead = left g.C.Catalogue g.S.SkipRule in
    string_bytes l.out ++ text (map ie_line (ahead l.walk).tokens) ≡ string_bytes l.initial.out ++ text (map ie_line (ahead l.initial.walk).tokens)

abbrev pub decreases-loop-token : goal.decreases-loop-token
decreases-loop-token g l = length l.walk.message.now - l.walk.place
