use Rattle.std.proofs.Common.{◌≡◌, ◌-◌, length}
use Rattle.ie_walk.specs.Runs.{left}
use Rattle.ie_walk.specs.Totals.{counted, SumsWithin}
use Rattle.ie_walk.proofs.divide.count_rest.Given as goal

abbrev pub invariant-loop-token : goal.invariant-loop-token
invariant-loop-token g l =
    let ahead = left g.C.Catalogue g.S.SkipRule in
    SumsWithin l.totals l.walk.place × (counted l.totals (ahead l.walk) ≡ counted l.initial.totals (ahead l.initial.walk))

abbrev pub decreases-loop-token : goal.decreases-loop-token
decreases-loop-token g l = length l.walk.message.now - l.walk.place
