use Rattle.std.proofs.Common.{ap, ◌∙◌}
use Rattle.ie_tally.specs.Severities.{greater}
use Rattle.ie_tally.specs.Unions.{union}
use Rattle.ie_tally.specs.Skips.{sums}
use Rattle.ie_tally.specs.Joining.{severity_laws, positions_laws, skipped_laws, three_same}
use Rattle.ie_tally.proofs.tallies.join_each.Goals as goal

pub returns : goal.returns
returns c =
    three_same _ _
    (c.fold.ensures.value ∙ ap (greater c.args.one.severity) (severity_laws.right c.args.other.severity))
    (c.fold-2.ensures.value ∙ ap (union c.args.one.taken) (positions_laws.right c.args.other.taken))
    (c.fold-3.ensures.value ∙ ap (sums c.args.one.skipped) (skipped_laws.right c.args.other.skipped))
