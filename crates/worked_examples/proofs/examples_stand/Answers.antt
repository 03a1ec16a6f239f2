use Rattle.std.proofs.Common.{refl}
use Rattle.ie_catalogue.specs.Below.{some_below}
use Rattle.ie_report.specs.Reports.{report, outcome}
use Rattle.ie_compare.specs.Strikes.{strike, skipped_before}
use Rattle.worked_examples.proofs.Apart.{told_apart, places_apart, same_said}
use Rattle.worked_examples.proofs.examples_stand.Goals as goal

pub returns : goal.returns
unfolding some_below report outcome strike skipped_before
returns c = record { reports = refl; first_cause = (refl, refl, refl); apart = told_apart; places = places_apart; said = same_said }
