use Rattle.ie_report.specs.Judging.{fresh, judge}
use Rattle.ie_compare.proofs.Comparing.{law}
use Rattle.ie_compare.proofs.comparison_law.Goals as goal

pub returns : goal.returns
returns c = λ R admits. law R fresh (judge R.entries admits)
