use Rattle.std.proofs.Common.{Some, ap, ◌∙◌, rules}
use Rattle.ie_catalogue.specs.Entries.{meant}
use Rattle.ie_catalogue.proofs.Places.{mapped_at}
use Rattle.ie_catalogue.proofs.lent.entry_at.Goals as goal

pub returns : goal.returns
returns c = ap Some c.meant.ensures ∙ mapped_at meant c.args.rows.now c.args.position c.in_ok-get.field-0.now (search rules) (search rules)
