use Rattle.std.proofs.Common.{◌≡◌, rules}
use Rattle.ie_walk.specs.Reading.{reads}
use Rattle.ie_walk.specs.Runs.{walked}
use Rattle.ie_walk.specs.Totals.{no_totals, counted, counted_in}
use Rattle.ie_walk.proofs.Laying.{counted_divides}
use Rattle.ie_walk.proofs.divide.divide.Goals as goal

pub returns-clause-division : goal.returns-clause-division
returns-clause-division g c =
    let R = reads g.C.Catalogue g.S.SkipRule c.args.reader in
    let m = c.args.message.octets.now in
    let end = c.args.message.imperative_end in
    let e : counted_in c.count_rest.result ≡ counted no_totals (walked R m end) = search rules in
    counted_divides R m end c.count_rest.result e
