use Rattle.std.proofs.Common.{◌≡◌, drop, Ok, Some, arith}
use Rattle.std.proofs.lemmas.Grind.{common_steps}
use Rattle.ie_walk.specs.Reading.{reads}
use Rattle.ie_walk.specs.Walks.{stepped, found_in}
use Rattle.ie_walk.proofs.Running.{rest_from}
use Rattle.ie_walk.proofs.walk.Walk.ahead.Goals as goal

pub returns-clause-rest : goal.returns-clause-rest
returns-clause-rest g c =
    let w = c.args.self.now in
    let R = reads g.C.Catalogue g.S.SkipRule w.reader in
    let value : Ok (Some (found_in c.token_of.result)) ≡ stepped R w.place (drop w.place w.message.now) = grind (arith, common_steps) in
    rest_from R w.message.now w.place _ value
