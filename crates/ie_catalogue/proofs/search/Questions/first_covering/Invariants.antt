use Rattle.std.proofs.Common.{◌≡◌, drop}
use Rattle.ie_catalogue.specs.Search.{finds, finds_from}
use Rattle.ie_catalogue.proofs.search.Questions.first_covering.Given as goal

abbrev pub invariant-loop-position : goal.invariant-loop-position
invariant-loop-position g l =
    let es = g.C.Catalogue.entries l.self.catalogue.now in
    (l.self.catalogue ≡ l.initial.self.catalogue)
    × (l.self.asked ≡ l.position)
    × (finds_from l.position (drop l.position es) l.octet ≡ finds es l.octet)
