use Rattle.std.proofs.Common.{ℕ, Bool, ◌&&◌, ltb, get_or, rules, tests, refl, ◌∙◌}
use Rattle.std.proofs.lemmas.Iterator.{YieldsList-from_range}
use Rattle.std.proofs.lemmas.Iterator.Search.{any_from_yields_List}
use Rattle.ie_tally.specs.Sets.{has}
use Rattle.ie_report.proofs.Below.{any_below}
use Rattle.ie_report.proofs.tests.outranked.Goals as goal

pub returns : goal.returns
returns c =
    let test : ℕ → Bool = λ q. has c.args.admitted.bits q && ltb (get_or c.args.ranks.now c.args.position 0) (get_or c.args.ranks.now q 0) in
    any_from_yields_List test _ _ c.any.result c.any.ensures.ran (YieldsList-from_range 0 64 64 refl refl) (λ x b q k. search (rules, tests)) ∙ any_below test 64
