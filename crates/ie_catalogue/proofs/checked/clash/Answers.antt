use Rattle.std.proofs.Common.{rules, tests, sym, ◌∙◌}
use Rattle.std.proofs.lemmas.Iterator.{YieldsList-from_slice}
use Rattle.std.proofs.lemmas.Iterator.Search.{any_from_yields_List}
use Rattle.ie_catalogue.specs.Adding.{shares}
use Rattle.ie_catalogue.proofs.Coverers.{any_clashes, sole_push}
use Rattle.ie_catalogue.proofs.checked.clash.Goals as goal

pub returns : goal.returns
returns c =
    let es = c.args.held.now in
    let found = any_from_yields_List (λ x. shares x c.args.added.now) _ _ c.any.result c.any.ensures.ran (YieldsList-from_slice es cc) (λ x b q k. search (rules, tests)) in
    let value = found ∙ any_clashes es c.args.added.now in
    record { value = value; sole = λ none s. sole_push es c.args.added.now s (sym value ∙ none) }
