use Rattle.std.proofs.Common.{rules, ap, ◌∙◌}
use Rattle.std.specs.List.{fold}
use Rattle.std.proofs.lemmas.Iterator.{YieldsList-from_slice}
use Rattle.std.proofs.lemmas.Iterator.Consumers.{fold_from_yields_List}
use Rattle.ie_tally.proofs.Folds.{total_from_fold}
use Rattle.ie_tally.proofs.tally.fold_all.Goals as goal

pub returns : goal.returns
returns g c =
    let m = g.T.Tally in
    let xs = c.args.tallies.now in
    let folded = fold_from_yields_List _ m.joined _ _ c.fold.ensures.ran (YieldsList-from_slice xs c.iter.ensures.rest) (search rules) in
    total_from_fold g.met.T.Tally.laws xs (folded ∙ ap (λ none. fold m.joined none xs) c.none.ensures)
