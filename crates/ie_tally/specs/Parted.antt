-- What the laws of a tally give: a list may be tallied in parts.
use Rattle.std.specs.Prelude.{◌≡◌, List, [], ◌∷◌, ◌++◌}
use Rattle.std.proofs.Common.{sym, ap, ◌∙◌}
use Rattle.ie_tally.specs.Totals.{total}

pub record Laws {M : Type 0} (none : M) (join : M → M → M) : Type 0 where
  pub left : (x : M) → join none x ≡ x
  pub right : (x : M) → join x none ≡ x
  pub assoc : (x y z : M) → join (join x y) z ≡ join x (join y z)

pub total_append : {M : Type 0} {none : M} {join : M → M → M} → Laws none join → (xs ys : List M) → total none join (xs ++ ys) ≡ join (total none join xs) (total none join ys)
total_append laws [] ys = sym (laws.left _)
total_append {none = none} {join = join} laws (x ∷ xs) ys = ap (join x) (total_append laws xs ys) ∙ sym (laws.assoc x (total none join xs) (total none join ys))
