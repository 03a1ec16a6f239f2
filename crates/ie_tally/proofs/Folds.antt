-- Tallies that are joined one after the other, from the neutral element on, come to their total.
use Rattle.std.proofs.Common.{◌≡◌, List, [], ◌∷◌, ◌++◌, sym, ◌∙◌}
use Rattle.std.specs.List.{fold}
use Rattle.ie_tally.specs.Totals.{total}
use Rattle.ie_tally.specs.Parted.{Laws, total_append}

module _ {M : Type 0} {none : M} {join : M → M → M} (laws : Laws none join) where
  joined_on : (sum : M) (xs : List M) → fold join sum xs ≡ join sum (total none join xs)
  joined_on sum [] = sym (laws.right sum)
  joined_on sum (x ∷ xs) = joined_on (join sum x) xs ∙ laws.assoc sum x (total none join xs)

  pub total_from_fold : {sum : M} (xs : List M) → sum ≡ fold join none xs → sum ≡ total none join xs
  total_from_fold xs e = e ∙ joined_on none xs ∙ laws.left _

  -- and in parts
  pub total_in_parts : {sum : M} (xs ys : List M) → sum ≡ total none join (xs ++ ys) → sum ≡ join (total none join xs) (total none join ys)
  total_in_parts xs ys e = e ∙ total_append laws xs ys

  pub parts_from_fold : {sum : M} (xs ys : List M) → sum ≡ fold join none (xs ++ ys) → sum ≡ join (total none join xs) (total none join ys)
  parts_from_fold xs ys e = total_in_parts xs ys (total_from_fold (xs ++ ys) e)
