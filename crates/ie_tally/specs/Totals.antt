-- What a list of tallies comes to.
--   total   all of them joined
use Rattle.std.specs.Prelude.{List, [], ◌∷◌}

abbrev pub total : {M : Type 0} → M → (M → M → M) → List M → M
total none join [] = none
total none join (x ∷ xs) = join x (total none join xs)
