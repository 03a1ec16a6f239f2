-- Lists of at most 64, for each kind of catalogue: what its ghost member `few` is.
use Rattle.std.specs.Prelude.{◌≤◌, List, map, length, take, vec_items, vec_len, Vec}
use Rattle.std.proofs.Common.{arith, length-take}
use Rattle.std.proofs.lemmas.List.{length-map}

pub few_mapped : {X Y : Type 0} (f : X → Y) (xs : List X) → length xs ≤ 64 → length (map f xs) ≤ 64
few_mapped f xs h = rw length-map h

pub few_taken : {X : Type 0} (xs : List X) → length (take 64 xs) ≤ 64
few_taken xs = rw length-take (omega arith)

pub few_held : {X Z : Type 0} (v : Vec X Z) → vec_len v ≤ 64 → length (vec_items v) ≤ 64
few_held v h = omega (arith, v.ok.0)
