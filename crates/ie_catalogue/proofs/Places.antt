-- What stands at a place of a list, and what becomes of it.
use Rattle.std.proofs.Common.{◌≡◌, ℕ, ◌<◌, List, map, length, get_or, take, Some, sym, ap, ◌∙◌, arith}
use Rattle.std.proofs.lemmas.List.{length-take, get_or-take}
use Rattle.std.specs.List.{slice_get}
use Rattle.std.specs.Option.{option_map}
use Rattle.std.proofs.lemmas.Option.{slice_get-map, slice_get-get_or}

pub mapped_at : {X Y : Type 0} (f : X → Y) (xs : List X) (i : ℕ) (x : X) → i < length xs → x ≡ get_or xs i x → Some (f x) ≡ slice_get (map f xs) i
mapped_at f xs i x h p = ap (λ y. Some (f y)) p ∙ sym (slice_get-map f xs i ∙ ap (option_map f) (slice_get-get_or xs i x h))

pub nth_taken : {X Y : Type 0} (f : X → Y) (n : ℕ) (xs : List X) (i : ℕ) (d : X) → i < length xs → i < n → Some (f (get_or xs i d)) ≡ slice_get (map f (take n xs)) i
nth_taken f n xs i d h k =
    let l : i < length (take n xs) = rw length-take (omega arith) in
    sym (slice_get-map f (take n xs) i ∙ ap (option_map f) (slice_get-get_or (take n xs) i d l ∙ ap Some (get_or-take n xs i d k)))
