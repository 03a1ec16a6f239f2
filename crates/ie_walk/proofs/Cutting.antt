-- What a cut gives, by the sizes.
use Rattle.std.proofs.Common.{◌≡◌, ℕ, ◌+◌, ◌≤◌, List, length, take, drop, Ok, sym, ap, arith, length-drop}
use Rattle.std.proofs.lemmas.List.{drop-take}
use Rattle.std.proofs.lemmas.Bool.{le-ltb}
use Rattle.ie_walk.specs.Cuts.{cut_of, CutResult}

pub cut_made : (os rest value : List ℕ) (h n : ℕ) → rest ≡ drop h os → h ≤ length os → n ≤ length rest → value ≡ take n rest → ◌≡◌ {A = CutResult} (Ok (take (h + n) os, value)) (cut_of os h (h + n))
cut_made os rest value h n is within fits part =
    let all : h + n ≤ length os = omega (arith, simp length-drop at (ap length is)) in
    rw (part, is, le-ltb (length os) (h + n) all) (ap (λ v. Ok (take (h + n) os, v)) (sym (drop-take h n os)))
