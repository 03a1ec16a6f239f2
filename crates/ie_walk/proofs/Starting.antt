-- What is known where a walk starts.
use Rattle.std.proofs.Common.{◌≡◌, ℕ, ◌≤◌, Bool, true, false, cond, ltb, List, length, Ok, Err, Result, refl, arith}
use Rattle.std.proofs.lemmas.Bool.{ltb-false}
use Rattle.ie_catalogue.specs.Refusals.{Refusal, refused}
use Rattle.ie_walk.specs.Faults.{starting}

pub started : {X : Type 0} (m : List ℕ) (end : ℕ) (x y : X) → Ok x ≡ starting m end y → (length m ≤ 65535) × (end ≤ length m) × (x ≡ y)
started {X} m end x y e = go (ltb 65535 (length m)) (ltb (length m) end) refl refl e
  where
    go : (a b : Bool) → ltb 65535 (length m) ≡ a → ltb (length m) end ≡ b → ◌≡◌ {A = Result X Refusal} (Ok x) (cond a (Err (refused 1)) (cond b (Err (refused 2)) (Ok y))) → (length m ≤ 65535) × (end ≤ length m) × (x ≡ y)
    go true b p q e = let z : ◌≡◌ {A = ℕ} 0 1 = cc in absurd (omega arith)
    go false true p q e = let z : ◌≡◌ {A = ℕ} 0 1 = cc in absurd (omega arith)
    go false false p q e = (ltb-false _ _ p, ltb-false _ _ q, cc)
