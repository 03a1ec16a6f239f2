-- What holds of each element of a list, of its parts too.
use Rattle.std.proofs.Common.{ℕ, zero, suc, Bool, true, false, cond, List, [], ◌∷◌, ◌++◌, drop}
use Rattle.std.specs.List.{flat_map, filter, AllByRecursion}

module _ {A : Type 0} (P : A → Type 0) where
  pub every_drop : (n : ℕ) (xs : List A) → AllByRecursion P xs → AllByRecursion P (drop n xs)
  every_drop zero xs h = h
  every_drop (suc n) [] h = tt
  every_drop (suc n) (x ∷ xs) h = every_drop n xs h.1

  pub every_left : (xs ys : List A) → AllByRecursion P (xs ++ ys) → AllByRecursion P xs
  every_left [] ys h = tt
  every_left (x ∷ xs) ys h = (h.0, every_left xs ys h.1)

  pub every_right : (xs ys : List A) → AllByRecursion P (xs ++ ys) → AllByRecursion P ys
  every_right [] ys h = h
  every_right (x ∷ xs) ys h = every_right xs ys h.1

  pub every_append : (xs ys : List A) → AllByRecursion P xs → AllByRecursion P ys → AllByRecursion P (xs ++ ys)
  every_append [] ys h k = k
  every_append (x ∷ xs) ys h k = (h.0, every_append xs ys h.1 k)

  pub every_kept : (test : A → Bool) (xs : List A) → AllByRecursion P xs → AllByRecursion P (filter test xs)
  every_kept test [] h = tt
  every_kept test (x ∷ xs) h = go (test x) (every_kept test xs h.1)
    where
      go : (b : Bool) → AllByRecursion P (filter test xs) → AllByRecursion P (cond b (x ∷ filter test xs) (filter test xs))
      go true k = (h.0, k)
      go false k = k

pub every_joined : {A : Type 0} (P : A → Type 0) (xss : List (List A)) → AllByRecursion P (flat_map (λ x. x) xss) → AllByRecursion (AllByRecursion P) xss
every_joined P [] h = tt
every_joined P (xs ∷ xss) h = (every_left P xs (flat_map (λ x. x) xss) h, every_joined P xss (every_right P xs (flat_map (λ x. x) xss) h))
