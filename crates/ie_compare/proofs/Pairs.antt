-- Two lists pair by pair.
use Rattle.std.proofs.Common.{◌≡◌, List, [], ◌∷◌, ◌++◌, map, refl, ap, ap₂}
use Rattle.std.specs.List.{flat_map}
use Rattle.ie_compare.specs.Alikes.{Pairwise}

pub data Pairs {A B : Type 0} (R : A → B → Type 0) : List A → List B → Type 0 where
  none : Pairs R [] []
  more : {x : A} {y : B} {xs : List A} {ys : List B} → R x y → Pairs R xs ys → Pairs R (x ∷ xs) (y ∷ ys)

module _ {A B : Type 0} (R : A → B → Type 0) where
  pub pairs_map : (Q : A → B → Type 0) → ((x : A) (y : B) → R x y → Q x y) → {xs : List A} {ys : List B} → Pairs R xs ys → Pairs Q xs ys
  pairs_map Q f none = none
  pairs_map Q f (more {x} {y} p ps) = more (f x y p) (pairs_map Q f ps)

  pub pairs_same : {C : Type 0} (f : A → C) (g : B → C) → ((x : A) (y : B) → R x y → f x ≡ g y) → {xs : List A} {ys : List B} → Pairs R xs ys → map f xs ≡ map g ys
  pairs_same f g h none = refl
  pairs_same f g h (more {x} {y} p ps) = ap₂ (λ c cs. c ∷ cs) (h x y p) (pairs_same f g h ps)

  pub pairs_append : {xs xs' : List A} {ys ys' : List B} → Pairs R xs ys → Pairs R xs' ys' → Pairs R (xs ++ xs') (ys ++ ys')
  pairs_append none qs = qs
  pairs_append (more p ps) qs = more p (pairs_append ps qs)

  pub pairs_wise : {xs : List A} {ys : List B} → Pairs R xs ys → Pairwise R xs ys
  pairs_wise none = tt
  pairs_wise (more p ps) = (p, pairs_wise ps)

pub pairs_joined : {A B C D : Type 0} (R : A → B → Type 0) (Q : C → D → Type 0) (f : A → List C) (g : B → List D) → ((x : A) (y : B) → R x y → Pairs Q (f x) (g y)) → {xs : List A} {ys : List B} → Pairs R xs ys → Pairs Q (flat_map f xs) (flat_map g ys)
pairs_joined R Q f g h none = none
pairs_joined R Q f g h (more {x} {y} p ps) = pairs_append Q (h x y p) (pairs_joined R Q f g h ps)

-- two lists beside a third
pub pairs_through : {A B C : Type 0} (P : A → C → Type 0) (Q : B → C → Type 0) (R : A → B → Type 0) → ((x : A) (y : B) (z : C) → P x z → Q y z → R x y) → {xs : List A} {ys : List B} {zs : List C} → Pairs P xs zs → Pairs Q ys zs → Pairs R xs ys
pairs_through P Q R h none none = none
pairs_through P Q R h (more {x = x} {y = z} p ps) (more {x = y} q qs) = more (h x y z p q) (pairs_through P Q R h ps qs)

pub map_map : {A B C : Type 0} (f : B → C) (g : A → B) (xs : List A) → map f (map g xs) ≡ map (λ x. f (g x)) xs
map_map f g [] = refl
map_map f g (x ∷ xs) = ap (λ ys. f (g x) ∷ ys) (map_map f g xs)
