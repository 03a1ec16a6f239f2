-- How many entries cover an octet, as a list is gone through and grows.
use Rattle.std.proofs.Common.{◌≡◌, ℕ, ◌+◌, false, ◌||◌, List, [], ◌∷◌, ◌++◌, refl, ap, ◌∙◌, inl, inr, ⊎_elim, arith}
use Rattle.std.proofs.lemmas.Bool.{cases_Bool, both_ways, false≢true, or_left, or_right, or_parts, or_cases}
use Rattle.std.proofs.lemmas.Bool.Decides.{Decides-like, Decides-or, same_from_decides}
use Rattle.std.specs.List.{list_any}
use Rattle.ie_catalogue.specs.declared.entry.Entry.{Entry}
use Rattle.ie_catalogue.specs.Entries.{covers, known, coverers, one_if, Sole}
use Rattle.ie_catalogue.specs.Adding.{shares, clashes}
use Rattle.ie_catalogue.proofs.Shared.{Shared, Clash, shares_decides, clashes_decides}
use Rattle.ie_catalogue.proofs.Overlap.{covered_below}

pub coverers_push : (es : List Entry) (e : Entry) (o : ℕ) → coverers (es ++ e ∷ []) o ≡ coverers es o + one_if (covers e o)
coverers_push [] e o = omega arith
coverers_push (x ∷ xs) e o = let h = coverers_push xs e o in omega arith

pub unknown_none : (es : List Entry) (o : ℕ) → known es o ≡ false → coverers es o ≡ 0
unknown_none [] o p = refl
unknown_none (y ∷ ys) o p =
    let q = or_parts (covers y o) (known ys o) p in
    let a : one_if (covers y o) ≡ 0 = ap one_if q.0 in
    let b : coverers ys o ≡ 0 = unknown_none ys o q.1 in
    omega arith

-- one more entry to clash with
clashes_more : (x : Entry) (xs : List Entry) (e : Entry) → (shares x e || clashes xs e) ≡ clashes (x ∷ xs) e
clashes_more x xs e =
    same_from_decides (shares x e || clashes xs e) (clashes (x ∷ xs) e)
    (Decides-like (shares x e || clashes xs e)
    (⊎_elim
    (λ (s : Shared x e). (s.0, s.1, s.3, or_left (covers x s.0) (known xs s.0) s.2))
    (λ (s : Clash xs e). (s.0, s.1, s.2, or_right (covers x s.0) (known xs s.0) s.3)))
    (λ (s : Clash (x ∷ xs) e).
    ⊎_elim (λ t. inl (s.0, s.1, t, s.2)) (λ t. inr (s.0, s.1, s.2, t)) (or_cases (covers x s.0) (known xs s.0) s.3))
    (Decides-or (shares x e) (clashes xs e) (shares_decides x e) (clashes_decides xs e)))
    (clashes_decides (x ∷ xs) e)

-- an entry clashes with a list where it shares an octet with one of it
pub any_clashes : (es : List Entry) (e : Entry) → list_any (λ x. shares x e) es ≡ clashes es e
any_clashes [] e = same_from_decides false (clashes [] e) ((λ t. absurd (false≢true t)), (λ (s : Clash [] e). s.3)) (clashes_decides [] e)
any_clashes (x ∷ xs) e = ap (λ b. shares x e || b) (any_clashes xs e) ∙ clashes_more x xs e

pub sole_push : (es : List Entry) (e : Entry) → Sole es → clashes es e ≡ false → Sole (es ++ e ∷ [])
sole_push es e s n o =
    let h = coverers_push es e o in
    let k = s o in
    ⊎_elim
    (λ t.
    let u : known es o ≡ false =
    ⊎_elim (λ m. absurd (both_ways (clashes es e) n ((clashes_decides es e).1 (o, covered_below e o t, t, m)))) (λ m. m) (cases_Bool (known es o)) in
    let z : coverers es o ≡ 0 = unknown_none es o u in
    let c : one_if (covers e o) ≡ 1 = ap one_if t in
    omega arith)
    (λ t. let c : one_if (covers e o) ≡ 0 = ap one_if t in omega arith)
    (cases_Bool (covers e o))
