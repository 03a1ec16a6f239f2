-- A part of a message divides into IEs in one way, and the walk finds it.
use Rattle.std.proofs.Common.{◌≡◌, ℕ, zero, suc, ◌+◌, ◌-◌, ◌*◌, ◌<◌, ◌≤◌, Bool, true, false, cond, ltb, List, [], ◌∷◌, ◌++◌, map, length, take, drop, Ok, Err, sym, refl, ap, ◌∙◌, subst, append_assoc, arith, length-append, take-append-drop, length-take-le}
use Rattle.std.specs.List.{AllByRecursion}
use Rattle.std.proofs.lemmas.Bool.{le-ltb, cond-false, ltb-true, ltb-false}
use Rattle.std.proofs.lemmas.List.{take_at, drop_at}
use Rattle.ie_walk.specs.declared.cut.Shape.{Shape}
use Rattle.ie_walk.specs.declared.cut.Shape.TheVariants.{Fixed, Tlv, TlvE}
use Rattle.ie_walk.specs.Cuts.{head, length_of_value, needed, cut_of}
use Rattle.ie_walk.specs.Reading.{Reading, shape, kind}
use Rattle.ie_walk.specs.Walks.{Found, found_as, part_of}
use Rattle.ie_walk.specs.Runs.{Run, run, onward}
use Rattle.ie_walk.proofs.Running.{head_some, needed_some, drop_tail}
use Rattle.ie_walk.specs.Grammar.{Follows, IsIe, Unfinished, Divides, OnlyDivision, end_to_end}

-- with its length octets at hand an IE asks for its head and its value
pub needed_when : (s : Shape) (os : List ℕ) → head s ≤ length os → needed s os ≡ head s + length_of_value s os
needed_when s os h = cond-false _ _ _ (le-ltb (length os) (head s) h)

-- an IE asks for just its own octets, whatever comes after it
pub follows_size : (s : Shape) (o : ℕ) (v b : List ℕ) → Follows s v → length (o ∷ v) ≡ needed s (o ∷ (v ++ b))
follows_size (Fixed n) o v b h = omega (arith, needed_when (Fixed n) (o ∷ (v ++ b)) (omega arith))
follows_size Tlv o [] b h = absurd h
follows_size Tlv o (n ∷ v) b h = omega (arith, needed_when Tlv (o ∷ n ∷ (v ++ b)) (omega arith))
follows_size TlvE o [] b h = absurd h
follows_size TlvE o (high ∷ []) b h = absurd h
follows_size TlvE o (high ∷ low ∷ v) b h = omega (arith, needed_when TlvE (o ∷ high ∷ low ∷ (v ++ b)) (omega arith))

same_split : (a b a' b' : List ℕ) → a ++ b ≡ a' ++ b' → length a ≡ length a' → (a ≡ a') × (b ≡ b')
same_split a b a' b' e l = (
  sym (take_at a b _ refl) ∙ ap (take (length a)) e ∙ take_at a' b' _ (sym l),
  sym (drop_at a b _ refl) ∙ ap (drop (length a)) e ∙ drop_at a' b' _ (sym l),
)

-- no IE is the beginning of another
pub one_front : (R : Reading) (a b a' b' : List ℕ) → IsIe R a → IsIe R a' → a ++ b ≡ a' ++ b' → (a ≡ a') × (b ≡ b')
one_front R [] b a' b' h h' e = absurd h
one_front R (o ∷ v) b [] b' h h' e = absurd h'
one_front R (o ∷ v) b (o' ∷ v') b' h h' e =
    let first : o ≡ o' = cc in
    let size = follows_size (shape R o) o v b h in
    let size' = follows_size (shape R o') o' v' b' h' in
    let same : needed (shape R o) (o ∷ (v ++ b)) ≡ needed (shape R o') (o' ∷ (v' ++ b')) = ap (λ x. needed (shape R x) (o ∷ (v ++ b))) first ∙ ap (needed (shape R o')) e in
    same_split (o ∷ v) b (o' ∷ v') b' e (size ∙ same ∙ sym size')

pub one_division : (R : Reading) (xs ys : List (List ℕ)) (t u : List ℕ) → AllByRecursion (IsIe R) xs → AllByRecursion (IsIe R) ys → Unfinished R t → Unfinished R u → end_to_end xs ++ t ≡ end_to_end ys ++ u → (xs ≡ ys) × (t ≡ u)
one_division R [] [] t u hx hy ht hu e = (refl, e)
one_division R [] (y ∷ ys) t u hx hy ht hu e = absurd (ht y (end_to_end ys ++ u) (sym (append_assoc y (end_to_end ys) u) ∙ sym e) hy.0)
one_division R (x ∷ xs) [] t u hx hy ht hu e = absurd (hu x (end_to_end xs ++ t) (sym (append_assoc x (end_to_end xs) t) ∙ e) hx.0)
one_division R (x ∷ xs) (y ∷ ys) t u hx hy ht hu e =
    let fronts = one_front R x (end_to_end xs ++ t) y (end_to_end ys ++ u) hx.0 hy.0 (sym (append_assoc x (end_to_end xs) t) ∙ e ∙ append_assoc y (end_to_end ys) u) in
    let on = one_division R xs ys t u hx.1 hy.1 ht hu fronts.1 in
    ((λ i. fronts.0 i ∷ on.0 i), on.1)

-- as many octets as are asked for, where they are there, are an IE
take_follows : (s : Shape) (o : ℕ) (os : List ℕ) → needed s (o ∷ os) ≤ length (o ∷ os) → (v : List ℕ) × (take (needed s (o ∷ os)) (o ∷ os) ≡ o ∷ v) × Follows s v
take_follows (Fixed n) o os h =
    let e : needed (Fixed n) (o ∷ os) ≡ suc n = needed_when (Fixed n) (o ∷ os) (omega arith) ∙ omega arith in
    (take n os, ap (λ k. take k (o ∷ os)) e, length-take-le n os (omega arith))
take_follows Tlv o [] h = absurd (omega arith)
take_follows Tlv o (n ∷ os) h =
    let e : needed Tlv (o ∷ n ∷ os) ≡ suc (suc n) = needed_when Tlv (o ∷ n ∷ os) (omega arith) ∙ omega arith in
    (n ∷ take n os, ap (λ k. take k (o ∷ n ∷ os)) e, length-take-le n os (omega arith))
take_follows TlvE o [] h = absurd (omega arith)
take_follows TlvE o (high ∷ []) h = absurd (omega arith)
take_follows TlvE o (high ∷ low ∷ os) h =
    let n = 256 * high + low in
    let e : needed TlvE (o ∷ high ∷ low ∷ os) ≡ suc (suc (suc n)) = needed_when TlvE (o ∷ high ∷ low ∷ os) (omega arith) ∙ omega arith in
    (high ∷ low ∷ take n os, ap (λ k. take k (o ∷ high ∷ low ∷ os)) e, length-take-le n os (omega arith))

pub front_is_ie : (R : Reading) (o : ℕ) (os : List ℕ) → needed (shape R o) (o ∷ os) ≤ length (o ∷ os) → IsIe R (take (needed (shape R o) (o ∷ os)) (o ∷ os))
front_is_ie R o os h = let t = take_follows (shape R o) o os h in subst (IsIe R) (sym t.1) t.2

-- where they are not there, no IE stands at the front
pub front_unfinished : (R : Reading) (o : ℕ) (os : List ℕ) → length (o ∷ os) < needed (shape R o) (o ∷ os) → Unfinished R (o ∷ os)
front_unfinished R o os h [] b e ie = absurd ie
front_unfinished R o os h (x ∷ v) b e ie =
    let first : x ≡ o = cc in
    let size = follows_size (shape R x) x v b ie in
    let same : needed (shape R x) (x ∷ (v ++ b)) ≡ needed (shape R o) (o ∷ os) = ap (λ y. needed (shape R y) (x ∷ (v ++ b))) first ∙ ap (needed (shape R o)) e in
    omega (arith, size, same, length-append (x ∷ v) b, ap length e)

abbrev pub wholes : Run → List (List ℕ)
wholes r = map (λ (f : Found). f.part.whole) r.tokens

abbrev pub CutUp : Reading → List ℕ → Run → Type 0
CutUp R os r = (tail : List ℕ) × Divides R os (wholes r) tail

one_more : (R : Reading) (p o h : ℕ) (os : List ℕ) (next : ℕ → Run) → ((k : ℕ) → CutUp R (drop k os) (next k)) → CutUp R (o ∷ os) (onward (found_as (kind R o) (part_of o p (cut_of (o ∷ os) h (needed (shape R o) (o ∷ os))))) next)
one_more R p o h os next ih = go (ltb (length (o ∷ os)) n) refl
  where
    n : ℕ
    n = needed (shape R o) (o ∷ os)

    go : (b : Bool) → ltb (length (o ∷ os)) n ≡ b → CutUp R (o ∷ os) (onward (found_as (kind R o) (part_of o p (cond b (Err (record { needed = n; at_hand = length (o ∷ os) })) (Ok (take n (o ∷ os), drop h (take n (o ∷ os))))))) next)
    go true t = (o ∷ os, record { covers = refl; each = tt; stops = front_unfinished R o os (ltb-true _ _ t) })
    go false t =
        let fits : n ≤ length (o ∷ os) = ltb-false _ _ t in
        let a = take n (o ∷ os) in
        let long : length a ≡ n = length-take-le n (o ∷ os) fits in
        let some : 0 < length a = omega (arith, head_some (shape R o), needed_some (shape R o) (o ∷ os)) in
        let rest = ih (length a - 1) in
        let D = rest.1 in
        let js = end_to_end (wholes (next (length a - 1))) in (
          rest.0,
          record {
            covers = append_assoc a js rest.0 ∙ ap (λ l. a ++ l) (D.covers ∙ drop_tail (length a) o os some ∙ ap (λ k. drop k (o ∷ os)) long) ∙ take-append-drop n (o ∷ os);
            each = (front_is_ie R o os fits, D.each);
            stops = D.stops;
          },
        )

nothing_stands : (R : Reading) → Unfinished R []
nothing_stands R [] b e ie = ie
nothing_stands R (x ∷ a) b e ie = let z : ◌≡◌ {A = ℕ} 0 1 = cc in absurd (omega arith)

pub run_divides : (R : Reading) (p k : ℕ) (os : List ℕ) → CutUp R (drop k os) (run R p k os)
run_divides R p zero [] = ([], record { covers = refl; each = tt; stops = nothing_stands R })
run_divides R p (suc k) [] = ([], record { covers = refl; each = tt; stops = nothing_stands R })
run_divides R p (suc k) (o ∷ os) = run_divides R (p + 1) k os
run_divides R p zero (o ∷ os) = one_more R p o (head (shape R o)) os (λ k. run R (p + 1) k os) (λ k. run_divides R (p + 1) k os)

pub only : (R : Reading) (os : List ℕ) (ies : List (List ℕ)) (tail : List ℕ) → Divides R os ies tail → OnlyDivision R os ies tail
only R os ies tail D = record {
  divides = D;
  only = λ ies' tail' D'. one_division R ies' ies tail' tail D'.each D.each D'.stops D.stops (D'.covers ∙ sym D.covers);
}
