-- Where the IEs that stay stand in a message, beside where they stand after striking.
use Rattle.std.proofs.Common.{◌≡◌, ℕ, ◌+◌, ◌-◌, ◌<◌, ◌≤◌, Bool, true, false, cond, not, ◌&&◌, ltb, List, [], ◌∷◌, ◌++◌, length, take, drop, sym, refl, ap, ◌∙◌, append_assoc, arith, length-append}
use Rattle.std.specs.List.{flat_map, filter, AllByRecursion}
use Rattle.std.proofs.lemmas.List.{drop-drop, drop_at, take_at, drop-append-le, length-drop}
use Rattle.std.proofs.lemmas.Bool.{lt-ltb, le-ltb, and_right}
use Rattle.ie_walk.specs.Cuts.{head}
use Rattle.ie_walk.specs.Reading.{Reading, shape, kind}
use Rattle.ie_walk.specs.Walks.{Found}
use Rattle.ie_walk.specs.Grammar.{IsIe, end_to_end, token_at, laid}
use Rattle.ie_walk.proofs.Running.{needed_some}
use Rattle.ie_walk.proofs.Dividing.{follows_size}
use Rattle.ie_report.specs.Judging.{unplaced}
use Rattle.ie_report.specs.Rows.{skips, stays}
use Rattle.ie_compare.specs.Strikes.{whole, skipped_below}
use Rattle.ie_compare.proofs.Pairs.{Pairs, none, more, pairs_map}
use Rattle.ie_compare.proofs.Parts.{stays_ie}

-- the octets of the skippable ones of these IEs that start below p
abbrev pub before : ℕ → List Found → ℕ
before p fs = length (flat_map whole (filter (skipped_below p) fs))

-- x stands in the octets s, where `skipped p` octets are skipped before p; y stands where x does once these are gone,
-- counting from d where x counts from e
pub record Sits (s : List ℕ) (skipped : ℕ → ℕ) (e d : ℕ) (x y : Found) : Type 0 where
  pub same : unplaced x ≡ unplaced y
  pub from : e ≤ x.part.place
  pub place : (h : ℕ) → h ≤ length (whole x) → x.part.place + h + d ≡ y.part.place + h + e + skipped (x.part.place + h)
  pub value : take (length x.part.value) (drop (x.part.place + (length (whole x) - length x.part.value)) s) ≡ x.part.value

-- one IE more to look at
abbrev counted : Bool → Found → List Found → ℕ
counted b f fs = length (flat_map whole (cond b (f ∷ fs) fs))

before_none : (R : Reading) (p q : ℕ) (ies : List (List ℕ)) → p ≤ q → before p (laid R q ies) ≡ 0
before_none R p q [] h = refl
before_none R p q ([] ∷ ies) h = before_none R p q ies h
before_none R p q ((o ∷ v) ∷ ies) h =
    ap (λ b. counted b (token_at R q o v) (filter (skipped_below p) (laid R (q + length (o ∷ v)) ies))) (and_right (skips (kind R o)) (ltb q p) (le-ltb q p h))
    ∙ before_none R p (q + length (o ∷ v)) ies (omega arith)

pub head_within : (R : Reading) (o : ℕ) (v : List ℕ) → IsIe R (o ∷ v) → head (shape R o) ≤ length (o ∷ v)
head_within R o v ie = omega (arith, follows_size (shape R o) o v [] ie, needed_some (shape R o) (o ∷ (v ++ [])))

value_there : (s : List ℕ) (o : ℕ) (v u : List ℕ) (e h : ℕ) → h ≤ length (o ∷ v) → drop e s ≡ (o ∷ v) ++ u → take (length (drop h (o ∷ v))) (drop (e + (length (o ∷ v) - length (drop h (o ∷ v)))) s) ≡ drop h (o ∷ v)
value_there s o v u e h fits there =
    let skip : length (o ∷ v) - length (drop h (o ∷ v)) ≡ h = omega (arith, length-drop h (o ∷ v)) in
    ap (λ k. take (length (drop h (o ∷ v))) (drop (e + k) s)) skip
    ∙ ap (take (length (drop h (o ∷ v)))) (sym (drop-drop h e s) ∙ ap (drop h) there ∙ drop-append-le h (o ∷ v) u fits)
    ∙ take_at (drop h (o ∷ v)) u _ refl

behind : (s : List ℕ) (ie : List ℕ) (ies : List (List ℕ)) (t : List ℕ) (e : ℕ) → drop e s ≡ end_to_end (ie ∷ ies) ++ t → drop (e + length ie) s ≡ end_to_end ies ++ t
behind s ie ies t e there =
    sym (drop-drop (length ie) e s) ∙ ap (drop (length ie)) (there ∙ append_assoc ie (end_to_end ies) t) ∙ drop_at ie (end_to_end ies ++ t) _ refl

module _ (s : List ℕ) (f : Found) (n e d : ℕ) (size : length (whole f) ≡ n) (some : 0 < n) (rest : ℕ → List Found) where
  -- behind a skippable IE
  over : (x y : Found) → Sits s (λ p. length (flat_map whole (rest p))) (e + n) d x y → Sits s (λ p. counted (true && ltb e p) f (rest p)) e d x y
  over x y w =
      record {
        same = w.same;
        from = omega (arith, w.from);
        place = λ h fits.
            let p : ℕ = x.part.place + h in
            let below : ltb e p ≡ true = lt-ltb e p (omega (arith, w.from)) in
            let all : counted (true && ltb e p) f (rest p) ≡ n + length (flat_map whole (rest p)) = ap (λ b. counted b f (rest p)) below ∙ length-append (whole f) (flat_map whole (rest p)) ∙ ap (λ k. k + length (flat_map whole (rest p))) size in
            omega (arith, w.place h fits, all);
        value = w.value;
      }

  -- behind an IE that stays
  past : (x y : Found) → Sits s (λ p. length (flat_map whole (rest p))) (e + n) (d + n) x y → Sits s (λ p. counted (false && ltb e p) f (rest p)) e d x y
  past x y w = record { same = w.same; from = omega (arith, w.from); place = λ h fits. omega (arith, w.place h fits); value = w.value }

pub sits : (R : Reading) (s : List ℕ) (ies : List (List ℕ)) (t : List ℕ) (e d : ℕ) → AllByRecursion (IsIe R) ies → drop e s ≡ end_to_end ies ++ t → Pairs (Sits s (λ p. before p (laid R e ies)) e d) (filter stays (laid R e ies)) (laid R d (filter (stays_ie R) ies))
sits R s [] t e d each there = none
sits R s ([] ∷ ies) t e d each there = absurd each.0
sits R s ((o ∷ v) ∷ ies) t e d each there = go (skips (kind R o)) (λ d'. sits R s ies t (e + n) d' each.1 (behind s (o ∷ v) ies t e there))
  where
    n : ℕ
    n = length (o ∷ v)

    f : Found
    f = token_at R e o v

    rest : ℕ → List Found
    rest p = filter (skipped_below p) (laid R (e + n) ies)

    go : (b : Bool) → ((d' : ℕ) → Pairs (Sits s (λ p. length (flat_map whole (rest p))) (e + n) d') (filter stays (laid R (e + n) ies)) (laid R d' (filter (stays_ie R) ies))) → Pairs (Sits s (λ p. counted (b && ltb e p) f (rest p)) e d) (cond (not b) (f ∷ filter stays (laid R (e + n) ies)) (filter stays (laid R (e + n) ies))) (laid R d (cond (not b) ((o ∷ v) ∷ filter (stays_ie R) ies) (filter (stays_ie R) ies)))
    go true ih = pairs_map _ _ (over s f n e d refl (omega arith) rest) (ih d)
    go false ih =
        more
        (record {
          same = refl;
          from = omega arith;
          place = λ h fits. omega (arith, before_none R (e + h) (e + n) ies (omega arith));
          value = value_there s o v (end_to_end ies ++ t) e (head (shape R o)) (head_within R o v each.0) (there ∙ append_assoc (o ∷ v) (end_to_end ies) t);
        })
        (pairs_map _ _ (past s f n e d refl (omega arith) rest) (ih (d + n)))
