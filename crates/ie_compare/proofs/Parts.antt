-- A message by its only division: the IEs that stay, and what striking leaves of it.
use Rattle.std.proofs.Common.{◌≡◌, ℕ, ◌+◌, ◌≤◌, Bool, true, false, cond, not, List, [], ◌∷◌, ◌++◌, length, drop, sym, refl, ap, ◌∙◌, ap₂}
use mathlib.Core.List.{append_cancel_left}
use Rattle.std.specs.List.{flat_map, filter, AllByRecursion}
use Rattle.std.proofs.lemmas.List.{drop-drop, drop_at, length-take-le}
use Rattle.ie_walk.specs.Reading.{Reading, kind}
use Rattle.ie_walk.specs.Runs.{walked, Run}
use Rattle.ie_walk.specs.Grammar.{IsIe, IsDivision, end_to_end, token_at, laid}
use Rattle.ie_walk.proofs.Dividing.{one_division}
use Rattle.ie_walk.proofs.Laying.{walk_divides, run_of}
use Rattle.ie_report.specs.Rows.{skips, stays}
use Rattle.ie_report.specs.Reports.{Message, imperative, tokens, fault}
use Rattle.ie_compare.specs.Strikes.{whole, strike, struck, end_of_ies, SameWhenStruck}
use Rattle.ie_compare.proofs.Everys.{every_kept}

-- a message within the length limit that has all of its imperative part
pub record Within (m : Message) : Type 0 where
  pub short : length m.octets ≤ 65535
  pub end : m.end ≤ length m.octets

-- the IE of these octets is not skippable
abbrev pub stays_ie : Reading → List ℕ → Bool
stays_ie R [] = false
stays_ie R (o ∷ v) = not (skips (kind R o))

pub laid_whole : (R : Reading) (p : ℕ) (ies : List (List ℕ)) → AllByRecursion (IsIe R) ies → flat_map whole (laid R p ies) ≡ end_to_end ies
laid_whole R p [] each = refl
laid_whole R p ([] ∷ ies) each = absurd each.0
laid_whole R p ((o ∷ v) ∷ ies) each = ap (λ rest. (o ∷ v) ++ rest) (laid_whole R (p + length (o ∷ v)) ies each.1)

laid_kept : (R : Reading) (p : ℕ) (ies : List (List ℕ)) → AllByRecursion (IsIe R) ies → flat_map whole (filter stays (laid R p ies)) ≡ end_to_end (filter (stays_ie R) ies)
laid_kept R p [] each = refl
laid_kept R p ([] ∷ ies) each = absurd each.0
laid_kept R p ((o ∷ v) ∷ ies) each = go (not (skips (kind R o))) (laid_kept R (p + length (o ∷ v)) ies each.1)
  where
    go : (b : Bool) → flat_map whole (filter stays (laid R (p + length (o ∷ v)) ies)) ≡ end_to_end (filter (stays_ie R) ies) → flat_map whole (cond b (token_at R p o v ∷ filter stays (laid R (p + length (o ∷ v)) ies)) (filter stays (laid R (p + length (o ∷ v)) ies))) ≡ end_to_end (cond b ((o ∷ v) ∷ filter (stays_ie R) ies) (filter (stays_ie R) ies))
    go true ih = ap (λ rest. (o ∷ v) ++ rest) ih
    go false ih = ih

module _ (R : Reading) where
  pub division : (m : Message) → IsDivision R m.octets m.end (tokens R m) (fault R m)
  division m = walk_divides R m.octets m.end

  abbrev pub ies_of : Message → List (List ℕ)
  ies_of m = (division m).ies

  abbrev pub tail_of : Message → List ℕ
  tail_of m = (division m).tail

  -- the IEs that striking leaves
  abbrev pub kept_of : Message → List (List ℕ)
  kept_of m = filter (stays_ie R) (ies_of m)

  pub each_ie : (m : Message) → AllByRecursion (IsIe R) (ies_of m)
  each_ie m = (division m).only.divides.each

  pub each_kept : (m : Message) → AllByRecursion (IsIe R) (kept_of m)
  each_kept m = every_kept (IsIe R) (stays_ie R) (ies_of m) (each_ie m)

  pub covered : (m : Message) → end_to_end (ies_of m) ++ tail_of m ≡ drop m.end m.octets
  covered m = (division m).only.divides.covers

  tail_is : (m : Message) → drop (end_of_ies R m) m.octets ≡ tail_of m
  tail_is m =
      let all : flat_map whole (tokens R m) ≡ end_to_end (ies_of m) = ap (flat_map whole) (division m).found ∙ laid_whole R m.end (ies_of m) (each_ie m) in
      ap (λ os. drop (m.end + length os) m.octets) all
      ∙ sym (drop-drop (length (end_to_end (ies_of m))) m.end m.octets)
      ∙ ap (drop (length (end_to_end (ies_of m)))) (sym (covered m))
      ∙ drop_at (end_to_end (ies_of m)) (tail_of m) _ refl

  pub strike_is : (m : Message) → strike R m ≡ imperative m ++ (end_to_end (kept_of m) ++ tail_of m)
  unfolding strike
  strike_is m =
      let kept : flat_map whole (filter stays (tokens R m)) ≡ end_to_end (kept_of m) = ap (λ fs. flat_map whole (filter stays fs)) (division m).found ∙ laid_kept R m.end (ies_of m) (each_ie m) in
      ap₂ (λ a b. imperative m ++ (a ++ b)) kept (tail_is m)

  pub same_end : (m n : Message) → Within m → Within n → imperative m ≡ imperative n → m.end ≡ n.end
  same_end m n v w e = sym (length-take-le m.end m.octets v.end) ∙ ap length e ∙ length-take-le n.end n.octets w.end

  -- equal after striking: the same IEs stay, and the tails are the same
  pub same_parts : (m n : Message) → imperative m ≡ imperative n → SameWhenStruck R m n → (kept_of m ≡ kept_of n) × (tail_of m ≡ tail_of n)
  same_parts m n e h =
      let left : imperative n ++ (end_to_end (kept_of m) ++ tail_of m) ≡ imperative n ++ (end_to_end (kept_of n) ++ tail_of n) = ap (λ imp. imp ++ (end_to_end (kept_of m) ++ tail_of m)) (sym e) ∙ sym (strike_is m) ∙ h ∙ strike_is n in
      one_division R (kept_of m) (kept_of n) (tail_of m) (tail_of n) (each_kept m) (each_kept n) (division m).only.divides.stops (division n).only.divides.stops
      (append_cancel_left (imperative n) _ _ left)

  -- the walk over what is left finds the IEs that stay
  pub struck_tokens : (m : Message) → Within m → tokens R (struck R m) ≡ laid R m.end (kept_of m)
  struck_tokens m w =
      let left : drop m.end (strike R m) ≡ end_to_end (kept_of m) ++ tail_of m = ap (drop m.end) (strike_is m) ∙ drop_at (imperative m) _ m.end (length-take-le m.end m.octets w.end) in
      ap (λ os. (Rattle.ie_walk.specs.Runs.run R m.end 0 os).tokens) left
      ∙ ap (λ (r : Run). r.tokens) (run_of R m.end (kept_of m) (tail_of m) (each_kept m) (division m).only.divides.stops)
