-- What a report counts as skipped is what striking takes away.
use Rattle.std.proofs.Common.{◌≡◌, ℕ, suc, ◌+◌, ◌≤◌, Bool, true, false, cond, not, List, [], ◌∷◌, ◌++◌, map, length, drop, sym, refl, ap, ◌∙◌, ap₂, arith, length-append}
use Rattle.std.specs.List.{flat_map, filter, AllByRecursion}
use Rattle.std.proofs.lemmas.List.Filters.{length-filter_both}
use Rattle.std.proofs.lemmas.List.{length-drop, length-take-le}
use Rattle.ie_walk.specs.Reading.{Reading, Kind, known, skippable, demanding, kind}
use Rattle.ie_walk.specs.Walks.{Found}
use Rattle.ie_walk.specs.Grammar.{IsIe, end_to_end, token_at, laid}
use Rattle.ie_walk.proofs.Laying.{laid_ies}
use Rattle.ie_tally.specs.declared.skipped.Skipped.{Skipped}
use Rattle.ie_tally.specs.Skips.{sums}
use Rattle.ie_tally.specs.Tallies.{skipped_total}
use Rattle.ie_report.specs.Judging.{Step}
use Rattle.ie_report.specs.Rows.{skips, stays, skip_by, skip_of}
use Rattle.ie_report.specs.Reports.{Message, imperative, tokens, report}
use Rattle.ie_compare.specs.Strikes.{whole, strike, struck}
use Rattle.ie_compare.specs.Laws.{CountsStruck}
use Rattle.ie_compare.proofs.Parts.{Within, stays_ie, laid_whole, division, ies_of, tail_of, kept_of, each_ie, each_kept, covered, struck_tokens}

abbrev skippable_one : Found → Bool
skippable_one f = skips f.kind

split_length : (b : Bool) (f : Found) (out in' : List Found) (n : ℕ) → length (flat_map whole out) + length (flat_map whole in') ≡ n → length (flat_map whole (cond b (f ∷ out) out)) + length (flat_map whole (cond (not b) (f ∷ in') in')) ≡ length (whole f) + n
split_length true f out in' n e = omega (arith, length-append (whole f) (flat_map whole out))
split_length false f out in' n e = omega (arith, length-append (whole f) (flat_map whole in'))

octets_split : (fs : List Found) → length (flat_map whole (filter skippable_one fs)) + length (flat_map whole (filter stays fs)) ≡ length (flat_map whole fs)
octets_split [] = refl
octets_split (f ∷ fs) =
    split_length (skips f.kind) f (filter skippable_one fs) (filter stays fs) _ (octets_split fs) ∙ sym (length-append (whole f) (flat_map whole fs))

ies_split : (fs : List Found) → length (filter skippable_one fs) + length (filter stays fs) ≡ length fs
ies_split fs = length-filter_both skippable_one stays (λ _. refl) fs

abbrev of_both : ℕ → ℕ → Skipped
of_both m n = record { ies = m; octets = n }

one_skip : (k : Kind) (f : Found) (out : List Found) → length out ≤ 65535 → length (whole f) + length (flat_map whole out) ≤ 65535 → sums (skip_by k (length (whole f))) (of_both (length out) (length (flat_map whole out))) ≡ of_both (length (cond (skips k) (f ∷ out) out)) (length (flat_map whole (cond (skips k) (f ∷ out) out)))
one_skip (known p) f out h k = ap₂ of_both (omega arith) (omega arith)
one_skip demanding f out h k = ap₂ of_both (omega arith) (omega arith)
one_skip skippable f out h k = ap₂ of_both (omega arith) (omega (arith, length-append (whole f) (flat_map whole out)))

skips_exact : (fs : List Found) → length fs ≤ 65535 → length (flat_map whole fs) ≤ 65535 → skipped_total (map skip_of fs) ≡ of_both (length (filter skippable_one fs)) (length (flat_map whole (filter skippable_one fs)))
skips_exact [] h k = refl
skips_exact (f ∷ fs) h k =
    let all = length-append (whole f) (flat_map whole fs) in
    ap (sums (skip_of f)) (skips_exact fs (omega arith) (omega arith))
    ∙ one_skip f.kind f (filter skippable_one fs) (omega (arith, ies_split fs)) (omega (arith, octets_split fs))

module _ (R : Reading) where
  laid_few : (p : ℕ) (ies : List (List ℕ)) → AllByRecursion (IsIe R) ies → length (laid R p ies) ≤ length (end_to_end ies)
  laid_few p [] each = omega arith
  laid_few p ([] ∷ ies) each = absurd each.0
  laid_few p ((o ∷ v) ∷ ies) each = omega (arith, laid_few (p + length (o ∷ v)) ies each.1, length-append (o ∷ v) (end_to_end ies))

  kept_count : (p : ℕ) (ies : List (List ℕ)) → AllByRecursion (IsIe R) ies → length (filter stays (laid R p ies)) ≡ length (filter (stays_ie R) ies)
  kept_count p [] each = refl
  kept_count p ([] ∷ ies) each = absurd each.0
  kept_count p ((o ∷ v) ∷ ies) each = go (not (skips (kind R o))) (kept_count (p + length (o ∷ v)) ies each.1)
    where
      go : (b : Bool) → length (filter stays (laid R (p + length (o ∷ v)) ies)) ≡ length (filter (stays_ie R) ies) → length (cond b (token_at R p o v ∷ filter stays (laid R (p + length (o ∷ v)) ies)) (filter stays (laid R (p + length (o ∷ v)) ies))) ≡ length (cond b ((o ∷ v) ∷ filter (stays_ie R) ies) (filter (stays_ie R) ies))
      go true ih = ap suc ih
      go false ih = ih

  pub counts_struck : {S : Type 0} (start : S) (step : Step S) (m : Message) → Within m → CountsStruck R m (report R start step m)
  unfolding report strike
  counts_struck start step m w =
      let fs = tokens R m in
      let found = (division R m).found in
      let all : flat_map whole fs ≡ end_to_end (ies_of R m) = ap (flat_map whole) found ∙ laid_whole R m.end (ies_of R m) (each_ie R m) in
      let octets : length (flat_map whole fs) ≡ length (end_to_end (ies_of R m)) = ap length all in
      let ies : length fs ≤ length (end_to_end (ies_of R m)) = omega (arith, ap length found, laid_few m.end (ies_of R m) (each_ie R m)) in
      let cover = ap length (covered R m) in
      let joined_up = length-append (end_to_end (ies_of R m)) (tail_of R m) in
      let behind = length-drop m.end m.octets in
      let exact = skips_exact fs (omega (arith, w.short, w.end)) (omega (arith, w.short, w.end)) in
      let left : length (tokens R (struck R m)) ≡ length (filter stays fs) = ap length (struck_tokens R m w) ∙ laid_ies R m.end (kept_of R m) (each_kept R m) ∙ sym (kept_count m.end (ies_of R m) (each_ie R m)) ∙ ap (λ (gs : List Found). length (filter stays gs)) (sym found) in
      let front = length-take-le m.end m.octets w.end in
      let whole_strike = length-append (imperative m) (flat_map whole (filter stays fs) ++ drop (m.end + length (flat_map whole fs)) m.octets) in
      let strike_rest = length-append (flat_map whole (filter stays fs)) (drop (m.end + length (flat_map whole fs)) m.octets) in
      let tail = length-drop (m.end + length (flat_map whole fs)) m.octets in
      record {
        ies = ap₂ (λ (x : Skipped) (k : ℕ). x.ies + k) exact left ∙ ies_split fs;
        octets = omega (arith, ap (λ (x : Skipped). x.octets) exact, octets_split fs, w.end, octets, cover, joined_up, behind, front, whole_strike, strike_rest, tail);
      }
