-- The walk gives the tokens of the division, and the fault of its tail.
use Rattle.std.proofs.Common.{◌≡◌, ℕ, ◌+◌, ◌<◌, ◌≤◌, List, [], ◌∷◌, ◌++◌, length, take, drop, Some, Ok, Err, Option, sym, refl, ap, ◌∙◌, ⊎_elim, append_assoc, add-zero, arith, length-append}
use Rattle.std.specs.List.{AllByRecursion}
use Rattle.std.proofs.lemmas.Bool.{le-ltb, lt-ltb, cases_lt}
use Rattle.std.proofs.lemmas.List.{take_at, drop_at}
use Rattle.ie_walk.specs.Cuts.{head, needed, cut_of}
use Rattle.ie_walk.specs.Faults.{truncated}
use Rattle.ie_walk.specs.Reading.{Reading, Kind, known, skippable, demanding, shape, kind}
use Rattle.ie_walk.specs.Walks.{Found, stepped, found_as, part_of}
use Rattle.ie_walk.specs.Runs.{Run, run, after_token, walked}
use Rattle.ie_catalogue.specs.Refusals.{Refusal}
use Rattle.ie_walk.specs.declared.divide.Totals.{Totals}
use Rattle.ie_walk.specs.declared.divide.Division.{Division}
use Rattle.ie_walk.specs.Totals.{count, count_kind, counts, no_totals, counted, counted_in, ies_of, octets_of, Divided}
use Rattle.ie_walk.specs.Grammar.{IsIe, Unfinished, IsDivision, end_to_end, token_at, laid, tail_fault}
use Rattle.ie_walk.proofs.Running.{run_more, run_short}
use Rattle.ie_walk.proofs.Dividing.{follows_size, front_is_ie, wholes, run_divides, only}

-- an IE at the front is what the step finds
pub step_ie : (R : Reading) (p o : ℕ) (v b : List ℕ) → IsIe R (o ∷ v) → stepped R p (o ∷ (v ++ b)) ≡ Ok (Some (token_at R p o v))
step_ie R p o v b ie =
    let size = follows_size (shape R o) o v b ie in
    let n = needed (shape R o) (o ∷ (v ++ b)) in
    let fits : n ≤ length (o ∷ (v ++ b)) = omega (arith, size, length-append (o ∷ v) b) in
    let front : take n (o ∷ (v ++ b)) ≡ o ∷ v = take_at (o ∷ v) b n size in
    let cut : cut_of (o ∷ (v ++ b)) (head (shape R o)) n ≡ Ok (o ∷ v, drop (head (shape R o)) (o ∷ v)) = rw (le-ltb (length (o ∷ (v ++ b))) n fits, front) in
    ap (λ c. found_as (kind R o) (part_of o p c)) cut

-- a tail that no IE begins is its fault
pub step_tail : (R : Reading) (p o : ℕ) (os : List ℕ) → Unfinished R (o ∷ os) → stepped R p (o ∷ os) ≡ Err (truncated o p (needed (shape R o) (o ∷ os)) (length (o ∷ os)))
step_tail R p o os un =
    let n = needed (shape R o) (o ∷ os) in
    let lacks : length (o ∷ os) < n = ⊎_elim (λ h. h) (λ h. absurd (un (take n (o ∷ os)) (drop n (o ∷ os)) (lib.ListN.take-append-drop n (o ∷ os)) (front_is_ie R o os h))) (cases_lt (length (o ∷ os)) n) in
    rw (lt-ltb (length (o ∷ os)) n lacks)

-- the walk is determined by the division
abbrev run_over : Reading → ℕ → List (List ℕ) → List ℕ → Run
run_over R p ies tail = record { tokens = laid R p ies; fault = tail_fault R (p + length (end_to_end ies)) tail }

pub run_of : (R : Reading) (p : ℕ) (ies : List (List ℕ)) (tail : List ℕ) → AllByRecursion (IsIe R) ies → Unfinished R tail → run R p 0 (end_to_end ies ++ tail) ≡ run_over R p ies tail
run_of R p [] [] each un = refl
run_of R p [] (o ∷ os) each un =
    run_short R p (o ∷ os) _ (step_tail R p o os un) ∙ ap (λ q. record { tokens = []; fault = tail_fault R q (o ∷ os) }) (sym (add-zero p))
run_of R p ([] ∷ ies) tail each un = absurd each.0
run_of R p ((o ∷ v) ∷ ies) tail each un =
    let js = end_to_end ies in
    let f = token_at R p o v in
    let on = run_of R (p + length (o ∷ v)) ies tail each.1 un in
    let shape : end_to_end ((o ∷ v) ∷ ies) ++ tail ≡ o ∷ (v ++ (js ++ tail)) = append_assoc (o ∷ v) js tail in
    let left : drop (length (o ∷ v)) (o ∷ (v ++ (js ++ tail))) ≡ js ++ tail = drop_at (o ∷ v) (js ++ tail) _ refl in
    let place : p + length (o ∷ v) + length js ≡ p + length ((o ∷ v) ++ js) = omega (arith, length-append (o ∷ v) js) in
    ap (run R p 0) shape
    ∙ run_more R p (o ∷ (v ++ (js ++ tail))) f (step_ie R p o v (js ++ tail) each.0)
    ∙ ap (λ os. after_token f (run R (p + length (o ∷ v)) 0 os)) left
    ∙ ap (after_token f) on
    ∙ ap (λ q. record { tokens = laid R p ((o ∷ v) ∷ ies); fault = tail_fault R q tail }) place

-- the walk over a message is its only division
pub walk_divides : (R : Reading) (m : List ℕ) (end : ℕ) → IsDivision R m end (walked R m end).tokens (walked R m end).fault
walk_divides R m end =
    let (tail, D) = run_divides R end 0 (drop end m) in
    let ies = wholes (walked R m end) in
    let same : walked R m end ≡ run_over R end ies tail = ap (run R end 0) (sym D.covers) ∙ run_of R end ies tail D.each D.stops in
    record {
      ies = ies;
      tail = tail;
      only = only R (drop end m) ies tail D;
      found = ap (λ (r : Run). r.tokens) same;
      ends = ap (λ (r : Run). r.fault) same;
    }

-- the totals add up to all IEs, and to all their octets
counts_ies : (t : Totals) (fs : List Found) → ies_of (counts t fs) ≡ ies_of t + length fs
counts_ies t [] = omega arith
counts_ies t (f ∷ fs) = omega (arith, counts_ies (count t f) fs, one_ie f.kind)
  where
    one_ie : (k : Kind) → ies_of (count_kind k (length f.part.whole) t) ≡ ies_of t + 1
    one_ie (known p) = omega arith
    one_ie skippable = omega arith
    one_ie demanding = omega arith

pub laid_ies : (R : Reading) (p : ℕ) (ies : List (List ℕ)) → AllByRecursion (IsIe R) ies → length (laid R p ies) ≡ length ies
laid_ies R p [] each = refl
laid_ies R p ([] ∷ ies) each = absurd each.0
laid_ies R p ((o ∷ v) ∷ ies) each = omega (arith, laid_ies R (p + length (o ∷ v)) ies each.1)

laid_octets : (R : Reading) (p : ℕ) (t : Totals) (ies : List (List ℕ)) → AllByRecursion (IsIe R) ies → octets_of (counts t (laid R p ies)) ≡ octets_of t + length (end_to_end ies)
laid_octets R p t [] each = omega arith
laid_octets R p t ([] ∷ ies) each = absurd each.0
laid_octets R p t ((o ∷ v) ∷ ies) each =
    omega (arith, laid_octets R (p + length (o ∷ v)) (count t (token_at R p o v)) ies each.1, octets (kind R o), length-append (o ∷ v) (end_to_end ies))
  where
    octets : (k : Kind) → octets_of (count_kind k (length (o ∷ v)) t) ≡ octets_of t + length (o ∷ v)
    octets (known p) = omega arith
    octets skippable = omega arith
    octets demanding = omega arith

pub counted_divides : (R : Reading) (m : List ℕ) (end : ℕ) (d : Division) → counted_in d ≡ counted no_totals (walked R m end) → Divided R m end d
counted_divides R m end d e =
    let D = walk_divides R m end in
    let each = D.only.divides.each in
    let totals : d.totals ≡ counts no_totals (walked R m end).tokens = ap (λ (x : Totals × Option Refusal). x.0) e in
    let laid_out : d.totals ≡ counts no_totals (laid R end D.ies) = totals ∙ ap (counts no_totals) D.found in
    record {
      tokens = (walked R m end).tokens;
      division = record { ies = D.ies; tail = D.tail; only = D.only; found = D.found; ends = ap (λ (x : Totals × Option Refusal). x.1) e ∙ D.ends };
      totals = totals;
      all_ies = omega (arith, ap ies_of laid_out, counts_ies no_totals (laid R end D.ies), laid_ies R end D.ies each);
      all_octets = omega (arith, ap octets_of laid_out, laid_octets R end no_totals D.ies each);
    }

-- the tokens of the walk are those of any division
pub walked_laid : (R : Reading) (m : List ℕ) (end : ℕ) (tokens : List Found) (fault : Option Refusal) (D : IsDivision R m end tokens fault) → (walked R m end).tokens ≡ laid R end D.ies
walked_laid R m end tokens fault D =
    let W = walk_divides R m end in
    W.found ∙ ap (laid R end) (D.only.only W.ies W.tail W.only.divides).0
