-- The comparison law, for any way of judging.
use Rattle.std.proofs.Common.{◌≡◌, ℕ, false, cond, ltb, ◌↔◌, List, [], ◌∷◌, ◌++◌, map, length, Some, None, Option, sym, refl, ap, ◌∙◌, subst, ap₂, subst₂, arith}
use Rattle.std.specs.List.{flat_map, filter, AllByRecursion}
use Rattle.std.specs.Option.{option_to_list, option_map}
use Rattle.std.proofs.lemmas.Bool.{le-ltb, and_right}
use Rattle.ie_walk.specs.declared.faults.Placed.{Placed}
use Rattle.ie_walk.specs.Reading.{Reading}
use Rattle.ie_walk.specs.Walks.{Found}
use Rattle.ie_walk.specs.Grammar.{end_to_end}
use Rattle.ie_tally.specs.declared.positions.Positions.{Positions}
use Rattle.ie_report.specs.declared.row.Row.{Row}
use Rattle.ie_report.specs.declared.diagnosis.Diagnosis.{Diagnosis}
use Rattle.ie_report.specs.declared.diagnosis.DiagnosisKind.{DiagnosisKind}
use Rattle.ie_report.specs.Judging.{Step}
use Rattle.ie_report.specs.Rows.{skips}
use Rattle.ie_report.specs.Diagnosing.{of_row, raises, diagnosis_of, afterwards}
use Rattle.ie_report.specs.Reports.{Message, imperative, tokens, taken_in, diagnoses_in, rows_of, Report, report}
use Rattle.ie_compare.specs.Strikes.{whole, SameWhenStruck, skipped_below, skipped_before}
use Rattle.ie_compare.specs.Alikes.{Face, face, Alike, Agree, PlacesAgree}
use Rattle.ie_compare.specs.Laws.{Octet, CountsStruck, Law}
use Rattle.ie_compare.proofs.Pairs.{Pairs, none, more, pairs_map, pairs_same, pairs_append, pairs_wise, pairs_joined, pairs_through}
use Rattle.ie_compare.proofs.Parts.{Within, kept_of, tail_of, strike_is, same_end, same_parts}
use Rattle.ie_compare.proofs.Places.{before}
use Rattle.ie_compare.proofs.Norms.{Norm, norms, Stands, stand}
use Rattle.ie_compare.proofs.Telling.{taken_faces, taken_told, same_diagnosed, same_severity, AtZero, afterwards_at_zero}
use Rattle.ie_compare.proofs.Decoding.{decoded, kept_decoded}
use Rattle.ie_compare.proofs.Counting.{counts_struck}
use Rattle.ie_compare.proofs.Declining.{empty, whole_when, truncated_when}

-- nothing is skipped before the first octet
before_first : (fs : List Found) → before 0 fs ≡ 0
before_first [] = refl
before_first (f ∷ fs) =
    ap (λ b. length (flat_map whole (cond b (f ∷ filter (skipped_below 0) fs) (filter (skipped_below 0) fs)))) (and_right (skips f.kind) (ltb f.part.place 0) (le-ltb f.part.place 0 (omega arith)))
    ∙ before_first fs

skipped_none : (R : Reading) (m : Message) → skipped_before R m 0 ≡ 0
unfolding skipped_before
skipped_none R m = before_first (tokens R m)

module _ {S : Type 0} (R : Reading) (start : S) (step : Step S) where
  abbrev rows_in : Message → List Row
  rows_in m = rows_of R start step m

  -- what two messages share that are equal after striking
  record Shared (m n : Message) : Type 0 where
    imperative_part : imperative m ≡ imperative n
    normal : norms R start step m.end (kept_of R m) ≡ norms R start step n.end (kept_of R n)

  shared : (m n : Message) → Within m → Within n → imperative m ≡ imperative n → SameWhenStruck R m n → Shared m n
  shared m n v w e h =
      record { imperative_part = e; normal = ap₂ (norms R start step) (same_end R m n v w e) (same_parts R m n e h).0 }

  -- a row of each: the same but for places, and these agree
  record Both (m n : Message) (x y : Row) : Type 0 where
    front : face m.octets x ≡ face n.octets y
    place : Agree R m n x.place y.place
    value : Agree R m n x.value_place y.value_place

  both : (m n : Message) → Shared m n → Pairs (Both m n) (rows_in m) (rows_in n)
  both m n s =
      pairs_through (Stands m.octets (skipped_before R m)) (Stands n.octets (skipped_before R n)) (Both m n)
      (λ x y q v w. record { front = v.front ∙ sym w.front; place = omega (arith, v.place, w.place); value = omega (arith, v.behind, w.behind) })
      (subst (λ (qs : List Norm). Pairs (Stands m.octets (skipped_before R m)) (rows_in m) qs) s.normal (stand R start step m))
      (stand R start step n)

  faces_same : (m n : Message) → Shared m n → map (face m.octets) (rows_in m) ≡ map (face n.octets) (rows_in n)
  faces_same m n s = pairs_same (Both m n) (face m.octets) (face n.octets) (λ x y w. w.front) (both m n s)

  faces_alike : (m n : Message) → imperative m ≡ imperative n → map (face m.octets) (rows_in m) ≡ map (face n.octets) (rows_in n) → Alike m n (report R start step m) (report R start step n)
  unfolding report
  faces_alike m n e f =
      let ds = same_diagnosed R (imperative m) (imperative n) m.octets n.octets (rows_in m) (rows_in n) e f in
      record { severity = same_severity R _ _ ds; rows = f; diagnoses = ds }

  struck_alike : (m n : Message) → Shared m n → Alike m n (report R start step m) (report R start step n)
  struck_alike m n s = faces_alike m n s.imperative_part (faces_same m n s)

  alike_struck : (m n : Message) → AllByRecursion Octet m.octets → AllByRecursion Octet n.octets → tail_of R m ≡ tail_of R n → imperative m ≡ imperative n → Alike m n (report R start step m) (report R start step n) → SameWhenStruck R m n
  unfolding report
  alike_struck m n a b t e l =
      let same : end_to_end (kept_of R m) ≡ end_to_end (kept_of R n) = sym (kept_decoded R step start m a) ∙ ap (flat_map decoded) l.rows ∙ kept_decoded R step start n b in
      strike_is R m ∙ ap₂ (λ u v. u ++ v) e (ap₂ (λ u v. u ++ v) same t) ∙ sym (strike_is R n)

  -- the places of diagnoses

  abbrev AgreeAt : Message → Message → Placed Diagnosis → Placed Diagnosis → Type 0
  AgreeAt m n d f = Agree R m n d.place f.place

  one_diagnosis : (m n : Message) (x y : Row) (o : Option DiagnosisKind) → Agree R m n x.place y.place → Pairs (AgreeAt m n) (option_to_list (option_map (λ (k : DiagnosisKind). of_row k x) o)) (option_to_list (option_map (λ (k : DiagnosisKind). of_row k y) o))
  one_diagnosis m n x y None w = none
  one_diagnosis m n x y (Some k) w = more w none

  row_diagnosis : (m n : Message) (x y : Row) → Both m n x y → Pairs (AgreeAt m n) (option_to_list (diagnosis_of R x)) (option_to_list (diagnosis_of R y))
  row_diagnosis m n x y w =
      subst (λ (f : Face). Pairs (AgreeAt m n) (option_to_list (diagnosis_of R x)) (option_to_list (option_map (λ (k : DiagnosisKind). of_row k y) (raises R f.kind f.position f.iei)))) w.front
      (one_diagnosis m n x y (raises R x.kind x.position x.iei) w.place)

  zero_agree : (m n : Message) (ds : List (Placed Diagnosis)) → AllByRecursion AtZero ds → Pairs (AgreeAt m n) ds ds
  zero_agree m n [] h = none
  zero_agree m n (d ∷ ds) h =
      more (omega (arith, h.0, ap (skipped_before R m) h.0, ap (skipped_before R n) h.0, skipped_none R m, skipped_none R n)) (zero_agree m n ds h.1)

  diagnoses_agree : (m n : Message) → Shared m n → Pairs (AgreeAt m n) (diagnoses_in R (imperative m) (rows_in m)) (diagnoses_in R (imperative n) (rows_in n))
  diagnoses_agree m n s =
      let taken : taken_in (rows_in m) ≡ taken_in (rows_in n) = taken_told m.octets (rows_in m) ∙ ap taken_faces (faces_same m n s) ∙ sym (taken_told n.octets (rows_in n)) in
      let later : afterwards (imperative m) (taken_in (rows_in m)).bits 0 R.entries ≡ afterwards (imperative n) (taken_in (rows_in n)).bits 0 R.entries = ap₂ (λ imp (t : Positions). afterwards imp t.bits 0 R.entries) s.imperative_part taken in
      pairs_append (AgreeAt m n)
      (pairs_joined (Both m n) (AgreeAt m n) (λ (r : Row). option_to_list (diagnosis_of R r)) (λ (r : Row). option_to_list (diagnosis_of R r)) (row_diagnosis m n) (both m n s))
      (subst (λ (ds : List (Placed Diagnosis)). Pairs (AgreeAt m n) (afterwards (imperative m) (taken_in (rows_in m)).bits 0 R.entries) ds) later
      (zero_agree m n _ (afterwards_at_zero (imperative m) (taken_in (rows_in m)).bits 0 R.entries)))

  struck_places : (m n : Message) → Shared m n → PlacesAgree R m n (report R start step m) (report R start step n)
  unfolding report
  struck_places m n s =
      record {
        rows = pairs_wise _ (pairs_map (Both m n) _ (λ x y w. w.place) (both m n s));
        values = pairs_wise _ (pairs_map (Both m n) _ (λ x y w. w.value) (both m n s));
        diagnoses = pairs_wise _ (diagnoses_agree m n s);
      }

  pub law : Law R start step
  law =
      record {
        alike = λ m n a b h k e.
            let v = whole_when R start step m a h in
            let w = whole_when R start step n b k in
            subst₂ (λ (x y : Report). Alike m n x y ↔ SameWhenStruck R m n) v.is w.is
            (alike_struck m n h.octets k.octets (v.no_tail ∙ sym w.no_tail) e, λ s. struck_alike m n (shared m n v.within w.within e s));
        places = λ m n a b h k e s.
            let v = whole_when R start step m a h in
            let w = whole_when R start step n b k in
            subst₂ (PlacesAgree R m n) v.is w.is (struck_places m n (shared m n v.within w.within e s));
        totals = λ m a h. let v = whole_when R start step m a h in subst (CountsStruck R m) v.is (counts_struck R start step m v.within);
        truncation = λ m n p q p' q' v w e s.
            let a = truncated_when R start step m p q v in
            let b = truncated_when R start step n p' q' w in
            (λ h. b.1 (subst (λ (u : List ℕ). empty u ≡ false) (same_parts R m n e s).1 (a.0 h)), λ h. a.1 (subst (λ (u : List ℕ). empty u ≡ false) (sym (same_parts R m n e s).1) (b.0 h)));
      }
