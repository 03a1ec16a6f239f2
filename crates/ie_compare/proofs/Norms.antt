-- The rows of a message beside its normal form, which the IEs that stay give alone.
use Rattle.std.proofs.Common.{◌≡◌, ℕ, ◌+◌, ◌-◌, List, [], ◌∷◌, map, length, sym, ap, ◌∙◌, subst, add-zero, arith}
use Rattle.std.specs.List.{filter}
use Rattle.ie_catalogue.specs.declared.entry.Entry.{Entry}
use Rattle.ie_walk.specs.Reading.{Reading}
use Rattle.ie_walk.specs.Walks.{Found}
use Rattle.ie_walk.specs.Grammar.{laid}
use Rattle.ie_report.specs.declared.row.Row.{Row}
use Rattle.ie_report.specs.declared.row.RowKind.{RowKind}
use Rattle.ie_report.specs.Judging.{Unplaced, unplaced, Step}
use Rattle.ie_report.specs.Rows.{stays, position_of, half_of, row_of, rows_from}
use Rattle.ie_report.specs.Reports.{Message, rows_of}
use Rattle.ie_compare.specs.Strikes.{whole, skipped_before}
use Rattle.ie_compare.specs.Alikes.{Face, face}
use Rattle.ie_compare.proofs.Pairs.{Pairs, none, more, pairs_same}
use Rattle.ie_compare.proofs.Parts.{division, ies_of, tail_of, kept_of, each_ie, covered}
use Rattle.ie_compare.proofs.Places.{before, Sits, sits}

-- a row's face, and its places once what is skipped is gone
pub record Norm : Type 0 where
  pub front : Face
  pub place : ℕ
  pub behind : ℕ

abbrev face_by : List Entry → RowKind → Unplaced → List ℕ → Face
face_by es k i value =
    record {
      kind = k;
      position = position_of i.what;
      iei = i.iei;
      size = length i.whole;
      length = length i.value;
      value = value;
      half = half_of es i.what i.iei;
    }

abbrev behind_by : ℕ → Unplaced → ℕ
behind_by place i = place + (length i.whole - length i.value)

abbrev pub norm : List Entry → RowKind → Found → Norm
norm es k y = record { front = face_by es k (unplaced y) y.part.value; place = y.part.place; behind = behind_by y.part.place (unplaced y) }

abbrev pub norms_from : {S : Type 0} → List Entry → Step S → S → List Found → List Norm
norms_from es step s [] = []
norms_from es step s (y ∷ ys) = norm es (step s (unplaced y)).0 y ∷ norms_from es step (step s (unplaced y)).1 ys

-- a row of the octets, where so many octets are skipped before each place, and its normal form
pub record Stands (octets : List ℕ) (skipped : ℕ → ℕ) (r : Row) (q : Norm) : Type 0 where
  pub front : face octets r ≡ q.front
  pub place : r.place ≡ q.place + skipped r.place
  pub behind : r.value_place ≡ q.behind + skipped r.value_place

module _ (es : List Entry) (octets : List ℕ) (skipped : ℕ → ℕ) (e : ℕ) where
  row_stands : (k : RowKind) (x y : Found) → Sits octets skipped e e x y → Stands octets skipped (row_of es k x) (norm es k y)
  row_stands k x y w =
      let h : ℕ = length (whole x) - length x.part.value in
      let here : x.part.place + 0 ≡ x.part.place = add-zero x.part.place in
      let same_head : behind_by y.part.place (unplaced x) ≡ behind_by y.part.place (unplaced y) = ap (behind_by y.part.place) w.same in
      record {
        front = ap (face_by es k (unplaced x)) w.value ∙ ap (λ (i : Unplaced). face_by es k i i.value) w.same;
        place = omega (arith, w.place 0 (omega arith), ap skipped here);
        behind = omega (arith, w.place h (omega arith), same_head);
      }

  pub rows_stand : {S : Type 0} (step : Step S) (s : S) {xs ys : List Found} → Pairs (Sits octets skipped e e) xs ys → Pairs (Stands octets skipped) (rows_from es step s xs) (norms_from es step s ys)
  rows_stand step s none = none
  rows_stand step s (more {x = x} {y = y} {xs = xs} {ys = ys} w ws) =
      subst (λ (i : Unplaced). Pairs (Stands octets skipped) (rows_from es step s (x ∷ xs)) (norm es (step s i).0 y ∷ norms_from es step (step s i).1 ys)) w.same
      (more (row_stands (step s (unplaced x)).0 x y w) (rows_stand step (step s (unplaced x)).1 ws))

module _ {S : Type 0} (R : Reading) (start : S) (step : Step S) where
  abbrev pub norms : ℕ → List (List ℕ) → List Norm
  norms end kept = norms_from R.entries step start (laid R end kept)

  pub stand : (m : Message) → Pairs (Stands m.octets (skipped_before R m)) (rows_of R start step m) (norms m.end (kept_of R m))
  unfolding skipped_before
  stand m =
      subst (λ (fs : List Found). Pairs (Stands m.octets (λ p. before p fs)) (rows_from R.entries step start (filter stays fs)) (norms m.end (kept_of R m))) (sym (division R m).found)
      (rows_stand R.entries m.octets (λ p. before p (laid R m.end (ies_of R m))) m.end step start
      (sits R m.octets (ies_of R m) (tail_of R m) m.end m.end (each_ie R m) (sym (covered R m))))

  pub fronts : (m : Message) → map (face m.octets) (rows_of R start step m) ≡ map (λ (q : Norm). q.front) (norms m.end (kept_of R m))
  fronts m = pairs_same (Stands m.octets (skipped_before R m)) (face m.octets) (λ (q : Norm). q.front) (λ r q w. w.front) (stand m)
