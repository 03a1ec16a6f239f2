-- Which outcome a report has, cause by cause.
use Rattle.std.proofs.Common.{◌≡◌, ℕ, Bool, true, false, cond, ltb, ◌↔◌, List, [], ◌∷◌, ◌++◌, length, Some, None, Ok, Err, Option, Result, sym, refl, ◌∙◌, subst, arith}
use Rattle.std.proofs.lemmas.List.{drop_all}
use Rattle.std.proofs.lemmas.Bool.{ltb-true, ltb-false, le-ltb}
use Rattle.ie_catalogue.specs.Refusals.{Refusal, refused}
use Rattle.ie_walk.specs.Reading.{Reading}
use Rattle.ie_walk.specs.Grammar.{tail_fault}
use Rattle.ie_report.specs.Judging.{Step}
use Rattle.ie_report.specs.Reports.{Message, fault, Report, report, declined_at_start, declined_by, declined_if, outcome}
use Rattle.ie_compare.specs.Laws.{Accepted, WithinLimit, declined_as}
use Rattle.ie_compare.proofs.Parts.{Within, division, tail_of, covered}

abbrev decide : Bool → Bool → Option Refusal → Bool → Bool → Report → Result Report Refusal
decide long beyond cut few_rows few_diagnoses x =
    declined_at_start (cond long (Err (refused 1)) (cond beyond (Err (refused 2)) (Ok tt)))
    (declined_by cut (declined_if few_rows 4 (declined_if few_diagnoses 5 (Ok x))))

record Sound (long beyond : Bool) (cut : Option Refusal) (x a : Report) : Type 0 where
  short : long ≡ false
  end : beyond ≡ false
  uncut : cut ≡ None
  is : x ≡ a

sound : (a b : Bool) (o : Option Refusal) (c d : Bool) (x y : Report) → decide a b o c d x ≡ Ok y → Sound a b o x y
sound true b o c d x y h = let z : ◌≡◌ {A = ℕ} 0 1 = cc in absurd (omega arith)
sound false true o c d x y h = let z : ◌≡◌ {A = ℕ} 0 1 = cc in absurd (omega arith)
sound false false (Some r) c d x y h = let z : ◌≡◌ {A = ℕ} 0 1 = cc in absurd (omega arith)
sound false false None true d x y h = let z : ◌≡◌ {A = ℕ} 0 1 = cc in absurd (omega arith)
sound false false None false true x y h = let z : ◌≡◌ {A = ℕ} 0 1 = cc in absurd (omega arith)
sound false false None false false x y h = record { short = refl; end = refl; uncut = refl; is = cc }

abbrev pub empty : List ℕ → Bool
empty [] = true
empty (o ∷ os) = false

nothing_behind : (xs ys : List ℕ) → xs ++ ys ≡ [] → ys ≡ []
nothing_behind [] ys h = h
nothing_behind (x ∷ xs) ys h = let z : ◌≡◌ {A = ℕ} 0 1 = cc in absurd (omega arith)

no_tail : (R : Reading) (p : ℕ) (t : List ℕ) → tail_fault R p t ≡ None → t ≡ []
no_tail R p [] h = refl
no_tail R p (o ∷ os) h = let z : ◌≡◌ {A = ℕ} 0 1 = cc in absurd (omega arith)

module _ {S : Type 0} (R : Reading) (start : S) (step : Step S) where
  -- an accepted message keeps within, its walk leaves no tail, and this is its report
  pub record Whole (m : Message) (a : Report) : Type 0 where
    pub within : Within m
    pub no_tail : tail_of R m ≡ []
    pub is : report R start step m ≡ a

  abbrev few_rows : Message → ℕ → Bool
  few_rows m rows = ltb rows (length (report R start step m).rows)

  abbrev few_diagnoses : Message → ℕ → Bool
  few_diagnoses m diagnoses = ltb diagnoses (length (report R start step m).diagnoses)

  pub whole_when : (m : Message) (a : Report) → Accepted R start step m a → Whole m a
  unfolding outcome
  whole_when m a h =
      let s = sound (ltb 65535 (length m.octets)) (ltb (length m.octets) m.end) (fault R m) (few_rows m h.row_places) (few_diagnoses m h.diagnosis_places) (report R start step m) a h.made in
      record {
        within = record { short = ltb-false _ _ s.short; end = ltb-false _ _ s.end };
        no_tail = no_tail R _ (tail_of R m) (sym (division R m).ends ∙ s.uncut);
        is = s.is;
      }

  third : (p : ℕ) (t : List ℕ) (c d : Bool) (x : Report) → (declined_as (decide false false (tail_fault R p t) c d x) ≡ 3) ↔ (empty t ≡ false)
  third p [] true d x = (λ h. absurd (omega arith), λ h. let z : ◌≡◌ {A = ℕ} 0 1 = cc in absurd (omega arith))
  third p [] false true x = (λ h. absurd (omega arith), λ h. let z : ◌≡◌ {A = ℕ} 0 1 = cc in absurd (omega arith))
  third p [] false false x = (λ h. absurd (omega arith), λ h. let z : ◌≡◌ {A = ℕ} 0 1 = cc in absurd (omega arith))
  third p (o ∷ os) c d x = (λ h. refl, λ h. refl)

  third_within : (beyond : Bool) (p : ℕ) (t : List ℕ) → (beyond ≡ true → t ≡ []) → (c d : Bool) (x : Report) → (declined_as (decide false beyond (tail_fault R p t) c d x) ≡ 3) ↔ (empty t ≡ false)
  third_within false p t h c d x = third p t c d x
  third_within true p t h c d x = (λ k. absurd (omega arith), λ k. let e : t ≡ [] = h refl in let z : ◌≡◌ {A = ℕ} 0 1 = cc in absurd (omega arith))

  -- an end beyond the message leaves nothing behind it
  no_tail_beyond : (m : Message) → ltb (length m.octets) m.end ≡ true → tail_of R m ≡ []
  no_tail_beyond m h = let l = ltb-true _ _ h in nothing_behind _ _ (covered R m ∙ drop_all m.end m.octets (omega arith))

  -- refused as truncated exactly if a tail is left
  pub truncated_when : (m : Message) (rows diagnoses : ℕ) → WithinLimit m → (declined_as (outcome R start step m rows diagnoses) ≡ 3) ↔ (empty (tail_of R m) ≡ false)
  unfolding outcome
  truncated_when m rows diagnoses w =
      let x = report R start step m in
      let beyond = ltb (length m.octets) m.end in
      subst (λ (r : Result Report Refusal). (declined_as r ≡ 3) ↔ (empty (tail_of R m) ≡ false))
      (sym (λ i. decide (le-ltb 65535 (length m.octets) w i) beyond ((division R m).ends i) (few_rows m rows) (few_diagnoses m diagnoses) x))
      (third_within beyond _ (tail_of R m) (no_tail_beyond m) (few_rows m rows) (few_diagnoses m diagnoses) x)
