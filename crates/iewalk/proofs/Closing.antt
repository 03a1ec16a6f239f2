-- The last line is that of the division.
use Rattle.std.proofs.Common.{◌≡◌, ℕ, ◌+◌, ◌≤◌, List, [], ◌∷◌, ◌++◌, map, length, IfOk, Some, None, Ok, Err, Option, Result, ap, ◌∙◌, subst, append_assoc, arith, length-append, length-drop}
use Rattle.ie_walk.specs.declared.divide.Division.{Division}
use Rattle.ie_walk.specs.declared.divide.Totals.{Totals}
use Rattle.ie_walk.specs.declared.faults.IeFault.{IeFault}
use Rattle.ie_walk.specs.declared.faults.Placed.{Placed}
use Rattle.std.specs.List.{AllByRecursion}
use Rattle.ie_catalogue.specs.Refusals.{Refusal}
use Rattle.ie_catalogue.specs.declared.entry.Entry.{Entry}
use Rattle.ie_catalogue.specs.Entries.{meant}
use Rattle.ie_walk.specs.declared.faults.MessageFault.TheVariants.{Truncated}
use Rattle.ie_walk.specs.Cuts.{needed}
use Rattle.ie_walk.specs.Faults.{truncated, message_refusal}
use Rattle.ie_walk.specs.Grammar.{IsIe, laid, end_to_end, tail_fault}
use Rattle.ie_walk.specs.Reading.{Reading, reading, shape}
use Rattle.ie_walk.specs.Runs.{walked}
use Rattle.ie_walk.specs.Totals.{ies_of, octets_of, tail_refusal, Divided}
use Rattle.ul_nas_transport.specs.Imperative.{imperative_end}
use Rattle.ul_nas_transport.specs.Table.{table}
use Rattle.ie_walk.proofs.Laying.{walked_laid}
use Rattle.iewalk.specs.Lines.{text, ie_line, closing_by, closing_line}
use Rattle.iewalk.specs.Listing.{last_line, Listed, Appends, shipped, Listing}
use Rattle.iewalk.proofs.Texts.{text_joined}

closes_by : (R : Reading) (end : ℕ) (u : Option (Placed IeFault)) (t : Totals) (ies : List (List ℕ)) (tail : List ℕ) → tail_refusal u ≡ tail_fault R (end + length (end_to_end ies)) tail
    → ies_of t ≡ length ies → octets_of t ≡ length (end_to_end ies) → closing_by u t ≡ last_line R end ies tail
closes_by R end None t ies [] e i o = cc
closes_by R end None t ies (x ∷ os) e i o = let z : ◌≡◌ {A = ℕ} 0 1 = cc in absurd (omega arith)
closes_by R end (Some f) t ies [] e i o = let z : ◌≡◌ {A = ℕ} 0 1 = cc in absurd (omega arith)
closes_by R end (Some f) t ies (x ∷ os) e i o =
    let same : message_refusal (Truncated f) ≡ truncated x (end + length (end_to_end ies)) (needed (shape R x) (x ∷ os)) (length (x ∷ os)) = cc in
    let values = ap (λ (r : Refusal). r.values) same in
    cc

each_has_one : (R : Reading) (ies : List (List ℕ)) → AllByRecursion (IsIe R) ies → length ies ≤ length (end_to_end ies)
each_has_one R [] each = omega arith
each_has_one R ([] ∷ ies) each = absurd each.0
each_has_one R ((o ∷ v) ∷ ies) each = omega (arith, each_has_one R ies each.1, length-append (o ∷ v) (end_to_end ies))

module _ (R : Reading) (m : List ℕ) (end : ℕ) (d : Division) (D : Divided R m end d) where
  closes : closing_line d ≡ last_line R end D.division.ies D.division.tail
  closes = closes_by R end d.unfinished d.totals D.division.ies D.division.tail D.division.ends D.all_ies D.all_octets

  -- the IEs have no more octets than the message, and each has one
  pub octets_within : octets_of d.totals ≤ length m
  octets_within = omega (arith, D.all_octets, length-drop end m, simp length-append at (ap length D.division.only.divides.covers))

  pub ies_within : ies_of d.totals ≤ length m
  ies_within = omega (arith, D.all_ies, D.all_octets, octets_within, each_has_one R D.division.ies D.division.only.divides.each)

  listed : (before middle after : List ℕ) → middle ≡ before ++ text (map ie_line (walked R m end).tokens) → after ≡ middle ++ text (closing_line d ∷ []) → Listed R m end before after
  listed before middle after a b =
      let ies = D.division.ies in
      let tail = D.division.tail in
      let lines = map ie_line (laid R end ies) in
      let same : (walked R m end).tokens ≡ laid R end ies = walked_laid R m end _ _ D.division in
      let last = closes in
      record {
        ies = ies;
        tail = tail;
        only = D.division.only;
        lines =
            b
            ∙ ap (λ x. x ++ text (closing_line d ∷ [])) (a ∙ ap (λ ts. before ++ text (map ie_line ts)) same)
            ∙ ap (λ x. (before ++ text lines) ++ text (x ∷ [])) last
            ∙ append_assoc before (text lines) (text (last_line R end ies tail ∷ []))
            ∙ ap (λ x. before ++ x) (text_joined lines (last_line R end ies tail ∷ []));
      }

  pub appended : (before middle after : List ℕ) → length m ≤ 65535 → end ≤ length m → middle ≡ before ++ text (map ie_line (walked R m end).tokens) → after ≡ middle ++ text (closing_line d ∷ []) → Appends R m end before after
  appended before middle after short inside a b =
      record {
        too_long = λ h. absurd (omega arith);
        beyond = λ _ h. absurd (omega arith);
        divided = λ _ _. listed before middle after a b;
      }

-- what follows from a clause on an `Ok`
pub made_with : {X Y : Type 0} (r : Result X Y) (P Q : Type 0) → (P → Q) → IfOk r (λ _. P) → IfOk r (λ _. Q)
made_with (Ok x) P Q f p = f p
made_with (Err y) P Q f p = tt

-- the shipped catalogue and rule, from an empty text
pub listing_from : (es : List Entry) (m : List ℕ) (end : ℕ) (before after : List ℕ) → es ≡ map meant table → end ≡ imperative_end m → before ≡ [] → length m ≤ 4096
    → Appends (reading es shipped.framed shipped.demands) m end before after → Listing m after
listing_from es m end before after p q z short A =
    let B : Appends (reading (map meant table) shipped.framed shipped.demands) m end before after =
    subst (λ x. Appends (reading x shipped.framed shipped.demands) m end before after) p A in
    let C : Appends shipped m (imperative_end m) before after = subst (λ x. Appends shipped m x before after) q B in
    let D : Appends shipped m (imperative_end m) [] after = subst (λ x. Appends shipped m (imperative_end m) x after) z C in
    record {
      too_long = λ h. absurd (omega arith);
      beyond = λ _ h. D.beyond (omega arith) h;
      divided = λ _ h. D.divided (omega arith) h;
    }
