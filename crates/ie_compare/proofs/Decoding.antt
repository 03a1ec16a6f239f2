-- A row's face tells the octets of its IE.
use Rattle.std.proofs.Common.{◌≡◌, ℕ, zero, suc, ◌+◌, ◌-◌, ◌/◌, ◌%◌, List, [], ◌∷◌, ◌++◌, map, length, drop, sym, refl, ap, ◌∙◌, subst, ap₂, arith}
use Rattle.std.specs.List.{flat_map, AllByRecursion}
use Rattle.ie_walk.specs.declared.cut.Shape.{Shape}
use Rattle.ie_walk.specs.declared.cut.Shape.TheVariants.{Fixed, Tlv, TlvE}
use Rattle.ie_walk.specs.Cuts.{head}
use Rattle.ie_walk.specs.Reading.{Reading, shape}
use Rattle.ie_walk.specs.Grammar.{Follows, IsIe, end_to_end, token_at, laid}
use Rattle.ie_report.specs.Judging.{Step, unplaced}
use Rattle.ie_report.specs.Reports.{Message, rows_of}
use Rattle.ie_compare.specs.Alikes.{Face, face}
use Rattle.ie_compare.specs.Laws.{Octet}
use Rattle.ie_compare.proofs.Everys.{every_drop, every_left, every_kept, every_joined}
use Rattle.ie_compare.proofs.Parts.{stays_ie, ies_of, tail_of, kept_of, each_kept, covered}
use Rattle.ie_compare.proofs.Norms.{Norm, norms_from, fronts}

-- the length octets, from their number and the length
abbrev coded : ℕ → ℕ → List ℕ
coded zero n = []
coded (suc zero) n = n ∷ []
coded (suc (suc k)) n = n / 256 ∷ n % 256 ∷ []

abbrev pub decoded : Face → List ℕ
decoded f = f.iei ∷ (coded (f.size - suc f.length) f.length ++ f.value)

shape_decoded : (s : Shape) (o : ℕ) (v : List ℕ) → Follows s v → AllByRecursion Octet v → coded (length (o ∷ v) - suc (length (drop (head s) (o ∷ v)))) (length (drop (head s) (o ∷ v))) ++ drop (head s) (o ∷ v) ≡ v
shape_decoded (Fixed n) o v h os =
    let none : suc (length v) - suc (length v) ≡ 0 = omega arith in
    ap (λ k. coded k (length v) ++ v) none
shape_decoded Tlv o [] h os = absurd h
shape_decoded Tlv o (n ∷ v) h os =
    let one : suc (suc (length v)) - suc (length v) ≡ 1 = omega arith in
    ap (λ k. coded k (length v) ++ v) one ∙ ap (λ (k : ℕ). k ∷ v) h
shape_decoded TlvE o [] h os = absurd h
shape_decoded TlvE o (high ∷ []) h os = absurd h
shape_decoded TlvE o (high ∷ low ∷ v) h os =
    let two : suc (suc (suc (length v))) - suc (length v) ≡ 2 = omega arith in
    let hi : length v / 256 ≡ high = omega (arith, os.0, os.1.0, h) in
    let lo : length v % 256 ≡ low = omega (arith, os.0, os.1.0, h) in
    ap (λ k. coded k (length v) ++ v) two ∙ ap₂ (λ (a b : ℕ). a ∷ b ∷ v) hi lo

module _ {S : Type 0} (R : Reading) (step : Step S) where
  all_decoded : (s : S) (p : ℕ) (ies : List (List ℕ)) → AllByRecursion (IsIe R) ies → AllByRecursion (AllByRecursion Octet) ies → flat_map decoded (map (λ (q : Norm). q.front) (norms_from R.entries step s (laid R p ies))) ≡ end_to_end ies
  all_decoded s p [] each os = refl
  all_decoded s p ([] ∷ ies) each os = absurd each.0
  all_decoded s p ((o ∷ v) ∷ ies) each os =
      ap₂ (λ (a b : List ℕ). (o ∷ a) ++ b) (shape_decoded (shape R o) o v each.0 os.0.1)
      (all_decoded (step s (unplaced (token_at R p o v))).1 (p + length (o ∷ v)) ies each.1 os.1)

  -- the octets of the IEs that stay, from the rows
  pub kept_decoded : (start : S) (m : Message) → AllByRecursion Octet m.octets → flat_map decoded (map (face m.octets) (rows_of R start step m)) ≡ end_to_end (kept_of R m)
  kept_decoded start m os =
      let all : AllByRecursion Octet (end_to_end (ies_of R m)) = every_left Octet (end_to_end (ies_of R m)) (tail_of R m) (subst (AllByRecursion Octet) (sym (covered R m)) (every_drop Octet m.end m.octets os)) in
      ap (flat_map decoded) (fronts R start step m)
      ∙ all_decoded start m.end (kept_of R m) (each_kept R m) (every_kept (AllByRecursion Octet) (stays_ie R) (ies_of R m) (every_joined Octet (ies_of R m) all))
