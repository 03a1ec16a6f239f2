-- The octets of an entry are a span, and two entries share an octet where their spans meet.
use Rattle.std.proofs.Common.{◌≡◌, ℕ, ◌/◌, ◌<◌, ◌≤◌, max, Bool, true, false, ◌&&◌, ltb, leb, Some, None, Decides, Option, arith}
use Rattle.std.proofs.lemmas.Bool.{eqb-true, eq-eqb, and_parts, and_from, leb-true, ltb-true, lt-ltb}
use Rattle.ie_catalogue.specs.declared.row.EntryRow.{EntryRow}
use Rattle.ie_catalogue.specs.declared.row.Format.{Format}
use Rattle.ie_catalogue.specs.declared.row.Format.TheVariants.{TvHalf, T, Tv, Tlv, TlvE}
use Rattle.ie_catalogue.specs.declared.entry.Entry.{Entry}
use Rattle.ie_catalogue.specs.Bounds.{framed, keeps}
use Rattle.ie_catalogue.specs.Entries.{has_half, covers, covers_if, covers_row}
use Rattle.ie_catalogue.specs.Spans.{span, span_if, span_by, span_row}
use Rattle.ie_catalogue.specs.Adding.{shares}
use Rattle.ie_catalogue.proofs.Shared.{Shared, shares_decides}
use Rattle.std.proofs.lemmas.Bool.Decides.{same_from_decides}

abbrev In : ℕ × ℕ → ℕ → Type 0
In s o = (s.0 ≤ o) × (o < s.1)

in_span_if : (half : Bool) (iei o : ℕ) → covers_if half iei o ≡ true → In (span_if half iei) o
in_span_if true iei o p = let q : o / 16 ≡ iei = eqb-true (o / 16) iei p in (omega arith, omega arith)
in_span_if false iei o p = let q : o ≡ iei = eqb-true o iei p in (omega arith, omega arith)

span_in_if : (half : Bool) (iei o : ℕ) → In (span_if half iei) o → covers_if half iei o ≡ true
span_in_if true iei o (l, h) = eq-eqb (o / 16) iei (omega arith)
span_in_if false iei o (l, h) = eq-eqb o iei (omega arith)

in_span_row : (w : Option EntryRow) (o : ℕ) → covers_row w o ≡ true → In (span_row w) o
in_span_row None o p = let z : ◌≡◌ {A = ℕ} 0 1 = cc in absurd (omega arith)
in_span_row (Some r) o p = in_span_if (has_half r.format) r.iei o p

span_in_row : (w : Option EntryRow) (o : ℕ) → In (span_row w) o → covers_row w o ≡ true
span_in_row None o (l, h) = absurd (omega arith)
span_in_row (Some r) o i = span_in_if (has_half r.format) r.iei o i

framed_end : (f : Format) (iei l g : ℕ) → framed f iei l g ≡ true → (span_by f iei).1 ≤ 256
framed_end TvHalf iei l g p = let q = leb-true iei 15 (and_parts (leb iei 15) _ p).0 in omega arith
framed_end T iei l g p = let q = leb-true iei 255 (and_parts (leb iei 255) _ p).0 in omega arith
framed_end Tv iei l g p = let q = leb-true iei 255 (and_parts (leb iei 255) _ p).0 in omega arith
framed_end Tlv iei l g p = let q = leb-true iei 255 (and_parts (leb iei 255) _ p).0 in omega arith
framed_end TlvE iei l g p = let q = leb-true iei 255 (and_parts (leb iei 255) _ p).0 in omega arith

end_row : (w : Option EntryRow) → keeps w ≡ true → (span_row w).1 ≤ 256
end_row None p = omega arith
end_row (Some r) p = framed_end r.format r.iei r.least r.greatest (and_parts _ _ p).0

some_if : (half : Bool) (iei : ℕ) → (span_if half iei).0 < (span_if half iei).1
some_if true iei = omega arith
some_if false iei = omega arith

some_row : (w : Option EntryRow) → 0 < (span_row w).1 → (span_row w).0 < (span_row w).1
some_row None p = p
some_row (Some r) p = some_if (has_half r.format) r.iei

pub covered_below : (e : Entry) (o : ℕ) → covers e o ≡ true → o < 256
covered_below e o p =
    let h = (in_span_row e.row o p).1 in
    let k = end_row e.row e.ok in
    omega arith

shared_decides : (a b : Entry) → Decides (ltb (span a).0 (span b).1 && ltb (span b).0 (span a).1) (Shared a b)
shared_decides a b = (
  (λ t.
      let p = and_parts (ltb (span a).0 (span b).1) (ltb (span b).0 (span a).1) t in
      let l : (span a).0 < (span b).1 = ltb-true (span a).0 (span b).1 p.0 in
      let m : (span b).0 < (span a).1 = ltb-true (span b).0 (span a).1 p.1 in
      let ha : (span a).0 < (span a).1 = some_row a.row (omega arith) in
      let hb : (span b).0 < (span b).1 = some_row b.row (omega arith) in
      let o : ℕ = max (span a).0 (span b).0 in
      let ca : covers a o ≡ true = span_in_row a.row o (omega arith, omega arith) in
      let cb : covers b o ≡ true = span_in_row b.row o (omega arith, omega arith) in
      (o, covered_below a o ca, ca, cb)),
  (λ s.
      let ia = in_span_row a.row s.0 s.2 in
      let ib = in_span_row b.row s.0 s.3 in
      and_from _ _ (lt-ltb (span a).0 (span b).1 (omega arith)) (lt-ltb (span b).0 (span a).1 (omega arith))),
)

pub overlap_shares : (a b : Entry) → (ltb (span a).0 (span b).1 && ltb (span b).0 (span a).1) ≡ shares a b
overlap_shares a b = same_from_decides _ (shares a b) (shared_decides a b) (shares_decides a b)
