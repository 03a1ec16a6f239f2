-- Two entries with one row are one entry, and what row a meant entry has.
use Rattle.std.proofs.Common.{◌≡◌, Bool, true, false, cond, Some, None, sym, refl, ◌∙◌}
use mathlib.Core.Bool.{Bool-set}
use mathlib.Core.HLevel.{is_prop→PathP}
use Rattle.ie_catalogue.specs.declared.row.EntryRow.{EntryRow}
use Rattle.ie_catalogue.specs.declared.entry.Entry.{Entry}
use Rattle.ie_catalogue.specs.Bounds.{well_formed, keeps}
use Rattle.ie_catalogue.specs.Entries.{meant, meant_at}

pub entry_same : (a b : Entry) → a.row ≡ b.row → a ≡ b
entry_same a b p =
    λ i. record { row = p i; ok = is_prop→PathP (λ j. keeps (p j) ≡ true) (λ j. Bool-set (keeps (p j)) true) a.ok b.ok i }

meant_at_row : (r : EntryRow) (b : Bool) (e : well_formed r ≡ b) → (meant_at r b e).row ≡ cond b (Some r) None
meant_at_row r true e = refl
meant_at_row r false e = refl

pub meant_row : (r : EntryRow) → (meant r).row ≡ cond (well_formed r) (Some r) None
meant_row r = meant_at_row r (well_formed r) refl

pub same_meant : (e : Entry) (r : EntryRow) → e.row ≡ cond (well_formed r) (Some r) None → e ≡ meant r
same_meant e r p = entry_same e (meant r) (p ∙ sym (meant_row r))
