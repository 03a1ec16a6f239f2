-- What catalogue and skip rule together say of each octet.
--   Reading         the entries, and the skip rule's two functions
--   reads           the reading of a reader
--   shaped, sorted  shape and kind, given what the octet designates
--   shape           a known octet is framed by its entry, an unknown one by the skip rule
--   kind            known at a position, skippable or demanding
use Rattle.std.specs.Prelude.{ℕ, Bool, true, false, List, Some, None, Option}
use Rattle.ie_catalogue.specs.declared.catalogue.Catalogue as catalogue
use Rattle.ie_catalogue.specs.declared.entry.Entry.{Entry}
use Rattle.ie_catalogue.specs.declared.search.Designated.{Designated}
use Rattle.ie_catalogue.specs.Search.{finds}
use Rattle.ie_walk.specs.declared.reader.Reader.{Reader}
use Rattle.ie_walk.specs.declared.skip.Frame.{Frame}
use Rattle.ie_walk.specs.declared.skip.SkipRule as skip_rule
use Rattle.ie_walk.specs.declared.cut.Shape.{Shape}
use Rattle.ie_walk.specs.Shapes.{entry_shape, frame_shape}

pub record Reading : Type 0 where
  pub entries : List Entry
  pub framed : ℕ → Frame
  pub demands : ℕ → Bool

abbrev pub reading : List Entry → (ℕ → Frame) → (ℕ → Bool) → Reading
reading entries framed demands = record { entries = entries; framed = framed; demands = demands }

-- given the meaning of its catalogue and of its rule
abbrev pub reads : {C S : Type 0} → catalogue.Ghosts C → skip_rule.Ghosts S → Reader C S → Reading
reads C S r = reading (C.entries r.catalogue.now) (S.framed r.rule.now) (S.demands r.rule.now)

pub data Kind : Type 0 where
  known : ℕ → Kind
  skippable : Kind
  demanding : Kind

abbrev pub shaped : Option Designated → Frame → Shape
shaped (Some d) f = entry_shape d.entry
shaped None f = frame_shape f

abbrev pub sorted : Option Designated → Bool → Kind
sorted (Some d) demand = known d.position
sorted None true = demanding
sorted None false = skippable

abbrev pub shape : Reading → ℕ → Shape
shape R octet = shaped (finds R.entries octet) (R.framed octet)

abbrev pub kind : Reading → ℕ → Kind
kind R octet = sorted (finds R.entries octet) (R.demands octet)
