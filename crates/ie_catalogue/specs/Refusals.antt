-- The number of each refusal.
--   Refusal                      a refusal as its number and the values that it carries
--   answered                     an answer, its refusal given as number and values
--   entry_refusal, add_refusal,
--   lend_refusal                 the causes of each operation
use Rattle.std.specs.Prelude.{ℕ, List, [], Ok, Err, Result}
use Rattle.ie_catalogue.specs.declared.refusal.EntryRefusal.{EntryRefusal}
use Rattle.ie_catalogue.specs.declared.refusal.EntryRefusal.TheVariants.{OutOfBounds}
use Rattle.ie_catalogue.specs.declared.refusal.AddRefusal.{AddRefusal}
use Rattle.ie_catalogue.specs.declared.refusal.AddRefusal.TheVariants.{Full, Covered}
use Rattle.ie_catalogue.specs.declared.refusal.LendRefusal.{LendRefusal}
use Rattle.ie_catalogue.specs.declared.refusal.LendRefusal.TheVariants.{TooMany}

pub record Refusal : Type 0 where
  pub number : ℕ
  pub values : List ℕ

abbrev pub refused : ℕ → Refusal
refused n = record { number = n; values = [] }

abbrev pub answered : {X E : Type 0} → (E → Refusal) → Result X E → Result X Refusal
answered told (Ok x) = Ok x
answered told (Err e) = Err (told e)

abbrev pub entry_refusal : EntryRefusal → Refusal
entry_refusal OutOfBounds = refused 7

abbrev pub add_refusal : AddRefusal → Refusal
add_refusal Full = refused 6
add_refusal Covered = refused 8

abbrev pub lend_refusal : LendRefusal → Refusal
lend_refusal TooMany = refused 6
