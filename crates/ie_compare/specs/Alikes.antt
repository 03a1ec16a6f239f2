-- When two reports are alike, places apart.
--   Face, face      a row but for its places, and with the octets of its value
--   diagnosed       a diagnosis but for its place
--   Alike           severity, and pair by pair the rows and the diagnoses
--   Pairwise        two lists are as long as each other, and each pair is related
--   Agree           two places are the same, each less the octets skipped before it
--   PlacesAgree     the places of all rows, of their values, and of all diagnoses
use Rattle.std.specs.Prelude.{◌≡◌, ℕ, ◌+◌, List, [], ◌∷◌, map}
use Rattle.ie_walk.specs.declared.faults.Placed.{Placed}
use Rattle.ie_walk.specs.Reading.{Reading}
use Rattle.ie_report.specs.declared.row.Row.{Row}
use Rattle.ie_report.specs.declared.row.RowKind.{RowKind}
use Rattle.ie_report.specs.declared.diagnosis.Diagnosis.{Diagnosis}
use Rattle.ie_report.specs.Rows.{value_of}
use Rattle.ie_report.specs.Reports.{Message, Report}
use Rattle.ie_compare.specs.Strikes.{skipped_before}

pub record Face : Type 0 where
  pub kind : RowKind
  pub position : ℕ
  pub iei : ℕ
  pub size : ℕ
  pub length : ℕ
  pub value : List ℕ
  pub half : ℕ

abbrev pub face : List ℕ → Row → Face
face octets r =
    record {
      kind = r.kind;
      position = r.position;
      iei = r.iei;
      size = r.size;
      length = r.value_length;
      value = value_of r octets;
      half = r.half;
    }

abbrev pub diagnosed : Placed Diagnosis → Diagnosis
diagnosed d = d.thing

pub record Alike (m n : Message) (a b : Report) : Type 0 where
  pub severity : a.tallies.severity ≡ b.tallies.severity
  pub rows : map (face m.octets) a.rows ≡ map (face n.octets) b.rows
  pub diagnoses : map diagnosed a.diagnoses ≡ map diagnosed b.diagnoses

abbrev pub Pairwise : {X Y : Type 0} → (X → Y → Type 0) → List X → List Y → Type 0
Pairwise R [] [] = Unit {0}
Pairwise R [] (y ∷ ys) = ⊥
Pairwise R (x ∷ xs) [] = ⊥
Pairwise R (x ∷ xs) (y ∷ ys) = R x y × Pairwise R xs ys

-- p less what is skipped before it is q less what is skipped before that
abbrev pub Agree : Reading → Message → Message → ℕ → ℕ → Type 0
Agree R m n p q = p + skipped_before R n q ≡ q + skipped_before R m p

pub record PlacesAgree (R : Reading) (m n : Message) (a b : Report) : Type 0 where
  pub rows : Pairwise (λ (x y : Row). Agree R m n x.place y.place) a.rows b.rows
  pub values : Pairwise (λ (x y : Row). Agree R m n x.value_place y.value_place) a.rows b.rows
  pub diagnoses : Pairwise (λ (d e : Placed Diagnosis). Agree R m n d.place e.place) a.diagnoses b.diagnoses
