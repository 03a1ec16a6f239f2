-- The grammar of the non-imperative part: what an IE is, and how octets divide into IEs.
--   Follows        what may follow an IEI of a given shape
--   IsIe           the octets are one whole IE
--   Unfinished     no IE stands at the front
--   Divides        IEs end to end, and a tail that no IE begins
--   OnlyDivision   a division, and there is no other
--   laid           the tokens of a division that begins at place p
--   tail_fault     the fault of a tail at place p, or none where it is empty
--   IsDivision     tokens and fault are those of the only division of a message behind its imperative part
use Rattle.std.specs.Prelude.{◌≡◌, ℕ, ◌+◌, ◌*◌, List, [], ◌∷◌, ◌++◌, length, drop, Some, None, Option}
use Rattle.std.specs.List.{flat_map, AllByRecursion}
use Rattle.ie_catalogue.specs.Refusals.{Refusal}
use Rattle.ie_walk.specs.declared.cut.Shape.{Shape}
use Rattle.ie_walk.specs.declared.cut.Shape.TheVariants.{Fixed, Tlv, TlvE}
use Rattle.ie_walk.specs.Cuts.{head, needed}
use Rattle.ie_walk.specs.Faults.{truncated}
use Rattle.ie_walk.specs.Reading.{Reading, shape, kind}
use Rattle.ie_walk.specs.Walks.{Found, found}

-- n octets; a length octet and as many; two length octets, the high one first, and as many
abbrev pub Follows : Shape → List ℕ → Type 0
Follows (Fixed n) v = length v ≡ n
Follows Tlv [] = ⊥
Follows Tlv (n ∷ v) = length v ≡ n
Follows TlvE [] = ⊥
Follows TlvE (high ∷ []) = ⊥
Follows TlvE (high ∷ low ∷ v) = length v ≡ 256 * high + low

abbrev pub IsIe : Reading → List ℕ → Type 0
IsIe R [] = ⊥
IsIe R (iei ∷ rest) = Follows (shape R iei) rest

abbrev pub Unfinished : Reading → List ℕ → Type 0
Unfinished R t = (a b : List ℕ) → a ++ b ≡ t → IsIe R a → ⊥

abbrev pub end_to_end : List (List ℕ) → List ℕ
end_to_end ies = flat_map (λ x. x) ies

pub record Divides (R : Reading) (os : List ℕ) (ies : List (List ℕ)) (tail : List ℕ) : Type 0 where
  pub covers : end_to_end ies ++ tail ≡ os
  pub each : AllByRecursion (IsIe R) ies
  pub stops : Unfinished R tail

pub record OnlyDivision (R : Reading) (os : List ℕ) (ies : List (List ℕ)) (tail : List ℕ) : Type 0 where
  pub divides : Divides R os ies tail
  pub only : (ies' : List (List ℕ)) (tail' : List ℕ) → Divides R os ies' tail' → (ies' ≡ ies) × (tail' ≡ tail)

-- the token that an IE at place p is
abbrev pub token_at : Reading → ℕ → ℕ → List ℕ → Found
token_at R p iei rest = found (kind R iei) (record { iei = iei; place = p; whole = iei ∷ rest; value = drop (head (shape R iei)) (iei ∷ rest) })

abbrev pub laid : Reading → ℕ → List (List ℕ) → List Found
laid R p [] = []
laid R p ([] ∷ ies) = laid R p ies
laid R p ((iei ∷ rest) ∷ ies) = token_at R p iei rest ∷ laid R (p + length (iei ∷ rest)) ies

abbrev pub tail_fault : Reading → ℕ → List ℕ → Option Refusal
tail_fault R p [] = None
tail_fault R p (iei ∷ os) = Some (truncated iei p (needed (shape R iei) (iei ∷ os)) (length (iei ∷ os)))

pub record IsDivision (R : Reading) (m : List ℕ) (end : ℕ) (tokens : List Found) (fault : Option Refusal) : Type 0 where
  pub ies : List (List ℕ)
  pub tail : List ℕ
  pub only : OnlyDivision R (drop end m) ies tail
  pub found : tokens ≡ laid R end ies
  pub ends : fault ≡ tail_fault R (end + length (end_to_end ies)) tail
