-- The search, one entry at a time.
use Rattle.std.proofs.Common.{◌≡◌, ℕ, zero, suc, ◌+◌, ◌≤◌, Bool, true, false, cond, List, [], ◌∷◌, length, drop, Some, None, Option, sym, refl, ap, ◌∙◌, add-one, arith}
use Rattle.std.proofs.lemmas.List.{at_drop_all}
use Rattle.std.specs.List.{slice_get}
use Rattle.ie_catalogue.specs.declared.entry.Entry.{Entry}
use Rattle.ie_catalogue.specs.declared.search.Designated.{Designated}
use Rattle.ie_catalogue.specs.Entries.{covers}
use Rattle.ie_catalogue.specs.Search.{designated, covering_by, covering_at, finds_from}

-- the first of two that is there
abbrev either : Option Designated → Option Designated → Option Designated
either (Some d) o = Some d
either None o = o

-- the entry at i, or one of those behind it
from_next : (es : List Entry) (i k octet : ℕ) → finds_from k (drop i es) octet ≡ either (covering_by k octet (slice_get es i)) (finds_from (suc k) (drop (suc i) es) octet)
from_next [] zero k octet = refl
from_next [] (suc i) k octet = refl
from_next (e ∷ es) zero k octet = go (covers e octet)
  where
    go : (b : Bool) → cond b (Some (designated k e)) (finds_from (suc k) es octet) ≡ either (cond b (Some (designated k e)) None) (finds_from (suc k) es octet)
    go true = refl
    go false = refl
from_next (e ∷ es) (suc i) k octet = from_next es i k octet

pub finds_more : (es : List Entry) (i octet : ℕ) → None ≡ covering_at es i octet → finds_from (i + 1) (drop (i + 1) es) octet ≡ finds_from i (drop i es) octet
finds_more es i octet p = rw add-one (ap (λ o. either o (finds_from (suc i) (drop (suc i) es) octet)) p ∙ sym (from_next es i i octet))

pub finds_here : (es : List Entry) (i octet : ℕ) (d : Designated) → Some d ≡ covering_at es i octet → Some d ≡ finds_from i (drop i es) octet
finds_here es i octet d p = ap (λ o. either o (finds_from (suc i) (drop (suc i) es) octet)) p ∙ sym (from_next es i i octet)

pub finds_end : (es : List Entry) (i octet : ℕ) → length es ≤ i → None ≡ finds_from i (drop i es) octet
finds_end es i octet h = sym (at_drop_all (λ xs. finds_from i xs octet) es i h)

-- what covers an octet stands where it was asked for
pub covering_place : (es : List Entry) (i octet : ℕ) (d : Designated) → Some d ≡ covering_at es i octet → d.position ≡ i
covering_place es i octet d p = go (slice_get es i) p
  where
    at : (e : Entry) (b : Bool) → Some d ≡ cond b (Some (designated i e)) None → d.position ≡ i
    at e true q = let same : d ≡ designated i e = cc in ap (λ (x : Designated). x.position) same
    at e false q = let z : ◌≡◌ {A = ℕ} 0 1 = cc in absurd (omega arith)

    go : (o : Option Entry) → Some d ≡ covering_by i octet o → d.position ≡ i
    go None q = let z : ◌≡◌ {A = ℕ} 0 1 = cc in absurd (omega arith)
    go (Some e) q = at e (covers e octet) q
