-- What the tests for a shared octet decide.
use Rattle.std.proofs.Common.{◌≡◌, ℕ, ◌<◌, Bool, true, ◌&&◌, List, Decides}
use Rattle.std.proofs.lemmas.Bool.{and_parts, and_from}
use Rattle.std.proofs.lemmas.Bool.Decides.{Decides-like}
use Rattle.ie_catalogue.specs.declared.entry.Entry.{Entry}
use Rattle.ie_catalogue.specs.Entries.{covers, known}
use Rattle.ie_catalogue.specs.Below.{some_below}
use Rattle.ie_catalogue.specs.Adding.{shares, clashes}
use Rattle.ie_catalogue.proofs.Below.{some_decides}

abbrev pub Shared : Entry → Entry → Type 0
Shared a b = (octet : ℕ) × (octet < 256) × (covers a octet ≡ true) × (covers b octet ≡ true)

abbrev pub Clash : List Entry → Entry → Type 0
Clash es e = (octet : ℕ) × (octet < 256) × (covers e octet ≡ true) × (known es octet ≡ true)

both_decides : (p q : ℕ → Bool) (n : ℕ)
    → Decides (some_below (λ o. p o && q o) n) ((k : ℕ) × (k < n) × (p k ≡ true) × (q k ≡ true))
both_decides p q n =
    Decides-like (some_below (λ o. p o && q o) n)
    (λ s. let t = and_parts (p s.0) (q s.0) s.2 in (s.0, s.1, t.0, t.1))
    (λ s. (s.0, s.1, and_from (p s.0) (q s.0) s.2 s.3))
    (some_decides (λ o. p o && q o) n)

pub shares_decides : (a b : Entry) → Decides (shares a b) (Shared a b)
unfolding shares
shares_decides a b = both_decides (λ o. covers a o) (λ o. covers b o) 256

pub clashes_decides : (es : List Entry) (e : Entry) → Decides (clashes es e) (Clash es e)
unfolding clashes
clashes_decides es e = both_decides (λ o. covers e o) (λ o. known es o) 256
