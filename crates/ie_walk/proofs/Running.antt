-- The whole walk, one step at a time.
use Rattle.std.proofs.Common.{◌≡◌, ℕ, zero, suc, ◌+◌, ◌-◌, ◌<◌, ◌≤◌, Bool, true, false, cond, ltb, List, [], ◌∷◌, length, take, drop, Some, None, Ok, Err, Option, Result, sym, refl, ap, ◌∙◌, add-zero, arith, length-take-le}
use Rattle.std.proofs.lemmas.Bool.{ltb-false}
use Rattle.std.proofs.lemmas.List.{drop-drop}
use Rattle.ie_walk.specs.declared.cut.Shape.{Shape}
use Rattle.ie_walk.specs.declared.cut.Shape.TheVariants.{Fixed, Tlv, TlvE}
use Rattle.ie_walk.specs.Cuts.{head, length_of_value, needed, cut_of}
use Rattle.ie_catalogue.specs.Refusals.{Refusal}
use Rattle.ie_walk.specs.Reading.{Reading, Kind, shape, kind}
use Rattle.ie_walk.specs.Walks.{Found, stepped, moved, found_as, part_of}
use Rattle.ie_walk.specs.Runs.{run, onward, at_end, after_token, ended_by, walked, resumed}

pub head_some : (s : Shape) → 0 < head s
head_some (Fixed n) = omega arith
head_some Tlv = omega arith
head_some TlvE = omega arith

pub needed_some : (s : Shape) (os : List ℕ) → head s ≤ needed s os
needed_some s os = go (ltb (length os) (head s))
  where
    go : (b : Bool) → head s ≤ cond b (head s) (head s + length_of_value s os)
    go true = omega arith
    go false = omega arith

-- an IE that is found has octets, no more than are left, and stands where the step began
found_size : (k : Kind) (iei p h n : ℕ) (os : List ℕ) (f : Found) → 0 < n → found_as k (part_of iei p (cut_of os h n)) ≡ Ok (Some f) → (0 < length f.part.whole) × (length f.part.whole ≤ length os) × (f.part.place ≡ p)
found_size k iei p h n os f some e = go (ltb (length os) n) refl e
  where
    go : (b : Bool) → ltb (length os) n ≡ b → found_as k (part_of iei p (cond b (Err (record { needed = n; at_hand = length os })) (Ok (take n os, drop h (take n os))))) ≡ Ok (Some f) → (0 < length f.part.whole) × (length f.part.whole ≤ length os) × (f.part.place ≡ p)
    go true t e = let z : ◌≡◌ {A = ℕ} 0 1 = cc in absurd (omega arith)
    go false t e =
        let fits : n ≤ length os = ltb-false _ _ t in
        let same : record { kind = k; part = record { iei = iei; place = p; whole = take n os; value = drop h (take n os) } } ≡ f = cc in
        let long : length f.part.whole ≡ n = sym (ap (λ (x : Found). length x.part.whole) same) ∙ length-take-le n os fits in
        (omega arith, omega arith, sym (ap (λ (x : Found). x.part.place) same))

pub step_size : (R : Reading) (p : ℕ) (os : List ℕ) (f : Found) → stepped R p os ≡ Ok (Some f) → (0 < length f.part.whole) × (length f.part.whole ≤ length os) × (f.part.place ≡ p)
step_size R p [] f e = let z : ◌≡◌ {A = ℕ} 0 1 = cc in absurd (omega arith)
step_size R p (o ∷ os) f e = found_size (kind R o) o p (head (shape R o)) (needed (shape R o) (o ∷ os)) (o ∷ os) f (omega (arith, head_some (shape R o), needed_some (shape R o) (o ∷ os))) e

pub run_skip : (R : Reading) (p k : ℕ) (os : List ℕ) → run R p k os ≡ run R (p + k) 0 (drop k os)
run_skip R p zero os = ap (λ q. run R q 0 os) (sym (add-zero p))
run_skip R p (suc k) [] = refl
run_skip R p (suc k) (o ∷ os) = run_skip R (p + 1) k os ∙ ap (λ q. run R q 0 (drop k os)) (omega arith)

pub drop_tail : (n o : ℕ) (os : List ℕ) → 0 < n → drop (n - 1) os ≡ drop n (o ∷ os)
drop_tail zero o os h = absurd (omega arith)
drop_tail (suc n) o os h = ap (λ k. drop k os) (omega arith)

pub run_more : (R : Reading) (p : ℕ) (os : List ℕ) (f : Found) → stepped R p os ≡ Ok (Some f) → run R p 0 os ≡ after_token f (run R (p + length f.part.whole) 0 (drop (length f.part.whole) os))
run_more R p [] f e = let z : ◌≡◌ {A = ℕ} 0 1 = cc in absurd (omega arith)
run_more R p (o ∷ os) f e =
    let n = length f.part.whole in
    let some = (step_size R p (o ∷ os) f e).0 in
    let on : p + 1 + (n - 1) ≡ p + n = omega arith in
    ap (λ s. onward s (λ k. run R (p + 1) k os)) e ∙ ap (after_token f) (run_skip R (p + 1) (n - 1) os ∙ ap (λ q. run R q 0 (drop (n - 1) os)) on ∙ ap (run R (p + n) 0) (drop_tail n o os some))

pub run_none : (R : Reading) (p : ℕ) (os : List ℕ) → stepped R p os ≡ Ok None → run R p 0 os ≡ at_end
run_none R p [] e = refl
run_none R p (o ∷ os) e = ap (λ s. onward s (λ k. run R (p + 1) k os)) e

pub run_short : (R : Reading) (p : ℕ) (os : List ℕ) (x : Refusal) → stepped R p os ≡ Err x → run R p 0 os ≡ ended_by x
run_short R p [] x e = let z : ◌≡◌ {A = ℕ} 0 1 = cc in absurd (omega arith)
run_short R p (o ∷ os) x e = ap (λ s. onward s (λ k. run R (p + 1) k os)) e

-- the same, at a place of the message
pub walked_more : (R : Reading) (m : List ℕ) (p : ℕ) (f : Found) → stepped R p (drop p m) ≡ Ok (Some f) → walked R m p ≡ after_token f (walked R m (p + length f.part.whole))
walked_more R m p f e = run_more R p (drop p m) f e ∙ ap (λ os. after_token f (run R (p + length f.part.whole) 0 os)) (drop-drop (length f.part.whole) p m)

-- what a step at place p of message m does to what is ahead
module _ (R : Reading) (m : List ℕ) (p : ℕ) where
  abbrev pub Step : Result (Option Found) Refusal → Type 0
  Step s = s ≡ stepped R p (drop p m)

  pub rest_from : (s : Result (Option Found) Refusal) → Step s → walked R m p ≡ resumed s (walked R m (moved p s))
  rest_from (Ok (Some f)) e = walked_more R m p f (sym e)
  rest_from (Ok None) e = run_none R p (drop p m) (sym e)
  rest_from (Err x) e = run_short R p (drop p m) x (sym e)
