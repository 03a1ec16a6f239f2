-- What becomes of one IE.
--   Unplaced, unplaced   an IE but for its place
--   Step                 any way of judging: what was met so far and an IE give its kind, and what is met then
--   entry_at, entry_in   the entry at a position; the absent one where there is none
--   format_in            an entry's format; the absent one has none
--   State, fresh         what was met so far: how often each entry was taken, the positions that the order rule
--                        admitted; nothing yet
--   SameRule             the same reference to an order rule, and a rule with the same function behind it
--   met                  the state that a Met means, given the meaning of its order rule
--   kind_of              what a known IE meets, in this order: its limit, the order rule, the size of its value
--   after                what is met then: a taken IE counts, and an ill-sized one was admitted all the same
--   judge                the product's step: a known IE by its entry, a demanding one as unknown
use Rattle.std.specs.Prelude.{◌≡◌, ℕ, ◌+◌, cond, not, List, length, replicate, Option, nat_le, slice_index, slice_set}
use Rattle.std.specs.Borrow.{MutBor}
use Rattle.std.specs.List.{slice_get}
use Rattle.std.specs.Option.{unwrap_or, option_map}
use Rattle.ie_catalogue.specs.declared.entry.Entry.{Entry}
use Rattle.ie_catalogue.specs.declared.row.EntryRow.{EntryRow}
use Rattle.ie_catalogue.specs.declared.row.Format.{Format}
use Rattle.ie_catalogue.specs.declared.size.Size.{Size}
use Rattle.ie_catalogue.specs.declared.size.Size.TheVariants.{Short, Fitting, Long}
use Rattle.ie_catalogue.specs.Entries.{absent, limit_of}
use Rattle.ie_catalogue.specs.Sizes.{size_of}
use Rattle.ie_walk.specs.Reading.{Kind, known, skippable, demanding}
use Rattle.ie_walk.specs.Walks.{Found}
use Rattle.ie_tally.specs.Sets.{with_position}
use Rattle.ie_report.specs.declared.judge.Met.{Met}
use Rattle.ie_report.specs.declared.order.OrderRule as order_rule
use Rattle.ie_report.specs.declared.row.RowKind.{RowKind}
use Rattle.ie_report.specs.declared.row.RowKind.TheVariants.{Taken, Surplus, OutOfSequence, IllSized, UnknownDemanding}
use Rattle.ie_report.specs.Orders.{Order, SameOrder, lets_in}

pub record Unplaced : Type 0 where
  pub what : Kind
  pub iei : ℕ
  pub whole : List ℕ
  pub value : List ℕ

abbrev pub unplaced : Found → Unplaced
unplaced f = record { what = f.kind; iei = f.part.iei; whole = f.part.whole; value = f.part.value }

abbrev pub Step : Type 0 → Type 0
Step S = S → Unplaced → RowKind × S

abbrev pub entry_in : Option Entry → Entry
entry_in o = unwrap_or o absent

abbrev pub entry_at : List Entry → ℕ → Entry
entry_at es p = entry_in (slice_get es p)

abbrev pub format_in : Entry → Option Format
format_in e = option_map (λ (r : EntryRow). r.format) e.row

pub record State : Type 0 where
  pub times : List ℕ
  pub admitted : ℕ

abbrev pub state : List ℕ → ℕ → State
state times admitted = record { times = times; admitted = admitted }

abbrev pub SameRule : {O : Type 0} → order_rule.Ghosts O → MutBor O → MutBor O → Type 0
SameRule O one other = (one.ghost_name ≡ other.ghost_name) × SameOrder (O.admits one.now) (O.admits other.now)

abbrev pub met : {O : Type 0} → order_rule.Ghosts O → Met O → State
met O m = state m.times.times (O.admitted m.order.now)

abbrev pub fresh : State
fresh = state (replicate 64 0) 0

-- once it is let in
abbrev pub kind_by_size : Size → RowKind
kind_by_size Short = IllSized
kind_by_size Fitting = Taken
kind_by_size Long = IllSized

-- of the entry e at position p, with a value of n octets
abbrev pub kind_of : Order → Entry → State → ℕ → ℕ → RowKind
kind_of admits e s p n =
    cond (nat_le (limit_of e) (slice_index s.times p)) Surplus
    (cond (not (lets_in admits s.admitted p)) OutOfSequence
    (kind_by_size (size_of e n)))

abbrev pub after : RowKind → ℕ → State → State
after Taken p s = state (slice_set s.times p (slice_index s.times p + 1)) (with_position s.admitted p)
after IllSized p s = state s.times (with_position s.admitted p)
after Surplus p s = s
after OutOfSequence p s = s
after UnknownDemanding p s = s

-- the kind, and what is met then
abbrev pub judged_as : RowKind → ℕ → State → RowKind × State
judged_as k p s = (k, after k p s)

-- a skippable IE never comes here, for it has no row
abbrev pub judge_by : List Entry → Order → State → Kind → ℕ → RowKind × State
judge_by es admits s (known p) n = judged_as (kind_of admits (entry_at es p) s p n) p s
judge_by es admits s demanding n = (UnknownDemanding, s)
judge_by es admits s skippable n = (UnknownDemanding, s)

abbrev pub judge : List Entry → Order → Step State
judge es admits s i = judge_by es admits s i.what (length i.value)
