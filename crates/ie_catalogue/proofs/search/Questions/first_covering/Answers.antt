use Rattle.std.proofs.Common.{ap, ◌∙◌, arith, rules}
use Rattle.ie_catalogue.specs.declared.search.Questions.{Questions}
use Rattle.ie_catalogue.specs.Search.{finds}
use Rattle.ie_catalogue.proofs.Searching.{finds_more, finds_here, finds_end, covering_place}
use Rattle.ie_catalogue.proofs.search.Questions.first_covering.Goals as goal

pub returns-in-Some : goal.returns-in-Some
returns-in-Some g c =
    let E = g.C.Catalogue.entries in
    let here = c.in-Some.ensures in
    let es = E c.loop-position.self.catalogue.now in
    let i = c.loop-position.position in
    let inv = c.loop-position.invariant in
    record {
      value = finds_here es i c.args.octet c.in-Some.designated here.value ∙ inv.2 ∙ ap (λ k. finds (E k.now) c.args.octet) inv.0;
      asked = omega (arith, inv.1, ap (λ (q : Questions g.row.C.Denot). q.asked) here.after, covering_place es i c.args.octet c.in-Some.designated here.value);
    }

pub loop-position-preserved : goal.loop-position-preserved
loop-position-preserved g c = search (rules, finds_more)

pub returns : goal.returns
returns g c = search (rules, finds_end)
