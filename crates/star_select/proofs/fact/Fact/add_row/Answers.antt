use Rattle.std.proofs.Common.{true, length, nat_lt, ap, ◌∙◌}
use Rattle.std.specs.List.{list_all}
use Rattle.blink_base.specs.Values.{Row}
use Rattle.code_group.specs.Plans.{plan_there}
use Rattle.star_select.specs.CodeSelection.{is_of_columns}
use Rattle.star_select.specs.FactView.{fact_of}
use Rattle.star_select.proofs.FactGroupLemmas.{row-fits, row-read, row-asked, row-sums, row-added}
use Rattle.star_select.proofs.fact.Fact.add_row.Goals as goal

pub is_wanted-requires : goal.is_wanted-requires
is_wanted-requires g c =
    let fact = fact_of c.args.self.now in
    let row = row-read fact c.args.at c.rest.result.now c.index-rest-at.result c.rest.ensures c.requires.at c.index-rest-at.is in
    let long = ap (λ (r : Row). length r) row ∙ (row-fits fact c.args.self.now.asked.valid c.args.at c.requires.at).1 in
    let own = c.conjunctions.ensures in
    (λ i. list_all (is_of_columns (long i)) (own i)) ∙ c.args.self.now.asked.is_fact.named.conjunctions

pub group_rest-requires-clause-plan : goal.group_rest-requires-clause-plan
group_rest-requires-clause-plan g c =
    let fact = fact_of c.args.self.now in
    let row = row-read fact c.args.at c.rest.result.now c.index-rest-at.result c.rest.ensures c.requires.at c.index-rest-at.is in
    let long = ap (λ (r : Row). length r) row ∙ (row-fits fact c.args.self.now.asked.valid c.args.at c.requires.at).1 in
    let planned = c.args.self.now.asked.planned in
    (λ i. plan_there (long i) fact.keys (planned i)) ∙ c.args.self.now.asked.is_fact.plan

pub group_rest-requires-clause-tied : goal.group_rest-requires-clause-tied
group_rest-requires-clause-tied g c =
    let fact = fact_of c.args.self.now in
    let row = row-read fact c.args.at c.rest.result.now c.index-rest-at.result c.rest.ensures c.requires.at c.index-rest-at.is in
    let long = ap (λ (r : Row). length r) row ∙ (row-fits fact c.args.self.now.asked.valid c.args.at c.requires.at).1 in
    let planned = c.args.self.now.asked.planned in
    (λ i. list_all (λ k. nat_lt k (long i)) (planned i).ties) ∙ c.args.self.now.asked.is_fact.named.ties

pub group_rest-requires-clause-numbers : goal.group_rest-requires-clause-numbers
group_rest-requires-clause-numbers g c =
    let fact = fact_of c.args.self.now in
    let row = row-read fact c.args.at c.rest.result.now c.index-rest-at.result c.rest.ensures c.requires.at c.index-rest-at.is in
    row-sums fact c.args.at c.index-rest-at.result c.args.self.now.plan.now c.args.self.now.asked.valid c.args.self.now.asked.is_fact c.args.self.now.asked.planned c.requires.at row
    (row-asked fact c.args.at c.index-rest-at.result c.conjunctions.result.now c.is_wanted.result true row c.conjunctions.ensures c.is_wanted.ensures c.if-is_wanted.true)

pub returns-then-is_wanted : goal.returns-then-is_wanted
returns-then-is_wanted g c =
    let fact = fact_of c.args.self.now in
    let row = row-read fact c.args.at c.rest.result.now c.index-rest-at.result c.rest.ensures c.requires.at c.index-rest-at.is in
    record {
      taken = row-added fact c.group_rest.result c.args.at c.index-rest-at.result c.args.self.now.plan.now c.args.into.now c.group_rest.new.into c.args.self.now.asked.planned c.requires.room c.group_rest.ensures.measures row
          (row-asked fact c.args.at c.index-rest-at.result c.conjunctions.result.now c.is_wanted.result true row c.conjunctions.ensures c.is_wanted.ensures c.if-is_wanted.true)
          c.group_rest.ensures.added c.group_rest.ensures.groups c.group_rest.ensures.few;
    }
