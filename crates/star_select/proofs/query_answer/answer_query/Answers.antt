use Rattle.std.proofs.Common.{◌≡◌, List, Some, Bor, map, slice_get, sym, ap, subst, ◌∙◌, arith}
use Rattle.cell_layout.specs.Image.{TableImage}
use Rattle.code_join.specs.Keys.{Keyed}
use Rattle.code_group.specs.Plans.{are_of_plan}
use Rattle.late_decode.specs.declared.plan.Finish.{Finish}
use Rattle.late_decode.specs.declared.plan.GroupPlan.{GroupPlan}
use Rattle.late_decode.specs.Bounds.{slots_within}
use Rattle.star_select.specs.Decodes.{group_decodes}
use Rattle.star_select.specs.ImageAnswer.{fact_groups}
use Rattle.star_select.specs.QueryImages.{IsFact}
use Rattle.star_select.proofs.QueryAnswerLemmas.{fact-image, fact-valid, fact-there, read-as, read-within, answer-given, dates-given, decodes-within, can-finish}
use Rattle.star_select.proofs.query_answer.answer_query.Goals as goal

pub returns-in_err-keys-clause-decodes : goal.returns-in_err-keys-clause-decodes
returns-in_err-keys-clause-decodes g c schemas s is =
    let images : List TableImage = map (λ (i : Bor TableImage). i.now) c.args.images.now in
    let (image, there) = fact-image c.tables_have_images.ensures schemas s images c.args.query.now is in
    let all = decodes-within c.decodes_add_up.ensures schemas s images c.args.query.now image is there in
    let told = c.all_keys.ensures.decodes schemas s is in
    omega (arith, all, told)

pub bounds-images-query : goal.bounds-images-query
bounds-images-query g c =
    let schemas = c.requires.0 in
    let s = c.requires.1 in
    let is = c.requires.2 in
    let images : List TableImage = map (λ (i : Bor TableImage). i.now) c.args.images.now in
    let (image, there) = fact-image c.tables_have_images.ensures schemas s images c.args.query.now is in
    read-within (λ (i : Bor TableImage). i.now) c.args.images.now c.args.query.now.fact image there

pub fact_groups-requires-clause-valid : goal.fact_groups-requires-clause-valid
fact_groups-requires-clause-valid g c =
    let schemas = c.requires.0 in
    let s = c.requires.1 in
    let is = c.requires.2 in
    let images : List TableImage = map (λ (i : Bor TableImage). i.now) c.args.images.now in
    let (image, there) = fact-image c.tables_have_images.ensures schemas s images c.args.query.now is in
    let same : image ≡ c.index-images-query.result.now = read-as (λ (i : Bor TableImage). i.now) c.args.images.now c.args.query.now.fact c.index-images-query.result image there c.index-images-query.is in
    let fact : TableImage = c.index-images-query.result.now in
    let here : slice_get images c.args.query.now.fact ≡ Some fact = there ∙ ap Some same in
    (fact-valid schemas s images c.args.query.now is fact here).0

pub fact_groups-requires-clause-few : goal.fact_groups-requires-clause-few
fact_groups-requires-clause-few g c =
    let schemas = c.requires.0 in
    let s = c.requires.1 in
    let is = c.requires.2 in
    let images : List TableImage = map (λ (i : Bor TableImage). i.now) c.args.images.now in
    let (image, there) = fact-image c.tables_have_images.ensures schemas s images c.args.query.now is in
    let same : image ≡ c.index-images-query.result.now = read-as (λ (i : Bor TableImage). i.now) c.args.images.now c.args.query.now.fact c.index-images-query.result image there c.index-images-query.is in
    let fact : TableImage = c.index-images-query.result.now in
    let here : slice_get images c.args.query.now.fact ≡ Some fact = there ∙ ap Some same in
    (fact-valid schemas s images c.args.query.now is fact here).1

pub fact_groups-requires-clause-fact : goal.fact_groups-requires-clause-fact
fact_groups-requires-clause-fact g c =
    let schemas = c.requires.0 in
    let s = c.requires.1 in
    let is = c.requires.2 in
    let images : List TableImage = map (λ (i : Bor TableImage). i.now) c.args.images.now in
    let (image, there) = fact-image c.tables_have_images.ensures schemas s images c.args.query.now is in
    let same : image ≡ c.index-images-query.result.now = read-as (λ (i : Bor TableImage). i.now) c.args.images.now c.args.query.now.fact c.index-images-query.result image there c.index-images-query.is in
    let fact : TableImage = c.index-images-query.result.now in
    let here : slice_get images c.args.query.now.fact ≡ Some fact = there ∙ ap Some same in
    let keys = c.as_slice.ensures.value ∙ c.in_ok-keys.ensures.keys schemas s is in
    subst (λ (k : List Keyed). IsFact fact c.args.query.now k) (sym keys)
    (fact-there c.queries_have_shape.ensures c.conditions_are_there.ensures c.fact_named.ensures c.fact_tests_apart.ensures c.plans_are_there.ensures c.pages_are_joined.ensures c.sums_are_numbers.ensures schemas s images c.args.query.now is fact here)

pub returns-in_err-groups-clause-decodes : goal.returns-in_err-groups-clause-decodes
returns-in_err-groups-clause-decodes g c schemas s is =
    let images : List TableImage = map (λ (i : Bor TableImage). i.now) c.args.images.now in
    let (image, there) = fact-image c.tables_have_images.ensures schemas s images c.args.query.now is in
    let same : image ≡ c.index-images-query.result.now = read-as (λ (i : Bor TableImage). i.now) c.args.images.now c.args.query.now.fact c.index-images-query.result image there c.index-images-query.is in
    let fact : TableImage = c.index-images-query.result.now in
    let here : slice_get images c.args.query.now.fact ≡ Some fact = there ∙ ap Some same in
    let keys = c.as_slice.ensures.value ∙ c.in_ok-keys.ensures.keys schemas s is in
    let all = decodes-within c.decodes_add_up.ensures schemas s images c.args.query.now fact is here in
    let one = c.all_keys.ensures.decodes schemas s is in
    let two = c.fact_groups.ensures.decodes in
    let same_keys = ap (λ (k : List Keyed). group_decodes fact c.args.query.now k) keys in
    omega (arith, all, one, two, same_keys)

pub finish-requires-clause-slots : goal.finish-requires-clause-slots
finish-requires-clause-slots g c =
    let schemas = c.requires.0 in
    let s = c.requires.1 in
    let is = c.requires.2 in
    let images : List TableImage = map (λ (i : Bor TableImage). i.now) c.args.images.now in
    let of_plan = ap (λ (p : GroupPlan). are_of_plan p c.in_ok-groups.groups.1) (sym c.in_ok-plan.ensures) ∙ c.in_ok-groups.ensures.of_plan in
    let measures = c.in_ok-groups.ensures.measures ∙ ap (λ (p : GroupPlan). p.measures) c.in_ok-plan.ensures in
    let slots = ap (λ (f : Finish). f.slots) c.in_ok-finish.ensures in
    (λ i. slots_within (measures i) (slots i) c.in_ok-groups.groups.1) ∙ (can-finish c.groups_can_finish.ensures schemas s images c.args.query.now c.in_ok-groups.groups.1 is of_plan).slots

pub returns-clause-answer : goal.returns-clause-answer
returns-clause-answer g c schemas s is =
    let images : List TableImage = map (λ (i : Bor TableImage). i.now) c.args.images.now in
    let (image, there) = fact-image c.tables_have_images.ensures schemas s images c.args.query.now is in
    let same : image ≡ c.index-images-query.result.now = read-as (λ (i : Bor TableImage). i.now) c.args.images.now c.args.query.now.fact c.index-images-query.result image there c.index-images-query.is in
    let fact : TableImage = c.index-images-query.result.now in
    let here : slice_get images c.args.query.now.fact ≡ Some fact = there ∙ ap Some same in
    let keys = c.as_slice.ensures.value ∙ c.in_ok-keys.ensures.keys schemas s is in
    answer-given c.finish.result c.answers_by_codes.ensures schemas s images c.args.query.now fact c.in_ok-groups.groups.0 c.in_ok-finish.finish c.in_ok-groups.groups.1 is here
    (c.in_ok-groups.ensures.measures ∙ ap (λ (p : GroupPlan). p.measures) c.in_ok-plan.ensures) c.in_ok-finish.ensures (c.in_ok-groups.ensures.groups ∙ ap (λ (k : List Keyed). fact_groups fact c.args.query.now k) keys) c.finish.ensures

pub returns-clause-dates : goal.returns-clause-dates
returns-clause-dates g c =
    let schemas = c.requires.0 in
    let s = c.requires.1 in
    let is = c.requires.2 in
    let images : List TableImage = map (λ (i : Bor TableImage). i.now) c.args.images.now in
    let (image, there) = fact-image c.tables_have_images.ensures schemas s images c.args.query.now is in
    let same : image ≡ c.index-images-query.result.now = read-as (λ (i : Bor TableImage). i.now) c.args.images.now c.args.query.now.fact c.index-images-query.result image there c.index-images-query.is in
    let fact : TableImage = c.index-images-query.result.now in
    let here : slice_get images c.args.query.now.fact ≡ Some fact = there ∙ ap Some same in
    let keys = c.as_slice.ensures.value ∙ c.in_ok-keys.ensures.keys schemas s is in
    dates-given c.finish.result c.answers_have_dates.ensures schemas s images c.args.query.now is
    (answer-given c.finish.result c.answers_by_codes.ensures schemas s images c.args.query.now fact c.in_ok-groups.groups.0 c.in_ok-finish.finish c.in_ok-groups.groups.1 is here
    (c.in_ok-groups.ensures.measures ∙ ap (λ (p : GroupPlan). p.measures) c.in_ok-plan.ensures) c.in_ok-finish.ensures (c.in_ok-groups.ensures.groups ∙ ap (λ (k : List Keyed). fact_groups fact c.args.query.now k) keys) c.finish.ensures)

pub returns-clause-decodes : goal.returns-clause-decodes
returns-clause-decodes g c schemas s is =
    let images : List TableImage = map (λ (i : Bor TableImage). i.now) c.args.images.now in
    let (image, there) = fact-image c.tables_have_images.ensures schemas s images c.args.query.now is in
    let same : image ≡ c.index-images-query.result.now = read-as (λ (i : Bor TableImage). i.now) c.args.images.now c.args.query.now.fact c.index-images-query.result image there c.index-images-query.is in
    let fact : TableImage = c.index-images-query.result.now in
    let here : slice_get images c.args.query.now.fact ≡ Some fact = there ∙ ap Some same in
    let keys = c.as_slice.ensures.value ∙ c.in_ok-keys.ensures.keys schemas s is in
    let all = decodes-within c.decodes_add_up.ensures schemas s images c.args.query.now fact is here in
    let one = c.all_keys.ensures.decodes schemas s is in
    let two = c.fact_groups.ensures.decodes in
    let same_keys = ap (λ (k : List Keyed). group_decodes fact c.args.query.now k) keys in
    omega (arith, all, one, two, same_keys)
