-- What the parts of a query's answer are asked follows of the query and its images.
use Rattle.std.proofs.Common.{◌≡◌, ◌<◌, ◌≤◌, ◌+◌, ◌*◌, ℕ, true, suc, List, [], ◌∷◌, ◌++◌, map, take, length, slice_get, slice_index_or, Some, sym, ap, subst, ◌∙◌, arith}
use Rattle.std.specs.Prelude.{sum_by, Result, Ok, Err, IfOk}
use Rattle.std.specs.List.{list_all}
use Rattle.std.proofs.Math.ListN.{get_or-map}
use Rattle.std.proofs.Math.Seq.{take-suc}
use Rattle.std.proofs.lemmas.List.Sums.{sum_by-append, sum_by-cons, sum_by_more_le}
use Rattle.std.proofs.lemmas.List.{length-map}
use Rattle.std.proofs.lemmas.List.Folds.{list_all-map}
use Rattle.std.proofs.lemmas.Option.{slice_get_within, get_or_from_slice_get, slice_get-get_or}
use Rattle.blink_base.specs.declared.answer.Answer.{Answer}
use Rattle.blink_base.specs.Values.{Row}
use Rattle.blink_lists.specs.declared.limits.TheConstants.{MOST_ROWS}
use Rattle.star_sql.specs.declared.ast.Select.{Select}
use Rattle.star_meaning.specs.Answer.{answer}
use Rattle.star_meaning.specs.Names.{Scope}
use Rattle.star_bind.specs.declared.query.Query.{Query}
use Rattle.star_bind.specs.declared.query.Tie.{Tie}
use Rattle.star_bind.specs.BoundQuery.{Schemas, scope_of, query_of}
use Rattle.star_bind.specs.QueryShape.{QueriesHaveShape}
use Rattle.cell_layout.specs.Image.{TableImage, row_count}
use Rattle.cell_layout.specs.Valid.{is_valid}
use Rattle.code_join.specs.Keys.{Keyed, are_keys}
use Rattle.dim_filter.specs.Entries.{collected, key_column, entry_of}
use Rattle.code_group.specs.Plans.{are_of_plan}
use Rattle.late_decode.specs.declared.plan.Finish.{Finish}
use Rattle.late_decode.specs.declared.plan.Measure.{Measure}
use Rattle.late_decode.specs.GroupLines.{finished}
use Rattle.late_decode.specs.Groups.{Grouped}
use Rattle.star_select.specs.CodeSelection.{image_wanted}
use Rattle.star_select.specs.Decodes.{DecodesAddUp, group_decodes, key_decodes, most_decodes, tie_decodes}
use Rattle.star_select.specs.GoodDates.{AnswersHaveDates}
use Rattle.star_select.specs.GroupAnswer.{answer_of_groups}
use Rattle.report_text.specs.AnswerText.{are_good_lines}
use Rattle.star_select.specs.ImageAnswer.{AnswersByCodes, ImagesMayBeAsked, FactNamed, KeysByCodes, TablesHaveImages, fact_groups, image_keys, rows_in}
use Rattle.star_select.specs.KeySets.{KeysOnce, keyed_of}
use Rattle.star_select.specs.Picks.{wanted_columns}
use Rattle.star_select.specs.Preconditions.{CanFinish, ConditionsAreThere, FactTestsApart, GroupsCanFinish, PagesAreJoined, PlansAreThere, SumsAreNumbers, TiesHaveDimensions}
use Rattle.star_select.specs.QueryImages.{IsFact, IsQueryOf}
use Rattle.star_select.specs.QueryPlan.{finish_of, plan_of}
use Rattle.star_select.specs.TieImages.{IsTieImage}
use Rattle.star_select.proofs.ImageAnswerLemmas.{as-many}
use Rattle.star_select.proofs.ListLemmas.{all-place, some-same}

-- a table's image among those of a query
few-at : (images : List TableImage) (k : ℕ) (image : TableImage) → ((i : ℕ) (d : TableImage) → i < length images → row_count (slice_index_or images i d) ≤ MOST_ROWS) → slice_get images k ≡ Some image → row_count image ≤ MOST_ROWS
few-at images k image few here = subst (λ (x : TableImage). row_count x ≤ MOST_ROWS) (get_or_from_slice_get images k image image here) (few k image (slice_get_within images k image here))

-- the image of a tie, for the query of a statement
tie-of : QueriesHaveShape → ImagesMayBeAsked → TiesHaveDimensions → ConditionsAreThere → KeysByCodes → KeysOnce
    → (schemas : Schemas) (s : Select) (images : List TableImage) → IsQueryOf schemas s images (query_of schemas s) → (place : ℕ) (tie : Tie) → slice_get (query_of schemas s).ties place ≡ Some tie
    → (image : TableImage) × IsTieImage (scope_of schemas s) images (query_of schemas s) tie image
tie-of shaped asked dimensions conditions by_codes keyed schemas s images is place tie here =
    let (image, there, dimension) = dimensions schemas s images place tie is.over here in
    let shape = shaped schemas s is.over.formed is.over.free in
    let many = (as-many schemas s images shaped is.over).0 in
    let within = slice_get_within images tie.dimension image there in
    let keys = by_codes schemas s images image place tie is.over here there in
    let once : list_all (λ t. are_keys (keyed_of (query_of schemas s) (scope_of schemas s) (rows_in images) t)) (query_of schemas s).ties ≡ true =
    sym (list_all-map are_keys (keyed_of (query_of schemas s) (scope_of schemas s) (rows_in images)) (query_of schemas s).ties) ∙ keyed schemas s (rows_in images) (asked schemas s images is.over) in (
      image,
      record {
        here = there;
        valid = all-place is_valid images tie.dimension image is.over.valid there;
        few = few-at images tie.dimension image is.few there;
        table = omega (arith, many, shape.as_many, within);
        condition = conditions schemas s images image tie.dimension is.over there;
        key = dimension.key;
        wanted = dimension.wanted;
        once = ap are_keys (sym keys) ∙ all-place (λ t. are_keys (keyed_of (query_of schemas s) (scope_of schemas s) (rows_in images) t)) (query_of schemas s).ties place tie once here;
        keys = keys;
      },
    )

pub tie-there : QueriesHaveShape → ImagesMayBeAsked → TiesHaveDimensions → ConditionsAreThere → KeysByCodes → KeysOnce
    → (schemas : Schemas) (s : Select) (images : List TableImage) (query : Query) → IsQueryOf schemas s images query → (place : ℕ) (tie : Tie) → slice_get query.ties place ≡ Some tie
    → (image : TableImage) × IsTieImage (scope_of schemas s) images query tie image
tie-there shaped asked dimensions conditions by_codes keyed schemas s images query is =
    subst (λ (q : Query). IsQueryOf schemas s images q → (place : ℕ) (tie : Tie) → slice_get q.ties place ≡ Some tie → (image : TableImage) × IsTieImage (scope_of schemas s) images q tie image)
    (sym is.bound) (tie-of shaped asked dimensions conditions by_codes keyed schemas s images) is

-- the keys of a tie are as many as its wanted rows
pub tie-many : (scope : Scope) (images : List TableImage) (query : Query) (tie : Tie) (image : TableImage) → IsTieImage scope images query tie image
    → tie_decodes query scope (rows_in images) tie ≡ length (image_wanted image query tie.dimension) * (1 + length (wanted_columns query tie.dimension))
tie-many scope images query tie image is =
    let many : length (keyed_of query scope (rows_in images) tie) ≡ length (image_wanted image query tie.dimension) =
    ap (λ (k : Keyed). length k) is.keys ∙ length-map (image_wanted image query tie.dimension) (entry_of (key_column image) (wanted_columns query tie.dimension)) in
    ap (λ n. n * (1 + length (wanted_columns query tie.dimension))) many

-- the fact of a query, for the query of a statement
fact-of : QueriesHaveShape → ConditionsAreThere → FactNamed → FactTestsApart → PlansAreThere → PagesAreJoined → SumsAreNumbers
    → (schemas : Schemas) (s : Select) (images : List TableImage) → IsQueryOf schemas s images (query_of schemas s) → (image : TableImage) → slice_get images (query_of schemas s).fact ≡ Some image
    → IsFact image (query_of schemas s) (image_keys (query_of schemas s) (scope_of schemas s) images)
fact-of shaped conditions named apart plans pages sums schemas s images is image here =
    let shape = shaped schemas s is.over.formed is.over.free in
    let within = shape.fact in
    record {
      there = omega (arith, shape.as_many, within);
      condition = conditions schemas s images image (query_of schemas s).fact is.over here;
      named = named schemas s images image is.over here;
      apart = apart schemas s (image_keys (query_of schemas s) (scope_of schemas s) images) is.over.formed is.over.free;
      plan = plans schemas s images image is.over here;
      pages = λ cell page lt. pages schemas s images image cell page is.over here lt;
      numbers = sums schemas s images image is.over here;
    }

pub fact-there : QueriesHaveShape → ConditionsAreThere → FactNamed → FactTestsApart → PlansAreThere → PagesAreJoined → SumsAreNumbers
    → (schemas : Schemas) (s : Select) (images : List TableImage) (query : Query) → IsQueryOf schemas s images query → (image : TableImage) → slice_get images query.fact ≡ Some image
    → IsFact image query (image_keys query (scope_of schemas s) images)
fact-there shaped conditions named apart plans pages sums schemas s images query is =
    subst (λ (q : Query). IsQueryOf schemas s images q → (image : TableImage) → slice_get images q.fact ≡ Some image → IsFact image q (image_keys q (scope_of schemas s) images))
    (sym is.bound) (fact-of shaped conditions named apart plans pages sums schemas s images) is

-- ---- images by reference, as the code reads them

pub read-as : {X Y : Type 0} (f : X → Y) (xs : List X) (k : ℕ) (x : X) (y : Y) → slice_get (map f xs) k ≡ Some y → x ≡ slice_index_or xs k x → y ≡ f x
read-as f xs k x y there read = sym (get_or_from_slice_get (map f xs) k y (f x) there) ∙ get_or-map f xs k x ∙ ap f (sym read)

pub read-within : {X Y : Type 0} (f : X → Y) (xs : List X) (k : ℕ) (y : Y) → slice_get (map f xs) k ≡ Some y → k < length xs
read-within f xs k y there = let within = slice_get_within (map f xs) k y there in let many = length-map xs f in omega (arith, within, many)

-- the image of the tie at a place, as it is read
pub tie-read : {X : Type 0} (now : X → TableImage) (xs : List X) (scope : Scope) (query : Query) (tie : Tie) (x : X) → (image : TableImage) × IsTieImage scope (map now xs) query tie image
    → x ≡ slice_index_or xs tie.dimension x → IsTieImage scope (map now xs) query tie (now x)
tie-read now xs scope query tie x (image, is) read = subst (λ i. IsTieImage scope (map now xs) query tie i) (read-as now xs tie.dimension x image is.here read) is

-- the fact's image
pub fact-image : TablesHaveImages → (schemas : Schemas) (s : Select) (images : List TableImage) (query : Query) → IsQueryOf schemas s images query → (image : TableImage) × (slice_get images query.fact ≡ Some image)
fact-image there schemas s images query is = subst (λ (q : Query). (image : TableImage) × (slice_get images q.fact ≡ Some image)) (sym is.bound)
    (let (many, image, here) = there schemas s images is.over in (image, here))

pub fact-valid : (schemas : Schemas) (s : Select) (images : List TableImage) (query : Query) → IsQueryOf schemas s images query → (image : TableImage) → slice_get images query.fact ≡ Some image
    → (is_valid image ≡ true) × (row_count image ≤ MOST_ROWS)
fact-valid schemas s images query is image here = (all-place is_valid images query.fact image is.over.valid here, few-at images query.fact image is.few here)

-- ---- the answer, and what was decoded for it

pub answer-is : AnswersByCodes → (schemas : Schemas) (s : Select) (images : List TableImage) (query : Query) (image : TableImage) (measures : List Measure) (finish : Finish) (groups : Grouped Row) → IsQueryOf schemas s images query → slice_get images query.fact ≡ Some image
    → measures ≡ (plan_of query).measures → finish ≡ finish_of query → groups ≡ fact_groups image query (image_keys query (scope_of schemas s) images)
    → finished measures finish groups ≡ answer (scope_of schemas s) s (rows_in images)
answer-is law schemas s images query image measures finish groups is here ms fs gs =
    (λ i. finished (ms i) (fs i) (gs i))
    ∙ subst (λ (q : Query). slice_get images q.fact ≡ Some image → answer_of_groups q (fact_groups image q (image_keys q (scope_of schemas s) images)) ≡ answer (scope_of schemas s) s (rows_in images)) (sym is.bound)
    (λ there. sym (law schemas s images image is.over there)) here

pub decodes-within : DecodesAddUp → (schemas : Schemas) (s : Select) (images : List TableImage) (query : Query) (image : TableImage) → IsQueryOf schemas s images query → slice_get images query.fact ≡ Some image
    → key_decodes query (scope_of schemas s) (rows_in images) + group_decodes image query (image_keys query (scope_of schemas s) images) ≤ most_decodes query (scope_of schemas s) (rows_in images)
decodes-within law schemas s images query image is here =
    subst (λ (q : Query). slice_get images q.fact ≡ Some image → key_decodes q (scope_of schemas s) (rows_in images) + group_decodes image q (image_keys q (scope_of schemas s) images) ≤ most_decodes q (scope_of schemas s) (rows_in images)) (sym is.bound)
    (λ there. law schemas s images image is.over there) here

pub can-finish : GroupsCanFinish → (schemas : Schemas) (s : Select) (images : List TableImage) (query : Query) (groups : Grouped Row) → IsQueryOf schemas s images query → are_of_plan (plan_of query) groups ≡ true → CanFinish query groups
can-finish law schemas s images query groups is = subst (λ (q : Query). are_of_plan (plan_of q) groups ≡ true → CanFinish q groups) (sym is.bound) (law schemas s groups is.over.free)

-- ---- ties, one after another

pub tie-at : (ties read : List Tie) (place : ℕ) (d : Tie) → read ≡ ties → place < length ties → slice_get ties place ≡ Some (slice_index_or read place d)
tie-at ties read place d e lt = slice_get-get_or ties place d lt ∙ (let back = sym e in λ i. Some (slice_index_or (back i) place d))

-- the keys that a call gives are those of the tie
pub tie-given : {E : Type 0} (r : Result Keyed E) (scope : Scope) (images : List TableImage) (query : Query) (tie same : Tie) (image : TableImage) (wanted : List ℕ) → IsTieImage scope images query tie image
    → wanted ≡ wanted_columns query tie.dimension → Some tie ≡ Some same
    → IfOk r (λ keys. keys ≡ collected (key_column image) wanted [] (image_wanted image query tie.dimension)) → IfOk r (λ keys. keys ≡ keyed_of query scope (rows_in images) same)
tie-given (Ok keys) scope images query tie same image wanted is asked alike given =
    given ∙ ap (λ w. collected (key_column image) w [] (image_wanted image query tie.dimension)) asked ∙ sym is.keys ∙ ap (keyed_of query scope (rows_in images)) (some-same tie same alike)
tie-given (Err e) scope images query tie same image wanted is asked alike given = given

pub tie-decoded : (scope : Scope) (images : List TableImage) (query : Query) (tie same : Tie) (image : TableImage) (wanted : List ℕ) (before after : ℕ) → IsTieImage scope images query tie image
    → wanted ≡ wanted_columns query tie.dimension → Some tie ≡ Some same → after ≤ before + length (image_wanted image query tie.dimension) * (1 + length wanted) → after ≤ before + tie_decodes query scope (rows_in images) same
tie-decoded scope images query tie same image wanted before after is asked alike told =
    let many = tie-many scope images query tie image is in
    let wide = ap (λ (w : List ℕ). length (image_wanted image query tie.dimension) * (1 + length w)) asked in
    let one = ap (tie_decodes query scope (rows_in images)) (some-same tie same alike) in
    omega (arith, many, wide, one, told)

pub keys-next : (query : Query) (scope : Scope) (images : List TableImage) (place : ℕ) (d : Tie) → place < length query.ties
    → take (place + 1) (image_keys query scope images) ≡ take place (image_keys query scope images) ++ keyed_of query scope (rows_in images) (slice_index_or query.ties place d) ∷ []
keys-next query scope images place d lt =
    let next : place + 1 ≡ suc place = omega arith in
    let one : Tie → Keyed = keyed_of query scope (rows_in images) in
    let many = length-map query.ties one in
    ap (λ n. take n (map one query.ties)) next
    ∙ take-suc (map one query.ties) place (one d) (omega (arith, lt, many))
    ∙ ap (λ k. take place (map one query.ties) ++ k ∷ []) (get_or-map one query.ties place d)

pub ties-decoded : (query : Query) (scope : Scope) (tables : List (List Row)) (place : ℕ) (d : Tie) (start before after : ℕ) → place < length query.ties
    → before ≤ start + sum_by (tie_decodes query scope tables) (take place query.ties) → after ≤ before + tie_decodes query scope tables (slice_index_or query.ties place d)
    → (after ≤ start + sum_by (tie_decodes query scope tables) (take (place + 1) query.ties)) × (after ≤ start + key_decodes query scope tables)
ties-decoded query scope tables place d start before after lt had more =
    let f : Tie → ℕ = tie_decodes query scope tables in
    let next : place + 1 ≡ suc place = omega arith in
    let front = ap (λ (l : List Tie). sum_by f l) (ap (λ n. take n query.ties) next ∙ take-suc query.ties place d lt) in
    let split = sum_by-append f (take place query.ties) (slice_index_or query.ties place d ∷ []) in
    let one = sum_by-cons f (slice_index_or query.ties place d) [] in
    let all = sum_by_more_le f query.ties place d lt in
    (omega (arith, had, more, front, split, one), omega (arith, had, more, all))

-- ---- what finishing gives

pub answer-given : {E : Type 0} (r : Result Answer E) → AnswersByCodes → (schemas : Schemas) (s : Select) (images : List TableImage) (query : Query) (image : TableImage) (measures : List Measure) (finish : Finish) (groups : Grouped Row)
    → IsQueryOf schemas s images query → slice_get images query.fact ≡ Some image → measures ≡ (plan_of query).measures → finish ≡ finish_of query
    → groups ≡ fact_groups image query (image_keys query (scope_of schemas s) images) → IfOk r (λ given. given ≡ finished measures finish groups) → IfOk r (λ given. given ≡ answer (scope_of schemas s) s (rows_in images))
answer-given (Ok given) law schemas s images query image measures finish groups is here ms fs gs told = told ∙ answer-is law schemas s images query image measures finish groups is here ms fs gs
answer-given (Err e) law schemas s images query image measures finish groups is here ms fs gs told = told

pub dates-given : {E : Type 0} (r : Result Answer E) → AnswersHaveDates → (schemas : Schemas) (s : Select) (images : List TableImage) (query : Query) → IsQueryOf schemas s images query
    → IfOk r (λ given. given ≡ answer (scope_of schemas s) s (rows_in images)) → IfOk r (λ given. are_good_lines given.lines ≡ true)
dates-given (Ok given) law schemas s images query is told = ap (λ (a : Answer). are_good_lines a.lines) told ∙ law schemas s images is.over
dates-given (Err e) law schemas s images query is told = told
