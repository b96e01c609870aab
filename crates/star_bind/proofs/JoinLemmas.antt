-- A star query keeps, of each row of its fact that is wanted, the one combination with the wanted rows of its keys.
use Rattle.std.proofs.Common.{◌≡◌, ℕ, zero, suc, ◌+◌, ◌<◌, ◌==◌, Bool, true, false, not, ◌&&◌, ◌||◌, List, [], ◌∷◌, map, length, slice_get, slice_index_or, None, refl, sym, ap, ◌∙◌, subst, arith}
use Rattle.std.specs.Prelude.{filter_map, nat_le}
use Rattle.std.specs.List.{list_all, list_any, zip}
use Rattle.std.proofs.lemmas.Bool.{and_parts}
use Rattle.blink_base.specs.Values.{Row}
use Rattle.blink_lists.specs.Lists.{numbered, numbered_from, numbers_from}
use Rattle.blink_lists.specs.Rearrangement.{Rearranged}
use Rattle.blink_lists.specs.Rearrangement.Rearranged.{followed}
use Rattle.star_sql.specs.declared.ast.Primary.{Primary}
use Rattle.star_sql.specs.declared.ast.Select.{Select}
use Rattle.star_meaning.specs.Names.{Scope, FromEntry, Combination}
use Rattle.star_meaning.specs.Truth.{kept}
use Rattle.star_bind.specs.declared.query.Query.{Query}
use Rattle.star_bind.specs.declared.query.Conjunction.{Conjunction}
use Rattle.star_bind.specs.Factors.{factors, tests_in}
use Rattle.star_bind.specs.StarForm.{is_pair_factor, is_filter, tables_in, compares_columns, ties_of}
use Rattle.star_bind.specs.Conjunctions.{table_conjunctions, passes}
use Rattle.star_bind.specs.BoundQuery.{Schemas, scope_of, query_in, first_refusal}
use Rattle.star_bind.specs.Laws.{factor_holds, may_hold}
use Rattle.star_bind.proofs.ConjunctionLemmas.{conjunctions_are_condition}
use Rattle.blink_lists.specs.Products.{each_passes, all_there}
use Rattle.blink_lists.proofs.BoolLemmas.{and-comm, all-true, all-same-if, all-filter, all-swap, all-guarded}
use Rattle.blink_lists.proofs.ProductLemmas.{is_one}
use Rattle.blink_lists.proofs.PlaceTestLemmas.{each-number, filter-choices-same}
use Rattle.star_bind.specs.Joins.{is_wanted, wanted_if, joined_row, JoinsByKeys}
use Rattle.star_bind.proofs.TieLemmas.{Each, tie_holds}
use Rattle.star_bind.proofs.StarLemmas.{all-each, beside_if, beside, star_choices}
use Rattle.star_bind.proofs.AcceptanceLemmas.{Accepted, accepted, scope_accepted, parts_from}
use Rattle.star_bind.proofs.WhereLemmas.{found-same, where_holds, kept-where}
use Rattle.star_bind.proofs.FactRowLemmas.{query-is, tied, split}
use Rattle.star_bind.proofs.TableNameLemmas.{is_named, one_named}

each-below : (m n from : ℕ) → from + n ≡ m → Each (λ k. k < m) (numbers_from from n)
each-below m zero from l = tt
each-below m (suc n) from l = (omega (arith, l), each-below m n (from + 1) (omega (arith, l)))

-- the filters of the query at a place
module _ (scope : Scope) (s : Select) where
  filters-from : (n k : ℕ) (es : Scope) → k < length es → slice_index_or (map (λ p. table_conjunctions scope s p.0) (numbered_from n es)) k [] ≡ table_conjunctions scope s (n + k)
  filters-from n k [] l = absurd (omega (arith, l))
  filters-from n zero (e ∷ es) l = ap (table_conjunctions scope s) (omega arith)
  filters-from n (suc k) (e ∷ es) l = filters-from (n + 1) k es (omega (arith, l)) ∙ ap (table_conjunctions scope s) (omega arith)

  pub filters-are : (k : ℕ) → k < length scope → slice_index_or (map (λ p. table_conjunctions scope s p.0) (numbered scope)) k [] ≡ table_conjunctions scope s k
  filters-are k l = filters-from 0 k scope l ∙ ap (table_conjunctions scope s) (omega arith)

module _ (schemas : Schemas) (s : Select) (fact : ℕ) (free : first_refusal schemas s ≡ None) (a : Accepted (scope_of schemas s) s fact) where
  abbrev scope : Scope
  scope = scope_of schemas s

  abbrev query : Query
  query = query_in (scope_of schemas s) s fact

  abbrev own : ℕ → Row → Bool
  own = is_wanted (query_in (scope_of schemas s) s fact)

  -- the conditions of all tables are the factors that are no ties
  own_is : (rows : Combination) → length rows ≡ length (scope_of schemas s) → each_passes own 0 rows ≡ list_all (λ f. is_pair_factor f || factor_holds scope rows f) (factors s.condition)
  own_is rows l =
      each-number own [] rows
      ∙ ap (λ n. list_all (λ k. own k (slice_index_or rows k [])) (numbers_from 0 n)) l
      ∙ all-each (λ k. k < length scope) (λ k. own k (slice_index_or rows k [])) (λ k. list_all (λ f. not (not (is_pair_factor f) && is_named scope f k) || factor_holds scope rows f) (factors s.condition))
      (λ k below. ap (λ (cs : List Conjunction). list_any (passes (slice_index_or rows k [])) cs) (filters-are scope s k below)
      ∙ conjunctions_are_condition schemas s rows k free
      ∙ all-filter (factor_holds scope rows) (λ f. not (is_pair_factor f) && is_named scope f k) (factors s.condition))
      (numbers_from 0 (length scope)) (each-below (length scope) (length scope) 0 (omega arith))
      ∙ all-swap (λ f k. not (not (is_pair_factor f) && is_named scope f k) || factor_holds scope rows f) (factors s.condition) (numbers_from 0 (length scope))
      ∙ all-same-if (λ f. is_pair_factor f || is_filter scope f) (λ f. list_all (λ k. not (not (is_pair_factor f) && is_named scope f k) || factor_holds scope rows f) (numbers_from 0 (length scope))) (λ f. is_pair_factor f || factor_holds scope rows f)
      one_is (factors s.condition) a.parted
    where
      one_is : (f : Primary) → (is_pair_factor f || is_filter scope f) ≡ true
          → list_all (λ k. not (not (is_pair_factor f) && is_named scope f k) || factor_holds scope rows f) (numbers_from 0 (length scope)) ≡ (is_pair_factor f || factor_holds scope rows f)
      one_is f e = by (is_pair_factor f) e
        where
          by : (b : Bool) → (b || is_filter scope f) ≡ true → list_all (λ k. not (not b && is_named scope f k) || factor_holds scope rows f) (numbers_from 0 (length scope)) ≡ (b || factor_holds scope rows f)
          by true h = all-true (numbers_from 0 (length scope))
          by false h =
              let p = and_parts (nat_le (length (tables_in scope f)) 1) (not (list_any compares_columns (tests_in f))) h in
              all-guarded (is_named scope f) (factor_holds scope rows f) (numbers_from 0 (length scope)) (one_named scope f (omega (arith, a.within)) p.0)

  row_is : (r : Row) (d : ℕ) (e : FromEntry × List Row) (b : Bool) → beside_if scope fact (ties_of scope s fact) own r d e b ≡ wanted_if query r d e b
  row_is r d e true = refl
  row_is r d e false = refl

  pub joins : (tables : List (List Row)) → length tables ≡ length scope → list_all may_hold (zip scope tables) ≡ true
      → Rearranged (kept scope s.condition tables) (filter_map (joined_row query scope tables) (slice_index_or tables fact []))
  joins tables l holds =
      followed (is_one (kept-where scope s.condition tables
      ∙ filter-choices-same (where_holds scope s.condition) (λ rows. each_passes own 0 rows && list_all (tie_holds scope fact rows) (ties_of scope s fact)) tables
      (λ rows m. split scope s fact a rows ∙ and-comm (list_all (tie_holds scope fact rows) (ties_of scope s fact)) (list_all (λ f. is_pair_factor f || factor_holds scope rows f) (factors s.condition))
      ∙ ap (λ b. b && list_all (tie_holds scope fact rows) (ties_of scope s fact)) (sym (own_is rows (m ∙ l))))))
      (followed (star_choices scope fact (ties_of scope s fact) own (tied scope s fact a) tables (subst (λ n. fact < n) (sym l) a.within) l (parts_from scope fact (ties_of scope s fact) own (tied scope s fact a) 0 scope tables (λ j. ap (slice_get scope) (omega arith)) a.counted holds))
      (is_one (found-same (λ r. all_there (map (beside scope fact (ties_of scope s fact) own r) (numbered (zip scope tables)))) (joined_row query scope tables)
      (λ r i. all_there (map (λ p. row_is r p.0 p.1 (p.0 == fact) i) (numbered (zip scope tables)))) (slice_index_or tables fact []))))

pub joins_by_keys : JoinsByKeys
joins_by_keys schemas s tables e l holds =
    let n = scope_accepted schemas s e in
    let a = accepted (scope_of schemas s) s n.1 in
    subst (λ (q : Query). Rearranged (kept (scope_of schemas s) s.condition tables) (filter_map (joined_row q (scope_of schemas s) tables) (slice_index_or tables q.fact [])))
    (sym (query-is schemas s a.0 a.1.is_fact)) (joins schemas s a.0 e a.1 tables (l ∙ sym n.0) holds)
