-- A star query keeps at most one combination per row of its fact.
use Rattle.std.proofs.Common.{◌≡◌, ℕ, ◌+◌, ◌<◌, ◌==◌, Bool, true, false, ◌&&◌, ◌||◌, List, [], ◌∷◌, map, filter, length, slice_get, slice_index_or, Option, Some, None, cond, refl, sym, ap, ◌∙◌, subst, arith}
use Rattle.std.specs.Prelude.{unwrap_or, filter_map}
use Rattle.std.specs.List.{list_all, zip}
use Rattle.std.specs.Option.{option_and_then}
use Rattle.blink_base.specs.Values.{Row}
use Rattle.blink_lists.specs.Lists.{numbered, choices}
use Rattle.blink_lists.specs.Rearrangement.{Rearranged}
use Rattle.blink_lists.specs.Rearrangement.Rearranged.{followed}
use Rattle.blink_lists.proofs.RearrangementLemmas.{filter-rearranged}
use Rattle.star_sql.specs.declared.ast.Select.{Select}
use Rattle.star_meaning.specs.Names.{Scope, FromEntry, Combination}
use Rattle.star_meaning.specs.Truth.{kept}
use Rattle.star_bind.specs.declared.query.Query.{Query}
use Rattle.star_bind.specs.declared.query.Tie.{Tie}
use Rattle.star_bind.specs.Factors.{factors}
use Rattle.star_bind.specs.StarForm.{is_pair_factor, ties_of, fact_of}
use Rattle.star_bind.specs.BoundQuery.{Schemas, scope_of, query_in, query_of}
use Rattle.star_bind.specs.Laws.{factor_holds, tied_row, tie_of, combination_of, may_hold, if_kept, KeptPerFactRow}
use Rattle.blink_lists.specs.Products.{each_passes, all_there}
use Rattle.blink_lists.proofs.BoolLemmas.{all-cases}
use Rattle.blink_lists.proofs.ProductLemmas.{is_one}
use Rattle.blink_lists.proofs.GroupLemmas.{filter-alike}
use Rattle.star_bind.proofs.TieLemmas.{Each, IsTie, tie_holds, each_is, all_ties}
use Rattle.star_bind.proofs.StarLemmas.{beside_if, beside, star_choices}
use Rattle.star_bind.proofs.AcceptanceLemmas.{Accepted, accepted, scope_accepted, parts_from}
use Rattle.star_bind.proofs.WhereLemmas.{filter-all, filter-twice, if_passes, filter-found, found-same, choices-of-one, where_holds, kept-where}

abbrev always : ℕ → Row → Bool
always d x = true

each-always : (n : ℕ) (rows : List Row) → each_passes always n rows ≡ true
each-always n [] = refl
each-always n (x ∷ rows) = each-always (n + 1) rows

-- the query that is accepted
pub query-is : (schemas : Schemas) (s : Select) (fact : ℕ) → fact_of (scope_of schemas s) s ≡ Some fact → query_of schemas s ≡ query_in (scope_of schemas s) s fact
unfolding query_of
query-is schemas s fact e = ap (λ o. query_in (scope_of schemas s) s (unwrap_or o 0)) e

module _ (scope : Scope) (s : Select) (fact : ℕ) (a : Accepted scope s fact) where
  abbrev ties : List Tie
  ties = ties_of scope s fact

  abbrev query : Query
  query = query_in scope s fact

  pub tied : Each (IsTie scope fact) (ties_of scope s fact)
  tied = each_is scope fact (factors s.condition)

  pub split : (rows : Combination) → where_holds scope s.condition rows ≡ (list_all (tie_holds scope fact rows) (ties_of scope s fact) && list_all (λ f. is_pair_factor f || factor_holds scope rows f) (factors s.condition))
  split rows =
      all-cases is_pair_factor (factor_holds scope rows) (factors s.condition)
      ∙ ap (λ b. b && list_all (λ f. is_pair_factor f || factor_holds scope rows f) (factors s.condition)) (all_ties scope fact rows (factors s.condition) a.single)

  -- where all is true, the ties are
  and_again : (b c : Bool) → (b && c) ≡ (b && (b && c))
  and_again true c = refl
  and_again false c = refl

  ties_first : (rows : Combination) → where_holds scope s.condition rows ≡ ((each_passes always 0 rows && list_all (tie_holds scope fact rows) ties) && where_holds scope s.condition rows)
  ties_first rows =
      split rows ∙ and_again (list_all (tie_holds scope fact rows) ties) (list_all (λ f. is_pair_factor f || factor_holds scope rows f) (factors s.condition))
      ∙ (λ i. (sym (each-always 0 rows) i && list_all (tie_holds scope fact rows) ties) && sym (split rows) i)

  row_is : (r : Row) (d : ℕ) (e : FromEntry × List Row) (b : Bool) → beside_if scope fact ties always r d e b ≡ (elim b as (λ _. Option Row) [ true ↦ Some r | false ↦ option_and_then (tied_row e r) (tie_of query d) ])
  row_is r d e true = refl
  row_is r d e false = ap (λ l. option_and_then (tied_row (e.0, l) r) (tie_of query d)) (filter-all e.1)

  if_kept-is : (rows : Combination) → if_passes (where_holds scope s.condition) rows ≡ if_kept scope s rows
  if_kept-is rows = sym (
      ap (λ l. slice_get l 0) (kept-where scope s.condition (map (λ row. row ∷ []) rows) ∙ ap (filter (where_holds scope s.condition)) (choices-of-one rows)) ∙ by (where_holds scope s.condition rows))
    where
      by : (b : Bool) → slice_get (cond b (rows ∷ []) []) 0 ≡ cond b (Some rows) None
      by true = refl
      by false = refl

  once : (tables : List (List Row)) → length tables ≡ length scope → list_all may_hold (zip scope tables) ≡ true
      → Rearranged (kept scope s.condition tables) (filter_map (λ row. option_and_then (if_kept scope s) (combination_of query scope tables row)) (slice_index_or tables fact []))
  once tables l holds =
      followed (is_one (kept-where scope s.condition tables
      ∙ filter-alike (where_holds scope s.condition) (λ rows. (each_passes always 0 rows && list_all (tie_holds scope fact rows) ties) && where_holds scope s.condition rows) ties_first (choices tables)
      ∙ sym (filter-twice (where_holds scope s.condition) (λ rows. each_passes always 0 rows && list_all (tie_holds scope fact rows) ties) (choices tables))))
      (followed (filter-rearranged (where_holds scope s.condition) (star_choices scope fact ties always tied tables (subst (λ n. fact < n) (sym l) a.within) l (parts_from scope fact ties always tied 0 scope tables (λ j. ap (slice_get scope) (omega arith)) a.counted holds)))
      (is_one (filter-found (where_holds scope s.condition) (λ r. all_there (map (beside scope fact ties always r) (numbered (zip scope tables)))) (slice_index_or tables fact [])
      ∙ found-same (λ r. option_and_then (if_passes (where_holds scope s.condition)) (all_there (map (beside scope fact ties always r) (numbered (zip scope tables))))) (λ row. option_and_then (if_kept scope s) (combination_of query scope tables row))
      (λ r i. option_and_then (λ rows. if_kept-is rows i) (ap (λ f. all_there (map f (numbered (zip scope tables)))) (λ j p. row_is r p.0 p.1 (p.0 == fact) j) i)) (slice_index_or tables fact []))))

pub kept_per_fact_row : KeptPerFactRow
kept_per_fact_row schemas s tables e l holds =
    let n = scope_accepted schemas s e in
    let a = accepted (scope_of schemas s) s n.1 in
    subst (λ (q : Query). Rearranged (kept (scope_of schemas s) s.condition tables) (filter_map (λ row. option_and_then (if_kept (scope_of schemas s) s) (combination_of q (scope_of schemas s) tables row)) (slice_index_or tables q.fact [])))
    (sym (query-is schemas s a.0 a.1.is_fact)) (once (scope_of schemas s) s a.0 a.1 tables (l ∙ sym n.0) holds)
