-- A worked star join, as a fact that computes: two ties on one column of the fact, written either way, a dimension with a condition and one without, and rows of the fact whose keys are missing. Source: ISO/IEC 9075 for the answer.
use Rattle.std.specs.Prelude.{◌≡◌, ℕ, pos, true, List, [], ◌∷◌, map, filter, filter_map, codes, Some, None, option_map, refl}
use Rattle.std.specs.List.{find, list_all, zip}
use Rattle.std.specs.Str.{bytes_eq}
use denote.Hole.Carrier.{hidden}
use Rattle.blink_base.specs.declared.op.Op.TheVariants as op
use Rattle.blink_base.specs.declared.tree.Tree.TheBlock.{hidden-the_row-Tree-0}
use Rattle.blink_base.specs.declared.value.Value.TheVariants.{Int}
use Rattle.blink_base.specs.Values.{Row}
use Rattle.star_sql.specs.declared.ast.What.TheVariants as what
use Rattle.star_sql.specs.declared.ast.Expr.TheVariants.{One}
use Rattle.star_sql.specs.declared.ast.Primary.{Test}
use Rattle.star_sql.specs.declared.ast.TestWords.TheVariants.{Compare, Columns}
use Rattle.star_sql.specs.declared.ast.Select.{Select}
use Rattle.star_sql.specs.StatementParts.{bare, item, number, all_of}
use Rattle.star_meaning.specs.Names.{FromEntry}
use Rattle.star_meaning.specs.Answer.{lines}
use Rattle.star_meaning.specs.Queries.{int_table, int_rows, int_lines, plain}
use Rattle.star_bind.specs.declared.query.Query.{Query}
use Rattle.star_bind.specs.BoundQuery.{Schemas, scope_of, first_refusal, query_in}
use Rattle.star_bind.specs.Laws.{may_hold}
use Rattle.late_decode.specs.declared.plan.Formula.TheVariants as formula
use Rattle.late_decode.specs.declared.plan.Measure.TheVariants as measure
use Rattle.late_decode.specs.declared.plan.Pick.TheVariants.{Fact, Dimension}
use Rattle.late_decode.specs.GroupLines.{finished}
use Rattle.star_bind.specs.Joins.{filters_at, joined_row}
use Rattle.star_select.specs.CodeSelection.{fact_tests}
use Rattle.star_select.specs.Decodes.{most_decodes}
use Rattle.star_select.specs.GroupAnswer.{groups_of, answer_of_groups}
use Rattle.star_select.specs.KeySets.{key_maps, is_selected}
use Rattle.star_select.specs.Picks.{pick_of}
use Rattle.star_select.specs.QueryPlan.{plan_of}

-- tables f (fk, v), d (k key, n), e (j key, m)
abbrev known : List FromEntry
known =
    int_table (codes "d") (codes "k" ∷ codes "n" ∷ []) (Some 0) ∷ int_table (codes "f") (codes "fk" ∷ codes "v" ∷ []) None
    ∷ int_table (codes "e") (codes "m" ∷ codes "j" ∷ []) (Some 1) ∷ []

abbrev pub schemas : Schemas
schemas name = option_map (λ e. e.schema) (find (λ e. bytes_eq e.name name) known)

-- SELECT n, SUM(v), MAX(m) FROM d, f, e WHERE j = fk AND v < 10 AND fk = k AND m > 5 GROUP BY n
abbrev pub joining : Select
joining = record {
  items = plain (codes "n") ∷ item (what.Sum (One (bare (codes "v")))) ∷ item (what.Max (bare (codes "m"))) ∷ [];
  tables = codes "d" ∷ codes "f" ∷ codes "e" ∷ [];
  condition = Some (all_of (Test (Columns (bare (codes "j")) op.Equal (bare (codes "fk"))) ∷ Test (Compare (bare (codes "v")) op.Less (number 10))
      ∷ Test (Columns (bare (codes "fk")) op.Equal (bare (codes "k"))) ∷ Test (Compare (bare (codes "m")) op.Greater (number 5)) ∷ []));
  groups = bare (codes "n") ∷ [];
  order = [];
  limit = None;
}

abbrev pub rows_d : List Row
rows_d = int_rows ((1 ∷ 70 ∷ []) ∷ (2 ∷ 80 ∷ []) ∷ (3 ∷ 70 ∷ []) ∷ [])

-- 15 fails the condition on f, and 9 is no key
abbrev pub rows_f : List Row
rows_f = int_rows ((3 ∷ 4 ∷ []) ∷ (1 ∷ 2 ∷ []) ∷ (9 ∷ 1 ∷ []) ∷ (2 ∷ 12 ∷ []) ∷ (2 ∷ 3 ∷ []) ∷ (1 ∷ 1 ∷ []) ∷ (3 ∷ 15 ∷ []) ∷ [])

-- the key 2 fails the condition on e
abbrev pub rows_e : List Row
rows_e = int_rows ((8 ∷ 3 ∷ []) ∷ (5 ∷ 2 ∷ []) ∷ (6 ∷ 1 ∷ []) ∷ [])

abbrev pub query : Query
query = query_in (scope_of schemas joining) joining 1

abbrev pub StarJoined : Type 0
StarJoined =
    (first_refusal schemas joining ≡ None)
    × (list_all may_hold (zip (scope_of schemas joining) (rows_d ∷ rows_f ∷ rows_e ∷ [])) ≡ true)
    × (filter (is_selected query (key_maps query (scope_of schemas joining) (rows_d ∷ rows_f ∷ rows_e ∷ []))) rows_f ≡ int_rows ((3 ∷ 4 ∷ []) ∷ (1 ∷ 2 ∷ []) ∷ (1 ∷ 1 ∷ []) ∷ []))
    × (filter_map (joined_row query (scope_of schemas joining) (rows_d ∷ rows_f ∷ rows_e ∷ [])) rows_f
    ≡ map (λ (rows : List (List ℕ)). int_rows rows) (((3 ∷ 70 ∷ []) ∷ (3 ∷ 4 ∷ []) ∷ (8 ∷ 3 ∷ []) ∷ []) ∷ ((1 ∷ 70 ∷ []) ∷ (1 ∷ 2 ∷ []) ∷ (6 ∷ 1 ∷ []) ∷ []) ∷ ((1 ∷ 70 ∷ []) ∷ (1 ∷ 1 ∷ []) ∷ (6 ∷ 1 ∷ []) ∷ []) ∷ []))
    × (key_maps query (scope_of schemas joining) (rows_d ∷ rows_f ∷ rows_e ∷ [])
    ≡ ((Int (pos 3), Int (pos 8) ∷ []) ∷ (Int (pos 1), Int (pos 6) ∷ []) ∷ []) ∷ ((Int (pos 1), Int (pos 70) ∷ []) ∷ (Int (pos 2), Int (pos 80) ∷ []) ∷ (Int (pos 3), Int (pos 70) ∷ []) ∷ []) ∷ [])
    × (map (λ c. map (λ t. t.column) (fact_tests query (key_maps query (scope_of schemas joining) (rows_d ∷ rows_f ∷ rows_e ∷ [])) c)) (filters_at query 1) ≡ (1 ∷ 0 ∷ []) ∷ [])
    × (most_decodes query (scope_of schemas joining) (rows_d ∷ rows_f ∷ rows_e ∷ []) ≡ 16)
    × ((plan_of query).keys ≡ Dimension 1 0 ∷ [])
    × ((plan_of query).measures ≡ measure.Count ∷ measure.Count ∷ measure.Sum (formula.One (Fact 1)) ∷ measure.Greatest (Dimension 0 0) ∷ [])
    × (pick_of query (record { table = 0; column = 1 }) ≡ Dimension 1 0)
    × (pick_of query (record { table = 2; column = 0 }) ≡ Dimension 0 0)
    × (pick_of query (record { table = 1; column = 1 }) ≡ Fact 1)
    × ((answer_of_groups query (groups_of query (key_maps query (scope_of schemas joining) (rows_d ∷ rows_f ∷ rows_e ∷ [])) (int_rows ((3 ∷ 4 ∷ []) ∷ (1 ∷ 2 ∷ []) ∷ (1 ∷ 1 ∷ []) ∷ [])))).lines ≡ int_lines ((70 ∷ 7 ∷ 8 ∷ []) ∷ []))
    × (lines (scope_of schemas joining) joining (rows_d ∷ rows_f ∷ rows_e ∷ []) ≡ int_lines ((70 ∷ 7 ∷ 8 ∷ []) ∷ []))

pub star_joined_lem : StarJoined
unfolding first_refusal lines finished hidden hidden-the_row-Tree-0
star_joined_lem = (refl, refl, refl, refl, refl, refl, refl, refl, refl, refl, refl, refl, refl, refl)
