-- The schema that columns make is one that a table may have.
use Rattle.std.proofs.Common.{◌≡◌, ◌≤◌, ℕ, Bool, true, false, not, ◌||◌, List, [], ◌∷◌, map, length, count_by, nat_le, nat_lt, Option, Some, None, position, refl, ap, ◌∙◌, arith}
use Rattle.std.specs.List.{list_all}
use Rattle.std.specs.Str.{bytes_eq}
use Rattle.std.proofs.lemmas.Bool.{and_from, or_parts, ltb-false, le-leb, lt-ltb}
use Rattle.std.proofs.lemmas.List.{length-map}
use Rattle.std.proofs.lemmas.List.Folds.{list_all-map}
use Rattle.blink_base.specs.declared.schema.Column.{Column}
use Rattle.blink_base.specs.Identifiers.{is_name}
use Rattle.blink_lists.specs.Lists.{are_distinct}
use Rattle.blink_base.specs.RowFits.{is_schema, is_key_of}
use Rattle.blink_lists.specs.declared.limits.TheConstants.{MOST_COLUMNS}
use Rattle.star_sql.specs.declared.ast.ColumnDef.{ColumnDef}
use Rattle.star_sql.specs.WellFormed.{some_and_all, is_definition}
use Rattle.star_engine.specs.Changes.{are_bad_columns, schema_of}
use Rattle.blink_lists.proofs.FindLemmas.{place_is}

some : {X : Type 0} (p : X → Bool) (xs : List X) → some_and_all p xs ≡ true → (1 ≤ length xs) × (list_all p xs ≡ true)
some p [] e = cc
some p (x ∷ xs) e = (omega arith, e)

-- a column of a schema
abbrev kept : ColumnDef → Column
kept c = record { name = c.name; kind = c.kind }

same_names : (columns : List ColumnDef) → map (λ (c : Column). c.name) (map kept columns) ≡ map (λ c. c.name) columns
same_names [] = refl
same_names (c ∷ cs) = ap (λ l. c.name ∷ l) (same_names cs)

key_within : (columns : List ColumnDef) (key : Option ℕ) → position (λ c. c.key) columns ≡ key → is_key_of (map kept columns) key ≡ true
key_within columns None e = refl
key_within columns (Some k) e = let place = place_is (λ (c : ColumnDef). c.key) columns k e in let long = length-map columns kept in lt-ltb k (length (map kept columns)) (omega (arith, place.1))

pub few_columns : (columns : List ColumnDef) → are_bad_columns columns ≡ false → length columns ≤ 32
few_columns columns good =
    let parts = or_parts (nat_lt MOST_COLUMNS (length columns) || not (are_distinct bytes_eq (map (λ c. c.name) columns))) (nat_lt 1 (count_by (λ c. c.key) columns)) good in
    ltb-false 32 (length columns) (or_parts (nat_lt MOST_COLUMNS (length columns)) (not (are_distinct bytes_eq (map (λ c. c.name) columns))) parts.0).0

no_false : (b : Bool) → not b ≡ false → b ≡ true
no_false true e = refl
no_false false e = cc

pub made_schema : (columns : List ColumnDef) → some_and_all is_definition columns ≡ true → are_bad_columns columns ≡ false → is_schema (schema_of columns) ≡ true
made_schema columns formed good =
    let s = some is_definition columns formed in
    let few = few_columns columns good in
    let parts = or_parts (nat_lt MOST_COLUMNS (length columns) || not (are_distinct bytes_eq (map (λ c. c.name) columns))) (nat_lt 1 (count_by (λ c. c.key) columns)) good in
    let apart = no_false _ (or_parts (nat_lt MOST_COLUMNS (length columns)) (not (are_distinct bytes_eq (map (λ c. c.name) columns))) parts.0).1 in
    let long = length-map columns kept in
    let a = and_from (nat_le 1 (length (map kept columns))) (nat_le (length (map kept columns)) MOST_COLUMNS) (le-leb 1 (length (map kept columns)) (omega (arith, s.0))) (le-leb (length (map kept columns)) 32 (omega arith)) in
    let b = and_from _ (list_all (λ (c : Column). is_name c.name) (map kept columns)) a (list_all-map (λ (c : Column). is_name c.name) kept columns ∙ s.1) in
    let d = and_from _ (are_distinct bytes_eq (map (λ (c : Column). c.name) (map kept columns))) b (ap (are_distinct bytes_eq) (same_names columns) ∙ apart) in
    and_from _ (is_key_of (map kept columns) (position (λ c. c.key) columns)) d (key_within columns (position (λ c. c.key) columns) refl)
