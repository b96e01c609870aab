-- A statement has at least as many tokens as items, and as tables.
use Rattle.std.proofs.Common.{◌≡◌, ◌^◌, ◌<◌, ◌≤◌, ◌+◌, ℕ, suc, List, [], ◌∷◌, ◌++◌, map, length, Option, Some, None, arith}
use Rattle.std.specs.Prelude.{codes}
use Rattle.std.proofs.lemmas.List.{length-append}
use Rattle.blink_lists.specs.Lists.{separated}
use Rattle.star_lex.specs.declared.token.Mark.TheVariants as mark
use Rattle.star_sql.specs.declared.ast.ColumnName.{ColumnName}
use Rattle.star_sql.specs.declared.ast.Item.{Item}
use Rattle.star_sql.specs.declared.ast.What.{What}
use Rattle.star_sql.specs.declared.ast.What.TheVariants as what
use Rattle.star_sql.specs.declared.ast.Select.{Select}
use Rattle.star_sql.specs.declared.ast.Statement.TheVariants as statement
use Rattle.star_sql.specs.Spelling.{Spelled, mark_of, name_of, listed, qualified, column_spelled, cond_spelled, what_spelled, where_some, where_any, item_spelled, order_spelled, number_spelled, HasFewTokens}

behind : (xs ys : Spelled) → length ys ≤ length (xs ++ ys)
behind xs ys = let l = length-append xs ys in omega (arith, l)

front : (xs ys : Spelled) → length xs ≤ length (xs ++ ys)
front xs ys = let l = length-append xs ys in omega (arith, l)

listed-long : {X : Type 0} (f : X → Spelled) → ((x : X) → 0 < length (f x)) → (xs : List X) → length xs ≤ length (listed (map f xs))
listed-long f some [] = omega arith
listed-long f some (x ∷ []) = let h = some x in omega (arith, h)
listed-long f some (x ∷ y ∷ xs) =
    let h = some x in
    let more = listed-long f some (y ∷ xs) in
    let a = length-append (f x ++ mark_of mark.Comma) (listed (map f (y ∷ xs))) in
    let b = length-append (f x) (mark_of mark.Comma) in
    let long : suc (suc (length xs)) ≤ length (f x ++ mark_of mark.Comma ++ listed (map f (y ∷ xs))) = omega (arith, h, more, a, b) in
    long

column-some : (c : ColumnName) → 0 < length (column_spelled c)
column-some c = by c.table
  where
    by : (o : Option (List ℕ)) → 0 < length (qualified o (name_of c.column))
    by None = omega arith
    by (Some t) = omega arith

what-some : (w : What) → 0 < length (what_spelled w)
what-some (what.Column a) = column-some a
what-some what.Count = omega arith
what-some (what.Sum e) = omega arith
what-some (what.Avg e) = omega arith
what-some (what.Min a) = omega arith
what-some (what.Max a) = omega arith

item-some : (i : Item) → 0 < length (item_spelled i)
item-some i = let w = what-some i.what in let l = front (what_spelled i.what) (where_some (name_of (codes "as")) name_of i.name) in omega (arith, w, l)

module _ (s : Select) where
  abbrev chosen : Spelled
  chosen = name_of (codes "select") ++ listed (map item_spelled s.items)

  abbrev sources : Spelled
  sources = chosen ++ name_of (codes "from") ++ listed (map name_of s.tables)

  abbrev filtered : Spelled
  filtered = sources ++ where_some (name_of (codes "where")) cond_spelled s.condition

  abbrev grouped : Spelled
  grouped = filtered ++ where_any (name_of (codes "group") ++ name_of (codes "by")) column_spelled s.groups

  abbrev ordered : Spelled
  ordered = grouped ++ where_any (name_of (codes "order") ++ name_of (codes "by")) order_spelled s.order

  -- the tokens up to the tables are among those of the statement
  sources-few : HasFewTokens (statement.Select s) → length sources < 2 ^ 32
  sources-few given =
      let few : length (ordered ++ where_some (name_of (codes "limit")) number_spelled s.limit) < 2 ^ 32 = given in
      let a = front sources (where_some (name_of (codes "where")) cond_spelled s.condition) in
      let b = front filtered (where_any (name_of (codes "group") ++ name_of (codes "by")) column_spelled s.groups) in
      let c = front grouped (where_any (name_of (codes "order") ++ name_of (codes "by")) order_spelled s.order) in
      let d = front ordered (where_some (name_of (codes "limit")) number_spelled s.limit) in
      omega (arith, few, a, b, c, d)

  pub few-items : HasFewTokens (statement.Select s) → length s.items < 2 ^ 32
  few-items given =
      let few = sources-few given in
      let long = listed-long item_spelled item-some s.items in
      let a = behind (name_of (codes "select")) (listed (map item_spelled s.items)) in
      let b = front chosen (name_of (codes "from")) in
      let c = front (chosen ++ name_of (codes "from")) (listed (map name_of s.tables)) in
      omega (arith, few, long, a, b, c)

  pub few-tables : HasFewTokens (statement.Select s) → length s.tables < 2 ^ 32
  few-tables given =
      let few = sources-few given in
      let long = listed-long name_of (λ w. omega arith) s.tables in
      let a = behind (chosen ++ name_of (codes "from")) (listed (map name_of s.tables)) in
      omega (arith, few, long, a)
