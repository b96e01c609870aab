-- What is read as a SELECT is spelled so, and what is spelled so is read again.
use Rattle.std.proofs.Common.{◌≡◌, ℕ, Bool, false, ◌&&◌, ◌||◌, List, ◌∷◌, ◌++◌, map, Option, refl, append_assoc}
use Rattle.std.specs.Prelude.{codes}
use Rattle.std.specs.List.{list_all}
use Rattle.std.proofs.Math.Bool.{and_assoc}
use Rattle.star_lex.specs.declared.token.TokenKind.{TokenKind}
use Rattle.star_lex.specs.declared.token.TokenKind.TheVariants.{Name}
use Rattle.star_lex.specs.Kinds.{is_word}
use Rattle.star_sql.specs.declared.ast.ColumnName.{ColumnName}
use Rattle.star_sql.specs.declared.ast.OrderKey.{OrderKey}
use Rattle.star_sql.specs.declared.ast.Cond.{Cond}
use Rattle.star_sql.specs.declared.ast.Select.{Select}
use Rattle.star_sql.specs.Spelling.{Spelled, name_of, listed, where_some, where_any, column_spelled, item_spelled, order_spelled, cond_spelled, number_spelled, select_spelled}
use Rattle.star_sql.specs.WellFormed.{if_there, is_column_name, is_order_key, is_written_limit, is_select}
use Rattle.star_sql.specs.Parsers.{is_mark}
use Rattle.star_sql.specs.QueryParsers.{Parts, of_parts, end_at, select_at}
use Rattle.star_sql.proofs.TokenLemmas.{Parses, none_further, names, limits}
use Rattle.star_sql.proofs.CombinatorLemmas.{Passes, passes_word, passes_some, passes_any, passes_both, both, made, after, optionals, lists, bys}
use Rattle.star_sql.proofs.ColumnLemmas.{columns}
use Rattle.star_sql.proofs.ItemLemmas.{item_goes_on, items, order_goes_on, orders}
use Rattle.star_sql.proofs.ConditionLemmas.{cond_goes_on, conditions}
use Rattle.star_lex.specs.declared.token.Mark.TheVariants as mark

-- ---- GROUP BY, ORDER BY and LIMIT

abbrev groups_spelled : List ColumnName → Spelled
groups_spelled = where_any (name_of (codes "group") ++ name_of (codes "by")) column_spelled

abbrev orders_spelled : List OrderKey → Spelled
orders_spelled = where_any (name_of (codes "order") ++ name_of (codes "by")) order_spelled

abbrev limit_spelled : Option ℕ → Spelled
limit_spelled = where_some (name_of (codes "limit")) number_spelled

abbrev End : Type 0
End = List ColumnName × (List OrderKey × Option ℕ)

abbrev end_spelled : End → Spelled
end_spelled x = groups_spelled x.0 ++ (orders_spelled x.1.0 ++ limit_spelled x.1.1)

abbrev is_end : End → Bool
is_end x = list_all is_column_name x.0 && (list_all is_order_key x.1.0 && if_there is_written_limit x.1.1)

abbrev groups_go_on : TokenKind → Bool
groups_go_on t = is_word (codes "group") t || (is_mark mark.Comma t || is_mark mark.Dot t)

abbrev orders_go_on : TokenKind → Bool
orders_go_on t = is_word (codes "order") t || (is_mark mark.Comma t || order_goes_on t)

abbrev end_goes_on : TokenKind → Bool
end_goes_on t = groups_go_on t || (orders_go_on t || (is_word (codes "limit") t || none_further t))

-- a token that is none of these words passes by
passes_end : (test : TokenKind → Bool) → test (Name (codes "group")) ≡ false → test (Name (codes "order")) ≡ false → test (Name (codes "limit")) ≡ false → Passes test end_spelled
passes_end test group order limit =
    passes_both test groups_spelled (λ (x : List OrderKey × Option ℕ). orders_spelled x.0 ++ limit_spelled x.1) (passes_any test (codes "group") (codes "by") column_spelled group)
    (passes_both test orders_spelled limit_spelled (passes_any test (codes "order") (codes "by") order_spelled order) (passes_some test (codes "limit") number_spelled limit))

ends : Parses end_at end_spelled is_end end_goes_on
unfolding end_at
ends =
    both (bys columns refl (codes "group"))
    (both (bys orders refl (codes "order")) (optionals limits (codes "limit")) (passes_some orders_go_on (codes "limit") number_spelled refl))
    (passes_both groups_go_on orders_spelled limit_spelled (passes_any groups_go_on (codes "order") (codes "by") order_spelled refl) (passes_some groups_go_on (codes "limit") number_spelled refl))

-- ---- SELECT

abbrev condition_spelled : Option Cond → Spelled
condition_spelled = where_some (name_of (codes "where")) cond_spelled

-- a SELECT without its first word
abbrev pub behind_select : Select → Spelled
behind_select s = listed (map item_spelled s.items) ++ (Name (codes "from") ∷ (listed (map name_of s.tables) ++ (condition_spelled s.condition ++ end_spelled (s.groups, (s.order, s.limit)))))

pub select_parts : (s : Select) → select_spelled s ≡ Name (codes "select") ∷ behind_select s
select_parts s = simp append_assoc

abbrev parts_of : Select → Parts
parts_of s = (s.items, (s.tables, (s.condition, (s.groups, (s.order, s.limit)))))

abbrev items_go_on : TokenKind → Bool
items_go_on t = is_mark mark.Comma t || item_goes_on t

abbrev tables_go_on : TokenKind → Bool
tables_go_on t = is_mark mark.Comma t || none_further t

abbrev condition_goes_on : TokenKind → Bool
condition_goes_on t = is_word (codes "where") t || cond_goes_on t

abbrev pub select_goes_on : TokenKind → Bool
select_goes_on t = items_go_on t || (tables_go_on t || (condition_goes_on t || end_goes_on t))

pub selects : Parses select_at behind_select is_select select_goes_on
unfolding select_at
selects =
    made
    (both (lists items refl)
    (both (after (lists names refl) (codes "from"))
    (both (optionals conditions (codes "where")) ends (passes_end condition_goes_on refl refl refl))
    (passes_both tables_go_on condition_spelled end_spelled (passes_some tables_go_on (codes "where") cond_spelled refl) (passes_end tables_go_on refl refl refl)))
    (passes_word items_go_on (codes "from") (λ (x : List (List ℕ) × (Option Cond × End)). listed (map name_of x.0) ++ (condition_spelled x.1.0 ++ end_spelled x.1.1)) refl))
    of_parts parts_of behind_select is_select (λ s. refl) (λ x. refl) (λ x. simp and_assoc)
