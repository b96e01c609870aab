-- Whether a query puts kinds together that don't go together. Source: ISO/IEC 9075 (comparability of data types), in this project's own profile.
use Rattle.std.specs.Prelude.{Bool, false, ◌||◌, not, Option, Some, None, is_none}
use Rattle.std.specs.List.{list_any}
use Rattle.std.specs.Option.{option_map_or}
use Rattle.blink_base.specs.declared.value.Kind.{Kind}
use Rattle.blink_base.specs.declared.value.Kind.TheVariants as kind
use Rattle.blink_base.specs.Values.{same_kind}
use Rattle.blink_lists.specs.Lists.{any_true}
use Rattle.star_sql.specs.declared.ast.ColumnName.{ColumnName}
use Rattle.star_sql.specs.declared.ast.Expr.{Expr}
use Rattle.star_sql.specs.declared.ast.Expr.TheVariants.{One, Times, Plus, Minus}
use Rattle.star_sql.specs.declared.ast.What.{What}
use Rattle.star_sql.specs.declared.ast.What.TheVariants as what
use Rattle.star_sql.specs.declared.ast.TestWords.{TestWords}
use Rattle.star_sql.specs.declared.ast.TestWords.TheVariants.{Compare, Columns, Between, Among, Like}
use Rattle.star_sql.specs.declared.ast.Cond.{Cond}
use Rattle.star_sql.specs.declared.ast.Select.{Select}
use Rattle.star_sql.specs.Conditions.{of_cond}
use Rattle.star_sql.specs.Literals.{test_of}
use Rattle.star_meaning.specs.Names.{Scope, place_of, kind_at}

-- the kind of the column that a name means
abbrev pub kind_named : Scope → ColumnName → Option Kind
kind_named scope c = option_map_or (λ p. Some (kind_at scope p)) (place_of scope c) None

-- whether two columns are of different kinds
abbrev pub kinds_differ : Option Kind → Option Kind → Bool
kinds_differ (Some x) (Some y) = not (same_kind x y)
kinds_differ (Some x) None = false
kinds_differ None y = false

-- whether a column can't take the literals or the pattern of a test
abbrev pub refuses_words : Option Kind → TestWords → Bool
refuses_words None words = false
refuses_words (Some k) words = is_none (test_of k words)

-- whether a test puts wrong kinds together
abbrev pub is_wrong_test : Scope → TestWords → Bool
is_wrong_test scope (Columns left op right) = kinds_differ (kind_named scope left) (kind_named scope right)
is_wrong_test scope (Compare column op l) = refuses_words (kind_named scope column) (Compare column op l)
is_wrong_test scope (Between column low high) = refuses_words (kind_named scope column) (Between column low high)
is_wrong_test scope (Among column list) = refuses_words (kind_named scope column) (Among column list)
is_wrong_test scope (Like column pattern) = refuses_words (kind_named scope column) (Like column pattern)

-- whether some test of a condition does
abbrev pub is_wrong_condition : Scope → Option Cond → Bool
is_wrong_condition scope None = false
is_wrong_condition scope (Some cond) = of_cond (is_wrong_test scope) (λ b. b) any_true any_true cond

-- whether a column is no whole number
abbrev pub is_no_number : Scope → ColumnName → Bool
is_no_number scope c = kinds_differ (kind_named scope c) (Some kind.Int)

-- whether an expression takes a column that is no whole number
abbrev pub is_wrong_expr : Scope → Expr → Bool
is_wrong_expr scope (One a) = is_no_number scope a
is_wrong_expr scope (Times a b) = is_no_number scope a || is_no_number scope b
is_wrong_expr scope (Plus a b) = is_no_number scope a || is_no_number scope b
is_wrong_expr scope (Minus a b) = is_no_number scope a || is_no_number scope b

-- SUM and AVG take whole numbers alone
abbrev pub is_wrong_item : Scope → What → Bool
is_wrong_item scope (what.Column c) = false
is_wrong_item scope what.Count = false
is_wrong_item scope (what.Sum e) = is_wrong_expr scope e
is_wrong_item scope (what.Avg e) = is_wrong_expr scope e
is_wrong_item scope (what.Min c) = false
is_wrong_item scope (what.Max c) = false

-- whether a query puts wrong kinds together, in its items or its condition
abbrev pub has_wrong_kind : Scope → Select → Bool
has_wrong_kind scope s = list_any (λ i. is_wrong_item scope i.what) s.items || is_wrong_condition scope s.condition
