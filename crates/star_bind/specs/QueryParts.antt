-- Parts of a bound query, by the parts of its statement. Source: this project's own.
use Rattle.std.specs.Prelude.{ℕ, ◌^◌, Bool, not, ◌&&◌, ◌==◌, List, map, filter, filter_map, length, nat_lt, Option, Some, None, option_map}
use Rattle.std.specs.List.{list_all}
use Rattle.blink_base.specs.Lines.{LineKey}
use Rattle.blink_lists.specs.Lists.{joined}
use Rattle.star_lex.specs.declared.token.TokenKind.{TokenKind}
use Rattle.star_sql.specs.declared.ast.Item.{Item}
use Rattle.star_sql.specs.declared.ast.OrderKey.{OrderKey}
use Rattle.star_sql.specs.declared.ast.Primary.{Primary}
use Rattle.star_meaning.specs.Names.{Scope}
use Rattle.star_meaning.specs.Answer.{item_meant, is_falling, token_text}
use Rattle.star_bind.specs.declared.query.Conjunction.{Conjunction}
use Rattle.star_bind.specs.declared.query.BoundOrder.{BoundOrder}
use Rattle.star_bind.specs.Conjunctions.{factor_subtree, and_of}
use Rattle.star_bind.specs.StarForm.{is_pair_factor, tables_in}

-- whether each FROM entry, and each of its columns, has a number in 32 bits
abbrev pub is_addressable : Scope → Bool
is_addressable scope = nat_lt (length scope) (2 ^ 32) && list_all (λ entry. nat_lt (length entry.schema.columns) (2 ^ 32)) scope

-- the conjunctions of a table's condition, among these factors
abbrev pub conjunctions_among : Scope → List Primary → ℕ → List Conjunction
conjunctions_among scope fs table =
    map (λ tests. record { tests = tests }) (and_of (map (factor_subtree scope) (filter (λ f. not (is_pair_factor f) && list_all (λ t. t == table) (tables_in scope f)) fs))).conjunctions

-- a key of the lines' order, where it means an item
abbrev pub order_of : Scope → List Item → OrderKey → Option BoundOrder
order_of scope items key = option_map (λ at. record { item = at; falling = is_falling key.way }) (item_meant scope items key.column)

-- tokens as they are printed, without spaces
abbrev pub printed : List TokenKind → List ℕ
printed tokens = joined (map token_text tokens)
