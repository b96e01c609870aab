-- Refusals one behind the other, of which the first counts.
use Rattle.std.proofs.Common.{◌≡◌, ℕ, filter, filter_map, subst, List, [], ◌∷◌, map, Bool, length, Option, Some, None, Result, Ok, Err, IfOk, sym, ap, ◌∙◌}
use Rattle.std.specs.List.{list_any}
use Rattle.std.specs.Option.{option_or}
use Rattle.blink_lists.specs.Lists.{numbers_from, first_of}
use Rattle.blink_base.specs.declared.refusal.Refusal.{Refusal}
use Rattle.std.specs.Prelude.{is_none}
use Rattle.blink_base.specs.declared.refusal.Refusal.TheVariants.{UnknownTable}
use Rattle.star_meaning.specs.Names.{Scope}
use Rattle.star_sql.specs.declared.ast.Primary.{Primary}
use Rattle.star_sql.specs.declared.ast.Select.{Select}
use Rattle.star_bind.specs.declared.names.scope.Entry.{Entry}
use Rattle.star_bind.specs.declared.fault.BindFault.{BindFault}
use Rattle.star_bind.specs.BoundQuery.{Schemas, entry_of, scope_of, unknown_tables, scope_refusal, first_refusal, first_some, is_wide}
use Rattle.star_bind.specs.Checks.{IsChecked, is_why}
use Rattle.star_bind.specs.BindAnswer.{refusal_of}
use Rattle.star_bind.specs.Factors.{factors}
use Rattle.star_bind.specs.Lookup.{scope_from}

-- a fault of the first is the first fault
pub first_why : (w a b : Option Refusal) → is_why w a → is_why w (option_or a b)
first_why (Some x) a b h = ap (λ o. option_or o b) h
first_why None a b h = tt

-- where the first refuses nothing, the others count
pub then_checked : {X : Type 0} (r : Result X BindFault) (a b : Option Refusal) → a ≡ None → IsChecked r b → IsChecked r (option_or a b)
then_checked (Ok x) a b e h = ap (λ o. option_or o b) e ∙ h
then_checked (Err why) a b e h = by (refusal_of why) h
  where
    by : (w : Option Refusal) → is_why w b → is_why w (option_or a b)
    by None i = tt
    by (Some x) i = ap (λ o. option_or o b) e ∙ i

pub last_checked : {X : Type 0} (r : Result X BindFault) (a : Option Refusal) → IsChecked r a → IsChecked r (first_some (a ∷ []))
last_checked r None h = h
last_checked r (Some x) h = h

-- what the tables tell is the first
pub tables_why : (w : Option Refusal) (schemas : Schemas) (s : Select) (tables : List (List ℕ)) → tables ≡ s.tables
    → is_why w (first_of (map (λ name. UnknownTable name) (filter (λ name. is_none (schemas name)) tables))) → is_why w (first_refusal schemas s)
unfolding first_refusal
tables_why w schemas s tables e h =
    first_why w (first_of (unknown_tables schemas s)) (scope_refusal (scope_of schemas s) s)
    (subst (λ (ts : List (List ℕ)). is_why w (first_of (map (λ name. UnknownTable name) (filter (λ name. is_none (schemas name)) ts)))) e h)

-- where all tables are there, what the scope tells is the first
pub scope_checked : {X : Type 0} (r : Result X BindFault) (schemas : Schemas) (s : Select) (scope : Scope) (tables : List (List ℕ)) → tables ≡ s.tables → scope ≡ filter_map (entry_of schemas) tables
    → first_of (map (λ name. UnknownTable name) (filter (λ name. is_none (schemas name)) tables)) ≡ None → IsChecked r (scope_refusal scope s) → IsChecked r (first_refusal schemas s)
unfolding first_refusal
scope_checked r schemas s scope tables e same none h =
    then_checked r (first_of (unknown_tables schemas s)) (scope_refusal (scope_of schemas s) s)
    (ap (λ (ts : List (List ℕ)). first_of (map (λ name. UnknownTable name) (filter (λ name. is_none (schemas name)) ts))) (sym e) ∙ none)
    (subst (λ (sc : Scope). IsChecked r (scope_refusal sc s)) (same ∙ ap (filter_map (entry_of schemas)) e) h)
