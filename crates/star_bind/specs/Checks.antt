-- What the parts of `bind` answer, and the lists that they walk. Source: this project's own.
use Rattle.std.specs.Prelude.{Bool, true, ◌≡◌, List, [], ◌∷◌, filter, Option, Some, None, option_map, Result, MatchResult}
use Rattle.blink_lists.specs.Lists.{joined, first_of, all_true}
use Rattle.std.specs.List.{list_all}
use Rattle.std.specs.Option.{option_or}
use Rattle.blink_base.specs.declared.refusal.Refusal.{Refusal}
use Rattle.blink_base.specs.declared.refusal.Refusal.TheVariants.{UnknownColumn, AmbiguousColumn}
use Rattle.star_sql.specs.declared.ast.ColumnName.{ColumnName}
use Rattle.star_sql.specs.declared.ast.TestWords.{TestWords}
use Rattle.star_sql.specs.declared.ast.Cond.{Cond}
use Rattle.star_sql.specs.declared.ast.Conj.{Conj}
use Rattle.star_sql.specs.declared.ast.Primary.{Primary}
use Rattle.star_sql.specs.Conditions.{of_cond, of_prim}
use Rattle.star_sql.specs.WellFormed.{is_test, is_condition}
use Rattle.star_meaning.specs.Names.{Scope, name_text}
use Rattle.star_meaning.specs.NameRefusals.{is_unknown, is_ambiguous}
use Rattle.star_bind.specs.declared.names.scope.Place.{Place}
use Rattle.star_bind.specs.Lookup.{is_lost}
use Rattle.star_bind.specs.declared.fault.BindFault.{BindFault}
use Rattle.star_bind.specs.BindAnswer.{refusal_of}

-- the tests of a condition, in order
abbrev pub tests_of : Cond → List TestWords
tests_of = of_cond (λ words. words ∷ []) (λ tests. tests) joined joined

-- the tests of a WHERE, in order
abbrev pub where_tests : Option Cond → List TestWords
where_tests None = []
where_tests (Some cond) = tests_of cond

-- a fault is the one that the definition gives; want of memory is free
abbrev pub is_why : Option Refusal → Option Refusal → Type 0
is_why (Some why) told = told ≡ Some why
is_why None told = Unit {0}

-- a check passes where the definition refuses nothing, and else tells what it refuses
abbrev pub IsChecked : {X : Type 0} → Result X BindFault → Option Refusal → Type 0
IsChecked result told = MatchResult result (λ x. told ≡ None) (λ why. is_why (refusal_of why) told)

-- what lists of names and of keys tell: the first unknown, and else the first ambiguous, names before keys
abbrev pub names_told : Scope → List (Option Place) → List ColumnName → List ColumnName → Option Refusal
names_told scope places names keys =
    option_or (option_map (λ c. UnknownColumn (name_text c)) (option_or (first_of (filter (is_unknown scope) names)) (first_of (filter (is_lost scope places) keys))))
    (option_map (λ c. AmbiguousColumn (name_text c)) (option_or (first_of (filter (is_ambiguous scope) names)) (first_of (filter (is_ambiguous scope) keys))))

-- whether each test in a condition is well formed
abbrev pub cond_is_good : Cond → Bool
cond_is_good = of_cond is_test (λ b. b) all_true all_true

-- whether each test in a test or a group is
abbrev pub primary_is_good : Primary → Bool
primary_is_good = of_prim is_test (λ b. b) all_true all_true

-- whether each test in a conjunction is
abbrev pub conj_is_good : Conj → Bool
conj_is_good conj = list_all primary_is_good conj.all

-- whether the condition that is there is well formed
abbrev pub where_formed : Option Cond → Bool
where_formed None = true
where_formed (Some c) = is_condition c
