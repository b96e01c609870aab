-- Items that are grouping columns, by the columns that these mean.
use Rattle.std.proofs.Common.{◌≡◌, Bool, true, not, ◌||◌, List, [], ◌∷◌, map, Option, Some, None, refl, sym, ap, ◌∙◌}
use Rattle.std.specs.Prelude.{option_map}
use Rattle.std.specs.List.{list_all, list_any}
use Rattle.star_sql.specs.declared.ast.ColumnName.{ColumnName}
use Rattle.star_sql.specs.declared.ast.What.{What}
use Rattle.star_sql.specs.declared.ast.What.TheVariants as what
use Rattle.star_sql.specs.declared.ast.Item.{Item}
use Rattle.star_sql.specs.declared.ast.Select.{Select}
use Rattle.star_meaning.specs.Names.{Scope, ColumnPlace, place_of}
use Rattle.star_meaning.specs.Groups.{has_aggregate}
use Rattle.star_meaning.specs.Answer.{bare_column, is_place}
use Rattle.star_bind.specs.declared.names.scope.Place.{Place}
use Rattle.star_bind.specs.GroupRule.{has_groups, is_grouping, may_stand, is_grouped}
use Rattle.star_bind.specs.Lookup.{place_in, is_same_place, stands_among, item_stands}

same_is : (p : ColumnPlace) (o : Option ColumnPlace) → is_same_place (place_in p) (option_map place_in o) ≡ is_place p o
same_is p None = refl
same_is p (Some q) = refl

any_same : (scope : Scope) (p : ColumnPlace) (gs : List ColumnName) → list_any (is_same_place (place_in p)) (map (λ g. option_map place_in (place_of scope g)) gs) ≡ list_any (λ g. is_place p (place_of scope g)) gs
any_same scope p [] = refl
any_same scope p (g ∷ gs) = λ i. same_is p (place_of scope g) i || any_same scope p gs i

among_is : (scope : Scope) (gs : List ColumnName) (o : Option ColumnPlace) → stands_among (map (λ g. option_map place_in (place_of scope g)) gs) (option_map place_in o) ≡ is_grouping scope gs o
among_is scope gs None = refl
among_is scope gs (Some p) = any_same scope p gs

stands_is : (scope : Scope) (gs : List ColumnName) (w : What) → item_stands scope (map (λ g. option_map place_in (place_of scope g)) gs) w ≡ may_stand scope gs (bare_column w)
stands_is scope gs (what.Column c) = among_is scope gs (place_of scope c)
stands_is scope gs what.Count = refl
stands_is scope gs (what.Sum e) = refl
stands_is scope gs (what.Avg e) = refl
stands_is scope gs (what.Min c) = refl
stands_is scope gs (what.Max c) = refl

pub grouped_told : (scope : Scope) (s : Select) (places : List (Option Place)) (b : Bool) → (has_groups s || has_aggregate s.items) ≡ true → places ≡ map (λ g. option_map place_in (place_of scope g)) s.groups
    → b ≡ list_all (λ i. item_stands scope places i.what) s.items → b ≡ is_grouped scope s
grouped_told scope s places b needed e told =
    told ∙ ap (λ (ps : List (Option Place)). list_all (λ i. item_stands scope ps i.what) s.items) e
    ∙ ap (λ (t : Item → Bool). list_all t s.items) (λ j i. stands_is scope s.groups i.what j)
    ∙ ap (λ c. not c || list_all (λ i. may_stand scope s.groups (bare_column i.what)) s.items) (sym needed)
