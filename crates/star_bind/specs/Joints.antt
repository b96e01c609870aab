-- Comparisons of two columns and ties as the code holds them. Source: this project's own.
use Rattle.std.specs.Prelude.{ℕ, Bool, true, false, not, ◌||◌, ◌&&◌, count_by, ◌==◌, length, map, List, [], ◌∷◌, Option, Some, None}
use Rattle.std.specs.List.{list_all}
use Rattle.blink_lists.specs.Lists.{joined, numbers_from}
use Rattle.star_meaning.specs.Names.{Scope, ColumnPlace}
use Rattle.star_bind.specs.declared.names.scope.Place.{Place}
use Rattle.star_bind.specs.declared.star.star_form.Pair.{Pair}
use Rattle.star_bind.specs.declared.star.star_form.Joint.{Joint}
use Rattle.star_bind.specs.declared.star.star_form.Joint.TheVariants as joint
use Rattle.star_bind.specs.declared.star.star_form.Tied.{Tied}
use Rattle.star_bind.specs.declared.query.Tie.{Tie}
use Rattle.star_bind.specs.StarForm.{ColumnPair, tie_from}

-- a place
abbrev pub place_from : Place → ColumnPlace
place_from p = record { table = p.table; column = p.column }

-- a comparison of two columns that each mean one
abbrev pub pair_from : Pair → ColumnPair
pair_from p = record { left = place_from p.left; op = p.op; right = place_from p.right }

-- whether a factor is a comparison of two columns
abbrev pub is_joint : Joint → Bool
is_joint joint.Other = false
is_joint joint.Lost = true
is_joint (joint.Both p) = true

-- the comparison of two columns that each mean one
abbrev pub pairs_of : Joint → List ColumnPair
pairs_of joint.Other = []
pairs_of joint.Lost = []
pairs_of (joint.Both p) = pair_from p ∷ []

-- a tie, where it is one
abbrev pub tie_list : Option Tied → List Tie
tie_list None = []
tie_list (Some t) = record { dimension = t.dimension; column = t.column } ∷ []

-- a tie
abbrev pub tie_from_tied : Tied → Tie
tie_from_tied t = record { dimension = t.dimension; column = t.column }

-- the ties of a fact
abbrev pub ties_of_joints : Scope → ℕ → List Joint → List Tie
ties_of_joints scope fact joints = joined (map (λ j. joined (map (tie_from scope fact) (pairs_of j))) joints)

-- whether a factor compares no two columns, or is one tie of a fact
abbrev pub joint_ties : Scope → ℕ → Joint → Bool
joint_ties scope fact j = not (is_joint j) || length (joined (map (tie_from scope fact) (pairs_of j))) == 1

-- whether a table is the fact of a star, by the factors of the query
abbrev pub joints_fact : Scope → List Joint → ℕ → Bool
joints_fact scope joints fact =
    list_all (joint_ties scope fact) joints
    && list_all (λ k. k == fact || count_by (λ t. t.dimension == k) (ties_of_joints scope fact joints) == 1) (numbers_from 0 (length scope))
