use Rattle.std.proofs.Common.{◌≡◌, ◌++◌, true, drop}
use Rattle.std.specs.Prelude.{option_map}
use Rattle.std.specs.List.{list_all}
use Rattle.star_sql.specs.Literals.{literal_values}
use Rattle.star_sql.specs.WellFormed.{is_literal}
use Rattle.star_bind.proofs.conditions.literals.literal_values.Given as goal

abbrev pub invariant-loop-literal : goal.invariant-loop-literal
invariant-loop-literal l = record {
  made : option_map (λ rest. l.values.items ++ rest) (literal_values l.kind (drop l.literal-index l.literals)) ≡ literal_values l.kind l.literals;
  good : list_all is_literal (drop l.literal-index l.literals) ≡ true;
}
