use Rattle.std.proofs.Common.{◌≡◌, not, drop}
use Rattle.std.specs.Prelude.{is_none}
use Rattle.std.specs.List.{list_all}
use Rattle.star_sql.specs.Literals.{literal_value}
use Rattle.star_bind.proofs.names.kinds.may_all_stand.Given as goal

abbrev pub invariant-loop-literal : goal.invariant-loop-literal
invariant-loop-literal l = list_all (λ x. not (is_none (literal_value l.kind x))) (drop l.literal-index l.literals) ≡ list_all (λ x. not (is_none (literal_value l.kind x))) l.literals
