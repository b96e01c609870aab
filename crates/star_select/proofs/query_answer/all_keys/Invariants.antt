use Rattle.std.proofs.Common.{◌≡◌, ◌≤◌, ◌+◌, map, take}
use Rattle.std.specs.Prelude.{sum_by}
use Rattle.star_bind.specs.BoundQuery.{Schemas, scope_of}
use Rattle.star_sql.specs.declared.ast.Select.{Select}
use Rattle.star_select.specs.Decodes.{tie_decodes}
use Rattle.star_select.specs.ImageAnswer.{image_keys, rows_in}
use Rattle.star_select.specs.QueryImages.{IsQueryOf}
use Rattle.star_select.proofs.query_answer.all_keys.Given as goal

abbrev pub invariant-loop-place : goal.invariant-loop-place
invariant-loop-place g l = record {
  keys : (schemas : Schemas) (s : Select) → IsQueryOf schemas s (map (λ image. image.now) l.images) l.query → l.keys.items ≡ take l.place (image_keys l.query (scope_of schemas s) (map (λ image. image.now) l.images));
  decodes : (schemas : Schemas) (s : Select) → IsQueryOf schemas s (map (λ image. image.now) l.images) l.query → l.decodes ≤ l.fn.decodes + sum_by (tie_decodes l.query (scope_of schemas s) (rows_in (map (λ image. image.now) l.images))) (take l.place l.query.ties);
}
