use Rattle.std.proofs.Common.{◌≡◌, get_or, length, ap, ◌∙◌, arith}
use Rattle.star_engine.proofs.TableLayoutLemmas.{columns_more, columns_all}
use Rattle.star_engine.proofs.describe.column_lines.Goals as goal

pub loop-at-preserved : goal.loop-at-preserved
loop-at-preserved g c =
    let schema = c.args.schema.now in
    let column = c.index-columns-at.result in
    let listed = c.as_slice-columns.ensures in
    let long = ap length listed in
    let is_column : column ≡ get_or schema.columns c.loop-at.at column = c.index-columns-at.is ∙ ap (λ xs. get_or xs c.loop-at.at column) listed in
    let more = columns_more schema c.args.dicts.now c.loop-at.at column c.index-dicts-at.result c.requires (omega arith) is_column c.index-dicts-at.is in
    let line = c.in_ok-column_line.ensures in
    let pushed = c.in_ok-push.ensures.ok in
    let before = c.loop-at.invariant in
    cc (line, pushed, before, more)

pub returns : goal.returns
returns g c =
    let long = ap length c.as_slice-columns.ensures in
    c.loop-at.invariant ∙ columns_all c.args.schema.now c.args.dicts.now c.loop-at.at c.requires (omega arith)
