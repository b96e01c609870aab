use Rattle.std.proofs.Common.{◌+◌, ap, ◌∙◌, get_or, arith}
use Rattle.cell_layout.proofs.CellReprLemmas.{code_below, decoded_more, decoded_all}
use Rattle.cell_layout.proofs.image.rows.decoded.Goals as goal

pub decode-value-requires : goal.decode-value-requires
decode-value-requires g c =
    code_below c.args.dicts.now c.args.cell.now c.args.row c.loop-column.column c.index-dicts-column.result (get_or c.as_slice.result.now c.loop-column.column 0) c.code.result c.requires.repr c.requires.row c.loop-column-test.true
    c.index-dicts-column.is (ap (λ l. get_or l c.loop-column.column 0) c.as_slice.ensures) c.code.ensures

pub loop-column-preserved : goal.loop-column-preserved
loop-column-preserved g c = record {
  so_far =
      decoded_more c.args.dicts.now c.args.cell.now c.args.row c.loop-column.column c.index-dicts-column.result c.as_slice.result.now c.code.result c.decode-value.result.now c.in_ok-copy.field-0 c.loop-column.values.items c.push.new.self.items
      c.requires.repr c.requires.row c.loop-column-test.true c.index-dicts-column.is c.as_slice.ensures c.code.ensures c.decode-value.ensures.value c.in_ok-copy.ensures c.loop-column.invariant.so_far c.in_ok-push.ensures.items;
  counted = c.decode-value.ensures.counted ∙ ap (λ n. n + 1) c.loop-column.invariant.counted ∙ omega arith;
}

pub returns-clause-row : goal.returns-clause-row
returns-clause-row g c =
    c.from_vec.ensures ∙ decoded_all c.args.dicts.now c.args.cell.now c.args.row c.loop-column.column c.loop-column.values.items c.requires.repr c.requires.row c.loop-column-test.false c.loop-column.invariant.so_far
