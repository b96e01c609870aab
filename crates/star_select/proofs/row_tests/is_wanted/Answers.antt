use Rattle.std.proofs.Common.{length}
use Rattle.star_select.specs.CodeSelection.{is_of_columns}
use Rattle.star_select.proofs.CellTestLemmas.{all-item}
use Rattle.star_select.proofs.row_tests.is_wanted.Goals as goal

pub passes-requires : goal.passes-requires
passes-requires c = all-item (is_of_columns (length c.args.row.now)) c.args.conjunctions.now c.loop-conjunction.conjunction-index c.conjunction-item.result c.requires c.loop-conjunction-test.true c.conjunction-item.is
