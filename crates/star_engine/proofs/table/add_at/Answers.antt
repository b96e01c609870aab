use Rattle.std.proofs.Common.{◌∙◌, ap, sym, slice_set}
use Rattle.std.proofs.lemmas.Result.{on_err_weaker}
use Rattle.blink_lists.proofs.SliceLemmas.{got, put_back}
use Rattle.star_engine.proofs.table.add_at.Goals as goal

pub returns-clause-kept : goal.returns-clause-kept
returns-clause-kept g c =
    on_err_weaker c.add.result (λ same. ap (slice_set c.args.tables.now c.args.at) same ∙ put_back c.args.tables.now c.args.at c.in-Some.table.now c.in-Some.ensures.value) c.add.ensures.kept

pub returns-clause-decodes : goal.returns-clause-decodes
returns-clause-decodes g c = λ behind keyless.
    c.add.ensures.decodes behind (ap (λ t. t.image.schema.key) (sym (got c.args.tables.now c.args.at c.in-Some.table.now c.in-Some.table.now c.in-Some.ensures.value)) ∙ keyless c.in-Some.table.now)
