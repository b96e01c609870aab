use Rattle.std.proofs.Common.{true, refl, is_some}
use Rattle.report_text.specs.Texts.{refusal_bytes}
use Rattle.blink_base.specs.declared.refusal.Refusal.TheVariants as refusal
use Rattle.blink_run.specs.StatementOutput.{IsStoreFault}
use Rattle.blink_run.proofs.StatementOutputLemmas.{no_store_fault, no_line_fault, reply_from, reply_line, without_files}
use Rattle.blink_run.proofs.StoreAskedLemmas.{not_asked}
use Rattle.blink_run.proofs.statements.answer_statement.Goals as goal

pub returns-in-Create-clause-store : goal.returns-in-Create-clause-store
returns-in-Create-clause-store g c =
    not_asked g.S.Store.files g.S.Store.faults g.S.Store.never_fails (IsStoreFault c.create.result) c.args.store.now (no_store_fault _ _ _ c.create.result c.create.new.engine (c.create.ensures.reply (without_files c.requires.sound.0) c.requires.sound.1))

pub returns-in-Drop-clause-store : goal.returns-in-Drop-clause-store
returns-in-Drop-clause-store g c =
    not_asked g.S.Store.files g.S.Store.faults g.S.Store.never_fails (IsStoreFault c.drop_table.result) c.args.store.now (no_store_fault _ _ _ c.drop_table.result c.drop_table.new.engine (c.drop_table.ensures.reply (without_files c.requires.sound.0) c.requires.sound.1))

pub returns-in-Insert-clause-store : goal.returns-in-Insert-clause-store
returns-in-Insert-clause-store g c =
    not_asked g.S.Store.files g.S.Store.faults g.S.Store.never_fails (IsStoreFault c.insert.result) c.args.store.now (no_store_fault _ _ _ c.insert.result c.insert.new.engine (c.insert.ensures.reply (without_files c.requires.sound.0) c.requires.sound.1))

pub returns-in-Reorganize-clause-store : goal.returns-in-Reorganize-clause-store
returns-in-Reorganize-clause-store g c =
    not_asked g.S.Store.files g.S.Store.faults g.S.Store.never_fails (IsStoreFault c.reorganize.result) c.args.store.now (no_store_fault _ _ _ c.reorganize.result c.reorganize.new.engine (c.reorganize.ensures.reply (without_files c.requires.sound.0) c.requires.sound.1))

pub returns-in-Describe-clause-store : goal.returns-in-Describe-clause-store
returns-in-Describe-clause-store g c =
    not_asked g.S.Store.files g.S.Store.faults g.S.Store.never_fails (IsStoreFault c.describe.result) c.args.store.now (no_store_fault _ _ _ c.describe.result c.args.engine.now (c.describe.ensures (without_files c.requires.sound.0) c.requires.sound.1))

pub returns-in-Select-clause-store : goal.returns-in-Select-clause-store
returns-in-Select-clause-store g c =
    not_asked g.S.Store.files g.S.Store.faults g.S.Store.never_fails (IsStoreFault c.select.result) c.args.store.now (no_store_fault _ _ _ c.select.result c.args.engine.now (c.select.ensures (without_files c.requires.sound.0) c.requires.sound.1))

pub returns-in-Explain-clause-store : goal.returns-in-Explain-clause-store
returns-in-Explain-clause-store g c =
    not_asked g.S.Store.files g.S.Store.faults g.S.Store.never_fails (IsStoreFault c.refused.result) c.args.store.now (no_line_fault (refusal_bytes refusal.NotBuilt) true c.refused.result c.refused.ensures)

pub returns-in-Export-clause-store : goal.returns-in-Export-clause-store
returns-in-Export-clause-store g c =
    not_asked g.S.Store.files g.S.Store.faults g.S.Store.never_fails (IsStoreFault c.refused-in-Export.result) c.args.store.now (no_line_fault (refusal_bytes refusal.NotBuilt) true c.refused-in-Export.result c.refused-in-Export.ensures)

pub returns-in-Import-clause-store : goal.returns-in-Import-clause-store
returns-in-Import-clause-store g c =
    not_asked g.S.Store.files g.S.Store.faults g.S.Store.never_fails (IsStoreFault c.refused-in-Import.result) c.args.store.now (no_line_fault (refusal_bytes refusal.NotBuilt) true c.refused-in-Import.result c.refused-in-Import.ensures)

pub returns-in-Select-clause-reply : goal.returns-in-Select-clause-reply
returns-in-Select-clause-reply g c state of are =
    let told_files = g.S.Store.files c.args.store.now in
    rw c.in-Select.is (reply_from c.args.engine.now.limits told_files (is_some told_files) state _ c.select.result c.args.engine.now (c.select.ensures state of) are)

pub returns-in-Explain-clause-reply : goal.returns-in-Explain-clause-reply
returns-in-Explain-clause-reply g c state of are =
    let told_files = g.S.Store.files c.args.store.now in
    rw c.in-Explain.is (reply_from c.args.engine.now.limits told_files (is_some told_files) state _ c.refused.result c.args.engine.now
    (reply_line c.args.engine.now.limits state _ state.tables (refusal_bytes refusal.NotBuilt) true c.refused.result c.args.engine.now c.refused.ensures refl of) are)

pub returns-in-Export-clause-reply : goal.returns-in-Export-clause-reply
returns-in-Export-clause-reply g c state of are =
    let told_files = g.S.Store.files c.args.store.now in
    rw c.in-Export.is (reply_from c.args.engine.now.limits told_files (is_some told_files) state _ c.refused-in-Export.result c.args.engine.now
    (reply_line c.args.engine.now.limits state _ state.tables (refusal_bytes refusal.NotBuilt) true c.refused-in-Export.result c.args.engine.now c.refused-in-Export.ensures refl of) are)

pub returns-in-Import-clause-reply : goal.returns-in-Import-clause-reply
returns-in-Import-clause-reply g c state of are =
    let told_files = g.S.Store.files c.args.store.now in
    rw c.in-Import.is (reply_from c.args.engine.now.limits told_files (is_some told_files) state _ c.refused-in-Import.result c.args.engine.now
    (reply_line c.args.engine.now.limits state _ state.tables (refusal_bytes refusal.NotBuilt) true c.refused-in-Import.result c.args.engine.now c.refused-in-Import.ensures refl of) are)
