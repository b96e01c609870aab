use Rattle.std.proofs.Common.{◌∙◌, is_some, true, sym, ap, subst}
use Rattle.report_text.specs.Texts.{refusal_bytes}
use Rattle.star_engine.specs.LoadedRows.{loaded}
use Rattle.star_engine.specs.State.{Tables, find_table}
use Rattle.star_engine.specs.Changes.{added}
use Rattle.star_engine.specs.EngineRepr.{IsEngineOf, table_of}
use Rattle.blink_run.specs.StatementOutput.{loads}
use Rattle.blink_run.proofs.StatementOutputLemmas.{reply_addition, reply_line, reply_found, finds_tables, file_rows, refused_file, there, not_missing}
use Rattle.blink_run.proofs.statements.files.add_file.Goals as goal

pub returns-in-Ok-clause-reply : goal.returns-in-Ok-clause-reply
returns-in-Ok-clause-reply g c state of are =
    let told_files = g.S.Store.files c.args.store.now in
    let name = c.args.name.now in
    let file = c.args.file.now in
    let limits = c.args.engine.now.limits in
    let bytes = c.in-Ok.bytes.items in
    let got = rw (c.in-Ok.is, c.as_str-2.ensures) at (c.in_ok-bytes.ensures.got state are) in
    let found = got.found in
    let P : Tables → Type 0 = λ ts. IsEngineOf ts c.args.engine.now in
    let here : IsEngineOf found.tables c.args.engine.now = subst P (sym (finds_tables (is_some told_files) state found got.finds)) of in
    let step = c.add_text-added.ensures.step found.tables here in
    reply_found limits told_files (is_some told_files) state found (loads c.args.growth name file) c.addition.result c.add_text-added.new.self
    (reply_addition limits found (loads c.args.growth name file) (added limits c.args.growth found.tables name (loaded bytes)) c.add_text-added.result c.addition.result c.args.engine.now c.add_text-added.new.self
    (file_rows limits found c.args.growth name file bytes got.bytes) c.addition.ensures step c.add_text-added.ensures.kept here)
    got.finds got.files

pub returns-in-Err-clause-reply : goal.returns-in-Err-clause-reply
returns-in-Err-clause-reply g c state of are =
    let told_files = g.S.Store.files c.args.store.now in
    let name = c.args.name.now in
    let file = c.args.file.now in
    let limits = c.args.engine.now.limits in
    let got = rw (c.in-Err.is, c.as_str-2.ensures) at (c.in_ok-bytes.ensures.got state are) in
    let found = got.found in
    let same = finds_tables (is_some told_files) state found got.finds in
    let P : Tables → Type 0 = λ ts. IsEngineOf ts c.args.engine.now in
    let here : IsEngineOf found.tables c.args.engine.now = subst P (sym same) of in
    let looked = rw c.as_str.ensures at (c.find.ensures.accepted state.tables of) in
    let table = there (λ x. x.now) table_of c.find.result state.tables name c.if-is_none.ensures looked in
    let is = ap (λ (ts : Tables). find_table ts name) same ∙ table.is in
    reply_found limits told_files (is_some told_files) state found (loads c.args.growth name file) c.refused.result c.args.engine.now
    (reply_line limits found (loads c.args.growth name file) found.tables (refusal_bytes c.in-Err.why) true c.refused.result c.args.engine.now c.refused.ensures
    (refused_file limits found c.args.growth name file table.accepted c.in-Err.why is got.bytes) here)
    got.finds got.files

pub returns-in_err-bytes-clause-unasked : goal.returns-in_err-bytes-clause-unasked
returns-in_err-bytes-clause-unasked g c state of missing =
    absurd (not_missing (λ x. x.now) table_of c.find.result state.tables c.args.name.now c.if-is_none.ensures (rw c.as_str.ensures at (c.find.ensures.accepted state.tables of)) missing)

pub returns-in-Ok-clause-unasked : goal.returns-in-Ok-clause-unasked
returns-in-Ok-clause-unasked g c state of missing =
    absurd (not_missing (λ x. x.now) table_of c.find.result state.tables c.args.name.now c.if-is_none.ensures (rw c.as_str.ensures at (c.find.ensures.accepted state.tables of)) missing)

pub returns-in-Err-clause-unasked : goal.returns-in-Err-clause-unasked
returns-in-Err-clause-unasked g c state of missing =
    absurd (not_missing (λ x. x.now) table_of c.find.result state.tables c.args.name.now c.if-is_none.ensures (rw c.as_str.ensures at (c.find.ensures.accepted state.tables of)) missing)
