use Rattle.std.proofs.Common.{sym, subst}
use Rattle.std.proofs.lemmas.Result.{err_from_is_err_and}
use Rattle.star_bind.specs.Preconditions.{AreAllowed}
use Rattle.star_engine.specs.Queries.{schemas_in}
use Rattle.star_engine.proofs.QueryLemmas.{allowed_in, schemas_kept, found_list, over_found, answered_found, decoded_found, refused_by}
use Rattle.star_engine.proofs.engine.Engine.select.Goals as goal

pub bind-requires-clause-allowed : goal.bind-requires-clause-allowed
bind-requires-clause-allowed g c =
    let has = c.requires.sound in
    subst AreAllowed (sym (schemas_kept has.0 c.args.self.now has.1)) (allowed_in has.0 c.args.self.now.limits has.1.sound)

pub returns-in_err-query-clause-answer : goal.returns-in_err-query-clause-answer
returns-in_err-query-clause-answer g c = λ tables of.
    let p = err_from_is_err_and c.from_residual.result c.from_residual.ensures.1 in
    rw (p.1, p.2) (refused_by tables c.args.self.now of c.args.select.now _ c.in_err-query.ensures)

pub answer_query-requires : goal.answer_query-requires
answer_query-requires g c =
    let has = c.requires.sound in
    let found = found_list c.args.self.now c.args.select.now c.as_slice.result.now c.in_ok-images.images.items c.deref.result.now c.as_slice.ensures c.deref.ensures.value c.in_ok-images.ensures in
    (schemas_in has.0, c.args.select.now, over_found has.0 c.args.self.now has.1 c.args.select.now c.in_ok-query.query _ c.in_ok-query.ensures found c.requires.formed)

pub returns-in_err-answer-clause-decodes : goal.returns-in_err-answer-clause-decodes
returns-in_err-answer-clause-decodes g c = λ tables of.
    let found = found_list c.args.self.now c.args.select.now c.as_slice.result.now c.in_ok-images.images.items c.deref.result.now c.as_slice.ensures c.deref.ensures.value c.in_ok-images.ensures in
    decoded_found tables c.args.self.now of c.args.select.now c.in_ok-query.query _ c.in_ok-query.ensures found c.requires.formed c.args.decodes.now c.answer_query.new.decodes c.answer_query.ensures.decodes

pub returns-clause-answer : goal.returns-clause-answer
returns-clause-answer g c = λ tables of.
    let found = found_list c.args.self.now c.args.select.now c.as_slice.result.now c.in_ok-images.images.items c.deref.result.now c.as_slice.ensures c.deref.ensures.value c.in_ok-images.ensures in
    answered_found tables c.args.self.now of c.args.select.now c.in_ok-query.query _ c.in_ok-query.ensures found c.requires.formed c.rows_in_any_order.ensures c.in_ok-answer.answer c.in_ok-answer.ensures.answer

pub returns-clause-decodes : goal.returns-clause-decodes
returns-clause-decodes g c = λ tables of.
    let found = found_list c.args.self.now c.args.select.now c.as_slice.result.now c.in_ok-images.images.items c.deref.result.now c.as_slice.ensures c.deref.ensures.value c.in_ok-images.ensures in
    decoded_found tables c.args.self.now of c.args.select.now c.in_ok-query.query _ c.in_ok-query.ensures found c.requires.formed c.args.decodes.now c.answer_query.new.decodes c.answer_query.ensures.decodes
