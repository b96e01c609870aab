use Rattle.std.proofs.Common.{◌≡◌, ◌<◌, ◌≤◌, ◌-◌, suc, ap, refl, arith}
use Rattle.std.specs.Prelude.{codes}
use Rattle.std.proofs.lemmas.Result.{err_from_is_err_and}
use Rattle.star_lex.specs.Kinds.{is_word}
use Rattle.star_sql.specs.Parsers.{made_of, separated_at}
use Rattle.star_sql.specs.ConditionParsers.{conj_of, cond_of, primary_at, conj_at, cond_at}
use Rattle.star_sql.proofs.LoopLemmas.{sets_out, fails_made, goes_on, ends, stops, is_done}
use Rattle.star_sql.proofs.conditions.+condition.Goals as goal

pub condition-loop-init : goal.condition-loop-init
condition-loop-init t c = sets_out (is_word (codes "or")) (conj_at (cond_at c.args.depth)) c.in_ok-first.first c.in_ok-any.any c.len-most.result c.args.tokens.now c.in_ok-first.behind_first c.in_ok-first.ensures c.len-most.ensures c.in_ok-any.ensures

pub condition-returns-in_default : goal.condition-returns-in_default
unfolding cond_at
condition-returns-in_default t c =
    ap (made_of cond_of) (stops (is_word (codes "or")) (conj_at (cond_at c.args.depth)) c.loop.any _ c.loop.rest _ c.in_default.ensures c.loop.invariant)

pub condition-returns-in_err-item : goal.condition-returns-in_err-item
unfolding cond_at
condition-returns-in_err-item t c =
    let p = err_from_is_err_and c.from_residual-in_err-item.result c.from_residual-in_err-item.ensures.1 in
    let lt : c.loop.counter < c.len-most.result = omega arith in
    rw (p.1, p.2) (fails_made c.in_err-item.field-0.0 cond_of (separated_at (is_word (codes "or")) (conj_at (cond_at c.args.depth)) c.args.tokens.now)
    (ends (is_word (codes "or")) c.in_err-item.field-0.0 (conj_at (cond_at c.args.depth)) c.loop.any c.len-most.result c.loop.counter c.loop.rest c.in-Some.behind _ lt c.in-Some.ensures c.in_err-item.ensures c.loop.invariant))

pub condition-loop-preserved : goal.condition-loop-preserved
condition-loop-preserved t c =
    let lt : c.loop.counter < c.len-most.result = omega arith in
    rw c.in_ok-push.ensures.ok (goes_on (is_word (codes "or")) (conj_at (cond_at c.args.depth)) c.loop.any c.len-most.result c.loop.counter c.loop.rest c.in-Some.behind c.in_ok-item.after c.in_ok-item.item _ lt c.in-Some.ensures c.in_ok-item.ensures c.loop.invariant)

pub condition-returns : goal.condition-returns
unfolding cond_at
condition-returns t c =
    let le : c.len-most.result ≤ c.loop.counter = omega arith in
    ap (made_of cond_of) (is_done (is_word (codes "or")) (conj_at (cond_at c.args.depth)) c.loop.any c.len-most.result c.loop.counter c.loop.rest _ le c.loop.invariant)

pub conjunction-loop-init : goal.conjunction-loop-init
conjunction-loop-init t c = sets_out (is_word (codes "and")) (primary_at (cond_at c.args.depth)) c.in_ok-first.first c.in_ok-all.all c.len-most.result c.args.tokens.now c.in_ok-first.behind_first c.in_ok-first.ensures c.len-most.ensures c.in_ok-all.ensures

pub conjunction-returns-in_default : goal.conjunction-returns-in_default
unfolding conj_at
conjunction-returns-in_default t c =
    ap (made_of conj_of) (stops (is_word (codes "and")) (primary_at (cond_at c.args.depth)) c.loop.all _ c.loop.rest _ c.in_default.ensures c.loop.invariant)

pub conjunction-returns-in_err-item : goal.conjunction-returns-in_err-item
unfolding conj_at
conjunction-returns-in_err-item t c =
    let p = err_from_is_err_and c.from_residual-in_err-item.result c.from_residual-in_err-item.ensures.1 in
    let lt : c.loop.counter < c.len-most.result = omega arith in
    rw (p.1, p.2) (fails_made c.in_err-item.field-0.0 conj_of (separated_at (is_word (codes "and")) (primary_at (cond_at c.args.depth)) c.args.tokens.now)
    (ends (is_word (codes "and")) c.in_err-item.field-0.0 (primary_at (cond_at c.args.depth)) c.loop.all c.len-most.result c.loop.counter c.loop.rest c.in-Some.behind _ lt c.in-Some.ensures c.in_err-item.ensures c.loop.invariant))

pub conjunction-loop-preserved : goal.conjunction-loop-preserved
conjunction-loop-preserved t c =
    let lt : c.loop.counter < c.len-most.result = omega arith in
    rw c.in_ok-push.ensures.ok (goes_on (is_word (codes "and")) (primary_at (cond_at c.args.depth)) c.loop.all c.len-most.result c.loop.counter c.loop.rest c.in-Some.behind c.in_ok-item.after c.in_ok-item.item _ lt c.in-Some.ensures c.in_ok-item.ensures c.loop.invariant)

pub conjunction-returns : goal.conjunction-returns
unfolding conj_at
conjunction-returns t c =
    let le : c.len-most.result ≤ c.loop.counter = omega arith in
    ap (made_of conj_of) (is_done (is_word (codes "and")) (primary_at (cond_at c.args.depth)) c.loop.all c.len-most.result c.loop.counter c.loop.rest _ le c.loop.invariant)

pub primary-returns : goal.primary-returns
unfolding primary_at
primary-returns t c =
    let one : suc (c.args.depth - 1) ≡ c.args.depth = omega arith in
    let inner = rw one at c.in_ok-inner.ensures in
    rw (c.in-Some.ensures, inner, c.in_ok-rest.ensures, c.in_ok-new.ensures) refl
