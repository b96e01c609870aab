use Rattle.std.proofs.Common.{◌<◌, ◌≤◌, length, arith}
use Rattle.std.proofs.lemmas.Result.{err_from_is_err_and}
use Rattle.star_sql.specs.Parsers.{is_mark}
use Rattle.star_sql.proofs.LoopLemmas.{begins, goes_on, ends, stops, is_done}
use Rattle.star_sql.proofs.sequences.more.Goals as goal
use Rattle.star_lex.specs.declared.token.Mark.TheVariants as mark

pub loop-init : goal.loop-init
loop-init g c = rw c.copy-rest.ensures (begins (is_mark mark.Comma) g.T.Parse.parses c.args.first c.in_ok-items.items (length c.args.tokens.now) c.args.tokens.now c.in_ok-items.ensures)

pub returns-in_default : goal.returns-in_default
returns-in_default g c = stops (is_mark mark.Comma) g.T.Parse.parses c.loop.items _ c.loop.rest _ c.in_default.ensures c.loop.invariant

pub returns-in_err-item : goal.returns-in_err-item
returns-in_err-item g c =
    let p = err_from_is_err_and c.from_residual-in_err-item.result c.from_residual-in_err-item.ensures.1 in
    let lt : c.loop.counter < length c.args.tokens.now = omega arith in
    rw (p.1, p.2) (ends (is_mark mark.Comma) c.in_err-item.field-0.0 g.T.Parse.parses c.loop.items (length c.args.tokens.now) c.loop.counter c.loop.rest c.in-Some.behind _ lt c.in-Some.ensures c.in_err-item.ensures c.loop.invariant)

pub loop-preserved : goal.loop-preserved
loop-preserved g c =
    let lt : c.loop.counter < length c.args.tokens.now = omega arith in
    rw c.in_ok-push.ensures.ok (goes_on (is_mark mark.Comma) g.T.Parse.parses c.loop.items (length c.args.tokens.now) c.loop.counter c.loop.rest c.in-Some.behind c.in_ok-item.after c.in_ok-item.item _ lt c.in-Some.ensures c.in_ok-item.ensures c.loop.invariant)

pub returns : goal.returns
returns g c =
    let le : length c.args.tokens.now ≤ c.loop.counter = omega arith in
    is_done (is_mark mark.Comma) g.T.Parse.parses c.loop.items (length c.args.tokens.now) c.loop.counter c.loop.rest _ le c.loop.invariant
