use Rattle.std.proofs.Common.{◌∙◌, ◌+◌, [], ◌∷◌, ap, length, arith, Some, None}
use Rattle.std.proofs.lemmas.List.{length-append, length-drop}
use Rattle.std.proofs.lemmas.Result.{err_from_is_err_and}
use Rattle.star_lex.proofs.LexLemmas.{lexed_is_longest}
use Rattle.star_lex.proofs.ProgressLemmas.{lexed_none, lexed_on, lexed_fault, lexed_all, not_memory}
use Rattle.star_lex.proofs.lexer.tokens.Goals as goal

pub loop-at-init : goal.loop-at-init
loop-at-init c = rw c.new-tokens.ensures (lexed_none c.args.text.now, omega arith, omega arith)

pub returns-in_err-kind-clause-computed : goal.returns-in_err-kind-clause-computed
returns-in_err-kind-clause-computed c =
    let p = err_from_is_err_and c.from_residual.result c.from_residual.ensures.1 in
    let size = rw c.behind-left.ensures at c.front_length-size.ensures.value in
    let content = rw c.behind-left.ensures at c.in_err-kind.ensures in
    λ told. rw (p.1, p.2) (lexed_fault c.args.text.now c.loop-at.tokens c.loop-at.at c.front_length-size.result c.in_err-kind.field-0.0 c.loop-at.invariant.0 c.loop-at-test.true size
    (content (not_memory c.in_err-kind.field-0.0 (rw (p.1, p.2) at told))))

pub returns-in_err-kind-clause-lexes : goal.returns-in_err-kind-clause-lexes
returns-in_err-kind-clause-lexes c = λ told. rw (returns-in_err-kind-clause-computed c told) (lexed_is_longest c.args.text.now)

pub loop-at-preserved-in_ok-push : goal.loop-at-preserved-in_ok-push
loop-at-preserved-in_ok-push c =
    let text = c.args.text.now in
    let size = rw c.behind-left.ensures at c.front_length-size.ensures.value in
    let left = ap length c.behind-left.ensures ∙ length-drop c.loop-at.at text in
    let within = c.front_length-size.ensures.within in
    let content = rw (c.in-Some.is, c.behind-left.ensures) at c.in_ok-kind.ensures in
    let next = lexed_on text c.loop-at.tokens c.loop-at.at c.front_length-size.result (Some c.in-Some.kind) c.loop-at.invariant.0 c.loop-at-test.true size (content (λ e. cc)) in
    let more = length-append c.loop-at.tokens (record { kind = c.in-Some.kind; start = c.loop-at.at; end = c.loop-at.at + c.front_length-size.result } ∷ []) in
    let some = next.0 in
    let few = c.loop-at.invariant.2 in
    rw c.in_ok-push.ensures.ok (next.1, omega arith, omega arith)

pub loop-at-preserved : goal.loop-at-preserved
loop-at-preserved c =
    let text = c.args.text.now in
    let size = rw c.behind-left.ensures at c.front_length-size.ensures.value in
    let left = ap length c.behind-left.ensures ∙ length-drop c.loop-at.at text in
    let within = c.front_length-size.ensures.within in
    let content = rw (c.in_default.is, c.behind-left.ensures) at c.in_ok-kind.ensures in
    let next = lexed_on text c.loop-at.tokens c.loop-at.at c.front_length-size.result None c.loop-at.invariant.0 c.loop-at-test.true size (content (λ e. cc)) in
    let few = c.loop-at.invariant.2 in
    (next.1, omega arith, omega arith)

pub returns-clause-computed : goal.returns-clause-computed
returns-clause-computed c = λ told. lexed_all c.args.text.now c.loop-at.tokens c.loop-at.at c.loop-at.invariant.0 c.loop-at-test.false

pub returns-clause-lexes : goal.returns-clause-lexes
returns-clause-lexes c = λ told. rw (returns-clause-computed c told) (lexed_is_longest c.args.text.now)
