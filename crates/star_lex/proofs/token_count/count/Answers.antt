use Rattle.std.proofs.Common.{◌∙◌, ◌+◌, [], Ok, ap, drop, length, refl, arith}
use Rattle.std.proofs.lemmas.List.{length-drop}
use Rattle.std.proofs.lemmas.Result.{err_from_is_err_and}
use Rattle.star_lex.specs.Lex.{front_content}
use Rattle.star_lex.specs.TextKinds.{count_or_fault}
use Rattle.star_lex.proofs.ProgressLemmas.{lexed_none, lexed_on, lexed_fault, lexed_all, taken_with}
use Rattle.star_lex.proofs.TokensLemmas.{count_taken, counted_there, counted_fault}
use Rattle.star_lex.proofs.token_count.count.Goals as goal

pub loop-at-init : goal.loop-at-init
loop-at-init c = ([], lexed_none c.args.text.now, omega arith, omega arith, refl)

pub returns-clause-counts : goal.returns-clause-counts
returns-clause-counts c = λ told. let so_far = c.loop-at.invariant in ap (λ n. Ok n) so_far.4 ∙ ap count_or_fault (lexed_all c.args.text.now so_far.0 c.loop-at.at so_far.1 c.loop-at-test.false)

pub returns-in_err-count-clause-counts : goal.returns-in_err-count-clause-counts
returns-in_err-count-clause-counts c =
    let p = err_from_is_err_and c.from_residual.result c.from_residual.ensures.1 in
    let text = c.args.text.now in
    let size = rw c.behind-left.ensures at c.front_length-size.ensures.value in
    let counts = rw c.behind-left.ensures at c.in_err-count.ensures.counts in
    let fault = c.in_err-count.field-0.0 in
    let so_far = c.loop-at.invariant in
    λ told.
    let content = counted_fault (front_content c.front_length-size.result c.loop-at.at (drop c.loop-at.at text)) fault (counts (rw (p.1, p.2) at told)) in
    rw (p.1, p.2) (ap count_or_fault (lexed_fault text so_far.0 c.loop-at.at c.front_length-size.result fault so_far.1 c.loop-at-test.true size content))

pub loop-at-preserved : goal.loop-at-preserved
loop-at-preserved c =
    let text = c.args.text.now in
    let size = rw c.behind-left.ensures at c.front_length-size.ensures.value in
    let left = ap length c.behind-left.ensures ∙ length-drop c.loop-at.at text in
    let within = c.front_length-size.ensures.within in
    let counts = rw c.behind-left.ensures at c.in_ok-count.ensures.counts in
    let there = counted_there (front_content c.front_length-size.result c.loop-at.at (drop c.loop-at.at text)) c.in_ok-count.field-0 (counts (λ e. cc)) in
    let so_far = c.loop-at.invariant in
    let next = lexed_on text so_far.0 c.loop-at.at c.front_length-size.result there.0 so_far.1 c.loop-at-test.true size there.1 in
    let more = count_taken so_far.0 there.0 c.loop-at.at (c.loop-at.at + c.front_length-size.result) in
    let one = there.2 in
    let most = c.in_ok-count.ensures.most in
    let some = next.0 in
    let few = so_far.3 in
    let count = so_far.4 in
    (taken_with so_far.0 there.0 c.loop-at.at (c.loop-at.at + c.front_length-size.result), next.1, omega arith, omega arith, omega arith)
