use Rattle.std.proofs.Common.{arith, ◌≡◌, ◌+◌, ◌++◌, [], ◌∷◌, ap, ◌∙◌, replicate, append_assoc}
use Rattle.std.proofs.lemmas.List.{replicate_more}
use Rattle.late_decode.proofs.lines.push_times.Goals as goal

pub returns : goal.returns
returns c =
    let n = c.loop.counter in
    let all : n + 1 ≡ c.args.times = omega (arith, c.loop-test.false, c.loop.auto.counter-end, c.if-times-eq0.false) in
    c.in_ok-push-2.ensures.items ∙ ap (λ l. l ++ c.args.line ∷ []) c.loop.invariant ∙ append_assoc c.args.lines.now.items (replicate n c.args.line) (c.args.line ∷ [])
    ∙ ap (λ l. c.args.lines.now.items ++ l) (replicate_more n c.args.line ∙ ap (λ k. replicate k c.args.line) all)
