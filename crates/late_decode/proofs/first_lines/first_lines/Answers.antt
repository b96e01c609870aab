use Rattle.std.proofs.Common.{◌≡◌, ◌++◌, ◌∷◌, [], ap, ◌∙◌}
use Rattle.std.specs.Option.{option_to_list}
use Rattle.blink_base.specs.Lines.{line_cmp}
use Rattle.late_decode.specs.GroupLines.{keys_of}
use Rattle.late_decode.proofs.FirstLineLemmas.{put-more}
use Rattle.late_decode.proofs.first_lines.first_lines.Goals as goal

pub loop-line-preserved : goal.loop-line-preserved
loop-line-preserved c =
    let last : c.loop-line.lines.items ≡ c.pop.new.self.items ++ c.in-Some.line ∷ [] = c.pop.ensures.items ∙ ap (λ o. c.pop.new.self.items ++ option_to_list o) c.in-Some.is in
    let (left, first, few) = put-more (line_cmp (keys_of c.args.order.now)) c.args.most c.args.lines.items c.loop-line.lines.items c.pop.new.self.items c.loop-line.first.items c.put_line.new.first.items c.in-Some.line c.loop-line.invariant.left last
    c.loop-line.invariant.first c.in_ok-put_line.ensures in
    record { left = left; first = first; few = few }
