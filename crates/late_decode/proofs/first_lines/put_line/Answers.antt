use Rattle.std.proofs.Common.{◌≡◌, ◌≤◌, length, not, take, sym, ap, ◌∙◌, arith}
use Rattle.std.specs.List.{position_or_len, insert}
use Rattle.std.specs.Ordering.{is_le}
use Rattle.blink_base.specs.Lines.{Line, line_cmp}
use Rattle.late_decode.specs.GroupLines.{keys_of}
use Rattle.late_decode.proofs.FirstLineLemmas.{place-within, put-at, put-behind-all, place}
use Rattle.late_decode.proofs.first_lines.put_line.Goals as goal

pub insert-requires : goal.insert-requires
insert-requires c =
    let within = place-within (line_cmp (keys_of c.args.order.now)) c.args.line c.args.first.now.items in
    let at = c.place-at.ensures ∙ ap (λ l. place (line_cmp (keys_of c.args.order.now)) c.args.line l) c.as_slice.ensures.value in
    omega (arith, within, at)

pub returns-in_ok-insert : goal.returns-in_ok-insert
returns-in_ok-insert c =
    let at = c.place-at.ensures ∙ ap (λ l. place (line_cmp (keys_of c.args.order.now)) c.args.line l) c.as_slice.ensures.value in
    c.truncate.ensures.items ∙ ap (take c.args.most) (c.in_ok-insert.ensures.items ∙ ap (λ i. insert c.args.first.now.items i c.args.line) at ∙ sym (put-at (line_cmp (keys_of c.args.order.now)) c.args.line c.args.first.now.items))

pub returns-else-at-most : goal.returns-else-at-most
returns-else-at-most c =
    let at = c.place-at.ensures ∙ ap (λ l. place (line_cmp (keys_of c.args.order.now)) c.args.line l) c.as_slice.ensures.value in
    let past = c.if-at-most.false in
    put-behind-all (line_cmp (keys_of c.args.order.now)) c.args.most c.args.line c.args.first.now.items c.requires (omega (arith, at, past))
