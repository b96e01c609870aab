use Rattle.std.proofs.Common.{◌≡◌, ◌++◌, ap, sym, ◌∙◌, length, replicate}
use Rattle.std.specs.List.{list_all}
use Rattle.late_decode.specs.Bounds.{are_parts, slot_within}
use Rattle.late_decode.specs.GroupLines.{group_line, line_count}
use Rattle.late_decode.specs.Parts.{no_parts}
use Rattle.late_decode.proofs.BoundLemmas.{none_bounded}
use Rattle.late_decode.proofs.GroupLineLemmas.{slots_of_measures, single_line}
use Rattle.late_decode.proofs.groups.Groups.lines.Goals as goal

pub push_group-requires-clause-parts : goal.push_group-requires-clause-parts
push_group-requires-clause-parts c = ap (are_parts c.as_slice-measures.result.now) c.in_ok-parts.ensures ∙ none_bounded c.as_slice-measures.result.now

pub push_group-requires-clause-slots : goal.push_group-requires-clause-slots
push_group-requires-clause-slots c =
    (λ i. list_all (slot_within ((c.as_slice-measures.ensures ∙ ap (λ v. v.0) c.self.view_is) i) (c.new.ensures i)) c.args.finish.now.slots)
    ∙ slots_of_measures c.args.self.0 c.args.finish.now.slots c.args.self.1 c.requires.slots (c.requires.single c.if-finish.true)

pub returns-then-is_empty : goal.returns-then-is_empty
returns-then-is_empty c =
    let slots = c.args.finish.now.slots in
    let repeat = c.args.finish.now.repeat in
    let ms = c.as_slice-measures.ensures ∙ ap (λ v. v.0) c.self.view_is in
    let parts = c.in_ok-parts.ensures ∙ ap no_parts ms in
    let none : length c.args.self.1 ≡ 0 = ap (λ v. length v.1) (sym c.self.view_is) ∙ c.is_empty.ensures.0 c.if-is_empty.true in
    let items = c.in_ok-push_group.ensures ∙ (λ i. c.new-lines.ensures.items i ++ replicate (line_count repeat (parts i)) (group_line (ms i) slots (c.new.ensures i, parts i))) in
    single_line c.args.self.0 slots repeat c.args.finish.now.single c.push_group.new.lines.items c.args.self.1 c.if-finish.true none items
