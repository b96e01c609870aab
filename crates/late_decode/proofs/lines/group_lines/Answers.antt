use Rattle.std.proofs.Common.{◌≡◌, ◌++◌, ap, sym, ◌∙◌, subst, length, replicate}
use Rattle.std.specs.List.{list_all}
use Rattle.late_decode.specs.Bounds.{slot_within}
use Rattle.late_decode.specs.GroupLines.{lines_of, line_count, group_line}
use Rattle.late_decode.proofs.GroupLineLemmas.{IsGiving, begin, last_parts, last_slots, group_given, given, nothing_there}
use Rattle.late_decode.proofs.lines.group_lines.Goals as goal

pub loop-key-init : goal.loop-key-init
loop-key-init c =
    let ms = c.args.measures.now in
    let slots = c.args.finish.now.slots in
    let repeat = c.args.finish.now.repeat in
    subst (λ l. IsGiving ms slots repeat (lines_of ms slots repeat c.args.groups.entries) l c.args.groups.entries) (sym c.new-lines.ensures.items)
    (begin ms slots repeat c.args.groups.entries c.requires.groups c.requires.slots)

pub push_group-requires-clause-parts : goal.push_group-requires-clause-parts
push_group-requires-clause-parts c =
    last_parts c.args.measures.now c.args.finish.now.slots c.args.finish.now.repeat (lines_of c.args.measures.now c.args.finish.now.slots c.args.finish.now.repeat c.args.groups.entries) c.loop-key.lines.items
    c.loop-key.groups.entries c.pop.new.self.entries (c.in-Some.key, c.in-Some.parts) c.in-Some.ensures.entries c.loop-key.invariant

pub push_group-requires-clause-slots : goal.push_group-requires-clause-slots
push_group-requires-clause-slots c =
    ap (λ key. list_all (slot_within c.args.measures.now key) c.args.finish.now.slots) c.into_row.ensures
    ∙ last_slots c.args.measures.now c.args.finish.now.slots c.args.finish.now.repeat (lines_of c.args.measures.now c.args.finish.now.slots c.args.finish.now.repeat c.args.groups.entries) c.loop-key.lines.items
    c.loop-key.groups.entries c.pop.new.self.entries (c.in-Some.key, c.in-Some.parts) c.in-Some.ensures.entries c.loop-key.invariant

pub loop-key-preserved : goal.loop-key-preserved
loop-key-preserved c =
    let ms = c.args.measures.now in
    let slots = c.args.finish.now.slots in
    let repeat = c.args.finish.now.repeat in
    let more = c.in_ok-push_group.ensures ∙ ap (λ key. c.loop-key.lines.items ++ replicate (line_count repeat c.in-Some.parts) (group_line ms slots (key, c.in-Some.parts))) c.into_row.ensures in
    group_given ms slots repeat (lines_of ms slots repeat c.args.groups.entries) c.loop-key.lines.items c.loop-key.groups.entries c.pop.new.self.entries (c.in-Some.key, c.in-Some.parts)
    c.in-Some.ensures.entries c.loop-key.invariant c.push_group.new.lines.items more

pub returns : goal.returns
returns c =
    let none : length c.loop-key.groups.entries ≡ 0 = nothing_there c.pop.result (length c.loop-key.groups.entries) c.in_default.is c.pop.ensures.found.1 in
    given c.args.measures.now c.args.finish.now.slots c.args.finish.now.repeat (lines_of c.args.measures.now c.args.finish.now.slots c.args.finish.now.repeat c.args.groups.entries) c.loop-key.lines.items
    c.loop-key.groups.entries none c.loop-key.invariant
