use Rattle.std.proofs.Common.{◌≡◌, ◌++◌, ◌∷◌, [], None, length, ap, sym, subst, ◌∙◌}
use Rattle.std.specs.List.{position}
use Rattle.std.specs.Map.{keys_of}
use Rattle.code_group.specs.Slots.{AreSlots}
use Rattle.code_group.specs.Tuples.{same_tuple}
use Rattle.code_group.proofs.GroupLemmas.{put_behind, keys_behind, keys_many}
use Rattle.code_group.proofs.tuple_groups.TupleGroups.push.Goals as goal

pub invariant_of-self-2 : goal.invariant_of-self-2
invariant_of-self-2 c =
    let es = c.self.inside.groups.entries in
    let tuple = c.args.tuple.now in
    let absent : position (same_tuple tuple) (keys_of es) ≡ None = ap (λ v. position (same_tuple tuple) (keys_of v.0)) c.self.view_is ∙ c.requires.absent in
    let entries = put_behind es tuple c.in_ok-copy.field-0 c.in_ok-parts.parts c.insert.new.self.entries absent c.in_ok-copy.ensures c.in_ok-insert.ensures.entries in
    let at : c.len-at.result ≡ length (keys_of es) = c.len-at.ensures.len ∙ sym (keys_many es) in
    let keys : keys_of c.insert.new.self.entries ≡ keys_of es ++ tuple ∷ [] = ap keys_of entries ∙ keys_behind es tuple c.in_ok-parts.parts in
    let slots = c.note.ensures.noted (keys_of es) c.self.invariant at absent in
    subst (λ ks. AreSlots c.note.new.self.sizes.items c.note.new.self.slots.items ks) (sym keys) slots

pub returns-clause-groups : goal.returns-clause-groups
returns-clause-groups c =
    let es = c.self.inside.groups.entries in
    let tuple = c.args.tuple.now in
    let absent : position (same_tuple tuple) (keys_of es) ≡ None = ap (λ v. position (same_tuple tuple) (keys_of v.0)) c.self.view_is ∙ c.requires.absent in
    let entries = put_behind es tuple c.in_ok-copy.field-0 c.in_ok-parts.parts c.insert.new.self.entries absent c.in_ok-copy.ensures c.in_ok-insert.ensures.entries in
    entries ∙ (λ i. (c.self.view_is i).0 ++ (tuple, c.in_ok-parts.ensures i) ∷ [])
