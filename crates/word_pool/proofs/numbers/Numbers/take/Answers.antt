use Rattle.std.proofs.Common.{rules, arith, sym, ap, ◌∙◌, ◌≡◌, ◌<◌, ◌+◌, [], length, Some, None, ◌∷◌, ◌++◌, get_or, length-append, length-set}
use Rattle.word_pool.specs.Region.{live_count}
use Rattle.word_pool.specs.Numbering.{Numbering}
use Rattle.std.proofs.lemmas.Grind.{common_steps}
use Rattle.std.proofs.lemmas.List.{get_or-set_same}
use Rattle.word_pool.proofs.NumberingLemmas.{once_taken, live_set_some, live_snoc, mark_snoc}
use Rattle.word_pool.proofs.numbers.Numbers.take.Goals as goal

pub index_mut-requires : goal.index_mut-requires
index_mut-requires c = let h : c.in-Some.number < length c.self.inside.tags.items = (once_taken c.self.inside.tags.items c.self.inside.free.items c.pop.new.self.items c.in-Some.number c.args.tag c.self.invariant.once c.in-Some.ensures.items).0 in search rules

pub invariant_of-self : goal.invariant_of-self
invariant_of-self c =
    let o = once_taken c.self.inside.tags.items c.self.inside.free.items c.pop.new.self.items c.in-Some.number c.args.tag c.self.invariant.once c.in-Some.ensures.items in
    let fewer : length c.self.inside.free.items ≡ length c.pop.new.self.items + 1 = ap length c.in-Some.ensures.items ∙ length-append c.pop.new.self.items (c.in-Some.number ∷ []) in
    let more = live_set_some c.self.inside.tags.items c.in-Some.number c.args.tag o.0 o.1 in
    let same = length-set c.self.inside.tags.items c.in-Some.number (Some c.args.tag) in
    record {
      few = c.self.invariant.few;
      within = omega (arith, same, c.self.invariant.within);
      tags_room = c.self.invariant.tags_room;
      free_room = omega (arith, c.in-Some.ensures.capacity, c.self.invariant.free_room);
      once = o.2;
      counted = omega (arith, more, fewer, same, c.self.invariant.counted);
    }

pub invariant_of-self-in-None : goal.invariant_of-self-in-None
invariant_of-self-in-None c =
    let e : c.self.inside.tags.items ≡ c.args.self.now.tags = ap (λ (v : Numbering). v.tags) c.self.view_is in
    let r : c.self.inside.room ≡ c.args.self.now.room = ap (λ (v : Numbering). v.room) c.self.view_is in
    let items : c.push.new.self.items ≡ c.self.inside.tags.items ++ Some c.args.tag ∷ [] = grind (arith, common_steps) in
    let none : c.self.inside.free.items ≡ c.pop.new.self.items = grind (arith, common_steps) in
    let empty : length c.pop.new.self.items ≡ 0 = grind (arith, common_steps) in
    let more : length c.push.new.self.items ≡ length c.self.inside.tags.items + 1 = ap length items ∙ length-append c.self.inside.tags.items (Some c.args.tag ∷ []) in
    let live : live_count c.push.new.self.items ≡ live_count c.self.inside.tags.items + 1 = ap live_count items ∙ live_snoc c.self.inside.tags.items c.args.tag in
    let lt : live_count c.self.inside.tags.items < c.self.inside.room = rw (e, r) c.requires in
    let all : length c.self.inside.free.items ≡ length c.pop.new.self.items = ap length none in
    record {
      few = c.self.invariant.few;
      within = omega (arith, c.self.invariant.counted);
      tags_room = omega (arith, c.push.ensures.capacity, c.self.invariant.tags_room);
      free_room = omega (arith, c.in-None.ensures.capacity, c.self.invariant.free_room);
      once = λ x. rw (← none, items) (c.self.invariant.once x ∙ sym (mark_snoc c.self.inside.tags.items c.args.tag x));
      counted = omega (arith, c.self.invariant.counted);
    }

pub returns-in-Some-clause-fresh : goal.returns-in-Some-clause-fresh
returns-in-Some-clause-fresh c =
    let e : c.self.inside.tags.items ≡ c.args.self.now.tags = ap (λ (v : Numbering). v.tags) c.self.view_is in
    sym (ap (λ ts. get_or ts c.in-Some.number None) e) ∙ (once_taken c.self.inside.tags.items c.self.inside.free.items c.pop.new.self.items c.in-Some.number c.args.tag c.self.invariant.once c.in-Some.ensures.items).1

pub returns-in-Some-clause-taken : goal.returns-in-Some-clause-taken
returns-in-Some-clause-taken c = get_or-set_same c.self.inside.tags.items c.in-Some.number (Some c.args.tag) None (once_taken c.self.inside.tags.items c.self.inside.free.items c.pop.new.self.items c.in-Some.number c.args.tag c.self.invariant.once c.in-Some.ensures.items).0

pub returns-in-Some-clause-live : goal.returns-in-Some-clause-live
returns-in-Some-clause-live c =
    let e : c.self.inside.tags.items ≡ c.args.self.now.tags = ap (λ (v : Numbering). v.tags) c.self.view_is in
    let o = once_taken c.self.inside.tags.items c.self.inside.free.items c.pop.new.self.items c.in-Some.number c.args.tag c.self.invariant.once c.in-Some.ensures.items in
    live_set_some c.self.inside.tags.items c.in-Some.number c.args.tag o.0 o.1 ∙ ap (λ ts. live_count ts + 1) e

pub returns-in-Some-clause-within : goal.returns-in-Some-clause-within
returns-in-Some-clause-within c = omega (arith, (once_taken c.self.inside.tags.items c.self.inside.free.items c.pop.new.self.items c.in-Some.number c.args.tag c.self.invariant.once c.in-Some.ensures.items).0, length-set c.self.inside.tags.items c.in-Some.number (Some c.args.tag))

pub returns-else-is_err-clause-live : goal.returns-else-is_err-clause-live
returns-else-is_err-clause-live c =
    let e : c.self.inside.tags.items ≡ c.args.self.now.tags = ap (λ (v : Numbering). v.tags) c.self.view_is in
    let items : c.push.new.self.items ≡ c.self.inside.tags.items ++ Some c.args.tag ∷ [] = grind (arith, common_steps) in
    ap live_count items ∙ (live_snoc c.self.inside.tags.items c.args.tag ∙ ap (λ ts. live_count ts + 1) e)
