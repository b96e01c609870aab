use Rattle.std.proofs.Common.{arith, refl, ap, ◌∙◌, ◌≡◌, ◌<◌, ◌≤◌, ◌+◌, ℕ, [], length, Some, None, List, ◌∷◌, ◌++◌, get_or, length-append, length-set, vec_capacity, Option, IsSome}
use Rattle.word_pool.specs.Region.{live_count}
use Rattle.word_pool.specs.Numbering.{Numbering}
use Rattle.std.proofs.lemmas.Grind.{common_steps}
use Rattle.word_pool.proofs.NumberingLemmas.{once_given, live_set_none}
use Rattle.word_pool.proofs.numbers.Numbers.give.Goals as goal

some_of : (o : Option ℕ) → IsSome o → (t : ℕ) × (o ≡ Some t)
some_of None h = cc
some_of (Some t) h = (t, refl)

-- the tag of a live number
tag_of : (ts vs : List (Option ℕ)) (n : ℕ) → ts ≡ vs → IsSome (get_or vs n None) → (t : ℕ) × (get_or ts n None ≡ Some t)
tag_of ts vs n e h = some_of (get_or ts n None) (rw e h)

-- the free list has room for one more
room_left : (ts : List (Option ℕ)) (n t f room cap : ℕ) → get_or ts n None ≡ Some t → live_count ts + f ≡ length ts → length ts ≤ room → room ≤ cap → f < cap
room_left ts n t f room cap e k w r = omega (arith, live_set_none ts n t e)

pub unreachable-requires : goal.unreachable-requires
unreachable-requires c =
    let s = tag_of c.self.inside.tags.items c.args.self.now.tags c.args.number (ap (λ (v : Numbering). v.tags) c.self.view_is) c.requires in
    let lt : length c.self.inside.free.items < vec_capacity c.self.inside.free = room_left _ _ _ _ _ _ s.1 c.self.invariant.counted c.self.invariant.within c.self.invariant.free_room in
    grind (arith, common_steps)

pub invariant_of-self : goal.invariant_of-self
invariant_of-self c =
    let s = tag_of c.self.inside.tags.items c.args.self.now.tags c.args.number (ap (λ (v : Numbering). v.tags) c.self.view_is) c.requires in
    let items : c.push.new.self.items ≡ c.self.inside.free.items ++ c.args.number ∷ [] = grind (arith, common_steps) in
    let more : length c.push.new.self.items ≡ length c.self.inside.free.items + 1 = ap length items ∙ length-append c.self.inside.free.items (c.args.number ∷ []) in
    let less = live_set_none c.self.inside.tags.items c.args.number s.0 s.1 in
    let same = length-set c.self.inside.tags.items c.args.number None in
    record {
      few = c.self.invariant.few;
      within = omega (arith, same, c.self.invariant.within);
      tags_room = c.self.invariant.tags_room;
      free_room = omega (arith, c.push.ensures.capacity, c.self.invariant.free_room);
      once = λ x. rw items (once_given c.self.inside.tags.items c.self.inside.free.items c.args.number s.0 c.self.invariant.once s.1 x);
      counted = omega (arith, more, less, same, c.self.invariant.counted);
    }

pub returns-clause-live : goal.returns-clause-live
returns-clause-live c =
    let e : c.self.inside.tags.items ≡ c.args.self.now.tags = ap (λ (v : Numbering). v.tags) c.self.view_is in
    let s = tag_of c.self.inside.tags.items c.args.self.now.tags c.args.number e c.requires in
    live_set_none c.self.inside.tags.items c.args.number s.0 s.1 ∙ ap live_count e
