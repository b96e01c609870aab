-- What a table of numbers keeps true. Source: this project's own.
use Rattle.std.specs.Prelude.{ℕ, ◌+◌, ◌^◌, ◌≡◌, ◌≤◌, length, vec_capacity}
use Rattle.word_pool.specs.Region.{live_count}
use Rattle.word_pool.specs.Numbering.{Numbering, times, free_mark}
use Rattle.word_pool.specs.declared.numbers.Numbers.TheInside.{Inside}

-- the tags and the room
abbrev pub numbering_of : Inside → Numbering
numbering_of a = record { tags = a.tags.items; room = a.room }

-- the free list has exactly the free numbers among those used, each once, and both lists have the room
pub record IsTable (a : Inside) : Type 0 where
  pub few : a.room ≤ 2 ^ 32
  pub within : length a.tags.items ≤ a.room
  pub tags_room : a.room ≤ vec_capacity a.tags
  pub free_room : a.room ≤ vec_capacity a.free
  pub once : (x : ℕ) → times x a.free.items ≡ free_mark a.tags.items x
  pub counted : live_count a.tags.items + length a.free.items ≡ length a.tags.items
