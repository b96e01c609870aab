-- The bits of words as truth values, and those of the rows of a page. Source: this project's own.
use Rattle.std.specs.Prelude.{ℕ, ◌-◌, ◌/◌, ◌%◌, ◌==◌, Bool, true, false, ◌&&◌, ◌||◌, List, ◌++◌, map, replicate, slice_index_or}
use Rattle.std.specs.Int.{bit_at}
use Rattle.std.specs.List.{zip}
use Rattle.blink_lists.specs.Lists.{numbers_from}
use Rattle.blink_lists.specs.declared.limits.TheConstants.{PAGE_ROWS}

-- whether the bit of a place is set: 64 places a word, the lowest bit first, and none behind the last word
unfoldable pub is_set : List ℕ → ℕ → Bool
is_set words place = bit_at (slice_index_or words (place / 64) 0) (place % 64) == 1

-- the truth values of so many places
unfoldable pub bits_of : ℕ → List ℕ → List Bool
bits_of size words = map (is_set words) (numbers_from 0 size)

-- the first so many rows of a page are true, the others false
abbrev pub first_true : ℕ → List Bool
first_true rows = replicate rows true ++ replicate (PAGE_ROWS - rows) false

-- place by place, whether both are true
abbrev pub both_true : List Bool → List Bool → List Bool
both_true xs ys = map (λ p. p.0 && p.1) (zip xs ys)

-- place by place, whether one is true
abbrev pub some_true : List Bool → List Bool → List Bool
some_true xs ys = map (λ p. p.0 || p.1) (zip xs ys)
