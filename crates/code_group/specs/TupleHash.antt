-- Tuples in a hash table: equal ones are one, and so feed a hash alike. Source: this project's own.
use Rattle.std.proofs.Common.{◌≡◌, ℕ, true, List, ap, sym}
use Rattle.std.specs.Cmp.Lexicographic.{same_text}
use Rattle.std.specs.Hash as fed
use Rattle.std.specs.Hash.{HashWrites}
use Rattle.code_group.specs.Tuples.{same_tuple}

-- what a tuple feeds a hash: its entries, one after another
abbrev pub hashed_tuple : List ℕ → HashWrites
hashed_tuple = fed.slice fed.u32

pub one_tuple : (x y : List ℕ) → same_tuple x y ≡ true → x ≡ y
one_tuple x y e = same_text x y (sym e)

pub tuples_hash_alike : (x y : List ℕ) → same_tuple x y ≡ true → hashed_tuple x ≡ hashed_tuple y
tuples_hash_alike x y e = ap hashed_tuple (one_tuple x y e)
