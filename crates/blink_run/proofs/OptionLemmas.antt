-- The limits that arguments say are some that an engine may have.
use Rattle.std.proofs.Common.{◌≡◌, ◌≤◌, ℕ, ℤ, pos, negsuc, Bool, true, false, ◌&&◌, List, [], ◌∷◌, length, nat_le, refl, arith}
use Rattle.std.specs.Prelude.{Option, Some, None, if◌then◌else◌}
use Rattle.std.specs.Str.{bytes_eq}
use Rattle.std.proofs.lemmas.Bool.{leb-true}
use Rattle.blink_base.specs.declared.limits.Limits.{Limits}
use Rattle.blink_base.specs.ReadValue.{whole_number}
use Rattle.report_text.specs.Texts.{Bytes}
use Rattle.star_engine.specs.Soundness.{AreLimits}
use Rattle.blink_run.specs.Options.{from_one_to, number_within, option_number, rows_option, blocks_option, limits_made, or_else, limits_of, standard_limits}

-- a number, where there is one, is at most so great
abbrev pub IsFew : ℕ → Option ℕ → Type 0
IsFew most None = Unit {0}
IsFew most (Some n) = n ≤ most

few_from : (most : ℕ) (o : Option ℤ) → IsFew most (from_one_to most o)
few_from most None = tt
few_from most (Some (negsuc n)) = tt
few_from most (Some (pos n)) = by (nat_le 1 n) (nat_le n most) refl
  where
    by : (b c : Bool) → nat_le n most ≡ c → IsFew most (if b && c then Some n else None)
    by true true e = leb-true n most e
    by true false e = tt
    by false true e = tt
    by false false e = tt

few_within : (most : ℕ) (word : Bytes) → IsFew most (number_within most word)
few_within most word = by (nat_le (length word) 9)
  where
    by : (b : Bool) → IsFew most (if b then from_one_to most (whole_number word) else None)
    by true = few_from most (whole_number word)
    by false = tt

few_option : (option : Bytes) (most : ℕ) (word number : Bytes) → IsFew most (option_number option most word number)
few_option option most word number = by (bytes_eq word option)
  where
    by : (b : Bool) → IsFew most (if b then number_within most number else None)
    by true = few_within most number
    by false = tt

-- the limits, where there are some, are some that an engine may have
abbrev pub AreFew : Option Limits → Type 0
AreFew None = Unit {0}
AreFew (Some limits) = AreLimits limits

few_made : (rows blocks : Option ℕ) → IsFew 8388608 rows → IsFew 2097152 blocks → AreFew (limits_made rows blocks)
few_made (Some rows) (Some blocks) p q = record { rows = p; blocks = q }
few_made (Some rows) None p q = tt
few_made None blocks p q = tt

few_either : (first other : Option Limits) → AreFew first → AreFew other → AreFew (or_else first other)
few_either (Some limits) other p q = p
few_either None other p q = q

few_rows : (word number : Bytes) → IsFew 8388608 (rows_option word number)
few_rows word number = few_option _ 8388608 word number

few_blocks : (word number : Bytes) → IsFew 2097152 (blocks_option word number)
few_blocks word number = few_option _ 2097152 word number

-- the limits that arguments say
pub limits_few : (args : List Bytes) → AreFew (limits_of args)
limits_few [] = record { rows = omega arith; blocks = omega arith }
limits_few (a ∷ []) = tt
limits_few (a ∷ n ∷ []) =
    few_either (limits_made (rows_option a n) (Some standard_limits.blocks)) (limits_made (Some standard_limits.rows) (blocks_option a n))
    (few_made (rows_option a n) (Some standard_limits.blocks) (few_rows a n) (omega arith))
    (few_made (Some standard_limits.rows) (blocks_option a n) (omega arith) (few_blocks a n))
limits_few (a ∷ n ∷ b ∷ []) = tt
limits_few (a ∷ n ∷ b ∷ m ∷ []) =
    few_either (limits_made (rows_option a n) (blocks_option b m)) (limits_made (rows_option b m) (blocks_option a n))
    (few_made (rows_option a n) (blocks_option b m) (few_rows a n) (few_blocks b m))
    (few_made (rows_option b m) (blocks_option a n) (few_rows b m) (few_blocks a n))
limits_few (a ∷ n ∷ b ∷ m ∷ c ∷ rest) = tt

-- limits that arguments say are allowed
pub options_allowed : (args : List Bytes) (limits : Limits) → Some limits ≡ limits_of args → AreLimits limits
options_allowed args limits is = by (limits_of args) (limits_few args) is
  where
    by : (o : Option Limits) → AreFew o → Some limits ≡ o → AreLimits limits
    by None few e = absurd (cc e)
    by (Some other) few e = let same : limits ≡ other = cc e in rw same few
