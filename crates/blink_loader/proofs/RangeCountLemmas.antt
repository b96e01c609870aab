-- Places of fields, faults of records, and how many records there are.
use Rattle.std.proofs.Common.{◌≡◌, ◌≤◌, ◌+◌, ℕ, ℤ, zero, suc, List, [], ◌∷◌, length, Some, Bool, true, false, cond, get_or, refl, arith}
use Rattle.std.specs.Option.{unwrap_or}
use Rattle.csv.specs.Records.{field_at}
use Rattle.csv.specs.Reading.{strip_bom, is_bom, default_config}
use Rattle.csv.specs.declared.parser.State.TheVariants as st
use Rattle.blink_loader.specs.Records.{Record, records_of}
use Rattle.blink_loader.specs.RangeCount.{range_over, column_place, count_below, width_of}
use Rattle.blink_loader.proofs.RecordLemmas.{records_at_most, width_at_most}

-- the field at a place, or the empty one
pub at_place : (fields : List (List ℕ)) (at : ℕ) → unwrap_or (field_at fields at) [] ≡ get_or fields at []
unfolding field_at
at_place [] at = refl
at_place (f ∷ fs) zero = refl
at_place (f ∷ fs) (suc at) = at_place fs at

-- the count below a header in which the column stands
pub range_over_header : (all : List Record) (header : Record) (rest : List Record) (name : List ℕ) (low high : ℤ) (at : ℕ)
    → all ≡ header ∷ rest → Some at ≡ column_place name header → range_over all name low high ≡ count_below (length header) at low high rest
range_over_header all header rest name low high at is place = rw (is, ← place) refl

strip_bom_at_most : (xs : List ℕ) → length (strip_bom xs) ≤ length xs
unfolding strip_bom
strip_bom_at_most [] = omega arith
strip_bom_at_most (a ∷ []) = omega arith
strip_bom_at_most (a ∷ b ∷ []) = omega arith
strip_bom_at_most (a ∷ b ∷ c ∷ rest) = by (is_bom a b c)
  where
    by : (t : Bool) → length (cond t rest (a ∷ b ∷ c ∷ rest)) ≤ length (a ∷ b ∷ c ∷ rest)
    by true = omega arith
    by false = omega arith

-- there are no more records than bytes and one
pub few_records : (text : List ℕ) → length (records_of text) ≤ length text + 1
few_records text =
    let most = records_at_most default_config (length (strip_bom text) + 1) st.StartRecord (strip_bom text) in
    let strip = strip_bom_at_most text in
    omega arith

-- the header has no more fields than there are bytes, and one
pub narrow_header : (text : List ℕ) → width_of (records_of text) ≤ length text + 1
narrow_header text =
    let most = width_at_most default_config (length (strip_bom text) + 1) st.StartRecord (strip_bom text) in
    let strip = strip_bom_at_most text in
    omega arith
