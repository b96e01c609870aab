-- A column's values by their numbers, with one more.
use Rattle.std.proofs.Common.{◌≡◌, ℕ, ◌+◌, List, [], ◌∷◌, ◌++◌, Some, None, pos, map, drop, length, slice_get, get_or, refl, sym, ap, ◌∙◌, arith, length-append}
use Rattle.std.specs.Map.{keys_of}
use Rattle.std.proofs.lemmas.List.{map-append}
use Rattle.std.proofs.lemmas.Option.{get_or_from_slice_get}
use Rattle.blink_base.specs.declared.value.Value.{Value}
use Rattle.blink_base.specs.declared.value.Value.TheVariants.{Int}
use Rattle.blink_histogram.specs.Ranks.{Counted, counted}
use Rattle.blink_histogram.specs.InternerRepr.{numbered_values}
use Rattle.blink_histogram.specs.NumberedColumn.{values_of, IsNumbered}

-- values that keep their numbers are found by them
kept_found : (old new : List Value) → ((n : ℕ) (v : Value) → slice_get old n ≡ Some v → slice_get new n ≡ Some v)
    → (numbers : List ℕ) (values : List Value) → map (slice_get old) numbers ≡ map (λ v. Some v) values → map (slice_get new) numbers ≡ map (λ v. Some v) values
kept_found old new kept [] [] e = refl
kept_found old new kept [] (v ∷ vs) e = let long = ap length e in absurd (omega (arith, long))
kept_found old new kept (n ∷ ns) [] e = let long = ap length e in absurd (omega (arith, long))
kept_found old new kept (n ∷ ns) (v ∷ vs) e =
    let here = kept n v (ap (λ l. get_or l 0 None) e) in
    let rest = kept_found old new kept ns vs (ap (drop 1) e) in
    rw (here, rest) refl

-- and are those of the numbers
values_are : (keys : List Value) (numbers : List ℕ) (values : List Value) → map (slice_get keys) numbers ≡ map (λ v. Some v) values → values_of keys numbers ≡ values
values_are keys [] [] e = refl
values_are keys [] (v ∷ vs) e = let long = ap length e in absurd (omega (arith, long))
values_are keys (n ∷ ns) [] e = let long = ap length e in absurd (omega (arith, long))
values_are keys (n ∷ ns) (v ∷ vs) e =
    let here = get_or_from_slice_get keys n v (Int (pos 0)) (ap (λ l. get_or l 0 None) e) in
    let rest = values_are keys ns vs (ap (drop 1) e) in
    rw (here, rest) refl

module _ (counts more : List Counted) (numbers : List ℕ) (n : ℕ) (v : Value) (is : IsNumbered counts numbers) (kept : (m : ℕ) (w : Value) → slice_get (keys_of counts) m ≡ Some w → slice_get (keys_of more) m ≡ Some w) (there : slice_get (keys_of more) n ≡ Some v) where
  found_more : map (slice_get (keys_of more)) (numbers ++ n ∷ []) ≡ map (λ w. Some w) (values_of (keys_of counts) numbers ++ v ∷ [])
  found_more =
      let old = kept_found (keys_of counts) (keys_of more) kept numbers (values_of (keys_of counts) numbers) is.found in
      map-append (slice_get (keys_of more)) numbers (n ∷ []) ∙ rw (old, there) refl ∙ sym (map-append (λ w. Some w) (values_of (keys_of counts) numbers) (v ∷ []))

  -- with one more number, its value stands behind the others
  pub values_more : values_of (keys_of more) (numbers ++ n ∷ []) ≡ values_of (keys_of counts) numbers ++ v ∷ []
  values_more = values_are (keys_of more) (numbers ++ n ∷ []) (values_of (keys_of counts) numbers ++ v ∷ []) found_more

  -- and the counts are those of all
  pub numbered_more : ((column : List Value) → counts ≡ counted column → more ≡ counted (column ++ v ∷ [])) → numbered_values more ≡ numbered_values counts + 1 → IsNumbered more (numbers ++ n ∷ [])
  numbered_more counting one = record {
    counts_are = counting (values_of (keys_of counts) numbers) is.counts_are ∙ ap counted (sym values_more);
    found = found_more ∙ ap (map (λ w. Some w)) (sym values_more);
    many = let was = is.many in let long = length-append numbers (n ∷ []) in omega arith;
  }
