-- A value counted once more among the entries of a hash table.
use Rattle.std.proofs.Common.{◌≡◌, ◌≤◌, ◌<◌, ℕ, zero, suc, ◌+◌, Bool, true, false, List, [], ◌∷◌, ◌++◌, length, slice_get, get_or, position, Some, None, refl, sym, ap, ◌∙◌, arith, true≢false, is_some, unwrap_or, subst}
use Rattle.std.specs.Map.{keys_of, values_of}
use Rattle.std.proofs.lemmas.List.Sums.{sum_by-cons}
use Rattle.indexmap.specs.IndexMap.{set_value_at, insert_entry}
use Rattle.indexmap.proofs.MapLemmas.{Found-position, Missing-position, insert_entry-first, index-first}
use Rattle.indexmap.proofs.RemoveLemmas.{own_first}
use Rattle.std.specs.List.{IsDistinct}
use Rattle.blink_base.specs.declared.value.Value.{Value}
use Rattle.blink_base.specs.Values.{same_value}
use Rattle.blink_base.specs.ValueHash.{one_value, value_equiv}
use Rattle.blink_histogram.specs.Ranks.{Counted, counted}
use Rattle.blink_histogram.specs.InternerRepr.{number_of, numbered_values, counting_by, counting}
use Rattle.blink_histogram.proofs.CountLemmas.{counted-raising}
use Rattle.std.specs.Map.{lookup}
use Rattle.blink_base.specs.declared.value.Value.TheVariants.{Int}
use Rattle.blink_histogram.specs.InternerRepr.{IsInterner}
use Rattle.blink_histogram.specs.Recent.{AreSeen}
use Rattle.blink_histogram.specs.declared.recent.Seen.{Seen}

none-some : {A : Type 0} {x : A} → None ≡ Some x → ⊥
none-some e = true≢false (sym (ap is_some e))

some-one : {A : Type 0} {x y : A} → Some x ≡ Some y → x ≡ y
some-one {A} {x} e = ap (λ r. unwrap_or r x) e

-- a column with one more value behind it
pub counted-counting : (column : List Value) (v : Value) → counted (column ++ v ∷ []) ≡ counting (counted column) v
counted-counting column v = counted-raising same_value value_equiv.refl one_value column v

-- counted once more, where it is among the entries and where it isn't
counting-found : (es : List Counted) (v : Value) (c : ℕ) → lookup (same_value v) es ≡ Some c → counting es v ≡ insert_entry same_value es v (c + 1)
counting-found [] v c h = absurd (none-some h)
counting-found (e ∷ es) v c h = by (same_value v e.0) refl h (counting-found es v c)
  where
    by : (b : Bool) → same_value v e.0 ≡ b → lookup (same_value v) (e ∷ es) ≡ Some c → (lookup (same_value v) es ≡ Some c → counting es v ≡ insert_entry same_value es v (c + 1))
        → counting (e ∷ es) v ≡ insert_entry same_value (e ∷ es) v (c + 1)
    by true k h rest = let one : e.1 ≡ c = some-one (rw k at h) in rw (counting, counting_by, insert_entry, k, one) refl
    by false k h rest = rw (counting, counting_by, insert_entry, k) (ap (λ l. e ∷ l) (rest (rw k at h)))

counting-absent : (es : List Counted) (v : Value) → lookup (same_value v) es ≡ None → counting es v ≡ insert_entry same_value es v 1
counting-absent [] v h = refl
counting-absent (e ∷ es) v h = by (same_value v e.0) refl h (counting-absent es v)
  where
    by : (b : Bool) → same_value v e.0 ≡ b → lookup (same_value v) (e ∷ es) ≡ None → (lookup (same_value v) es ≡ None → counting es v ≡ insert_entry same_value es v 1)
        → counting (e ∷ es) v ≡ insert_entry same_value (e ∷ es) v 1
    by true k h rest = absurd (none-some (sym (rw k at h)))
    by false k h rest = rw (counting, counting_by, insert_entry, k) (ap (λ l. e ∷ l) (rest (rw k at h)))

-- how much a value that is counted once more adds
pub counting-adds : (es : List Counted) (v : Value) → numbered_values (counting es v) ≡ numbered_values es + 1
counting-adds [] v = refl
counting-adds (e ∷ es) v = by (same_value v e.0) refl (counting-adds es v)
  where
    by : (b : Bool) → same_value v e.0 ≡ b → numbered_values (counting es v) ≡ numbered_values es + 1 → numbered_values (counting (e ∷ es) v) ≡ numbered_values (e ∷ es) + 1
    by true k rest = rw (counting, counting_by, k, sum_by-cons (λ (x : Counted). x.1) (e.0, e.1 + 1) es, sum_by-cons (λ (x : Counted). x.1) e es) (omega arith)
    by false k rest = rw (counting, counting_by, k, sum_by-cons (λ (x : Counted). x.1) e (counting es v), sum_by-cons (λ (x : Counted). x.1) e es) (omega arith)

counting-longer : (es : List Counted) (v : Value) → length (counting es v) ≤ length es + 1
counting-longer [] v = omega arith
counting-longer (e ∷ es) v = by (same_value v e.0) refl (counting-longer es v)
  where
    by : (b : Bool) → same_value v e.0 ≡ b → length (counting es v) ≤ length es + 1 → length (counting (e ∷ es) v) ≤ length (e ∷ es) + 1
    by true k rest = rw (counting, counting_by, k) (omega arith)
    by false k rest = rw (counting, counting_by, k) (omega arith)

-- no more values than were numbered
kept-counting : (es : List Counted) (v : Value) → numbered_values es < 4294967296 → length es ≤ numbered_values es
    → (length (counting es v) ≤ numbered_values (counting es v)) × (numbered_values (counting es v) ≤ 4294967296)
kept-counting es v few h =
    let longer = counting-longer es v in
    let adds = counting-adds es v in
    (omega arith, omega arith)

-- a count is no more than all
pub count-within : (es : List Counted) (i c : ℕ) → slice_get (values_of es) i ≡ Some c → c ≤ numbered_values es
count-within [] i c h = absurd (none-some h)
count-within (e ∷ es) zero c h = let one : e.1 ≡ c = some-one h in rw (sum_by-cons (λ (x : Counted). x.1) e es) (omega arith)
count-within (e ∷ es) (suc i) c h = let rest = count-within es i c h in rw (sum_by-cons (λ (x : Counted). x.1) e es) (omega arith)

-- what the table holds after its count at a value's place went up
pub raised : (es : List Counted) (v : Value) (i c : ℕ) → position (same_value v) (keys_of es) ≡ Some i → slice_get (values_of es) i ≡ Some c → set_value_at es i (c + 1) ≡ counting es v
raised es v i c at here =
    let found = Found-position (same_value v) es i at in
    sym (insert_entry-first same_value v (c + 1) es i found.first) ∙ sym (counting-found es v c (found.value ∙ here))

-- and after a new value came in
pub added : (es : List Counted) (v : Value) → position (same_value v) (keys_of es) ≡ None → insert_entry same_value es v 1 ≡ counting es v
added es v at = sym (counting-absent es v (Missing-position (same_value v) es at).value)

-- the number of a value behind one that it isn't
next_number : (e : Counted) (es : List Counted) (v : Value) → same_value v e.0 ≡ false → number_of (e ∷ es) v ≡ suc (number_of es v)
next_number e es v k = rw (number_of, k) (omega arith)

-- a value stands at its number, once it is counted
pub numbered_there : (es : List Counted) (v : Value) → slice_get (keys_of (counting es v)) (number_of es v) ≡ Some v
numbered_there [] v = refl
numbered_there (e ∷ es) v = by (same_value v e.0) refl (numbered_there es v)
  where
    by : (b : Bool) → same_value v e.0 ≡ b → slice_get (keys_of (counting es v)) (number_of es v) ≡ Some v → slice_get (keys_of (counting (e ∷ es) v)) (number_of (e ∷ es) v) ≡ Some v
    by true k rest = rw (counting, counting_by, number_of, k) (ap (λ x. Some x) (sym (one_value v e.0 k)))
    by false k rest = subst (λ n. slice_get (keys_of (counting (e ∷ es) v)) n ≡ Some v) (sym (next_number e es v k)) (rw (counting, counting_by, k) rest)

-- the number of a value that came before is its place
pub old_place : (es : List Counted) (v : Value) (i : ℕ) → position (same_value v) (keys_of es) ≡ Some i → number_of es v ≡ i
old_place es v i at = (Found-position (same_value v) es i at).or_len

-- the number of a new value is the next one
pub new_place : (es : List Counted) (v : Value) → position (same_value v) (keys_of es) ≡ None → number_of es v ≡ length es
new_place es v at = (Missing-position (same_value v) es at).or_len

-- an entry by its key's place
entry_at : (es : List Counted) (n : ℕ) (v : Value) → slice_get (keys_of es) n ≡ Some v → (c : ℕ) × (slice_get es n ≡ Some (v, c))
entry_at [] n v h = absurd (none-some h)
entry_at (e ∷ es) zero v h = (e.1, ap (λ k. Some (k, e.1)) (some-one h))
entry_at (e ∷ es) (suc n) v h = entry_at es n v h

-- a value's place among distinct ones is the first where it stands
pub own_place : (es : List Counted) (v : Value) (n : ℕ) → IsDistinct same_value (keys_of es) → slice_get (keys_of es) n ≡ Some v → position (same_value v) (keys_of es) ≡ Some n
own_place es v n apart at = let entry = entry_at es n v at in index-first (same_value v) es n (own_first same_value value_equiv es n v entry.0 apart entry.1)

-- a value stands where it stood, once another or itself is counted
pub still_there : (es : List Counted) (v : Value) (n : ℕ) (x : Value) → slice_get (keys_of es) n ≡ Some x → slice_get (keys_of (counting es v)) n ≡ Some x
still_there [] v n x = λ h. absurd (none-some h)
still_there (e ∷ es) v n x = by (same_value v e.0) refl n (still_there es v)
  where
    by : (b : Bool) → same_value v e.0 ≡ b → (n : ℕ) → ((n : ℕ) (x : Value) → slice_get (keys_of es) n ≡ Some x → slice_get (keys_of (counting es v)) n ≡ Some x)
        → slice_get (keys_of (e ∷ es)) n ≡ Some x → slice_get (keys_of (counting (e ∷ es) v)) n ≡ Some x
    by true k n rest h = rw (counting, counting_by, k) h
    by false k zero rest h = rw (counting, counting_by, k) h
    by false k (suc n) rest h = rw (counting, counting_by, k) (rest n x h)

-- so what was seen stays true
seen-counting : (es : List Counted) (v : Value) (recent : List Seen) → AreSeen (keys_of es) recent → AreSeen (keys_of (counting es v)) recent
seen-counting es v recent seen k d lt place is = still_there es v place (Int (get_or recent k d).number) (seen k d lt place is)

-- what an interner keeps, with a value counted once more
pub kept-interner : (es : List Counted) (v : Value) (n : ℕ) (recent more : List Seen) → IsInterner es recent → numbered_values es < 4294967296 → IsDistinct same_value (keys_of (counting es v))
    → slice_get (keys_of (counting es v)) n ≡ Some v
    → ((keys : List Value) → AreSeen keys recent → slice_get keys n ≡ Some v → AreSeen keys more) → IsInterner (counting es v) more
kept-interner es v n recent more is few apart there seen =
    let kept = kept-counting es v few is.fewer in
    record {
      apart = apart;
      fewer = kept.0;
      few = kept.1;
      seen = seen (keys_of (counting es v)) (seen-counting es v recent is.seen) there;
    }

-- a count that is written leaves the values
keys_set : (es : List Counted) (i c : ℕ) → keys_of (set_value_at es i c) ≡ keys_of es
keys_set [] i c = refl
keys_set (e ∷ es) zero c = refl
keys_set (e ∷ es) (suc i) c = ap (λ l. e.0 ∷ l) (keys_set es i c)

-- none twice, once a value that stands is counted
pub apart-counting : (es : List Counted) (v : Value) (i c : ℕ) → IsDistinct same_value (keys_of es) → set_value_at es i c ≡ counting es v → IsDistinct same_value (keys_of (counting es v))
apart-counting es v i c apart is = subst (IsDistinct same_value) (sym (keys_set es i c) ∙ ap keys_of is) apart
