-- Places of keys, as keys are put one behind another.
use Rattle.std.proofs.Common.{◌≡◌, ℕ, zero, suc, ◌+◌, ◌<◌, Bool, true, false, not, List, [], ◌∷◌, ◌++◌, take, length, position, slice_get, slice_index_or, Option, Some, None, option_map, cond, refl, sym, ap, ◌∙◌, arith, nat_lt, inl, inr}
use Rattle.std.specs.Option.{option_or, is_some}
use Rattle.std.specs.List.{position_or_len}
use Rattle.std.specs.Prelude.{pos}
use Rattle.std.specs.Map.{keys_of}
use Rattle.std.proofs.lemmas.Bool.{lt-ltb, le-ltb, cases_lt}
use Rattle.std.proofs.lemmas.List.{take_more, length-take-le}
use Rattle.std.proofs.lemmas.Option.{slice_get-get_or}
use Rattle.indexmap.specs.IndexMap.{insert_entry}
use Rattle.indexmap.proofs.MapLemmas.{Missing-position, insert_entry-absent}
use Rattle.blink_base.specs.declared.value.Value.{Value}
use Rattle.blink_base.specs.declared.value.Value.TheVariants.{Int}
use Rattle.blink_base.specs.Values.{Row, same_value}
use Rattle.blink_base.specs.ValueHash.{one_value, value_equiv}
use Rattle.code_join.specs.Keys.{Keyed, place_of_key, is_key}

abbrev some_or : {X : Type 0} → X → Option X → X
some_or x None = x
some_or x (Some y) = y

pub some-same : {X : Type 0} (x y : X) → Some x ≡ Some y → x ≡ y
some-same x y e = ap (some_or x) e

-- what a hash table holds after a new key came in
pub put_behind : (es : Keyed) (key : Value) (payload : Row) → place_of_key es key ≡ None → insert_entry same_value es key payload ≡ es ++ (key, payload) ∷ []
put_behind es key payload absent = insert_entry-absent same_value key payload es (Missing-position (same_value key) es absent).absent

-- the first place that passes, step by step
pub position-cons : {X : Type 0} (p : X → Bool) (x : X) (xs : List X) → position p (x ∷ xs) ≡ cond (p x) (Some 0) (option_map (λ n. suc n) (position p xs))
position-cons p x xs = by (p x)
  where
    behind : cond (nat_lt (1 + position_or_len p xs) (suc (length xs))) (Some (1 + position_or_len p xs)) None ≡ option_map (λ n. suc n) (cond (nat_lt (position_or_len p xs) (length xs)) (Some (position_or_len p xs)) None)
    behind = elim (cases_lt (position_or_len p xs) (length xs)) [
      | inl l ↦ rw (lt-ltb (position_or_len p xs) (length xs) l, lt-ltb (1 + position_or_len p xs) (suc (length xs)) (omega (arith, l))) (ap (λ k. Some k) (omega arith))
      | inr g ↦ rw (le-ltb (position_or_len p xs) (length xs) g, le-ltb (1 + position_or_len p xs) (suc (length xs)) (omega (arith, g))) refl
    ]

    by : (b : Bool) → cond (nat_lt (cond (not b) (1 + position_or_len p xs) 0) (suc (length xs))) (Some (cond (not b) (1 + position_or_len p xs) 0)) None ≡ cond b (Some 0) (option_map (λ n. suc n) (position p xs))
    by true = rw (lt-ltb 0 (suc (length xs)) (omega arith)) refl
    by false = behind

position-push : {X : Type 0} (p : X → Bool) (xs : List X) (y : X) → position p (xs ++ y ∷ []) ≡ option_or (position p xs) (cond (p y) (Some (length xs)) None)
position-push p [] y = position-cons p y []
position-push p (x ∷ xs) y =
    position-cons p x (xs ++ y ∷ []) ∙ ap (λ o. cond (p x) (Some 0) (option_map (λ n. suc n) o)) (position-push p xs y) ∙ by (p x) (position p xs) (p y) ∙ ap (λ o. option_or o (cond (p y) (Some (suc (length xs))) None)) (sym (position-cons p x xs))
  where
    by : (b : Bool) (o : Option ℕ) (c : Bool) → cond b (Some 0) (option_map (λ n. suc n) (option_or o (cond c (Some (length xs)) None))) ≡ option_or (cond b (Some 0) (option_map (λ n. suc n) o)) (cond c (Some (suc (length xs))) None)
    by true o c = refl
    by false (Some n) c = refl
    by false None true = refl
    by false None false = refl

keys-push : (ks : Keyed) (k : Value) (payload : Row) → keys_of (ks ++ (k, payload) ∷ []) ≡ keys_of ks ++ k ∷ []
keys-push [] k payload = refl
keys-push (e ∷ ks) k payload = ap (λ l. e.0 ∷ l) (keys-push ks k payload)

pub keys-length : (ks : Keyed) → length (keys_of ks) ≡ length ks
keys-length [] = refl
keys-length (e ∷ ks) = ap (λ n. suc n) (keys-length ks)

-- the place of a value once a key is put behind
place-push : (ks : Keyed) (k : Value) (payload : Row) (v : Value) → place_of_key (ks ++ (k, payload) ∷ []) v ≡ option_or (place_of_key ks v) (cond (same_value v k) (Some (length ks)) None)
place-push ks k payload v = ap (position (same_value v)) (keys-push ks k payload) ∙ position-push (same_value v) (keys_of ks) k ∙ ap (λ n. option_or (place_of_key ks v) (cond (same_value v k) (Some n) None)) (keys-length ks)

or-none : (o : Option ℕ) → option_or o None ≡ o
or-none None = refl
or-none (Some n) = refl

or-some : (o : Option ℕ) (n : ℕ) → is_some (option_or o (Some n)) ≡ true
or-some None n = refl
or-some (Some k) n = refl

-- a value that is another
apart : (v k : Value) → (v ≡ k → ⊥) → same_value v k ≡ false
apart v k never = by (same_value v k) refl
  where
    by : (b : Bool) → same_value v k ≡ b → b ≡ false
    by true e = absurd (never (one_value v k e))
    by false e = refl

module _ (ks : Keyed) (k : Value) (payload : Row) where
  kept-place : (v : Value) → (v ≡ k → ⊥) → place_of_key ks v ≡ place_of_key (ks ++ (k, payload) ∷ []) v
  kept-place v never = sym (place-push ks k payload v ∙ ap (λ b. option_or (place_of_key ks v) (cond b (Some (length ks)) None)) (apart v k never) ∙ or-none (place_of_key ks v))

  new-place : option_or (place_of_key ks k) (Some (length ks)) ≡ place_of_key (ks ++ (k, payload) ∷ []) k
  new-place = sym (place-push ks k payload k ∙ ap (λ b. option_or (place_of_key ks k) (cond b (Some (length ks)) None)) (value_equiv.refl k))

-- one key further
module _ (keys : Keyed) (at : ℕ) (k : Value) (within : at < length keys) (here : slice_get (keys_of keys) at ≡ Some k) where
  key-at : (es : Keyed) (i : ℕ) → slice_get (keys_of es) i ≡ option_map (λ e. e.0) (slice_get es i)
  key-at [] i = refl
  key-at (e ∷ es) zero = refl
  key-at (e ∷ es) (suc i) = key-at es i

  longer : take (at + 1) keys ≡ take at keys ++ (k, (slice_index_or keys at (Int (pos 0), [])).1) ∷ []
  longer =
      let there : slice_get keys at ≡ Some (slice_index_or keys at (Int (pos 0), [])) = slice_get-get_or keys at (Int (pos 0), []) within in
      let same : (slice_index_or keys at (Int (pos 0), [])).0 ≡ k = some-same (slice_index_or keys at (Int (pos 0), [])).0 k (sym (key-at keys at ∙ ap (option_map (λ e. e.0)) there) ∙ here) in
      take_more keys at (Int (pos 0), []) within ∙ ap (λ v. take at keys ++ (v, (slice_index_or keys at (Int (pos 0), [])).1) ∷ []) same

  pub other_place : (v : Value) → (v ≡ k → ⊥) → place_of_key (take at keys) v ≡ place_of_key (take (at + 1) keys) v
  other_place v never = kept-place (take at keys) k (slice_index_or keys at (Int (pos 0), [])).1 v never ∙ ap (λ ks. place_of_key ks v) (sym longer)

  pub its_place : option_or (place_of_key (take at keys) k) (Some at) ≡ place_of_key (take (at + 1) keys) k
  its_place =
      ap (λ n. option_or (place_of_key (take at keys) k) (Some n)) (sym (length-take-le at keys (omega (arith, within))))
      ∙ new-place (take at keys) k (slice_index_or keys at (Int (pos 0), [])).1 ∙ ap (λ ks. place_of_key ks k) (sym longer)

  pub is_now_key : is_key (take (at + 1) keys) k ≡ true
  is_now_key = ap (λ (o : Option ℕ). is_some o) (sym its_place) ∙ or-some (place_of_key (take at keys) k) at
