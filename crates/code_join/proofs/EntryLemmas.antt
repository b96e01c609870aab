-- Entries of keys, and what stands at their places.
use Rattle.std.proofs.Common.{◌≡◌, ℕ, zero, suc, Bool, true, false, [], ◌∷◌, find, position, slice_get, Option, Some, None, option_map, cond, refl, sym, ap, ◌∙◌, true≢false}
use Rattle.std.specs.Option.{option_and_then, is_some}
use Rattle.std.specs.Map.{keys_of, values_of}
use Rattle.blink_base.specs.declared.value.Value.{Value}
use Rattle.blink_base.specs.Values.{Row, same_value}
use Rattle.blink_base.specs.ValueHash.{value_equiv}
use Rattle.code_join.specs.Keys.{Keyed, payload_of}
use Rattle.code_join.specs.KeyLaws.{EntriesByPlace, EntriesOfKeys, PayloadsByPlace}
use Rattle.code_join.proofs.KeyLemmas.{some-same, position-cons}

module _ (p : Value → Bool) where
  further : (e : Value × Row) (keys : Keyed) (o : Option ℕ) → option_and_then (slice_get (e ∷ keys)) (option_map (λ n. suc n) o) ≡ option_and_then (slice_get keys) o
  further e keys None = refl
  further e keys (Some n) = refl

  found-at-place : (keys : Keyed) → find (λ e. p e.0) keys ≡ option_and_then (slice_get keys) (position p (keys_of keys))
  found-at-place [] = refl
  found-at-place (e ∷ keys) = by (p e.0) (found-at-place keys ∙ sym (further e keys (position p (keys_of keys)))) ∙ ap (option_and_then (slice_get (e ∷ keys))) (sym (position-cons p e.0 (keys_of keys)))
    where
      by : (b : Bool) → find (λ e. p e.0) keys ≡ option_and_then (slice_get (e ∷ keys)) (option_map (λ n. suc n) (position p (keys_of keys)))
          → cond b (Some e) (find (λ e. p e.0) keys) ≡ option_and_then (slice_get (e ∷ keys)) (cond b (Some 0) (option_map (λ n. suc n) (position p (keys_of keys))))
      by true more = refl
      by false more = more

  is-mapped : (o : Option ℕ) → is_some o ≡ is_some (option_map (λ n. suc n) o)
  is-mapped None = refl
  is-mapped (Some n) = refl

  is-there : (keys : Keyed) → is_some (find (λ e. p e.0) keys) ≡ is_some (position p (keys_of keys))
  is-there [] = refl
  is-there (e ∷ keys) = by (p e.0) (is-there keys ∙ is-mapped (position p (keys_of keys))) ∙ ap (λ (o : Option ℕ). is_some o) (sym (position-cons p e.0 (keys_of keys)))
    where
      by : (b : Bool) → is_some (find (λ e. p e.0) keys) ≡ is_some (option_map (λ n. suc n) (position p (keys_of keys)))
          → is_some (cond b (Some e) (find (λ e. p e.0) keys)) ≡ is_some (cond b (Some 0) (option_map (λ n. suc n) (position p (keys_of keys))))
      by true more = refl
      by false more = more

pub entries_by_place : EntriesByPlace
entries_by_place keys v = (λ i. find (λ e. value_equiv.symm e.0 v i) keys) ∙ found-at-place (same_value v) keys

pub entries_of_keys : EntriesOfKeys
entries_of_keys keys v = ap (λ (o : Option (Value × Row)). is_some o) (λ i. find (λ e. value_equiv.symm e.0 v i) keys) ∙ is-there (same_value v) keys

value-at : (keys : Keyed) (i : ℕ) → slice_get (values_of keys) i ≡ option_map (λ e. e.1) (slice_get keys i)
value-at [] i = refl
value-at (e ∷ keys) zero = refl
value-at (e ∷ keys) (suc i) = value-at keys i

payload-or : (o : Option (Value × Row)) (payload : Row) → option_map (λ e. e.1) o ≡ Some payload → payload_of o ≡ payload
payload-or None payload e = absurd (true≢false (sym (ap is_some e)))
payload-or (Some x) payload e = some-same x.1 payload e

pub payloads_by_place : PayloadsByPlace
payloads_by_place keys v place payload at here =
    ap payload_of (entries_by_place keys v ∙ ap (option_and_then (slice_get keys)) at) ∙ payload-or (slice_get keys place) payload (sym (value-at keys place) ∙ here)
