-- What is kept per code of a class, as keys come one after another.
use Rattle.std.proofs.Common.{◌≡◌, ℕ, zero, suc, ◌+◌, ◌<◌, Bool, true, false, List, [], ◌∷◌, take, map, filter, length, slice_get, slice_index_or, slice_set, Option, Some, None, option_map, cond, replicate, refl, sym, ap, ◌∙◌, true≢false, arith}
use Rattle.std.specs.Option.{option_or, is_some}
use Rattle.std.specs.Map.{keys_of}
use Rattle.std.proofs.lemmas.Option.{slice_get-map, get_or_from_slice_get}
use Rattle.blink_base.specs.declared.value.Value.{Value}
use Rattle.blink_lists.specs.Lists.{numbered_from}
use Rattle.order_codes.specs.Dictionary.{codes_where}
use Rattle.page_synopsis.specs.BitSets.{codes_set}
use Rattle.code_join.specs.Keys.{Keyed, place_of_key, is_key}
use Rattle.code_join.specs.KeyCodes.{places_in}
use Rattle.code_join.proofs.KeyLemmas.{some-same, other_place, its_place, is_now_key}

-- one value more is told apart, which one code has at most
module _ {X : Type 0} (f g : Value → X) (k : Value) (others : (v : Value) → (v ≡ k → ⊥) → f v ≡ g v) where
  map-never : (values : List Value) → ((code : ℕ) → slice_get values code ≡ Some k → ⊥) → map f values ≡ map g values
  map-never [] never = refl
  map-never (v ∷ values) never = λ i. others v (λ e. never 0 (ap (λ x. Some x) e)) i ∷ map-never values (λ code h. never (suc code) h) i

  map-once : (values : List Value) (code : ℕ) → slice_get values code ≡ Some k → ((other : ℕ) → slice_get values other ≡ Some k → other ≡ code) → slice_set (map f values) code (g k) ≡ map g values
  map-once [] code h one = absurd (true≢false (sym (ap is_some h)))
  map-once (v ∷ values) zero h one = let same = sym (some-same v k h) in λ i. g (same i) ∷ map-never values (λ other e. let n = one (suc other) e in omega (arith, n)) i
  map-once (v ∷ values) (suc code) h one =
      λ i. others v (λ e. let z = one 0 (ap (λ x. Some x) e) in omega (arith, z)) i ∷ map-once values code h (λ other e. let n = one (suc other) e in omega (arith, n)) i

-- before any key came
pub no_places : (values : List Value) → replicate (length values) None ≡ places_in [] values
no_places [] = refl
no_places (v ∷ values) = ap (λ l. None ∷ l) (no_places values)

pub no_bits : (values : List Value) → replicate (length values) false ≡ map (is_key []) values
no_bits [] = refl
no_bits (v ∷ values) = ap (λ l. false ∷ l) (no_bits values)

-- one key further
module _ (keys : Keyed) (at : ℕ) (k : Value) (values : List Value) (within : at < length keys) (here : slice_get (keys_of keys) at ≡ Some k) where
  other_key : (v : Value) → (v ≡ k → ⊥) → is_key (take at keys) v ≡ is_key (take (at + 1) keys) v
  other_key v never = ap (λ (o : Option ℕ). is_some o) (other_place keys at k within here v never)

  pub next_noted : (code : ℕ) → slice_get values code ≡ Some k → ((other : ℕ) → slice_get values other ≡ Some k → other ≡ code)
      → slice_set (places_in (take at keys) values) code (option_or (slice_index_or (places_in (take at keys) values) code None) (Some at)) ≡ places_in (take (at + 1) keys) values
  next_noted code h one =
      let was = get_or_from_slice_get (places_in (take at keys) values) code (place_of_key (take at keys) k) None (slice_get-map (place_of_key (take at keys)) values code ∙ ap (option_map (place_of_key (take at keys))) h) in
      ap (slice_set (places_in (take at keys) values) code) (ap (λ o. option_or o (Some at)) was ∙ its_place keys at k within here)
      ∙ map-once (place_of_key (take at keys)) (place_of_key (take (at + 1) keys)) k (other_place keys at k within here) values code h one

  pub next_kept : ((code : ℕ) → slice_get values code ≡ Some k → ⊥) → places_in (take at keys) values ≡ places_in (take (at + 1) keys) values
  next_kept never = map-never (place_of_key (take at keys)) (place_of_key (take (at + 1) keys)) k (other_place keys at k within here) values never

  pub bit_set : (code : ℕ) → slice_get values code ≡ Some k → ((other : ℕ) → slice_get values other ≡ Some k → other ≡ code)
      → slice_set (map (is_key (take at keys)) values) code true ≡ map (is_key (take (at + 1) keys)) values
  bit_set code h one =
      ap (slice_set (map (is_key (take at keys)) values) code) (sym (is_now_key keys at k within here))
      ∙ map-once (is_key (take at keys)) (is_key (take (at + 1) keys)) k other_key values code h one

  pub bits_kept : ((code : ℕ) → slice_get values code ≡ Some k → ⊥) → map (is_key (take at keys)) values ≡ map (is_key (take (at + 1) keys)) values
  bits_kept never = map-never (is_key (take at keys)) (is_key (take (at + 1) keys)) k other_key values never

-- the codes whose bits are set are those whose values pass
module _ (test : Value → Bool) where
  bits-from : (n : ℕ) (values : List Value) → map (λ p. p.0) (filter (λ p. p.1) (numbered_from n (map test values))) ≡ map (λ p. p.0) (filter (λ p. test p.1) (numbered_from n values))
  bits-from n [] = refl
  bits-from n (v ∷ values) = by (test v) (test v) (bits-from (n + 1) values)
    where
      by : (b c : Bool) → map (λ p. p.0) (filter (λ p. p.1) (numbered_from (n + 1) (map test values))) ≡ map (λ p. p.0) (filter (λ p. test p.1) (numbered_from (n + 1) values))
          → map (λ p. p.0) (cond b ((n, c) ∷ filter (λ p. p.1) (numbered_from (n + 1) (map test values))) (filter (λ p. p.1) (numbered_from (n + 1) (map test values))))
          ≡ map (λ p. p.0) (cond b ((n, v) ∷ filter (λ p. test p.1) (numbered_from (n + 1) values)) (filter (λ p. test p.1) (numbered_from (n + 1) values)))
      by true c more = ap (λ l. n ∷ l) more
      by false c more = more

  pub bits_are_codes : (values : List Value) → codes_set (map test values) ≡ codes_where test values
  bits_are_codes values = bits-from 0 values
