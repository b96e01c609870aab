-- Keys none of which stands twice.
use Rattle.std.proofs.Common.{◌≡◌, suc, Bool, true, false, not, ◌&&◌, ◌||◌, [], ◌∷◌, ◌++◌, Some, None, option_map, position, cond, refl, sym, ap, ◌∙◌, true≢false, List}
use Rattle.std.specs.List.{list_any}
use Rattle.std.specs.Map.{keys_of}
use Rattle.std.proofs.lemmas.Bool.{and_parts}
use Rattle.blink_base.specs.declared.value.Value.{Value}
use Rattle.blink_base.specs.Values.{same_value}
use Rattle.blink_base.specs.ValueHash.{value_equiv}
use Rattle.blink_lists.specs.Lists.{are_distinct}
use Rattle.blink_lists.proofs.DistinctLemmas.{distinct-append, meet}
use Rattle.code_join.specs.Keys.{Keyed}
use Rattle.code_join.specs.KeyLaws.{LaterKeysAreNew, FirstKeysAreKeys}
use Rattle.code_join.proofs.KeyLemmas.{position-cons}

keys-append : (keys more : Keyed) → keys_of (keys ++ more) ≡ keys_of keys ++ keys_of more
keys-append [] more = refl
keys-append (e ∷ keys) more = ap (λ l. e.0 ∷ l) (keys-append keys more)

-- a list in which no value equals one of another list has none of those
not-met : (v : Value) (values more : List Value) → not (meet same_value values (v ∷ more)) ≡ true → position (same_value v) values ≡ None
not-met v [] more h = refl
not-met v (x ∷ values) more h = position-cons (same_value v) x values ∙ by (same_value v x) (same_value x v) (value_equiv.symm v x) (list_any (same_value x) more) h (not-met v values more)
  where
    by : (b d : Bool) → b ≡ d → (c : Bool) → not ((d || c) || meet same_value values (v ∷ more)) ≡ true → (not (meet same_value values (v ∷ more)) ≡ true → position (same_value v) values ≡ None)
        → cond b (Some 0) (option_map (λ n. suc n) (position (same_value v) values)) ≡ None
    by true true e c g rest = absurd (true≢false (sym g))
    by true false e c g rest = absurd (true≢false e)
    by false true e c g rest = absurd (true≢false (sym e))
    by false false e true g rest = absurd (true≢false (sym g))
    by false false e false g rest = ap (option_map (λ n. suc n)) (rest g)

pub later_keys_are_new : LaterKeysAreNew
later_keys_are_new keys more v payload are =
    let parts = and_parts (are_distinct same_value (keys_of keys)) (are_distinct same_value (v ∷ keys_of more) && not (meet same_value (keys_of keys) (v ∷ keys_of more))) (sym (distinct-append same_value (keys_of keys) (v ∷ keys_of more)) ∙ sym (ap (are_distinct same_value) (keys-append keys ((v, payload) ∷ more))) ∙ are) in
    not-met v (keys_of keys) (keys_of more) (and_parts (are_distinct same_value (v ∷ keys_of more)) (not (meet same_value (keys_of keys) (v ∷ keys_of more))) parts.1).1

pub first_keys_are_keys : FirstKeysAreKeys
first_keys_are_keys keys more are =
    (and_parts (are_distinct same_value (keys_of keys)) (are_distinct same_value (keys_of more) && not (meet same_value (keys_of keys) (keys_of more))) (sym (distinct-append same_value (keys_of keys) (keys_of more)) ∙ sym (ap (are_distinct same_value) (keys-append keys more)) ∙ are)).0
