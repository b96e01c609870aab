-- Values, their places, and back.
use Rattle.std.proofs.Common.{◌≡◌, ℕ, zero, suc, ◌<◌, true, false, ◌&&◌, List, [], ◌∷◌, Option, Some, None, get_or, length, nat_le, slice_get, option_map, refl, sym, ap, subst, ◌∙◌, arith}
use Rattle.std.specs.List.{list_any, list_all}
use Rattle.std.proofs.lemmas.Bool.{and_parts, false_from_ne_true, lt-ltb, le-ltb}
use Rattle.std.proofs.lemmas.Option.{slice_get-get_or}
use Rattle.std.specs.Option.{IfSome}
use Rattle.std.proofs.lemmas.List.{get_or_default}
use Rattle.std.proofs.lemmas.List.Sums.{position_or_len_is}
use Rattle.std.proofs.lemmas.List.Quantifiers.{position-Some}
use Rattle.blink_lists.specs.Lists.{rises, are_distinct, joined}
use Rattle.blink_base.specs.declared.value.Value.{Value}
use Rattle.blink_base.specs.Values.{value_cmp, same_value}
use Rattle.order_codes.specs.declared.place.CodePlace.{CodePlace}
use Rattle.order_codes.specs.Dictionary.{Classes, is_class, are_classes, below, class_at, class_of, place_of_value, decoded}
use Rattle.blink_lists.specs.declared.limits.TheConstants.{MOST_CLASSES}
use Rattle.order_codes.specs.Codes.{KeepsOrder, DecodesFound, FindsDecoded}
use Rattle.order_codes.proofs.ValueRankLemmas.{held, among, code_at, order_at}
use Rattle.blink_lists.proofs.AllLemmas.{all_at}
use Rattle.order_codes.proofs.ClassListLemmas.{is_class_rises, apart_at}

-- the code of a value of a class, and its place there
record IsAt (values : List Value) (v : Value) : Type 0 where
  within : below values v < length values
  is : (d : Value) → get_or values (below values v) d ≡ v

at_code : (values : List Value) (v : Value) → rises value_cmp values ≡ true → list_any (same_value v) values ≡ true → IsAt values v
at_code values v up any =
    let found = held v values any in
    let code = code_at values found.0 v up found.1 (found.2 v) in
    record { within = rw code found.1; is = λ d. rw code (found.2 d) }

pub keeps_order : KeepsOrder
keeps_order values x y is x_in y_in =
    let up = is_class_rises values is in
    let at_x = at_code values x up x_in in
    let at_y = at_code values y up y_in in
    rw (at_x.is x, at_y.is x) at (order_at values (below values x) (below values y) x up at_x.within at_y.within)

-- the parts of a dictionary
pub all_classes : (classes : Classes) → are_classes classes ≡ true → list_all is_class classes ≡ true
all_classes classes valid = (and_parts _ _ (and_parts (nat_le (length classes) MOST_CLASSES && list_all is_class classes) (are_distinct same_value (joined classes)) valid).0).1

pub all_apart : (classes : Classes) → are_classes classes ≡ true → are_distinct same_value (joined classes) ≡ true
all_apart classes valid = (and_parts (nat_le (length classes) MOST_CLASSES && list_all is_class classes) (are_distinct same_value (joined classes)) valid).1

pub class_rises : (classes : Classes) (k : ℕ) → are_classes classes ≡ true → k < length classes → rises value_cmp (class_at classes k) ≡ true
class_rises classes k valid within = is_class_rises (class_at classes k) (all_at is_class classes k [] (all_classes classes valid) within)

-- the first class that has the value
pub place_here : (classes : Classes) (v : Value) (k : ℕ) → k < length classes → ((j : ℕ) → j < k → list_any (same_value v) (class_at classes j) ≡ false)
    → list_any (same_value v) (class_at classes k) ≡ true → place_of_value classes v ≡ Some (record { class = k; code = below (class_at classes k) v })
place_here classes v k within before here =
    let first = position_or_len_is (λ values. list_any (same_value v) values) classes k [] (omega arith) before (λ _. here) in
    rw (first, lt-ltb k (length classes) within) refl

pub place_none : (classes : Classes) (v : Value) → ((j : ℕ) → j < length classes → list_any (same_value v) (class_at classes j) ≡ false) → place_of_value classes v ≡ None
place_none classes v none =
    let first = position_or_len_is (λ values. list_any (same_value v) values) classes (length classes) [] (omega arith) none (λ lt. absurd (omega arith)) in
    rw (first, le-ltb (length classes) (length classes) (omega arith)) refl

pub decodes_found : DecodesFound
decodes_found classes v place found valid = by (class_of classes v) refl found
  where
    by : (o : Option ℕ) → class_of classes v ≡ o → option_map (λ k. record { class = k; code = below (class_at classes k) v }) o ≡ Some place → decoded classes place.class place.code ≡ Some v
    by None is e = cc
    by (Some k) is e =
        let at = position-Some (λ values. list_any (same_value v) values) classes k [] is in
        let here = at_code (class_at classes k) v (class_rises classes k valid at.0) at.1 in
        let one : record { class = k; code = below (class_at classes k) v } ≡ place = cc in
        subst (λ (q : CodePlace). decoded classes q.class q.code ≡ Some v) one (slice_get-get_or (class_at classes k) (below (class_at classes k) v) v here.within ∙ ap Some (here.is v))

got : (xs : List Value) (i : ℕ) (v : Value) → slice_get xs i ≡ Some v → (i < length xs) × (get_or xs i v ≡ v)
got [] i v is = cc
got (x ∷ xs) zero v is = (omega arith, cc)
got (x ∷ xs) (suc i) v is = let rest = got xs i v is in (omega arith, rest.1)

-- a class that has a code is there
pub class_within : (classes : Classes) (k code : ℕ) → code < length (class_at classes k) → k < length classes
class_within [] k code lt = absurd (omega arith)
class_within (xs ∷ rest) zero code lt = omega arith
class_within (xs ∷ rest) (suc k) code lt = let more = class_within rest k code lt in omega arith

pub finds_decoded : FindsDecoded
finds_decoded classes class code v is valid =
    let values = class_at classes class in
    let at = got values code v is in
    let within = class_within classes class code at.0 in
    let here = among v values code at.0 at.1 in
    place_here classes v class within (λ j lt. false_from_ne_true _ (λ any. apart_at classes j class v (all_apart classes valid) lt within any here)) here
    ∙ ap (λ c. Some (record { class = class; code = c })) (code_at values code v (class_rises classes class valid within) at.0 at.1)

-- the same as calls say it
pub class_got : (classes : Classes) (k : ℕ) (values : List Value) → are_classes classes ≡ true → k < length classes → values ≡ get_or classes k values → is_class values ≡ true
class_got classes k values valid within is = rw (← is) at (all_at is_class classes k values (all_classes classes valid) within)

pub decodes_place : (classes : Classes) (v : Value) (r : Option CodePlace) → r ≡ place_of_value classes v → are_classes classes ≡ true
    → IfSome r (λ place. decoded classes place.class place.code ≡ Some v)
decodes_place classes v None is valid = tt
decodes_place classes v (Some place) is valid = decodes_found classes v place (sym is) valid

pub found_within : (classes : Classes) (v : Value) (r : Option CodePlace) → r ≡ place_of_value classes v → are_classes classes ≡ true
    → IfSome r (λ place. (place.class < length classes) × (place.code < length (class_at classes place.class)))
found_within classes v None is valid = tt
found_within classes v (Some place) is valid =
    let at = got (class_at classes place.class) place.code v (decodes_found classes v place (sym is) valid) in
    (class_within classes place.class place.code at.0, at.0)

pub finds_value : (classes : Classes) (k code : ℕ) (values : List Value) (v : Value) → values ≡ class_at classes k → code < length values → v ≡ get_or values code v → are_classes classes ≡ true
    → place_of_value classes v ≡ Some (record { class = k; code = code })
finds_value classes k code values v class within is valid =
    finds_decoded classes k code v (rw (← class) (slice_get-get_or values code v within ∙ ap Some (sym is))) valid

pub place_at : (classes : Classes) (v : Value) (k code : ℕ) (values : List Value) → k < length classes → values ≡ get_or classes k values
    → ((j : ℕ) → j < k → list_any (same_value v) (class_at classes j) ≡ false) → list_any (same_value v) values ≡ true → code ≡ below values v
    → place_of_value classes v ≡ Some (record { class = k; code = code })
place_at classes v k code values within is before here smaller =
    let one : values ≡ class_at classes k = is ∙ get_or_default classes k values [] within in
    place_here classes v k within before (rw one at here) ∙ ap (λ c. Some (record { class = k; code = c })) (rw (smaller, one) refl)
