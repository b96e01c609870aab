-- What keeps tables sound.
use Rattle.std.proofs.Common.{◌≡◌, ◌<◌, ℕ, Bool, true, false, not, cond, List, [], ◌∷◌, ◌++◌, filter, length, get_or, refl, sym, ap, ◌∙◌, arith}
use Rattle.std.specs.List.{list_any}
use Rattle.std.specs.Str.{bytes_eq}
use Rattle.std.proofs.lemmas.Bool.{and_parts, and_from, or_parts, or_from, not-true, not_from_false}
use Rattle.std.proofs.lemmas.List.{length-map, length-append, map-append}
use Rattle.std.proofs.lemmas.List.Elements.{All-map, All-filter, All-append, All-cons, All-nil}
use Rattle.blink_base.specs.declared.limits.Limits.{Limits}
use Rattle.blink_lists.specs.Lists.{are_distinct}
use Rattle.blink_lists.proofs.GroupLemmas.{distinct-filter}
use Rattle.blink_lists.proofs.DistinctLemmas.{length-filter-le}
use Rattle.star_engine.specs.State.{AcceptedTable, Tables, with_table, without_table, and_table}
use Rattle.blink_base.specs.declared.limits.TheConstants.{MOST_TABLES}
use Rattle.star_engine.specs.Soundness.{IsSound, IsSoundTable}
use Rattle.star_engine.proofs.TableListLemmas.{one_name, same_name, names}

names-with : (tables : Tables) (h : AcceptedTable) → names (with_table tables h) ≡ names tables
names-with [] h = refl
names-with (x ∷ xs) h = by (bytes_eq h.name x.name) refl (names-with xs h)
  where
    by : (b : Bool) → bytes_eq h.name x.name ≡ b → names (with_table xs h) ≡ names xs → names (with_table (x ∷ xs) h) ≡ names (x ∷ xs)
    by true e rest = let same = one_name h.name x.name e in rw (e, rest, same) refl
    by false e rest = rw (e, rest) refl

if_both : (P : AcceptedTable → Type 0) (b : Bool) (x y : AcceptedTable) → P x → P y → P (cond b x y)
if_both P true x y p q = p
if_both P false x y p q = q

pub sound-with : (limits : Limits) (tables : Tables) (h : AcceptedTable) → IsSound limits tables → IsSoundTable limits h → IsSound limits (with_table tables h)
sound-with limits tables h s new = record {
  distinct = ap (are_distinct bytes_eq) (names-with tables h) ∙ s.distinct;
  few = let long = length-map tables (λ (x : AcceptedTable). cond (bytes_eq h.name x.name) h x) in let few = s.few in omega arith;
  each = All-map (IsSoundTable limits) (λ x. cond (bytes_eq h.name x.name) h x) tables (λ k d lt. if_both (IsSoundTable limits) (bytes_eq h.name (get_or tables k d).name) h (get_or tables k d) new (s.each k d lt));
}

names-without : (tables : Tables) (name : List ℕ) → names (without_table tables name) ≡ filter (λ n. not (bytes_eq name n)) (names tables)
names-without [] name = refl
names-without (x ∷ xs) name = by (bytes_eq name x.name) refl (names-without xs name)
  where
    by : (b : Bool) → bytes_eq name x.name ≡ b → names (without_table xs name) ≡ filter (λ n. not (bytes_eq name n)) (names xs) → names (without_table (x ∷ xs) name) ≡ filter (λ n. not (bytes_eq name n)) (names (x ∷ xs))
    by true e rest = rw e rest
    by false e rest = rw e (ap (λ l. x.name ∷ l) rest)

pub sound-without : (limits : Limits) (tables : Tables) (name : List ℕ) → IsSound limits tables → IsSound limits (without_table tables name)
sound-without limits tables name s = record {
  distinct = ap (are_distinct bytes_eq) (names-without tables name) ∙ distinct-filter bytes_eq (λ n. not (bytes_eq name n)) (names tables) s.distinct;
  few = let less = length-filter-le (λ (h : AcceptedTable). not (bytes_eq name h.name)) tables in let few = s.few in omega arith;
  each = All-filter (λ h. not (bytes_eq name h.name)) (IsSoundTable limits) tables s.each;
}

-- one more name that isn't there
back : (x y : List ℕ) → bytes_eq x y ≡ false → bytes_eq y x ≡ false
back x y e = by (bytes_eq y x) refl
  where
    by : (b : Bool) → bytes_eq y x ≡ b → bytes_eq y x ≡ false
    by true p = let same = one_name y x p in cc (sym e ∙ same_name x y (sym same))
    by false p = p

distinct_push : (ns : List (List ℕ)) (n : List ℕ) → are_distinct bytes_eq ns ≡ true → list_any (bytes_eq n) ns ≡ false → are_distinct bytes_eq (ns ++ n ∷ []) ≡ true
distinct_push [] n each new = refl
distinct_push (m ∷ ns) n each new =
    let parts = and_parts (not (list_any (bytes_eq m) ns)) (are_distinct bytes_eq ns) each in
    let others = or_parts (bytes_eq n m) (list_any (bytes_eq n) ns) new in
    and_from (not (list_any (bytes_eq m) (ns ++ n ∷ []))) (are_distinct bytes_eq (ns ++ n ∷ [])) (not_from_false _ (none_push ns m n (not-true _ parts.0) (back n m others.0))) (distinct_push ns n parts.1 others.1)
  where
    none_push : (xs : List (List ℕ)) (x y : List ℕ) → list_any (bytes_eq x) xs ≡ false → bytes_eq x y ≡ false → list_any (bytes_eq x) (xs ++ y ∷ []) ≡ false
    none_push [] x y none other = rw other refl
    none_push (z ∷ xs) x y none other =
        let parts = or_parts (bytes_eq x z) (list_any (bytes_eq x) xs) none in
        or_from (bytes_eq x z) (list_any (bytes_eq x) (xs ++ y ∷ [])) parts.0 (none_push xs x y parts.1 other)

pub sound-and : (limits : Limits) (tables : Tables) (h : AcceptedTable) → IsSound limits tables → IsSoundTable limits h → list_any (bytes_eq h.name) (names tables) ≡ false → length tables < MOST_TABLES → IsSound limits (and_table tables h)
sound-and limits tables h s new unknown room = record {
  distinct = ap (are_distinct bytes_eq) (map-append (λ (x : AcceptedTable). x.name) tables (h ∷ [])) ∙ distinct_push (names tables) h.name s.distinct unknown;
  few = let long = length-append tables (h ∷ []) in omega arith;
  each = All-append (IsSoundTable limits) tables (h ∷ []) s.each (All-cons (IsSoundTable limits) h [] new (All-nil (IsSoundTable limits)));
}
