-- The names of a condition are those of its tests.
use Rattle.std.proofs.Common.{◌≡◌, ℕ, Bool, not, cond, ◌&&◌, List, [], ◌∷◌, ◌++◌, map, filter, flat_map, position, length, nat_lt, Option, Some, None, option_map, Result, subst, append_assoc, refl, sym, ap, ◌∙◌}
use Rattle.std.specs.Prelude.{is_none}
use Rattle.std.specs.Option.{option_or, option_map_or}
use Rattle.std.proofs.lemmas.List.{append-nil, length-map}
use Rattle.blink_base.specs.declared.refusal.Refusal.{Refusal}
use Rattle.blink_base.specs.declared.refusal.Refusal.TheVariants.{UnknownColumn, AmbiguousColumn}
use Rattle.blink_lists.specs.Lists.{joined, first_of}
use Rattle.blink_lists.proofs.FindLemmas.{place-map}
use Rattle.blink_lists.proofs.ProductLemmas.{filter-append}
use Rattle.star_sql.specs.declared.ast.ColumnName.{ColumnName}
use Rattle.star_sql.specs.declared.ast.TestWords.{TestWords}
use Rattle.star_sql.specs.declared.ast.Cond.{Cond}
use Rattle.star_sql.specs.declared.ast.Item.{Item}
use Rattle.star_sql.specs.declared.ast.Select.{Select}
use Rattle.star_meaning.specs.Names.{Scope, ColumnPlace, place_of, name_text}
use Rattle.star_meaning.specs.NameRefusals.{test_names, cond_names, names_in, column_keys, is_unknown, is_ambiguous, is_unknown_key, unknown_names, ambiguous_names, name_refusal}
use Rattle.star_meaning.specs.Answer.{is_place, item_place, column_item}
use Rattle.star_bind.specs.declared.names.scope.Place.{Place}
use Rattle.star_bind.specs.Lookup.{place_in, is_same_place, index_of, is_lost}
use Rattle.star_bind.specs.declared.fault.BindFault.{BindFault}
use Rattle.star_bind.specs.Checks.{where_tests, IsChecked, names_told}
use Rattle.star_bind.proofs.FoldLemmas.{AllAgree, cond_agrees}

flat-append : (xs ys : List TestWords) → flat_map test_names (xs ++ ys) ≡ flat_map test_names xs ++ flat_map test_names ys
flat-append [] ys = refl
flat-append (x ∷ xs) ys = ap (λ ns. test_names x ++ ns) (flat-append xs ys) ∙ sym (append_assoc (test_names x) (flat_map test_names xs) (flat_map test_names ys))

-- names that are those of tests
abbrev AreNames : List ColumnName → List TestWords → Type 0
AreNames names tests = names ≡ flat_map test_names tests

joined_names : (xs : List (List ColumnName)) (ys : List (List TestWords)) → AllAgree AreNames xs ys → AreNames (joined xs) (joined ys)
joined_names [] [] a = refl
joined_names [] (y ∷ ys) a = absurd a
joined_names (x ∷ xs) [] a = absurd a
joined_names (x ∷ xs) (y ∷ ys) a = (λ i. a.0 i ++ joined_names xs ys a.1 i) ∙ sym (flat-append y (joined ys))

pub where_names : (cond : Option Cond) → cond_names cond ≡ flat_map test_names (where_tests cond)
where_names None = refl
where_names (Some cond) =
    cond_agrees AreNames test_names (λ ns. ns) joined joined (λ words. words ∷ []) (λ tests. tests) joined joined
    (λ w. sym (append-nil (test_names w))) (λ x y a. a) joined_names joined_names cond

pub three_parts : (n0 n1 n2 n3 a b d x y z : List ColumnName) → n0 ≡ [] → n1 ≡ n0 ++ a → n2 ≡ n1 ++ b → n3 ≡ n2 ++ d → a ≡ x → b ≡ y → d ≡ z → n3 ≡ x ++ y ++ z
three_parts n0 n1 n2 n3 a b d x y z p0 p1 p2 p3 e f g = p3 ∙ λ i. (p2 ∙ λ j. (p1 ∙ λ k. p0 k ++ e k) j ++ f j) i ++ g i

-- the first of what passes, of two lists
pub first-append : {X : Type 0} (xs ys : List X) → first_of (xs ++ ys) ≡ option_or (first_of xs) (first_of ys)
first-append [] ys = refl
first-append (x ∷ xs) ys = refl

pub first-map : {X Y : Type 0} (f : X → Y) (xs : List X) → first_of (map f xs) ≡ option_map f (first_of xs)
first-map f [] = refl
first-map f (x ∷ xs) = refl

-- the refusal of a name: of the first unknown name or key, and else of the first ambiguous name or key
pub told_name : (scope : Scope) (s : Select)
    → name_refusal scope s
    ≡ option_or (option_map (λ c. UnknownColumn (name_text c)) (option_or (first_of (filter (is_unknown scope) (names_in s))) (first_of (filter (is_unknown_key scope s) (column_keys s)))))
    (option_map (λ c. AmbiguousColumn (name_text c)) (option_or (first_of (filter (is_ambiguous scope) (names_in s))) (first_of (filter (is_ambiguous scope) (column_keys s)))))
told_name scope s =
    first-append (map (λ c. UnknownColumn (name_text c)) (unknown_names scope s)) (map (λ c. AmbiguousColumn (name_text c)) (ambiguous_names scope s))
    ∙ λ i. option_or
    ((first-map (λ c. UnknownColumn (name_text c)) (unknown_names scope s) ∙ ap (option_map (λ c. UnknownColumn (name_text c))) (first-append (filter (is_unknown scope) (names_in s)) (filter (is_unknown_key scope s) (column_keys s)))) i)
    ((first-map (λ c. AmbiguousColumn (name_text c)) (ambiguous_names scope s) ∙ ap (option_map (λ c. AmbiguousColumn (name_text c))) (ap first_of (filter-append (is_ambiguous scope) (names_in s) (column_keys s)) ∙ first-append (filter (is_ambiguous scope) (names_in s)) (filter (is_ambiguous scope) (column_keys s)))) i)

position-map : {X Y : Type 0} (p : Y → Bool) (f : X → Y) (xs : List X) → position p (map f xs) ≡ position (λ x. p (f x)) xs
position-map p f xs =
    let long : length (map f xs) ≡ length xs = simp length-map in
    λ i. cond (nat_lt (place-map f p xs i) (long i)) (Some (place-map f p xs i)) None

-- the first of the columns that items are that a name means is the item that it means
pub column_told : (scope : Scope) (items : List Item) (places : List (Option Place)) (c : ColumnName) → places ≡ map (λ i. option_map place_in (item_place scope i)) items
    → index_of places (option_map place_in (place_of scope c)) ≡ column_item scope items c
column_told scope items places c e =
    ap (λ (ps : List (Option Place)). index_of ps (option_map place_in (place_of scope c))) e ∙ index_is (place_of scope c)
  where
    same_is : (p : ColumnPlace) (o : Option ColumnPlace) → is_same_place (place_in p) (option_map place_in o) ≡ is_place p o
    same_is p None = refl
    same_is p (Some q) = refl

    index_is : (o : Option ColumnPlace) → index_of (map (λ i. option_map place_in (item_place scope i)) items) (option_map place_in o) ≡ option_map_or (λ p. position (λ i. is_place p (item_place scope i)) items) o None
    index_is None = refl
    index_is (Some p) =
        position-map (is_same_place (place_in p)) (λ i. option_map place_in (item_place scope i)) items
        ∙ ap (λ (t : Item → Bool). position t items) (λ j i. same_is p (item_place scope i) j)

-- a key is lost among the columns that items are where it is unknown
pub lost_is_unknown : (scope : Scope) (s : Select) (places : List (Option Place)) (c : ColumnName) → places ≡ map (λ i. option_map place_in (item_place scope i)) s.items
    → is_lost scope places c ≡ is_unknown_key scope s c
lost_is_unknown scope s places c e = ap (λ (o : Option ℕ). not (is_ambiguous scope c) && is_none o) (column_told scope s.items places c e)

-- what lists of names and keys tell is what the query is refused for
pub told_lists : (scope : Scope) (s : Select) (places : List (Option Place)) (names keys : List ColumnName) → places ≡ map (λ i. option_map place_in (item_place scope i)) s.items
    → names ≡ names_in s → keys ≡ column_keys s → names_told scope places names keys ≡ name_refusal scope s
told_lists scope s places names keys p n k =
    (λ i. option_or
    (option_map (λ c. UnknownColumn (name_text c)) (option_or (first_of (filter (is_unknown scope) (n i))) (first_of (filter (λ c. lost_is_unknown scope s places c p i) (k i)))))
    (option_map (λ c. AmbiguousColumn (name_text c)) (option_or (first_of (filter (is_ambiguous scope) (n i))) (first_of (filter (is_ambiguous scope) (k i))))))
    ∙ sym (told_name scope s)

pub checked_lists : {X : Type 0} (r : Result X BindFault) (a b : Option Refusal) → a ≡ b → IsChecked r a → IsChecked r b
checked_lists r a b e h = subst (λ (o : Option Refusal). IsChecked r o) e h
