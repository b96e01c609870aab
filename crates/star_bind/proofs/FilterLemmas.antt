-- The tables that factors name, gathered one behind the other.
use Rattle.std.proofs.Common.{◌≡◌, ◌<◌, ◌+◌, ℕ, suc, ◌==◌, Bool, true, false, not, ◌&&◌, cond, List, [], ◌∷◌, ◌++◌, map, filter, drop, get_or, append_assoc, add-one, drop-cons, Result, Ok, Err, IfOk, filter_map, length, Option, Some, None, refl, sym, ap, ◌∙◌}
use Rattle.std.specs.Prelude.{nat_le}
use Rattle.std.specs.List.{list_any, list_all, cons_option}
use Rattle.std.proofs.lemmas.Bool.{and_parts}
use Rattle.std.proofs.lemmas.List.{map-append}
use Rattle.std.proofs.lemmas.List.Folds.{list_all-append}
use Rattle.blink_lists.specs.Lists.{once_each}
use Rattle.star_bind.specs.declared.star.factors.Factor.{Factor}
use Rattle.star_sql.specs.declared.ast.TestWords.{TestWords}
use Rattle.star_sql.specs.declared.ast.Primary.{Primary}
use Rattle.star_meaning.specs.Names.{Scope}
use Rattle.star_bind.specs.Factors.{tests_in}
use Rattle.star_bind.specs.StarForm.{compares_columns, tables_in, is_filter}
use Rattle.star_bind.specs.FactorParts.{primary_of, table_named, with_table, tables_named}
use Rattle.star_bind.specs.CappedCounts.{add_once}
use Rattle.star_bind.proofs.CappedCountLemmas.{once_each_is}

named_is : (scope : Scope) (a : List ℕ) (ts : List TestWords) → tables_named scope a ts ≡ add_once a (filter_map (table_named scope) ts)
named_is scope a [] = refl
named_is scope a (w ∷ ws) = by (table_named scope w) (λ b. named_is scope b ws)
  where
    by : (o : Option ℕ) → ((b : List ℕ) → tables_named scope b ws ≡ add_once b (filter_map (table_named scope) ws)) → tables_named scope (with_table a o) ws ≡ add_once a (cons_option o (filter_map (table_named scope) ws))
    by None ih = ih a
    by (Some k) ih = ih (with_table a (Some k))

pub tables_are : (scope : Scope) (ts : List TestWords) → tables_named scope [] ts ≡ once_each (λ x y. x == y) (filter_map (table_named scope) ts)
tables_are scope ts = named_is scope [] ts ∙ once_each_is (filter_map (table_named scope) ts)

pub filter_told : (scope : Scope) (f : Primary) (ts : List TestWords) (tables : List ℕ) (b : Bool) → ts ≡ tests_in f → tables ≡ once_each (λ x y. x == y) (filter_map (table_named scope) ts)
    → b ≡ (nat_le (length tables) 1 && not (list_any compares_columns ts)) → b ≡ is_filter scope f
filter_told scope f ts tables b e t told = told ∙ λ i. nat_le (length ((t ∙ ap (λ (xs : List TestWords). once_each (λ x y. x == y) (filter_map (table_named scope) xs)) e) i)) 1 && not (list_any compares_columns (e i))

pub of_table_told : (scope : Scope) (f : Primary) (table : ℕ) (ts : List TestWords) (tables : List ℕ) (b c : Bool) → c ≡ true → ts ≡ tests_in f → tables ≡ once_each (λ x y. x == y) (filter_map (table_named scope) ts)
    → b ≡ list_all (λ t. t == table) tables → b ≡ (c && list_all (λ t. t == table) (tables_in scope f))
of_table_told scope f table ts tables b c here e t told =
    told ∙ ap (list_all (λ t. t == table)) (t ∙ ap (λ (xs : List TestWords). once_each (λ x y. x == y) (filter_map (table_named scope) xs)) e)
    ∙ ap (λ d. d && list_all (λ t. t == table) (tables_in scope f)) (sym here)

pub tables_told : {E : Type 0} (r : Result (List ℕ) E) (scope : Scope) (ts : List TestWords) → IfOk r (λ t. t ≡ tables_named scope [] ts) → IfOk r (λ t. t ≡ once_each (λ x y. x == y) (filter_map (table_named scope) ts))
tables_told (Ok t) scope ts told = told ∙ tables_are scope ts
tables_told (Err why) scope ts told = tt

pub next_filter : (p : Primary → Bool) (old more : List Factor) (whole : List Primary) (fs : List Factor) (i : ℕ) (x : Factor) (b : Bool) → i < length fs → x ≡ get_or fs i x → b ≡ p (primary_of x)
    → more ≡ cond b (old ++ x ∷ []) old → map primary_of old ++ filter p (map primary_of (drop i fs)) ≡ whole → map primary_of more ++ filter p (map primary_of (drop (i + 1) fs)) ≡ whole
next_filter p old more whole fs i x b lt is told push so_far =
    let here : drop i fs ≡ x ∷ drop (i + 1) fs = rw (add-one, drop-cons fs i x) (ap (λ (z : Factor). z ∷ drop (suc i) fs) (sym is)) in
    ap (λ (xs : List Factor). map primary_of xs ++ filter p (map primary_of (drop (i + 1) fs))) push
    ∙ by b ∙ ap (λ (c : Bool). map primary_of old ++ cond c (primary_of x ∷ filter p (map primary_of (drop (i + 1) fs))) (filter p (map primary_of (drop (i + 1) fs)))) told
    ∙ ap (λ (xs : List Factor). map primary_of old ++ filter p (map primary_of xs)) (sym here) ∙ so_far
  where
    by : (c : Bool) → map primary_of (cond c (old ++ x ∷ []) old) ++ filter p (map primary_of (drop (i + 1) fs))
        ≡ map primary_of old ++ cond c (primary_of x ∷ filter p (map primary_of (drop (i + 1) fs))) (filter p (map primary_of (drop (i + 1) fs)))
    by true = ap (λ (ps : List Primary). ps ++ filter p (map primary_of (drop (i + 1) fs))) (map-append primary_of old (x ∷ [])) ∙ append_assoc (map primary_of old) (primary_of x ∷ []) (filter p (map primary_of (drop (i + 1) fs)))
    by false = refl

pub next_kept : (q : Factor → Bool) (old more fs : List Factor) (i : ℕ) (x : Factor) (b : Bool) → i < length fs → x ≡ get_or fs i x → more ≡ cond b (old ++ x ∷ []) old
    → list_all q old ≡ true → list_all q (drop i fs) ≡ true → list_all q more ≡ true
next_kept q old more fs i x b lt is push kept left =
    let here : drop i fs ≡ x ∷ drop (i + 1) fs = rw (add-one, drop-cons fs i x) (ap (λ (z : Factor). z ∷ drop (suc i) fs) (sym is)) in
    ap (list_all q) push ∙ by b (and_parts (q x) (list_all q (drop (i + 1) fs)) (ap (list_all q) (sym here) ∙ left)).0
  where
    by : (c : Bool) → q x ≡ true → list_all q (cond c (old ++ x ∷ []) old) ≡ true
    by true h = list_all-append q old (x ∷ []) ∙ (λ j. kept j && (h j && true))
    by false h = kept
