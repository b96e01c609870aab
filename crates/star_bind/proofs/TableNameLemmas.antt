-- Each filter of a star query is of one of its tables.
use Rattle.std.proofs.Common.{◌≡◌, ℕ, zero, suc, ◌+◌, ◌<◌, ◌==◌, Bool, true, false, not, ◌&&◌, ◌||◌, List, [], ◌∷◌, map, filter, length, Option, Some, None, cond, refl, sym, ap, subst, true≢false, arith}
use Rattle.std.specs.Prelude.{filter_map, nat_le}
use Rattle.std.specs.List.{list_all, list_any, cons_option}
use Rattle.std.specs.Option.{option_map_or, is_some}
use Rattle.std.specs.Str.{bytes_eq}
use Rattle.std.proofs.lemmas.Bool.{eq-eqb, leb-true}
use Rattle.blink_base.specs.declared.schema.Column.{Column}
use Rattle.blink_lists.specs.Lists.{joined, once_each, only_one, numbered_from, numbers_from}
use Rattle.star_sql.specs.declared.ast.ColumnName.{ColumnName}
use Rattle.star_sql.specs.declared.ast.TestWords.{TestWords}
use Rattle.star_sql.specs.declared.ast.Primary.{Primary}
use Rattle.star_sql.specs.Literals.{column_of}
use Rattle.star_meaning.specs.Names.{Scope, FromEntry, ColumnPlace, is_meant, place_if, places_in, places, place_of}
use Rattle.star_bind.specs.Factors.{tests_in}
use Rattle.star_bind.specs.StarForm.{tables_in}
use Rattle.star_bind.proofs.TieLemmas.{Each, each-append}

-- a place that a name means lies in a table that is there
columns-at : (c : ColumnName) (t : ℕ) (entry : FromEntry) (from : ℕ) (columns : List Column)
    → Each (λ p. p.table ≡ t) (filter_map (λ at. place_if (is_meant c.table entry && bytes_eq c.column at.1.name) t at.0) (numbered_from from columns))
columns-at c t entry from [] = tt
columns-at c t entry from (column ∷ columns) = by (is_meant c.table entry && bytes_eq c.column column.name) (columns-at c t entry (from + 1) columns)
  where
    by : (b : Bool) → Each (λ p. p.table ≡ t) (filter_map (λ at. place_if (is_meant c.table entry && bytes_eq c.column at.1.name) t at.0) (numbered_from (from + 1) columns))
        → Each (λ p. p.table ≡ t) (cons_option (place_if b t from) (filter_map (λ at. place_if (is_meant c.table entry && bytes_eq c.column at.1.name) t at.0) (numbered_from (from + 1) columns)))
    by true more = (refl, more)
    by false more = more

pub each-weaker : {X : Type 0} (P Q : X → Type 0) → ((x : X) → P x → Q x) → (xs : List X) → Each P xs → Each Q xs
each-weaker P Q h [] e = tt
each-weaker P Q h (x ∷ xs) e = (h x e.0, each-weaker P Q h xs e.1)

places-from : (c : ColumnName) (n from : ℕ) (es : Scope) → from + length es ≡ n → Each (λ p. p.table < n) (joined (map (places_in c) (numbered_from from es)))
places-from c n from [] l = tt
places-from c n from (e ∷ es) l =
    each-append (λ p. p.table < n) (places_in c (from, e)) (joined (map (places_in c) (numbered_from (from + 1) es)))
    (each-weaker (λ p. p.table ≡ from) (λ p. p.table < n) (λ p h. omega (arith, l, h)) (places_in c (from, e)) (columns-at c from e 0 e.schema.columns))
    (places-from c n (from + 1) es (omega (arith, l)))

abbrev some : {X : Type 0} → X → Option X → X
some x None = x
some x (Some y) = y

pub only-of : {X : Type 0} (P : X → Type 0) (xs : List X) (x : X) → Each P xs → only_one xs ≡ Some x → P x
only-of P [] x e h = absurd (true≢false (ap is_some (sym h)))
only-of P (y ∷ []) x e h = subst P (ap (some y) h) e.0
only-of P (y ∷ z ∷ ys) x e h = absurd (true≢false (ap is_some (sym h)))

pub place-within : (scope : Scope) (c : ColumnName) (p : ColumnPlace) → place_of scope c ≡ Some p → p.table < length scope
place-within scope c p e = only-of (λ q. q.table < length scope) (places scope c) p (places-from c (length scope) 0 scope (omega arith)) e

-- a number below n stands among the first n
number-there : (q : ℕ → Bool) (k n from : ℕ) → q (from + k) ≡ true → k < n → list_any q (numbers_from from n) ≡ true
number-there q k zero from e l = absurd (omega (arith, l))
number-there q zero (suc n) from e l = ap (λ b. b || list_any q (numbers_from (from + 1) n)) (subst (λ j. q j ≡ true) (omega arith) e)
number-there q (suc k) (suc n) from e l = rw (number-there q k n (from + 1) (subst (λ j. q j ≡ true) (omega arith) e) (omega (arith, l))) (or-true (q from))
  where
    or-true : (b : Bool) → (b || true) ≡ true
    or-true true = refl
    or-true false = refl

-- all columns that a factor names are this table's
abbrev pub is_named : Scope → Primary → ℕ → Bool
is_named scope f table = list_all (λ t. t == table) (tables_in scope f)

each-filter : {X : Type 0} (P : X → Type 0) (p : X → Bool) (xs : List X) → Each P xs → Each P (filter p xs)
each-filter P p [] e = tt
each-filter {X = X} P p (x ∷ xs) e = by (p x) e.0 (each-filter P p xs e.1)
  where
    by : (b : Bool) → P x → Each P (filter p xs) → Each P (cond b (x ∷ filter p xs) (filter p xs))
    by true h more = (h, more)
    by false h more = more

each-once : {X : Type 0} (P : X → Type 0) (eq : X → X → Bool) (xs : List X) → Each P xs → Each P (once_each eq xs)
each-once P eq [] e = tt
each-once P eq (x ∷ xs) e = (e.0, each-filter P (λ y. not (eq x y)) (once_each eq xs) (each-once P eq xs e.1))

tables-within : (scope : Scope) (ws : List TestWords) → Each (λ t. t < length scope) (filter_map (λ words. option_map_or (λ p. Some p.table) (place_of scope (column_of words)) None) ws)
tables-within scope [] = tt
tables-within scope (w ∷ ws) = by (place_of scope (column_of w)) refl (tables-within scope ws)
  where
    by : (o : Option ColumnPlace) → place_of scope (column_of w) ≡ o → Each (λ t. t < length scope) (filter_map (λ words. option_map_or (λ p. Some p.table) (place_of scope (column_of words)) None) ws)
        → Each (λ t. t < length scope) (cons_option (option_map_or (λ p. Some p.table) o None) (filter_map (λ words. option_map_or (λ p. Some p.table) (place_of scope (column_of words)) None) ws))
    by None e more = more
    by (Some p) e more = (place-within scope (column_of w) p e, more)

-- a factor that names at most one table is of some table
pub one_named : (scope : Scope) (f : Primary) → 0 < length scope → nat_le (length (tables_in scope f)) 1 ≡ true → list_any (is_named scope f) (numbers_from 0 (length scope)) ≡ true
one_named scope f some alone = by (tables_in scope f) (each-once (λ t. t < length scope) (λ x y. x == y) (filter_map (λ words. option_map_or (λ p. Some p.table) (place_of scope (column_of words)) None) (tests_in f)) (tables-within scope (tests_in f))) alone
  where
    by : (ts : List ℕ) → Each (λ t. t < length scope) ts → nat_le (length ts) 1 ≡ true → list_any (λ table. list_all (λ t. t == table) ts) (numbers_from 0 (length scope)) ≡ true
    by [] e l = number-there (λ table. true) 0 (length scope) 0 refl some
    by (t ∷ []) e l = number-there (λ table. (t == table) && true) t (length scope) 0 (ap (λ b. b && true) (eq-eqb t (0 + t) (omega arith))) e.0
    by (t ∷ u ∷ ts) e l = absurd (let h = leb-true (length (t ∷ u ∷ ts)) 1 l in omega (arith, h))
