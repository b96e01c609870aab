-- The columns of a table among named ones, with one more that is named.
use Rattle.std.proofs.Common.{◌≡◌, ℕ, ◌==◌, Bool, true, false, not, ◌||◌, List, [], ◌∷◌, ◌++◌, map, filter, cond, refl, sym, ap, ◌∙◌}
use Rattle.std.specs.List.{list_any}
use Rattle.std.proofs.lemmas.List.{append-nil, map-append}
use Rattle.std.proofs.lemmas.List.Elements.{filter-append}
use Rattle.blink_lists.specs.Lists.{once_each}
use Rattle.blink_lists.proofs.AllLemmas.{numbers_same}
use Rattle.blink_lists.proofs.GroupLemmas.{once_each-any}
use Rattle.star_bind.specs.declared.query.ColumnRef.{ColumnRef}
use Rattle.star_select.specs.WantedColumns.{wanted_of, with_wanted}

-- the number, where it isn't there yet
abbrev added : Bool → ℕ → List ℕ
added true k = []
added false k = k ∷ []

added-others : (x k : ℕ) (m : Bool) → filter (λ y. not (x == y)) (added m k) ≡ added ((x == k) || m) k
added-others x k m = by (x == k) m refl
  where
    by : (b m : Bool) → (x == k) ≡ b → filter (λ y. not (x == y)) (added m k) ≡ added ((x == k) || m) k
    by true true e = rw e refl
    by true false e = rw e refl
    by false true e = rw e refl
    by false false e = rw e refl

once_each-push : (ks : List ℕ) (k : ℕ) → once_each (λ x y. x == y) (ks ++ k ∷ []) ≡ once_each (λ x y. x == y) ks ++ added (list_any (λ c. c == k) ks) k
once_each-push [] k = refl
once_each-push (x ∷ ks) k =
    ap (λ l. x ∷ filter (λ y. not (x == y)) l) (once_each-push ks k)
    ∙ ap (λ l. x ∷ l) (filter-append (λ y. not (x == y)) (once_each (λ x y. x == y) ks) (added (list_any (λ c. c == k) ks) k))
    ∙ ap (λ l. x ∷ (filter (λ y. not (x == y)) (once_each (λ x y. x == y) ks) ++ l)) (added-others x k (list_any (λ c. c == k) ks))

-- one more named column
pub wanted-push : (table : ℕ) (refs : List ColumnRef) (r : ColumnRef) → wanted_of table (refs ++ r ∷ []) ≡ with_wanted table (wanted_of table refs) r
wanted-push table refs r = by (r.table == table) refl
  where
    columns : List ColumnRef → List ℕ
    columns rs = map (λ (q : ColumnRef). q.column) (filter (λ (q : ColumnRef). q.table == table) rs)

    behind : columns (refs ++ r ∷ []) ≡ columns refs ++ columns (r ∷ [])
    behind = ap (map (λ (q : ColumnRef). q.column)) (filter-append (λ (q : ColumnRef). q.table == table) refs (r ∷ [])) ∙ map-append (λ (q : ColumnRef). q.column) (filter (λ (q : ColumnRef). q.table == table) refs) (filter (λ (q : ColumnRef). q.table == table) (r ∷ []))

    known : list_any (λ c. c == r.column) (wanted_of table refs) ≡ list_any (λ c. c == r.column) (columns refs)
    known = once_each-any (λ (x y : ℕ). x == y) numbers_same r.column (columns refs)

    at : (b : Bool) → list_any (λ c. c == r.column) (wanted_of table refs) ≡ b → wanted_of table refs ++ added b r.column ≡ cond b (wanted_of table refs) (wanted_of table refs ++ r.column ∷ [])
    at true e = append-nil (wanted_of table refs)
    at false e = refl

    by : (b : Bool) → (r.table == table) ≡ b → wanted_of table (refs ++ r ∷ []) ≡ with_wanted table (wanted_of table refs) r
    by true e =
        let one : columns (r ∷ []) ≡ r.column ∷ [] = rw e refl in
        ap (once_each (λ (x y : ℕ). x == y)) (behind ∙ ap (λ l. columns refs ++ l) one)
        ∙ once_each-push (columns refs) r.column
        ∙ ap (λ b. wanted_of table refs ++ added b r.column) (sym known)
        ∙ rw e (at (list_any (λ c. c == r.column) (wanted_of table refs)) refl)
    by false e =
        let none : columns (r ∷ []) ≡ [] = rw e refl in
        ap (once_each (λ (x y : ℕ). x == y)) (behind ∙ ap (λ l. columns refs ++ l) none ∙ append-nil (columns refs))
        ∙ rw e refl
