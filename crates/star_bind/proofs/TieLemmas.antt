-- The comparisons of two columns in a star query, as ties: each is true of a combination where the dimension's row has the key that the fact's row names.
use Rattle.std.proofs.Common.{◌≡◌, ℕ, ◌==◌, Bool, true, false, not, ◌&&◌, ◌||◌, List, [], ◌∷◌, ◌++◌, map, length, slice_get, slice_index_or, Option, Some, None, option_map, refl, sym, ap, ◌∙◌, subst, true≢false}
use Rattle.std.specs.Bool.{⊤}
use Rattle.std.specs.List.{list_all}
use Rattle.std.specs.Option.{option_map_or}
use Rattle.std.specs.Cmp.{Equal-is}
use Rattle.std.proofs.lemmas.Cmp.{eq_by_cmp_equiv}
use Rattle.std.proofs.lemmas.Bool.{and_parts, eqb-true}
use Rattle.std.proofs.lemmas.List.{append-nil}
use Rattle.std.proofs.lemmas.List.Folds.{list_all-append}
use Rattle.blink_base.specs.declared.value.Value.{Value}
use Rattle.blink_base.specs.declared.op.Op.{Op}
use Rattle.blink_base.specs.declared.op.Op.TheVariants as op
use Rattle.blink_base.specs.Values.{value_cmp, same_value}
use Rattle.blink_base.specs.Tests.{op_holds}
use Rattle.blink_base.specs.ValueOrder.{value_total, value_same}
use Rattle.blink_lists.specs.Lists.{joined}
use Rattle.star_sql.specs.declared.ast.TestWords.TheVariants.{Compare, Columns, Between, Among, Like}
use Rattle.star_sql.specs.declared.ast.Primary.{Primary, Test, Group'}
use Rattle.star_meaning.specs.Names.{Scope, FromEntry, Combination, ColumnPlace, place_of, value_at}
use Rattle.star_meaning.specs.Truth.{of_both}
use Rattle.star_bind.specs.declared.query.Tie.{Tie}
use Rattle.star_bind.specs.StarForm.{ColumnPair, pair_of, pairs_in, is_pair_factor, is_equality, is_key, tie_if, tie_read, tie_from, ties_in}
use Rattle.star_bind.specs.Laws.{factor_holds, value_in}
use Rattle.star_bind.specs.Joins.{key_in, key_at}
use Rattle.blink_lists.proofs.BoolLemmas.{and-true}

-- P of each element
abbrev pub Each : {X : Type 0} → (X → Type 0) → List X → Type 0
Each P [] = ⊤
Each P (x ∷ xs) = P x × Each P xs

pub each-append : {X : Type 0} (P : X → Type 0) (xs ys : List X) → Each P xs → Each P ys → Each P (xs ++ ys)
each-append P [] ys a b = b
each-append P (x ∷ xs) ys a b = (a.0, each-append P xs ys a.1 b)

pub same_value-back : (x y : Value) → same_value x y ≡ same_value y x
same_value-back x y = (eq_by_cmp_equiv value_total).symm x y

pub same_value-joins : (a b v : Value) → same_value a v ≡ true → same_value b v ≡ true → same_value a b ≡ true
same_value-joins a b v e f = subst (λ x. same_value a x ≡ true) (sym (value_same b v ((Equal-is (value_cmp b v)).0 f))) e

-- whether the dimension's row has the key that the fact's row names
abbrev pub tie_holds : Scope → ℕ → Combination → Tie → Bool
tie_holds scope fact rows t = same_value (value_in (slice_index_or rows t.dimension []) (key_at scope t.dimension)) (value_in (slice_index_or rows fact []) t.column)

-- a tie names another table that is there and has a key
abbrev pub IsTie : Scope → ℕ → Tie → Type 0
IsTie scope fact t = (e : FromEntry) × (k : ℕ) × (slice_get scope t.dimension ≡ Some e) × (e.schema.key ≡ Some k) × ((t.dimension == fact) ≡ false)

not-true : (a : Bool) → not a ≡ true → a ≡ false
not-true true h = absurd (true≢false (sym h))
not-true false h = refl

equality_is : (o : Op) → is_equality o ≡ true → o ≡ op.Equal
equality_is op.Equal e = refl
equality_is op.Unequal e = absurd (true≢false (sym e))
equality_is op.Less e = absurd (true≢false (sym e))
equality_is op.LessEqual e = absurd (true≢false (sym e))
equality_is op.Greater e = absurd (true≢false (sym e))
equality_is op.GreaterEqual e = absurd (true≢false (sym e))

key_there : (o : Option ℕ) (column : ℕ) → option_map_or (λ k. k == column) o false ≡ true → (k : ℕ) × (o ≡ Some k) × (k ≡ column)
key_there None column e = absurd (true≢false (sym e))
key_there (Some k) column e = (k, refl, eqb-true k column e)

entry_there : (o : Option FromEntry) (column : ℕ) → option_map_or (λ e. option_map_or (λ k. k == column) e.schema.key false) o false ≡ true
    → (e : FromEntry) × (k : ℕ) × (o ≡ Some e) × (e.schema.key ≡ Some k) × (k ≡ column)
entry_there None column e = absurd (true≢false (sym e))
entry_there (Some x) column e = let k = key_there x.schema.key column e in (x, k.0, refl, k.1, k.2)

module _ (scope : Scope) (fact : ℕ) where
  abbrev guard : Op → ColumnPlace → ColumnPlace → Bool
  guard o mine other = mine.table == fact && not (other.table == fact) && is_key scope other && is_equality o

  abbrev Guarded : Op → ColumnPlace → ColumnPlace → Type 0
  Guarded o mine other = (mine.table ≡ fact) × ((other.table == fact) ≡ false) × (key_at scope other.table ≡ other.column) × (o ≡ op.Equal) × IsTie scope fact (record { dimension = other.table; column = mine.column })

  guarded : (o : Op) (mine other : ColumnPlace) → guard o mine other ≡ true → Guarded o mine other
  guarded o mine other g =
      let a = and_parts (mine.table == fact && not (other.table == fact) && is_key scope other) (is_equality o) g in
      let b = and_parts (mine.table == fact && not (other.table == fact)) (is_key scope other) a.0 in
      let c = and_parts (mine.table == fact) (not (other.table == fact)) b.0 in
      let e = entry_there (slice_get scope other.table) other.column b.1 in
      let away = not-true (other.table == fact) c.1 in
      (eqb-true mine.table fact c.0, away, ap (λ (x : Option FromEntry). option_map_or (λ e. key_in e.schema.key) x 0) e.2 ∙ ap key_in e.3 ∙ e.4, equality_is o a.1, (e.0, e.1, e.2, e.3, away))

  read_is : (o : Op) (mine other : ColumnPlace) → Each (IsTie scope fact) (tie_read scope fact o mine other)
  read_is o mine other = by (guard o mine other) refl
    where
      by : (b : Bool) → guard o mine other ≡ b → Each (IsTie scope fact) (tie_if b mine other)
      by true e = ((guarded o mine other e).4, tt)
      by false e = tt

  pub from_is : (pair : ColumnPair) → Each (IsTie scope fact) (tie_from scope fact pair)
  from_is pair = each-append (IsTie scope fact) (tie_read scope fact pair.op pair.left pair.right) (tie_read scope fact pair.op pair.right pair.left)
      (read_is pair.op pair.left pair.right) (read_is pair.op pair.right pair.left)

  pairs_is : (pairs : List ColumnPair) → Each (IsTie scope fact) (joined (map (tie_from scope fact) pairs))
  pairs_is [] = tt
  pairs_is (pair ∷ pairs) = each-append (IsTie scope fact) (tie_from scope fact pair) (joined (map (tie_from scope fact) pairs)) (from_is pair) (pairs_is pairs)

  pub each_is : (fs : List Primary) → Each (IsTie scope fact) (joined (map (ties_in scope fact) fs))
  each_is [] = tt
  each_is (f ∷ fs) = each-append (IsTie scope fact) (ties_in scope fact f) (joined (map (ties_in scope fact) fs)) (pairs_is (pairs_in scope f)) (each_is fs)

  module _ (rows : Combination) where
    -- the tie that two places are, as a fact of a combination
    read_holds : (o : Op) (mine other : ColumnPlace) → guard o mine other ≡ true → tie_holds scope fact rows (record { dimension = other.table; column = mine.column }) ≡ same_value (value_at rows other) (value_at rows mine)
    read_holds o mine other g =
        let h = guarded o mine other g in
        λ i. same_value (value_in (slice_index_or rows other.table []) (h.2 i)) (value_in (slice_index_or rows (sym h.0 i) []) mine.column)

    abbrev pair_true : ColumnPair → Bool
    pair_true pair = op_holds pair.op (value_cmp (value_at rows pair.left) (value_at rows pair.right))

    pub pair_holds : (pair : ColumnPair) → (length (tie_from scope fact pair) == 1) ≡ true → pair_true pair ≡ list_all (tie_holds scope fact rows) (tie_from scope fact pair)
    pair_holds pair one = by (guard pair.op pair.left pair.right) (guard pair.op pair.right pair.left) refl refl one
      where
        by : (b c : Bool) → guard pair.op pair.left pair.right ≡ b → guard pair.op pair.right pair.left ≡ c
            → (length (tie_if b pair.left pair.right ++ tie_if c pair.right pair.left) == 1) ≡ true
            → pair_true pair ≡ list_all (tie_holds scope fact rows) (tie_if b pair.left pair.right ++ tie_if c pair.right pair.left)
        by true true e f l = absurd (true≢false (sym l))
        by true false e f l =
            let h = guarded pair.op pair.left pair.right e in
            ap (λ o. op_holds o (value_cmp (value_at rows pair.left) (value_at rows pair.right))) h.3
            ∙ same_value-back (value_at rows pair.left) (value_at rows pair.right)
            ∙ sym (read_holds pair.op pair.left pair.right e) ∙ sym (and-true (tie_holds scope fact rows (record { dimension = pair.right.table; column = pair.left.column })))
        by false true e f l =
            let h = guarded pair.op pair.right pair.left f in
            ap (λ o. op_holds o (value_cmp (value_at rows pair.left) (value_at rows pair.right))) h.3
            ∙ sym (read_holds pair.op pair.right pair.left f) ∙ sym (and-true (tie_holds scope fact rows (record { dimension = pair.left.table; column = pair.right.column })))
        by false false e f l = absurd (true≢false (sym l))

    -- whether a factor that compares two columns is one tie
    abbrev pub is_single : Primary → Bool
    is_single f = not (is_pair_factor f) || length (ties_in scope fact f) == 1

    ties_alone : (ol : Option ColumnPlace) (o : Op) (or : Option ColumnPlace) → (length (joined (map (tie_from scope fact) (pair_of ol o or))) == 1) ≡ true
        → of_both (λ x y. op_holds o (value_cmp x y)) (option_map (value_at rows) ol) (option_map (value_at rows) or) ≡ list_all (tie_holds scope fact rows) (joined (map (tie_from scope fact) (pair_of ol o or)))
    ties_alone None o r one = absurd (true≢false (sym one))
    ties_alone (Some l) o None one = absurd (true≢false (sym one))
    ties_alone (Some l) o (Some r) one =
        let pair : ColumnPair = record { left = l; op = o; right = r } in
        pair_holds pair (ap (λ ts. length ts == 1) (sym (append-nil (tie_from scope fact pair))) ∙ one) ∙ ap (list_all (tie_holds scope fact rows)) (sym (append-nil (tie_from scope fact pair)))

    factor_ties : (f : Primary) → is_single f ≡ true → (not (is_pair_factor f) || factor_holds scope rows f) ≡ list_all (tie_holds scope fact rows) (ties_in scope fact f)
    factor_ties (Test (Columns l o r)) one = ties_alone (place_of scope l) o (place_of scope r) one
    factor_ties (Test (Compare column o l)) one = refl
    factor_ties (Test (Between column low high)) one = refl
    factor_ties (Test (Among column list)) one = refl
    factor_ties (Test (Like column pattern)) one = refl
    factor_ties (Group' shape c) one = refl

    -- the comparisons of two columns among factors are the ties
    pub all_ties : (fs : List Primary) → list_all is_single fs ≡ true
        → list_all (λ f. not (is_pair_factor f) || factor_holds scope rows f) fs ≡ list_all (tie_holds scope fact rows) (joined (map (ties_in scope fact) fs))
    all_ties [] one = refl
    all_ties (f ∷ fs) one =
        let parts = and_parts (is_single f) (list_all is_single fs) one in
        (λ i. factor_ties f parts.0 i && all_ties fs parts.1 i) ∙ sym (list_all-append (tie_holds scope fact rows) (ties_in scope fact f) (joined (map (ties_in scope fact) fs)))
