-- The choices of one row per table on which all ties hold and each row is wanted, by the rows of the fact.
use Rattle.std.proofs.Common.{◌≡◌, ℕ, zero, suc, ◌+◌, ◌<◌, ◌==◌, Bool, true, false, not, ◌&&◌, ◌||◌, List, [], ◌∷◌, map, filter, find, length, slice_index_or, Option, Some, None, cond, if◌then◌else◌, refl, sym, ap, ◌∙◌, subst, arith}
use Rattle.std.specs.List.{list_all, zip, filter_map}
use Rattle.std.specs.Option.{option_and_then, option_to_list}
use Rattle.std.proofs.lemmas.Bool.{ne_eqb, eq-eqb, eqb-true}
use Rattle.std.proofs.lemmas.Option.{slice_get_within}
use Rattle.blink_base.specs.Values.{Row, same_value}
use Rattle.blink_lists.specs.Lists.{numbered, numbered_from, choices, are_distinct}
use Rattle.blink_lists.specs.Rearrangement.{Rearranged}
use Rattle.blink_lists.specs.Rearrangement.Rearranged.{followed}
use Rattle.star_meaning.specs.Names.{Scope, FromEntry, Combination}
use Rattle.star_bind.specs.declared.query.Tie.{Tie}
use Rattle.star_bind.specs.Laws.{value_in, row_of_key, tied_row}
use Rattle.blink_lists.specs.Products.{each_passes, each_filtered, with_one, all_there}
use Rattle.blink_lists.proofs.ProductLemmas.{is_one, flat-same, flat-option, taken_out, choices-there}
use Rattle.blink_lists.proofs.PlaceTestLemmas.{each-and, each-all, each-at, filter-choices-same}
use Rattle.blink_lists.proofs.KeyLemmas.{found}
use Rattle.blink_lists.proofs.GroupLemmas.{filter-alike}
use Rattle.star_bind.proofs.TieLemmas.{Each, IsTie, tie_holds, same_value-joins}
use Rattle.star_bind.specs.Joins.{key_at}

pub all-each : {X : Type 0} (Q : X → Type 0) (p q : X → Bool) → ((x : X) → Q x → p x ≡ q x) → (xs : List X) → Each Q xs → list_all p xs ≡ list_all q xs
all-each Q p q h [] e = refl
all-each Q p q h (x ∷ xs) e = λ i. h x e.0 i && all-each Q p q h xs e.1 i

module _ (scope : Scope) (fact : ℕ) (ties : List Tie) (own : ℕ → Row → Bool) where
  -- a row beside a row of the fact: it is wanted, and has the key of each tie of its table
  abbrev keyed : Row → Tie → ℕ → Row → Bool
  keyed r t d x = same_value (value_in x (key_at scope d)) (value_in r t.column)

  abbrev beside_passes : Row → ℕ → Row → Bool
  beside_passes r d x = own d x && list_all (λ t. not (t.dimension == d) || keyed r t d x) ties

  -- the row that a table gives beside a row of the fact
  abbrev pub beside_if : Row → ℕ → FromEntry × List Row → Bool → Option Row
  beside_if r d entry true = if own d r then Some r else None
  beside_if r d entry false = option_and_then (tied_row (entry.0, filter (own d) entry.1) r) (find (λ t. t.dimension == d) ties)

  abbrev pub beside : Row → ℕ × (FromEntry × List Row) → Option Row
  beside r (d, entry) = beside_if r d entry (d == fact)

  -- a dimension has one tie and distinct keys
  abbrev pub IsDimension : ℕ × (FromEntry × List Row) → Type 0
  IsDimension p = (t : Tie) × (k : ℕ) × (find (λ t. t.dimension == p.0) ties ≡ Some t) × (p.1.0.schema.key ≡ Some k) × (key_at scope p.0 ≡ k)
      × ((h : Tie → Bool) → list_all (λ t. not (t.dimension == p.0) || h t) ties ≡ h t) × (are_distinct same_value (map (λ row. value_in row k) p.1.1) ≡ true)

  abbrev pub IsPart : ℕ × (FromEntry × List Row) → Type 0
  IsPart p = (p.0 == fact) ≡ false → IsDimension p

  -- what passes of a dimension is the row that is found
  dimension_is : (r : Row) (d : ℕ) (e : FromEntry) (rows : List Row) → (d == fact) ≡ false → IsDimension (d, (e, rows)) → filter (beside_passes r d) rows ≡ option_to_list (beside r (d, (e, rows)))
  dimension_is r d e rows away (t, k, one, key, same_key, alone, distinct) =
      filter-alike (beside_passes r d) (λ x. own d x && same_value (value_in x k) (value_in r t.column))
      (λ x. ap (λ b. own d x && b) (alone (λ t. keyed r t d x) ∙ ap (λ j. same_value (value_in x j) (value_in r t.column)) same_key)) rows
      ∙ found same_value same_value-joins (λ row. value_in row k) (own d) (value_in r t.column) rows distinct
      ∙ sym (ap (λ o. option_to_list o) (ap (beside_if r d (e, rows)) away ∙ ap (option_and_then (tied_row (e, filter (own d) rows) r)) one ∙ ap (λ o. row_of_key o (filter (own d) rows) (value_in r t.column)) key))

  module _ (tied : Each (IsTie scope fact) ties) where
    not_tied : (r : Row) (d : ℕ) (x : Row) → d ≡ fact → (ts : List Tie) → Each (IsTie scope fact) ts → list_all (λ t. not (t.dimension == d) || keyed r t d x) ts ≡ true
    not_tied r d x e [] all = refl
    not_tied r d x e (t ∷ ts) all =
        let away : (t.dimension == d) ≡ false = ap (λ n. t.dimension == n) e ∙ all.0.4 in
        rw away (not_tied r d x e ts all.1)

    fact_is : (r : Row) (d : ℕ) (e : FromEntry × List Row) → (d == fact) ≡ true → filter (beside_passes r d) (r ∷ []) ≡ option_to_list (beside r (d, e))
    fact_is r d e here =
        ap (λ b. cond (own d r && b) (r ∷ []) []) (not_tied r d r (eqb-true d fact here) ties tied) ∙ by (own d r) ∙ sym (ap (λ b. option_to_list (beside_if r d e b)) here)
      where
        by : (b : Bool) → cond (b && true) (r ∷ []) [] ≡ option_to_list (if b then Some r else None)
        by true = refl
        by false = refl

    parts_behind : (r : Row) (from : ℕ) (es : Scope) (ts : List (List Row)) → length ts ≡ length es → Each IsPart (numbered_from from (zip es ts)) → fact < from
        → each_filtered (beside_passes r) from ts ≡ map option_to_list (map (beside r) (numbered_from from (zip es ts)))
    parts_behind r from [] [] l all f = refl
    parts_behind r from [] (t ∷ ts) l all f = absurd (omega (arith, l))
    parts_behind r from (e ∷ es) [] l all f = absurd (omega (arith, l))
    parts_behind r from (e ∷ es) (t ∷ ts) l all f =
        let away : (from == fact) ≡ false = ne_eqb from fact (λ g. omega (arith, f, g)) in
        λ i. dimension_is r from e t away (all.0 away) i ∷ parts_behind r (from + 1) es ts (omega (arith, l)) all.1 (omega (arith, f)) i

    parts_are : (r : Row) (k from : ℕ) (es : Scope) (ts : List (List Row)) → length ts ≡ length es → Each IsPart (numbered_from from (zip es ts)) → fact ≡ from + k
        → each_filtered (beside_passes r) from (with_one k r ts) ≡ map option_to_list (map (beside r) (numbered_from from (zip es ts)))
    parts_are r k from [] [] l all f = refl
    parts_are r k from [] (t ∷ ts) l all f = absurd (omega (arith, l))
    parts_are r k from (e ∷ es) [] l all f = absurd (omega (arith, l))
    parts_are r zero from (e ∷ es) (t ∷ ts) l all f =
        let here : (from == fact) ≡ true = eq-eqb from fact (omega (arith, f)) in
        λ i. fact_is r from (e, t) here i ∷ parts_behind r (from + 1) es ts (omega (arith, l)) all.1 (omega (arith, f)) i
    parts_are r (suc k) from (e ∷ es) (t ∷ ts) l all f =
        let away : (from == fact) ≡ false = ne_eqb from fact (λ g. omega (arith, f, g)) in
        λ i. dimension_is r from e t away (all.0 away) i ∷ parts_are r k (from + 1) es ts (omega (arith, l)) all.1 (omega (arith, f)) i

    -- the facts of a combination, place by place
    by_places : (rows : Combination) → length rows ≡ length scope
        → (each_passes own 0 rows && list_all (tie_holds scope fact rows) ties) ≡ each_passes (beside_passes (slice_index_or rows fact [])) 0 rows
    by_places rows l = sym (
        each-and own (λ d x. list_all (λ t. not (t.dimension == d) || keyed (slice_index_or rows fact []) t d x) ties) 0 rows
        ∙ ap (λ b. each_passes own 0 rows && b)
        (each-all (λ t d x. not (t.dimension == d) || keyed (slice_index_or rows fact []) t d x) ties 0 rows
        ∙ all-each (IsTie scope fact) (λ t. each_passes (λ d x. not (t.dimension == d) || keyed (slice_index_or rows fact []) t d x) 0 rows) (tie_holds scope fact rows)
        (λ t is. each-at (keyed (slice_index_or rows fact []) t) [] t.dimension 0 t.dimension rows (omega arith) (subst (λ n. t.dimension < n) (sym l) (slice_get_within scope t.dimension is.0 is.2))) ties tied))

    -- what passes, by the rows of the fact
    pub star_choices : (tables : List (List Row)) → fact < length tables → length tables ≡ length scope → Each IsPart (numbered (zip scope tables))
        → Rearranged (filter (λ rows. each_passes own 0 rows && list_all (tie_holds scope fact rows) ties) (choices tables))
        (filter_map (λ r. all_there (map (beside r) (numbered (zip scope tables)))) (slice_index_or tables fact []))
    star_choices tables f l parts =
        followed (is_one (filter-choices-same (λ rows. each_passes own 0 rows && list_all (tie_holds scope fact rows) ties) (λ rows. each_passes (beside_passes (slice_index_or rows fact [])) 0 rows) tables (λ rows m. by_places rows (m ∙ l))))
        (followed (taken_out [] beside_passes fact tables f)
        (is_one (flat-same (λ r. choices (each_filtered (beside_passes r) 0 (with_one fact r tables))) (λ r. option_to_list (all_there (map (beside r) (numbered (zip scope tables)))))
        (λ r. ap choices (parts_are r fact 0 scope tables l parts (omega arith)) ∙ choices-there (map (beside r) (numbered (zip scope tables)))) (slice_index_or tables fact [])
        ∙ flat-option (λ r. all_there (map (beside r) (numbered (zip scope tables)))) (slice_index_or tables fact []))))
