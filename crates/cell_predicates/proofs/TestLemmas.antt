-- Bits of the codes of a class, and the tests that its values pass.
use Rattle.std.proofs.Common.{◌≡◌, ℕ, pos, ◌+◌, ◌<◌, Bool, true, false, not, ◌&&◌, ◌||◌, List, [], ◌∷◌, map, filter, take, replicate, length, get_or, set, nat_lt, nat_le, Some, None, refl, sym, ap, ◌∙◌, arith, inl, inr, IsUtf8}
use Rattle.std.specs.List.{list_all, list_any}
use Rattle.std.specs.declared.cmp.Ordering.{Ordering}
use Rattle.std.specs.declared.cmp.Ordering.TheVariants as order
use Rattle.std.specs.Ordering.{is_eq, is_ne, is_lt, is_le, is_gt, is_ge, ordering_reverse}
use Rattle.std.proofs.lemmas.Bool.{lt-ltb, le-ltb, le-leb, lt-leb, cases_lt, cases_eq, eq-eqb, ne_eqb}
use Rattle.std.proofs.lemmas.List.{ext_get_or, length-map, get_or-map, length-replicate, get_or-replicate, length-set, get_or-set_same, get_or-set_other}
use Rattle.std.proofs.lemmas.List.Folds.{list_any_more, list_all_more}
use Rattle.blink_lists.specs.Lists.{numbered_from}
use Rattle.blink_lists.proofs.BoolLemmas.{and-true, or-true}
use Rattle.blink_lists.proofs.AllLemmas.{all_at}
use Rattle.blink_base.specs.declared.value.Value.{Value}
use Rattle.blink_base.specs.declared.value.Value.TheVariants.{Int, Text, Date}
use Rattle.blink_base.specs.declared.op.Op.TheVariants as op
use Rattle.blink_base.specs.Values.{value_cmp, same_value}
use Rattle.blink_base.specs.ValueOrder.{value_total}
use Rattle.blink_base.specs.RowFits.{is_good}
use Rattle.blink_base.specs.Tests.{op_holds, begins_with}
use Rattle.order_codes.specs.Dictionary.{codes_where}
use Rattle.row_bits.proofs.WordLemmas.{or_none}
use Rattle.row_bits.specs.Bits.{both_true, some_true}
use Rattle.page_synopsis.specs.BitSets.{codes_set, with_range}
use Rattle.page_synopsis.proofs.BitSetLemmas.{length_range, with_range_at}
use Rattle.cell_predicates.specs.Cuts.{IsCut, IsCodeOf}
use Rattle.cell_predicates.specs.Prefixes.{behind_front}
use Rattle.cell_predicates.proofs.PrefixLemmas.{prefix_of_text}

-- bits told place by place
same_map : (values : List Value) (test : Value → Bool) (bits : List Bool) → length bits ≡ length values → ((k : ℕ) (d : Value) → k < length values → get_or bits k false ≡ test (get_or values k d)) → bits ≡ map test values
same_map values test bits long same =
    ext_get_or false bits (map test values) (long ∙ sym (length-map values test))
    (λ k lt. let within : k < length values = omega (arith, lt, long) in same k (Int (pos 0)) within ∙ sym (get_or-map test values k (Int (pos 0)) false within))

-- one range is the codes whose values pass a test
pub range_is : (values : List Value) (test : Value → Bool) (low high : ℕ) → ((k : ℕ) (d : Value) → k < length values → (nat_le low k && nat_lt k high) ≡ test (get_or values k d)) → with_range low high (replicate (length values) false) ≡ map test values
range_is values test low high same =
    let none = replicate (length values) false in
    let long = length-replicate (length values) false in
    same_map values test (with_range low high none) (length_range low high none ∙ long)
    (λ k d lt. with_range_at low high none k (omega (arith, lt, long)) ∙ ap (λ b. b || nat_le low k && nat_lt k high) (get_or-replicate (length values) k false false lt) ∙ same k d lt)

ranges_are : (values : List Value) (test : Value → Bool) (low high first behind : ℕ)
    → ((k : ℕ) (d : Value) → k < length values → ((nat_le low k && nat_lt k high) || (nat_le first k && nat_lt k behind)) ≡ test (get_or values k d)) → with_range first behind (with_range low high (replicate (length values) false)) ≡ map test values
ranges_are values test low high first behind same =
    let none = replicate (length values) false in
    let long = length-replicate (length values) false in
    let one = with_range low high none in
    let one_long = length_range low high none ∙ long in
    same_map values test (with_range first behind one) (length_range first behind one ∙ one_long)
    (λ k d lt.
    with_range_at first behind one k (omega (arith, lt, one_long))
    ∙ ap (λ b. b || nat_le first k && nat_lt k behind) (with_range_at low high none k (omega (arith, lt, long)) ∙ ap (λ b. b || nat_le low k && nat_lt k high) (get_or-replicate (length values) k false false lt))
    ∙ same k d lt)

-- ---- comparisons

not_below : (low k : ℕ) → nat_le low k ≡ not (nat_lt k low)
not_below low k = elim (cases_lt k low) [ inl under ↦ lt-leb low k under ∙ sym (ap not (lt-ltb k low under)) | inr le ↦ le-leb low k le ∙ sym (ap not (le-ltb k low le)) ]

eq_of : (o : Ordering) → (not (is_lt o) && is_le o) ≡ is_eq o
eq_of order.Less = refl
eq_of order.Equal = refl
eq_of order.Greater = refl

ne_of : (o : Ordering) → (is_lt o || not (is_le o)) ≡ is_ne o
ne_of order.Less = refl
ne_of order.Equal = refl
ne_of order.Greater = refl

gt_of : (o : Ordering) → not (is_le o) ≡ is_gt o
gt_of order.Less = refl
gt_of order.Equal = refl
gt_of order.Greater = refl

ge_of : (o : Ordering) → not (is_lt o) ≡ is_ge o
ge_of order.Less = refl
ge_of order.Equal = refl
ge_of order.Greater = refl

turned_le : (o : Ordering) → is_le (ordering_reverse o) ≡ not (is_lt o)
turned_le order.Less = refl
turned_le order.Equal = refl
turned_le order.Greater = refl

-- a value isn't below another where the other is below it or equal to it
pub not_less : (x v : Value) → is_le (value_cmp x v) ≡ not (is_lt (value_cmp v x))
not_less x v = ap is_le (value_total.antisymm x v) ∙ turned_le (value_cmp v x)

module _ (values : List Value) (y : Value) (low high : ℕ) (less : IsCut values (λ v. is_lt (value_cmp v y)) low) (most : IsCut values (λ v. is_le (value_cmp v y)) high) where
  from_zero : (k top : ℕ) → (nat_le 0 k && nat_lt k top) ≡ nat_lt k top
  from_zero k top = ap (λ b. b && nat_lt k top) (le-leb 0 k (omega arith))

  to_last : (k first : ℕ) → k < length values → (nat_le first k && nat_lt k (length values)) ≡ not (nat_lt k first)
  to_last k first lt = (λ i. not_below first k i && lt-ltb k (length values) lt i) ∙ and-true (not (nat_lt k first))

  pub is_less : with_range 0 low (replicate (length values) false) ≡ map (λ v. op_holds op.Less (value_cmp v y)) values
  is_less = range_is values (λ v. op_holds op.Less (value_cmp v y)) 0 low (λ k d lt. from_zero k low ∙ sym (less.1 k d lt))

  pub is_less_equal : with_range 0 high (replicate (length values) false) ≡ map (λ v. op_holds op.LessEqual (value_cmp v y)) values
  is_less_equal = range_is values (λ v. op_holds op.LessEqual (value_cmp v y)) 0 high (λ k d lt. from_zero k high ∙ sym (most.1 k d lt))

  pub is_greater : with_range high (length values) (replicate (length values) false) ≡ map (λ v. op_holds op.Greater (value_cmp v y)) values
  is_greater = range_is values (λ v. op_holds op.Greater (value_cmp v y)) high (length values) (λ k d lt. to_last k high lt ∙ ap not (sym (most.1 k d lt)) ∙ gt_of (value_cmp (get_or values k d) y))

  pub is_greater_equal : with_range low (length values) (replicate (length values) false) ≡ map (λ v. op_holds op.GreaterEqual (value_cmp v y)) values
  is_greater_equal = range_is values (λ v. op_holds op.GreaterEqual (value_cmp v y)) low (length values) (λ k d lt. to_last k low lt ∙ ap not (sym (less.1 k d lt)) ∙ ge_of (value_cmp (get_or values k d) y))

  pub is_equal : with_range low high (replicate (length values) false) ≡ map (λ v. op_holds op.Equal (value_cmp v y)) values
  is_equal = range_is values (λ v. op_holds op.Equal (value_cmp v y)) low high
      (λ k d lt. (λ i. (not_below low k ∙ ap not (sym (less.1 k d lt))) i && sym (most.1 k d lt) i) ∙ eq_of (value_cmp (get_or values k d) y))

  pub is_unequal : with_range high (length values) (with_range 0 low (replicate (length values) false)) ≡ map (λ v. op_holds op.Unequal (value_cmp v y)) values
  is_unequal = ranges_are values (λ v. op_holds op.Unequal (value_cmp v y)) 0 low high (length values)
      (λ k d lt. (λ i. (from_zero k low ∙ sym (less.1 k d lt)) i || (to_last k high lt ∙ ap not (sym (most.1 k d lt))) i) ∙ ne_of (value_cmp (get_or values k d) y))

pub lies_between : (values : List Value) (x y : Value) (low high : ℕ) → IsCut values (λ v. is_lt (value_cmp v x)) low → IsCut values (λ v. is_le (value_cmp v y)) high
    → with_range low high (replicate (length values) false) ≡ map (λ v. is_le (value_cmp x v) && is_le (value_cmp v y)) values
lies_between values x y low high less most =
    range_is values (λ v. is_le (value_cmp x v) && is_le (value_cmp v y)) low high
    (λ k d lt. λ i. (not_below low k ∙ ap not (sym (less.1 k d lt)) ∙ sym (not_less x (get_or values k d))) i && sym (most.1 k d lt) i)

-- ---- one of several

pub member_more : (values ys : List Value) (at code : ℕ) (d : Value) → at < length ys → code < length values → IsCodeOf values (get_or ys at d) (Some code)
    → set (map (λ v. list_any (same_value v) (take at ys)) values) code true ≡ map (λ v. list_any (same_value v) (take (at + 1) ys)) values
member_more values ys at code e in_ys in_values here =
    let old = map (λ v. list_any (same_value v) (take at ys)) values in
    let long = length-map values (λ v. list_any (same_value v) (take at ys)) in
    same_map values (λ v. list_any (same_value v) (take (at + 1) ys)) (set old code true) (length-set old code true ∙ long)
    (λ k d lt.
    let v = get_or values k d in
    let more : list_any (same_value v) (take (at + 1) ys) ≡ (list_any (same_value v) (take at ys) || same_value v (get_or ys at e)) = list_any_more (same_value v) ys at e in_ys in
    elim (cases_eq k code) [
      | inl same ↦
          ap (λ j. get_or (set old code true) j false) same ∙ get_or-set_same old code true false (omega (arith, in_values, long))
          ∙ sym (more ∙ ap (λ b. list_any (same_value v) (take at ys) || b) (here k d lt ∙ eq-eqb k code same) ∙ or-true (list_any (same_value v) (take at ys)))
      | inr ne ↦
          get_or-set_other old code k true false ne ∙ get_or-map (λ w. list_any (same_value w) (take at ys)) values k d false lt
          ∙ sym (more ∙ ap (λ b. list_any (same_value v) (take at ys) || b) (here k d lt ∙ ne_eqb k code ne) ∙ or_none (list_any (same_value v) (take at ys)))
    ])

pub member_less : (values ys : List Value) (at : ℕ) (d : Value) → at < length ys → IsCodeOf values (get_or ys at d) None
    → map (λ v. list_any (same_value v) (take at ys)) values ≡ map (λ v. list_any (same_value v) (take (at + 1) ys)) values
member_less values ys at e in_ys none =
    same_map values (λ v. list_any (same_value v) (take (at + 1) ys)) (map (λ v. list_any (same_value v) (take at ys)) values) (length-map values (λ v. list_any (same_value v) (take at ys)))
    (λ k d lt.
    let v = get_or values k d in
    get_or-map (λ w. list_any (same_value w) (take at ys)) values k d false lt
    ∙ sym (list_any_more (same_value v) ys at e in_ys ∙ ap (λ b. list_any (same_value v) (take at ys) || b) (none k d lt) ∙ or_none (list_any (same_value v) (take at ys))))

-- ---- texts with a prefix

prefix_at : (front : List ℕ) (v : Value) → IsUtf8 front → is_good v ≡ true → begins_with front v ≡ (is_le (value_cmp (Text front) v) && is_lt (value_cmp v (Text (behind_front front))))
prefix_at front (Int n) u good = refl
prefix_at front (Text t) u good = prefix_of_text front t u good
prefix_at front (Date d) u good = refl

pub has_prefix : (values : List Value) (front : List ℕ) (low high : ℕ) → IsUtf8 front → list_all is_good values ≡ true
    → IsCut values (λ v. is_lt (value_cmp v (Text front))) low → IsCut values (λ v. is_lt (value_cmp v (Text (behind_front front)))) high
    → with_range low high (replicate (length values) false) ≡ map (begins_with front) values
has_prefix values front low high u good first behind =
    range_is values (begins_with front) low high
    (λ k d lt.
    (λ i. (not_below low k ∙ ap not (sym (first.1 k d lt)) ∙ sym (not_less (Text front) (get_or values k d))) i && sym (behind.1 k d lt) i)
    ∙ sym (prefix_at front (get_or values k d) u (all_at is_good values k d good lt)))

-- ---- trees

pub all_codes : (values : List Value) → with_range 0 (length values) (replicate (length values) false) ≡ map (λ v. true) values
all_codes values = range_is values (λ v. true) 0 (length values) (λ k d lt. λ i. le-leb 0 k (omega arith) i && lt-ltb k (length values) lt i)

pub no_codes : (values : List Value) → replicate (length values) false ≡ map (λ v. false) values
no_codes values = same_map values (λ v. false) (replicate (length values) false) (length-replicate (length values) false) (λ k d lt. get_or-replicate (length values) k false false lt)

both_maps : (f g : Value → Bool) (values : List Value) → both_true (map f values) (map g values) ≡ map (λ v. f v && g v) values
both_maps f g [] = refl
both_maps f g (v ∷ values) = ap (λ l. (f v && g v) ∷ l) (both_maps f g values)

some_maps : (f g : Value → Bool) (values : List Value) → some_true (map f values) (map g values) ≡ map (λ v. f v || g v) values
some_maps f g [] = refl
some_maps f g (v ∷ values) = ap (λ l. (f v || g v) ∷ l) (some_maps f g values)

pub map_alike : (f g : Value → Bool) → ((v : Value) → f v ≡ g v) → (values : List Value) → map f values ≡ map g values
map_alike f g same [] = refl
map_alike f g same (v ∷ values) = λ i. same v i ∷ map_alike f g same values i

module _ {T : Type 0} (holds : Value → T → Bool) (values : List Value) (trees : List T) (at : ℕ) (d : T) (within : at < length trees) where
  pub all_more : both_true (map (λ v. list_all (holds v) (take at trees)) values) (map (λ v. holds v (get_or trees at d)) values) ≡ map (λ v. list_all (holds v) (take (at + 1) trees)) values
  all_more =
      both_maps (λ v. list_all (holds v) (take at trees)) (λ v. holds v (get_or trees at d)) values
      ∙ map_alike (λ v. list_all (holds v) (take at trees) && holds v (get_or trees at d)) (λ v. list_all (holds v) (take (at + 1) trees)) (λ v. sym (list_all_more (holds v) trees at d within)) values

  pub any_more : some_true (map (λ v. list_any (holds v) (take at trees)) values) (map (λ v. holds v (get_or trees at d)) values) ≡ map (λ v. list_any (holds v) (take (at + 1) trees)) values
  any_more =
      some_maps (λ v. list_any (holds v) (take at trees)) (λ v. holds v (get_or trees at d)) values
      ∙ map_alike (λ v. list_any (holds v) (take at trees) || holds v (get_or trees at d)) (λ v. list_any (holds v) (take (at + 1) trees)) (λ v. sym (list_any_more (holds v) trees at d within)) values

codes_from : (test : Value → Bool) (from : ℕ) (values : List Value) → map (λ p. p.0) (filter (λ p. p.1) (numbered_from from (map test values))) ≡ map (λ p. p.0) (filter (λ p. test p.1) (numbered_from from values))
codes_from test from [] = refl
codes_from test from (v ∷ values) = by (test v) refl (codes_from test (from + 1) values)
  where
    by : (b : Bool) → test v ≡ b → map (λ p. p.0) (filter (λ p. p.1) (numbered_from (from + 1) (map test values))) ≡ map (λ p. p.0) (filter (λ p. test p.1) (numbered_from (from + 1) values))
        → map (λ p. p.0) (filter (λ p. p.1) (numbered_from from (map test (v ∷ values)))) ≡ map (λ p. p.0) (filter (λ p. test p.1) (numbered_from from (v ∷ values)))
    by true e rest = rw e (ap (λ l. from ∷ l) rest)
    by false e rest = rw e rest

-- the codes of the bits of a test
pub codes_of_test : (test : Value → Bool) (values : List Value) → codes_set (map test values) ≡ codes_where test values
codes_of_test test values = codes_from test 0 values
