-- A row that is in no cell: whether its tied values are keys, and what they lead to.
use Rattle.std.proofs.Common.{◌≡◌, ◌<◌, ◌≤◌, ◌+◌, ℕ, zero, suc, Bool, true, false, ◌&&◌, List, [], ◌∷◌, length, drop, slice_index_or, refl, sym, ap, subst, ◌∙◌, arith}
use Rattle.std.specs.List.{list_all, zip}
use Rattle.blink_base.specs.Values.{Row, same_row}
use Rattle.blink_lists.specs.declared.limits.TheConstants.{MOST_ROWS}
use Rattle.blink_lists.proofs.GroupLemmas.{both}
use Rattle.code_join.specs.Keys.{Keyed, is_key}
use Rattle.late_decode.specs.declared.plan.GroupPlan.{GroupPlan}
use Rattle.late_decode.specs.declared.plan.Measure.{Measure}
use Rattle.late_decode.specs.declared.plan.Part.{Part}
use Rattle.late_decode.specs.BoundLaws.{AddedAreGroups, CombinationsAdded, CombinationsTogether, RowsAreParts}
use Rattle.late_decode.specs.Bounds.{are_parts, combinations_in, combinations_of}
use Rattle.late_decode.specs.Groups.{Grouped, added}
use Rattle.late_decode.specs.Parts.{Picked, parts_over}
use Rattle.late_decode.specs.PlannedRows.{key_of}
use Rattle.code_group.specs.Entries.{has_keys, value_at}
use Rattle.code_group.specs.Plans.{are_of_plan, sums_numbers}
use Rattle.code_group.proofs.BoundLemmas.{row-parts, row-combination, values-of-plan}
use Rattle.code_group.proofs.RowPartLemmas.{length-map}

module _ (row : Row) where
  abbrev tied : ℕ × Keyed → Bool
  tied p = is_key p.1 (value_at row p.0)

  -- each tied value is a key
  pub key-joined : (ties : List ℕ) (keys : List Keyed) (tie : ℕ) → length keys ≡ length ties → has_keys ties keys row ≡ true → tie < length keys
      → is_key (slice_index_or keys tie []) (value_at row (slice_index_or ties tie 0)) ≡ true
  key-joined [] [] tie e h lt = absurd (omega (arith, lt))
  key-joined [] (k ∷ keys) tie e h lt = absurd (omega (arith, e))
  key-joined (t ∷ ties) [] tie e h lt = absurd (omega (arith, lt))
  key-joined (t ∷ ties) (k ∷ keys) zero e h lt = (both (tied (t, k)) (list_all tied (zip ties keys)) h).0
  key-joined (t ∷ ties) (k ∷ keys) (suc tie) e h lt = key-joined ties keys tie (omega (arith, e)) (both (tied (t, k)) (list_all tied (zip ties keys)) h).1 (omega (arith, lt))

  has-next : (ties : List ℕ) (keys : List Keyed) (tie : ℕ) → length keys ≡ length ties → tie < length ties
      → has_keys (drop tie ties) (drop tie keys) row ≡ (is_key (slice_index_or keys tie []) (value_at row (slice_index_or ties tie 0)) && has_keys (drop (suc tie) ties) (drop (suc tie) keys) row)
  has-next [] keys tie e lt = absurd (omega (arith, lt))
  has-next (t ∷ ties) [] tie e lt = absurd (omega (arith, e))
  has-next (t ∷ ties) (k ∷ keys) zero e lt = refl
  has-next (t ∷ ties) (k ∷ keys) (suc tie) e lt = has-next ties keys tie (omega (arith, e)) (omega (arith, lt))

  module _ (ties : List ℕ) (keys : List Keyed) (tie : ℕ) (many : length keys ≡ length ties) (lt : tie < length ties) (b : Bool) (here : is_key (slice_index_or keys tie []) (value_at row (slice_index_or ties tie 0)) ≡ b) where
    both-of : has_keys (drop tie ties) (drop tie keys) row ≡ (b && has_keys (drop (tie + 1) ties) (drop (tie + 1) keys) row)
    both-of =
        let more : suc tie ≡ tie + 1 = omega arith in
        has-next ties keys tie many lt ∙ (λ i. here i && has_keys (drop (more i) ties) (drop (more i) keys) row)

    -- where a tied value is a key, the others decide
    pub keys-next : b ≡ true → has_keys (drop (tie + 1) ties) (drop (tie + 1) keys) row ≡ has_keys (drop tie ties) (drop tie keys) row
    keys-next e = sym (both-of ∙ ap (λ c. c && has_keys (drop (tie + 1) ties) (drop (tie + 1) keys) row) e)

    -- where it is none, the row has not all
    pub keys-none : b ≡ false → has_keys (drop tie ties) (drop tie keys) row ≡ false
    keys-none e = both-of ∙ ap (λ c. c && has_keys (drop (tie + 1) ties) (drop (tie + 1) keys) row) e

-- ---- its key and its parts, added to groups

module _ (plan : GroupPlan) (at : Picked) (into : List Measure × Grouped Row) (key : Row) (parts : List Part) (measures : into.0 ≡ plan.measures) (key-is : key ≡ key_of plan.keys at)
    (parts-are : parts ≡ parts_over plan.measures (at ∷ [])) (sums : sums_numbers plan at ≡ true) where
  good : RowsAreParts → are_parts plan.measures parts ≡ true
  good law = ap (are_parts plan.measures) parts-are ∙ row-parts law plan.measures at sums

  one : combinations_of parts ≤ 1
  one = let few = row-combination plan.measures at in let same = ap combinations_of parts-are in omega (arith, few, same)

  pub rest-parts : RowsAreParts → are_parts into.0 parts ≡ true
  rest-parts law = ap (λ ms. are_parts ms parts) measures ∙ good law

  pub rest-few : CombinationsTogether → combinations_in plan.measures into.1 + 1 ≤ MOST_ROWS → combinations_in into.0 ((key, parts) ∷ into.1) ≤ MOST_ROWS
  rest-few law few =
      let all = law plan.measures key parts into.1 in
      let small = one in
      let done : combinations_in plan.measures ((key, parts) ∷ into.1) ≤ MOST_ROWS = omega (arith, all, few, small) in
      subst (λ ms. combinations_in ms ((key, parts) ∷ into.1) ≤ MOST_ROWS) (sym measures) done

  module _ (new : Grouped Row) (made : new ≡ added same_row into.0 key parts into.1) where
    planned : new ≡ added same_row plan.measures key parts into.1
    planned = made ∙ ap (λ ms. added same_row ms key parts into.1) measures

    pub rest-made : new ≡ added same_row plan.measures (key_of plan.keys at) (parts_over plan.measures (at ∷ [])) into.1
    rest-made = planned ∙ (λ i. added same_row plan.measures (key-is i) (parts-are i) into.1)

    pub rest-groups : AddedAreGroups → RowsAreParts → are_of_plan plan into.1 ≡ true → are_of_plan plan new ≡ true
    rest-groups groups rows had =
        ap (are_of_plan plan) planned ∙ values-of-plan groups plan key parts into.1 (good rows) (ap (λ k. length k) key-is ∙ length-map at plan.keys) had

    pub rest-fewer : CombinationsAdded → combinations_in plan.measures new ≤ combinations_in plan.measures into.1 + 1
    rest-fewer law =
        let same = ap (combinations_in plan.measures) planned in
        let more = law plan.measures key parts into.1 in
        let small = one in
        omega (arith, same, more, small)
