-- The groups of a cell, added one after another to groups of values.
use Rattle.std.proofs.Common.{◌≡◌, ◌<◌, ◌≤◌, ◌+◌, ◌==◌, ℕ, zero, suc, Bool, true, List, [], ◌∷◌, ◌++◌, length, take, reverse, nat_lt, get_or, slice_index_or, Option, is_some, None, refl, sym, ap, subst, ◌∙◌, arith, true≢false}
use Rattle.std.specs.List.{list_all, zip}
use Rattle.std.proofs.lemmas.Bool.{eqb-true, ltb-true}
use Rattle.std.proofs.lemmas.List.{reverse-append, reverse-reverse}
use Rattle.std.proofs.lemmas.List.Sums.{sum_by-cons}
use Rattle.blink_base.specs.Values.{Row, same_row}
use Rattle.blink_lists.specs.declared.limits.TheConstants.{MOST_ROWS}
use Rattle.blink_lists.proofs.GroupLemmas.{both, and_both}
use Rattle.code_join.specs.Keys.{Keyed}
use Rattle.late_decode.specs.declared.plan.GroupPlan.{GroupPlan}
use Rattle.late_decode.specs.declared.plan.Measure.{Measure}
use Rattle.late_decode.specs.declared.plan.Part.{Part}
use Rattle.late_decode.specs.declared.plan.Pick.{Pick}
use Rattle.late_decode.specs.BoundLaws.{AddedAreGroups, CountsAdded, CountsBounded}
use Rattle.late_decode.specs.Bounds.{are_parts, are_groups, counted_at, combinations_in}
use Rattle.late_decode.specs.Groups.{Grouped, added, groups_added}
use Rattle.late_decode.specs.Parts.{no_part}
use Rattle.order_codes.specs.Dictionary.{Classes}
use Rattle.code_group.specs.Entries.{key_of_entries, sizes_in, size_in, value_of_entry}
use Rattle.code_group.specs.Plans.{are_of_plan, entries_within, fact_picks}
use Rattle.code_group.specs.Slots.{is_within}
use Rattle.code_group.proofs.BoundLemmas.{values-of-plan}
use Rattle.code_group.proofs.EntryLemmas.{length-zip}
use Rattle.code_group.proofs.RowPartLemmas.{length-map, picks-append}
use Rattle.code_group.proofs.SlotLemmas.{within-length}

module _ (columns : List Classes) (classes : List ℕ) (keys : List Keyed) (plan : GroupPlan) (groups : Grouped (List ℕ)) (old : Grouped Row) where
  abbrev key_for : List ℕ → Row
  key_for = key_of_entries columns classes keys plan.keys

  -- some groups are added, and these are ahead
  pub record IsSpilling (ahead : Grouped (List ℕ)) (into : List Measure × Grouped Row) : Type 0 where
    pub measures : into.0 ≡ plan.measures
    pub added : groups_added same_row plan.measures key_for ahead into.1 ≡ groups_added same_row plan.measures key_for groups old
    pub entries : entries_within columns classes keys plan ahead ≡ true
    pub mine : are_of_plan plan ahead ≡ true
    pub theirs : are_of_plan plan into.1 ≡ true
    pub counts : (k : ℕ) → counted_at ahead k + counted_at into.1 k ≤ counted_at groups k + counted_at old k

  abbrev long : List ℕ × List Part → Bool
  long group = length group.0 == length plan.keys

  abbrev within : List ℕ × List Part → Bool
  within group = is_within (sizes_in columns classes keys plan.keys) group.0

  pub begin : (into : List Measure × Grouped Row) (left : Grouped (List ℕ)) → left ≡ reverse groups → into.1 ≡ old → into.0 ≡ plan.measures → entries_within columns classes keys plan groups ≡ true
      → are_of_plan plan groups ≡ true → are_of_plan plan old ≡ true → IsSpilling (reverse left) into
  begin into left turned same measures entries mine theirs =
      let all : reverse left ≡ groups = ap reverse turned ∙ reverse-reverse groups in
      record {
        measures = measures;
        added = λ i. groups_added same_row plan.measures key_for (all i) (same i);
        entries = ap (entries_within columns classes keys plan) all ∙ entries;
        mine = ap (are_of_plan plan) all ∙ mine;
        theirs = ap (are_of_plan plan) same ∙ theirs;
        counts = λ k.
            let a : counted_at (reverse left) k ≡ counted_at groups k = ap (λ (gs : Grouped (List ℕ)). counted_at gs k) all in
            let b : counted_at into.1 k ≡ counted_at old k = ap (λ (gs : Grouped Row). counted_at gs k) same in
            omega (arith, a, b);
      }

  -- the last of those that are left is the first ahead
  pub turned : (left rest : Grouped (List ℕ)) (group : List ℕ × List Part) → left ≡ rest ++ group ∷ [] → reverse left ≡ group ∷ reverse rest
  turned left rest group e = ap reverse e ∙ reverse-append rest (group ∷ [])

  module _ (ahead : Grouped (List ℕ)) (group : List ℕ × List Part) (rest : Grouped (List ℕ)) (into : List Measure × Grouped Row) (next : ahead ≡ group ∷ rest) (had : IsSpilling ahead into) where
    entries-both : (within group ≡ true) × (list_all within rest ≡ true)
    entries-both = both (within group) (list_all within rest) (ap (list_all within) (sym next) ∙ had.entries)

    mine-both : (are_groups plan.measures (group ∷ rest) ≡ true) × (list_all long (group ∷ rest) ≡ true)
    mine-both = both (are_groups plan.measures (group ∷ rest)) (list_all long (group ∷ rest)) (ap (are_of_plan plan) (sym next) ∙ had.mine)

    parts-both : (are_parts plan.measures group.1 ≡ true) × (are_groups plan.measures rest ≡ true)
    parts-both = both (are_parts plan.measures group.1) (are_groups plan.measures rest) mine-both.0

    long-both : (long group ≡ true) × (list_all long rest ≡ true)
    long-both = both (long group) (list_all long rest) mine-both.1

    pub spill-within : is_within (sizes_in columns classes keys plan.keys) group.0 ≡ true
    spill-within = entries-both.0

    pub spill-parts : are_parts into.0 group.1 ≡ true
    spill-parts = ap (λ ms. are_parts ms group.1) had.measures ∙ parts-both.0

    counted : (k : ℕ) → counted_at ahead k ≡ (slice_index_or group.1 k no_part).count + counted_at rest k
    counted k = ap (λ (gs : Grouped (List ℕ)). counted_at gs k) next ∙ sum_by-cons (λ (g : List ℕ × List Part). (slice_index_or g.1 k no_part).count) group rest

    pub spill-few : CountsBounded → combinations_in plan.measures groups + combinations_in plan.measures old ≤ MOST_ROWS → (key : Row) → combinations_in into.0 ((key, group.1) ∷ into.1) ≤ MOST_ROWS
    spill-few bounded few key =
        let ms = plan.measures in
        subst (λ l. combinations_in l ((key, group.1) ∷ into.1) ≤ MOST_ROWS) (sym had.measures)
        ((bounded (counted_at ((key, group.1) ∷ into.1)) (length ms)).1 MOST_ROWS
        (λ k lt.
        let here = sum_by-cons (λ (g : Row × List Part). (slice_index_or g.1 k no_part).count) (key, group.1) into.1 in
        let all = counted k in
        let both_count = had.counts k in
        let one = (bounded (counted_at groups) (length ms)).0 k lt in
        let two = (bounded (counted_at old) (length ms)).0 k lt in
        omega (arith, here, all, both_count, one, two, few)))

    pub spill-step : AddedAreGroups → CountsAdded → (key : Row) (new : List Measure × Grouped Row) → key ≡ key_for group.0 → new.0 ≡ into.0 → new.1 ≡ added same_row into.0 key group.1 into.1 → IsSpilling rest new
    spill-step law counts key new so kept made =
        let ms = plan.measures in
        let done : new.1 ≡ added same_row ms (key_for group.0) group.1 into.1 = made ∙ (λ i. added same_row (had.measures i) (so i) group.1 into.1) in
        let full : length group.0 ≡ length plan.keys = eqb-true (length group.0) (length plan.keys) long-both.0 in
        let wide : length (key_for group.0) ≡ length plan.keys = length-map (λ (p : Pick × ℕ). value_of_entry columns classes keys p.0 p.1) (zip plan.keys group.0) ∙ length-zip plan.keys group.0 full in
        record {
          measures = kept ∙ had.measures;
          added = ap (groups_added same_row ms key_for rest) done ∙ ap (λ gs. groups_added same_row ms key_for gs into.1) (sym next) ∙ had.added;
          entries = entries-both.1;
          mine = and_both (are_groups ms rest) (list_all long rest) parts-both.1 long-both.1;
          theirs = ap (are_of_plan plan) done ∙ values-of-plan law plan (key_for group.0) group.1 into.1 parts-both.0 wide had.theirs;
          counts = λ k.
              let a = counted k in
              let b : counted_at new.1 k ≡ counted_at (added same_row ms (key_for group.0) group.1 into.1) k = ap (λ (gs : Grouped Row). counted_at gs k) done in
              let more = counts ms (key_for group.0) group.1 into.1 k in
              let before = had.counts k in
              omega (arith, a, b, more, before);
        }

  pub spill-end : CountsBounded → (ahead : Grouped (List ℕ)) (into : List Measure × Grouped Row) → ahead ≡ [] → IsSpilling ahead into
      → (into.1 ≡ groups_added same_row plan.measures key_for groups old) × (combinations_in plan.measures into.1 ≤ combinations_in plan.measures groups + combinations_in plan.measures old)
  spill-end bounded ahead into none had =
      let ms = plan.measures in (
        ap (λ gs. groups_added same_row ms key_for gs into.1) (sym none) ∙ had.added,
        (bounded (counted_at into.1) (length ms)).1 (combinations_in ms groups + combinations_in ms old)
            (λ k lt.
            let before = had.counts k in
            let one = (bounded (counted_at groups) (length ms)).0 k lt in
            let two = (bounded (counted_at old) (length ms)).0 k lt in
            omega (arith, before, one, two)),
      )

-- one more, behind the others
pub length-last : {X : Type 0} (xs rest : List X) (x : X) → xs ≡ rest ++ x ∷ [] → length xs ≡ length rest + 1
length-last {X} xs rest x e = ap (λ l. length l) e ∙ by rest
  where
    by : (ys : List X) → length (ys ++ x ∷ []) ≡ length ys + 1
    by [] = refl
    by (y ∷ ys) = let more = by ys in omega (arith, more)

-- nothing is left where nothing is taken
pub nothing-left : {X : Type 0} (o : Option X) (xs : List X) → o ≡ None → (0 < length xs → is_some o ≡ true) → xs ≡ []
nothing-left o [] e h = refl
nothing-left o (x ∷ xs) e h = absurd (true≢false (sym (h (omega arith)) ∙ ap is_some e))

-- ---- a key, entry by entry

module _ (columns : List Classes) (classes : List ℕ) (keys : List Keyed) where
  sizes-many : (picks : List Pick) (entries : List ℕ) → is_within (sizes_in columns classes keys picks) entries ≡ true → length entries ≡ length picks
  sizes-many picks entries h = within-length (sizes_in columns classes keys picks) entries h ∙ length-map (size_in columns classes keys) picks

  pub entry-there : (picks : List Pick) (entries : List ℕ) (at : ℕ) → is_within (sizes_in columns classes keys picks) entries ≡ true → at < length picks → at < length entries
  entry-there picks entries at h lt = omega (arith, sizes-many picks entries h, lt)

  pub entry-within : (picks : List Pick) (entries : List ℕ) (at : ℕ) (d : Pick) → is_within (sizes_in columns classes keys picks) entries ≡ true → at < length picks
      → get_or entries at 0 < size_in columns classes keys (get_or picks at d)
  entry-within [] entries at d h lt = absurd (omega (arith, lt))
  entry-within (p ∷ picks) [] at d h lt = absurd (true≢false (sym h))
  entry-within (p ∷ picks) (e ∷ entries) zero d h lt = ltb-true e (size_in columns classes keys p) (both (nat_lt e (size_in columns classes keys p)) (is_within (sizes_in columns classes keys picks) entries) h).0
  entry-within (p ∷ picks) (e ∷ entries) (suc at) d h lt =
      entry-within picks entries at d (both (nat_lt e (size_in columns classes keys p)) (is_within (sizes_in columns classes keys picks) entries) h).1 (omega (arith, lt))

  key-next : (picks : List Pick) (entries : List ℕ) (at : ℕ) (d : Pick) → at < length picks → at < length entries
      → take (suc at) (key_of_entries columns classes keys picks entries) ≡ take at (key_of_entries columns classes keys picks entries) ++ value_of_entry columns classes keys (get_or picks at d) (get_or entries at 0) ∷ []
  key-next [] entries at d lt le = absurd (omega (arith, lt))
  key-next (p ∷ picks) [] at d lt le = absurd (omega (arith, le))
  key-next (p ∷ picks) (e ∷ entries) zero d lt le = refl
  key-next (p ∷ picks) (e ∷ entries) (suc at) d lt le = ap (λ l. value_of_entry columns classes keys p e ∷ l) (key-next picks entries at d (omega (arith, lt)) (omega (arith, le)))

  pub key-more : (picks : List Pick) (entries : List ℕ) (at : ℕ) (d : Pick) → is_within (sizes_in columns classes keys picks) entries ≡ true → at < length picks
      → take (at + 1) (key_of_entries columns classes keys picks entries) ≡ take at (key_of_entries columns classes keys picks entries) ++ value_of_entry columns classes keys (get_or picks at d) (get_or entries at 0) ∷ []
  key-more picks entries at d h lt =
      let more : at + 1 ≡ suc at = omega arith in
      ap (λ n. take n (key_of_entries columns classes keys picks entries)) more ∙ key-next picks entries at d lt (entry-there picks entries at h lt)

  pub key-long : (picks : List Pick) (entries : List ℕ) → is_within (sizes_in columns classes keys picks) entries ≡ true → length (key_of_entries columns classes keys picks entries) ≡ length picks
  key-long picks entries h = length-map (λ (p : Pick × ℕ). value_of_entry columns classes keys p.0 p.1) (zip picks entries) ∙ length-zip picks entries (sizes-many picks entries h)

picks-next : (picks : List Pick) (at : ℕ) (d : Pick) → at < length picks → (fact_picks (take (suc at) picks) ≡ fact_picks (take at picks) + fact_picks (get_or picks at d ∷ [])) × (fact_picks (take at picks) + fact_picks (get_or picks at d ∷ []) ≤ fact_picks picks)
picks-next [] at d lt = absurd (omega (arith, lt))
picks-next (p ∷ picks) zero d lt = let split = picks-append (p ∷ []) picks in (omega arith, omega (arith, split))
picks-next (p ∷ picks) (suc at) d lt =
    let rest = picks-next picks at d (omega (arith, lt)) in
    let more = picks-append (p ∷ []) (take (suc at) picks) in
    let some = picks-append (p ∷ []) (take at picks) in
    let all = picks-append (p ∷ []) picks in
    (omega (arith, rest.0, more, some), omega (arith, rest.1, some, all))

pub pick-more : (picks : List Pick) (at : ℕ) (d : Pick) → at < length picks → fact_picks (take (at + 1) picks) ≡ fact_picks (take at picks) + fact_picks (get_or picks at d ∷ [])
pick-more picks at d lt = let more : at + 1 ≡ suc at = omega arith in ap (λ n. fact_picks (take n picks)) more ∙ (picks-next picks at d lt).0

pub pick-within : (picks : List Pick) (at : ℕ) (d : Pick) → at < length picks → fact_picks (take at picks) + fact_picks (get_or picks at d ∷ []) ≤ fact_picks picks
pick-within picks at d lt = (picks-next picks at d lt).1
