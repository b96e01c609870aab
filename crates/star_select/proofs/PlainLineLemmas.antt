-- Where a line stands for a row, groups give the lines of their rows, as often as there are rows.
use Rattle.std.proofs.Common.{◌≡◌, ℕ, pos, ◌+◌, Bool, true, not, ◌&&◌, List, [], ◌∷◌, ◌++◌, map, length, slice_index_or, refl, sym, ap, ◌∙◌, subst, true≢false, append_assoc, length-append}
use Rattle.std.specs.Prelude.{replicate}
use Rattle.std.specs.List.{list_all, flat_map}
use Rattle.std.proofs.lemmas.List.{length-map}
use Rattle.blink_base.specs.declared.value.Value.{Value}
use Rattle.blink_base.specs.declared.value.Value.TheVariants.{Int}
use Rattle.blink_base.specs.Values.{Row, same_row}
use Rattle.blink_base.specs.Lines.{Line, field_of, TellsRows}
use Rattle.blink_lists.specs.Groups.{with_key}
use Rattle.blink_lists.specs.Lists.{once_each, numbered, numbered_from}
use Rattle.blink_lists.specs.Rearrangement.{Rearranged}
use Rattle.blink_lists.proofs.AllLemmas.{all-passing}
use Rattle.blink_lists.proofs.GroupLemmas.{both, groups_rearrange}
use Rattle.blink_lists.proofs.ProductLemmas.{map-flat, flat-same}
use Rattle.blink_lists.proofs.RearrangementLemmas.{map-rearranged}
use Rattle.star_meaning.specs.Names.{Combination}
use Rattle.star_bind.specs.declared.query.ColumnRef.{ColumnRef}
use Rattle.star_bind.specs.declared.query.BoundItem.{BoundItem}
use Rattle.star_bind.specs.declared.query.BoundItem.TheVariants.{Column, Count, Sum, Average, Least, Greatest}
use Rattle.star_bind.specs.declared.query.Query.{Query}
use Rattle.star_bind.specs.BoundAnswer.{ref_value, bound_value, bound_line, is_total}
use Rattle.late_decode.specs.declared.plan.Measure.{Measure}
use Rattle.late_decode.specs.declared.plan.Part.{Part}
use Rattle.late_decode.specs.declared.plan.Slot.{Slot}
use Rattle.late_decode.specs.declared.plan.Slot.TheVariants as slot
use Rattle.late_decode.specs.GroupLines.{slot_field, group_line, line_count, lines_of}
use Rattle.late_decode.specs.Groups.{grouped}
use Rattle.late_decode.specs.Parts.{Picked, parts_over}
use Rattle.star_select.specs.Picks.{item_refs, pick_of}
use Rattle.star_select.specs.QueryPlan.{item_pick, keys_if, measures_if, slots_if}
use Rattle.star_select.proofs.GroupLineLemmas.{map-map, map-alike, map-where, seam}
use Rattle.star_select.proofs.ListLemmas.{flat-of-map}

-- rows that all give one line give it as often as they are
replicated : {X Y : Type 0} (p : X → Bool) (f : X → Y) (y : Y) → ((x : X) → p x ≡ true → f x ≡ y) → (xs : List X) → list_all p xs ≡ true → map f xs ≡ replicate (length xs) y
replicated p f y same [] h = refl
replicated p f y same (x ∷ xs) h = let b = both (p x) (list_all p xs) h in λ i. same x b.0 i ∷ replicated p f y same xs b.1 i

-- the fields of a key, by their places
module _ {A : Type 0} (g : A → Value) where
  key-places : (xs : List A) (before : List Value) (n : ℕ) → length before ≡ n
      → map (λ (p : ℕ × A). field_of (slice_index_or (before ++ map g xs) p.0 (Int (pos 0)))) (numbered_from n xs) ≡ map (λ x. field_of (g x)) xs
  key-places [] before n e = refl
  key-places (x ∷ xs) before n e =
      let longer : length (before ++ g x ∷ []) ≡ n + 1 = length-append before (g x ∷ []) ∙ ap (λ j. j + 1) e in
      let moved : map (λ (p : ℕ × A). field_of (slice_index_or (before ++ g x ∷ map g xs) p.0 (Int (pos 0)))) (numbered_from (n + 1) xs)
      ≡ map (λ (p : ℕ × A). field_of (slice_index_or ((before ++ g x ∷ []) ++ map g xs) p.0 (Int (pos 0)))) (numbered_from (n + 1) xs)
      = λ i. map (λ (p : ℕ × A). field_of (slice_index_or (sym (append_assoc before (g x ∷ []) (map g xs)) i) p.0 (Int (pos 0)))) (numbered_from (n + 1) xs) in
      let whole = moved ∙ key-places xs (before ++ g x ∷ []) (n + 1) longer in
      let first = ap field_of (seam before (g x) (map g xs) (Int (pos 0)) n e) in
      λ i. first i ∷ whole i

-- by columns whose picks are their values
module _ {X : Type 0} (query : Query) (combination : X → Combination) (picked : X → Picked) (named : ColumnRef → Bool)
    (value-is : (r : ColumnRef) → named r ≡ true → (x : X) → picked x (pick_of query r) ≡ ref_value r (combination x)) (tells : TellsRows) where
  -- the key of a row: the values of all items
  abbrev key : X → Row
  key x = map (picked x) (keys_if true query)

  abbrev slots : List Slot
  slots = slots_if true query

  abbrev measures : List Measure
  measures = measures_if true query

  -- whether an item is such a column
  abbrev is_bare : BoundItem → Bool
  is_bare i = list_all named (item_refs i) && not (is_total i)

  field-is : (i : BoundItem) → is_bare i ≡ true → (x : X) → field_of (picked x (item_pick query i)) ≡ bound_value i (combination x ∷ [])
  field-is i h x = let b = both (list_all named (item_refs i)) (not (is_total i)) h in by i b.0 b.1
    where
      by : (j : BoundItem) → list_all named (item_refs j) ≡ true → not (is_total j) ≡ true → field_of (picked x (item_pick query j)) ≡ bound_value j (combination x ∷ [])
      by (Column r) n b = ap field_of (value-is r (both (named r) true n).0 x)
      by Count n b = absurd (true≢false (sym b))
      by (Sum e) n b = absurd (true≢false (sym b))
      by (Average e) n b = absurd (true≢false (sym b))
      by (Least r) n b = absurd (true≢false (sym b))
      by (Greatest r) n b = absurd (true≢false (sym b))

  -- the line of a row is made of its key
  row-line : (parts : List Part) → list_all is_bare query.items ≡ true → (x : X) → group_line measures slots (key x, parts) ≡ bound_line query.items (combination x ∷ [])
  row-line parts bare x =
      map-map (slot_field measures (key x, parts)) (λ (p : ℕ × BoundItem). slot.Key p.0) (numbered query.items)
      ∙ ap (λ k. map (λ (p : ℕ × BoundItem). field_of (slice_index_or k p.0 (Int (pos 0)))) (numbered query.items)) (map-map (picked x) (item_pick query) query.items)
      ∙ key-places (λ i. picked x (item_pick query i)) query.items [] 0 refl
      ∙ map-where is_bare (λ i. field_of (picked x (item_pick query i))) (λ i. bound_value i (combination x ∷ [])) (λ i h. field-is i h x) query.items bare

  -- a line of key slots reads no part
  only-key : (k : Row) (parts : List Part) → group_line measures slots (k, parts) ≡ group_line measures slots (k, [])
  only-key k parts =
      map-map (slot_field measures (k, parts)) (λ (p : ℕ × BoundItem). slot.Key p.0) (numbered query.items)
      ∙ sym (map-map (slot_field measures (k, [])) (λ (p : ℕ × BoundItem). slot.Key p.0) (numbered query.items))

  pub plain-lines : list_all is_bare query.items ≡ true → (xs : List X)
      → Rearranged (map (bound_line query.items) (map (λ r. r ∷ []) (map combination xs))) (lines_of measures slots true (grouped same_row measures key picked xs))
  plain-lines bare xs =
      let keys : List Row = once_each same_row (map key xs) in
      let of_key : Row → Line = λ k. group_line measures slots (k, []) in
      let each : map (bound_line query.items) (map (λ r. r ∷ []) (map combination xs)) ≡ map (λ x. of_key (key x)) xs =
      map-map (bound_line query.items) (λ (r : Combination). r ∷ []) (map combination xs)
      ∙ map-map (λ (r : Combination). bound_line query.items (r ∷ [])) combination xs
      ∙ map-alike (λ x. bound_line query.items (combination x ∷ [])) (λ x. of_key (key x)) (λ x. sym (row-line [] bare x)) xs in
      let repeated : map (λ x. of_key (key x)) (flat_map (with_key same_row key xs) keys) ≡ lines_of measures slots true (grouped same_row measures key picked xs) =
      map-flat (λ x. of_key (key x)) (with_key same_row key xs) keys
      ∙ flat-same (λ k. map (λ x. of_key (key x)) (with_key same_row key xs k)) (λ k. replicate (length (map picked (with_key same_row key xs k))) (of_key k))
      (λ k. replicated (λ x. same_row k (key x)) (λ x. of_key (key x)) (of_key k) (λ x e. ap of_key (sym (tells.one k (key x) e))) (with_key same_row key xs k) (all-passing (λ x. same_row k (key x)) xs)
      ∙ ap (λ n. replicate n (of_key k)) (sym (length-map (with_key same_row key xs k) picked))) keys
      ∙ flat-same (λ k. replicate (length (map picked (with_key same_row key xs k))) (of_key k))
      (λ k. replicate (length (map picked (with_key same_row key xs k))) (group_line measures slots (k, parts_over measures (map picked (with_key same_row key xs k)))))
      (λ k. ap (replicate (length (map picked (with_key same_row key xs k)))) (sym (only-key k (parts_over measures (map picked (with_key same_row key xs k)))))) keys
      ∙ sym (flat-of-map (λ (group : Row × List Part). replicate (line_count true group.1) (group_line measures slots group)) (λ k. (k, parts_over measures (map picked (with_key same_row key xs k)))) keys) in
      subst (λ l. Rearranged l (lines_of measures slots true (grouped same_row measures key picked xs))) (sym each)
      (subst (λ l. Rearranged (map (λ x. of_key (key x)) xs) l) repeated (map-rearranged (λ x. of_key (key x)) (groups_rearrange same_row tells key xs)))
