-- Groups by tuple: one is put behind the others, and parts are added where its tuple stands.
use Rattle.std.proofs.Common.{◌≡◌, ◌≤◌, ◌==◌, ℕ, zero, suc, Bool, true, false, List, [], ◌∷◌, ◌++◌, length, Option, None, Some, Result, Ok, Err, slice_get, slice_index_or, refl, sym, ap, subst, ◌∙◌, arith}
use Rattle.std.specs.List.{list_all, position}
use Rattle.std.specs.Option.{option_map}
use Rattle.std.specs.Result.{IfOk, OnOk}
use Rattle.std.proofs.lemmas.Bool.{eq-eqb}
use Rattle.blink_lists.proofs.GroupLemmas.{and_both}
use Rattle.std.specs.Map.{keys_of, values_of}
use Rattle.indexmap.specs.IndexMap.{insert_entry, set_value_at}
use Rattle.indexmap.proofs.MapLemmas.{Missing-position, insert_entry-absent}
use Rattle.late_decode.specs.declared.plan.Part.{Part}
use Rattle.late_decode.specs.declared.plan.Measure.{Measure}
use Rattle.late_decode.specs.BoundLaws.{CodedPartsWithin}
use Rattle.late_decode.specs.Bounds.{is_bounded, are_parts, are_groups, combinations_in}
use Rattle.late_decode.specs.Groups.{Grouped, added}
use Rattle.late_decode.specs.Parts.{no_part, no_parts, merged_parts}
use Rattle.code_group.specs.TupleGroups.{with_group, with_group_if}
use Rattle.code_group.specs.Tuples.{same_tuple}
use Rattle.code_group.proofs.SlotLemmas.{found-first, found-next, found-last}
use Rattle.code_group.proofs.TupleLemmas.{tells_tuples}

pub put_behind : (es : Grouped (List ℕ)) (tuple key : List ℕ) (parts : List Part) (new : Grouped (List ℕ)) → position (same_tuple tuple) (keys_of es) ≡ None → key ≡ tuple
    → new ≡ insert_entry same_tuple es key parts → new ≡ es ++ (tuple, parts) ∷ []
put_behind es tuple key parts new absent same made =
    made ∙ ap (λ k. insert_entry same_tuple es k parts) same
    ∙ insert_entry-absent same_tuple tuple parts es (Missing-position (same_tuple tuple) es absent).absent

pub keys_behind : (es : Grouped (List ℕ)) (tuple : List ℕ) (parts : List Part) → keys_of (es ++ (tuple, parts) ∷ []) ≡ keys_of es ++ tuple ∷ []
keys_behind [] tuple parts = refl
keys_behind (e ∷ es) tuple parts = ap (λ ks. e.0 ∷ ks) (keys_behind es tuple parts)

pub keys_many : (es : Grouped (List ℕ)) → length (keys_of es) ≡ length es
keys_many [] = refl
keys_many (e ∷ es) = ap suc (keys_many es)

pub put-place : (ms : List Measure) (tuple : List ℕ) (es new : Grouped (List ℕ)) (at : ℕ) → position (same_tuple tuple) (keys_of es) ≡ None → at ≡ length es → new ≡ es ++ (tuple, no_parts ms) ∷ []
    → position (same_tuple tuple) (keys_of new) ≡ Some at
put-place ms tuple es new at absent here made =
    ap (λ l. position (same_tuple tuple) (keys_of l)) made ∙ ap (position (same_tuple tuple)) (keys_behind es tuple (no_parts ms))
    ∙ found-last (same_tuple tuple) (keys_of es) tuple (tells_tuples.itself tuple) absent ∙ ap (λ n. Some n) (keys_many es ∙ sym here)

pub put-place-if : {E : Type 0} (r : Result ℕ E) (ms : List Measure) (tuple : List ℕ) (es new : Grouped (List ℕ)) → position (same_tuple tuple) (keys_of es) ≡ None → IfOk r (λ at. at ≡ length es)
    → OnOk r (new ≡ es ++ (tuple, no_parts ms) ∷ []) → IfOk r (λ at. position (same_tuple tuple) (keys_of new) ≡ Some at)
put-place-if (Ok at) ms tuple es new absent here made = put-place ms tuple es new at absent here made
put-place-if (Err e) ms tuple es new absent here made = made

pub keys-written : (es : Grouped (List ℕ)) (at : ℕ) (parts : List Part) → keys_of (set_value_at es at parts) ≡ keys_of es
keys-written [] at parts = refl
keys-written (e ∷ es) zero parts = refl
keys-written (e ∷ es) (suc at) parts = ap (λ ks. e.0 ∷ ks) (keys-written es at parts)

abbrev first_if : Bool → Option ℕ → Option ℕ
first_if true o = Some 0
first_if false o = option_map suc o

-- what a position in a list with one element more in front says
first-or-next : (p : List ℕ → Bool) (k : List ℕ) (ks : List (List ℕ)) (b : Bool) (o : Option ℕ) → p k ≡ b → position p ks ≡ o → position p (k ∷ ks) ≡ first_if b o
first-or-next p k ks true o e f = found-first p k ks e
first-or-next p k ks false o e f = found-next p k ks e ∙ ap (option_map suc) f

module _ (ms : List Measure) (tuple : List ℕ) (parts : List Part) where
  -- parts are added where the tuple stands
  pub written : (es : Grouped (List ℕ)) (at : ℕ) (own : List Part) → position (same_tuple tuple) (keys_of es) ≡ Some at → slice_get (values_of es) at ≡ Some own
      → set_value_at es at (merged_parts ms own parts) ≡ added same_tuple ms tuple parts es
  written [] at own p h = cc
  written (e ∷ es) at own p h = by (same_tuple tuple e.0) (position (same_tuple tuple) (keys_of es)) at refl refl p h (written es)
    where
      by : (b : Bool) (o : Option ℕ) (at : ℕ) → same_tuple tuple e.0 ≡ b → position (same_tuple tuple) (keys_of es) ≡ o → position (same_tuple tuple) (keys_of (e ∷ es)) ≡ Some at
          → slice_get (values_of (e ∷ es)) at ≡ Some own
          → ((at : ℕ) (own : List Part) → position (same_tuple tuple) (keys_of es) ≡ Some at → slice_get (values_of es) at ≡ Some own → set_value_at es at (merged_parts ms own parts) ≡ added same_tuple ms tuple parts es)
          → set_value_at (e ∷ es) at (merged_parts ms own parts) ≡ added same_tuple ms tuple parts (e ∷ es)
      by true o zero k q p h rest =
          let one : own ≡ e.1 = cc in
          rw (added, tells_tuples.back e.0 tuple, k) (ap (λ l. (e.0, merged_parts ms l parts) ∷ es) one)
      by true o (suc at) k q p h rest = let first = first-or-next (same_tuple tuple) e.0 (keys_of es) true o k q in let none : 0 ≡ suc at = cc in absurd (omega (arith, none))
      by false None at k q p h rest = let next = first-or-next (same_tuple tuple) e.0 (keys_of es) false None k q in cc
      by false (Some i) zero k q p h rest = let next = first-or-next (same_tuple tuple) e.0 (keys_of es) false (Some i) k q in let none : suc i ≡ 0 = cc in absurd (omega (arith, none))
      by false (Some i) (suc at) k q p h rest =
          let next = first-or-next (same_tuple tuple) e.0 (keys_of es) false (Some i) k q in
          let same : suc i ≡ suc at = cc in
          let place : position (same_tuple tuple) (keys_of es) ≡ Some at = q ∙ ap (λ n. Some n) (omega (arith, same)) in
          rw (added, tells_tuples.back e.0 tuple, k) (ap (λ l. e ∷ l) (rest at own place h))

  -- a group without rows behind the others changes nothing of what is added
  pub added-behind : (es : Grouped (List ℕ)) → position (same_tuple tuple) (keys_of es) ≡ None → added same_tuple ms tuple parts (es ++ (tuple, no_parts ms) ∷ []) ≡ added same_tuple ms tuple parts es
  added-behind [] p = rw (added, tells_tuples.itself tuple) refl
  added-behind (e ∷ es) p = by (same_tuple tuple e.0) (position (same_tuple tuple) (keys_of es)) refl refl p (added-behind es)
    where
      by : (b : Bool) (o : Option ℕ) → same_tuple tuple e.0 ≡ b → position (same_tuple tuple) (keys_of es) ≡ o → position (same_tuple tuple) (keys_of (e ∷ es)) ≡ None
          → (position (same_tuple tuple) (keys_of es) ≡ None → added same_tuple ms tuple parts (es ++ (tuple, no_parts ms) ∷ []) ≡ added same_tuple ms tuple parts es)
          → added same_tuple ms tuple parts (e ∷ es ++ (tuple, no_parts ms) ∷ []) ≡ added same_tuple ms tuple parts (e ∷ es)
      by true o k q p rest = let first = first-or-next (same_tuple tuple) e.0 (keys_of es) true o k q in cc
      by false (Some i) k q p rest = let next = first-or-next (same_tuple tuple) e.0 (keys_of es) false (Some i) k q in cc
      by false None k q p rest = rw (added, tells_tuples.back e.0 tuple, k) (ap (λ l. e ∷ l) (rest q))

  -- parts are added at the group of the tuple, be it new
  pub added-at : (es placed : Grouped (List ℕ)) (at : ℕ) (own : List Part) → placed ≡ with_group ms tuple es → position (same_tuple tuple) (keys_of placed) ≡ Some at → slice_get (values_of placed) at ≡ Some own
      → set_value_at placed at (merged_parts ms own parts) ≡ added same_tuple ms tuple parts es
  added-at es placed at own so p h = written placed at own p h ∙ ap (added same_tuple ms tuple parts) so ∙ by (position (same_tuple tuple) (keys_of es)) refl
    where
      by : (o : Option ℕ) → position (same_tuple tuple) (keys_of es) ≡ o → added same_tuple ms tuple parts (with_group_if o ms tuple es) ≡ added same_tuple ms tuple parts es
      by (Some i) e = refl
      by None e = added-behind es e

-- ---- the parts of a group, be it new

no-parts-good : (ms : List Measure) → (length (no_parts ms) ≡ length ms) × (list_all is_bounded (no_parts ms) ≡ true)
no-parts-good [] = (refl, refl)
no-parts-good (m ∷ ms) = let rest = no-parts-good ms in (ap suc rest.0, and_both (is_bounded no_part) (list_all is_bounded (no_parts ms)) refl rest.1)

no-parts-none : (ms : List Measure) (k : ℕ) → (slice_index_or (no_parts ms) k no_part).count ≡ 0
no-parts-none [] k = refl
no-parts-none (m ∷ ms) zero = refl
no-parts-none (m ∷ ms) (suc k) = no-parts-none ms k

value-last : (es : Grouped (List ℕ)) (tuple : List ℕ) (parts : List Part) → slice_get (values_of (es ++ (tuple, parts) ∷ [])) (length es) ≡ Some parts
value-last [] tuple parts = refl
value-last (e ∷ es) tuple parts = value-last es tuple parts

-- the group of a tuple has its parts as all groups, with room for what all have room for
pub own-good : CodedPartsWithin → (ms : List Measure) (tuple : List ℕ) (es placed : Grouped (List ℕ)) (at : ℕ) (own : List Part) → placed ≡ with_group ms tuple es
    → position (same_tuple tuple) (keys_of placed) ≡ Some at → slice_get (values_of placed) at ≡ Some own → are_groups ms es ≡ true
    → (are_parts ms own ≡ true) × ((k : ℕ) → (slice_index_or own k no_part).count ≤ combinations_in ms es)
own-good law ms tuple es placed at own so p h good = by (position (same_tuple tuple) (keys_of es)) refl so
  where
    by : (o : Option ℕ) → position (same_tuple tuple) (keys_of es) ≡ o → placed ≡ with_group_if o ms tuple es → (are_parts ms own ≡ true) × ((k : ℕ) → (slice_index_or own k no_part).count ≤ combinations_in ms es)
    by (Some i) e same = law ms es at own good (ap (λ l. slice_get (values_of l) at) (sym same) ∙ h)
    by None e same =
        let place : position (same_tuple tuple) (keys_of placed) ≡ Some (length es) = put-place ms tuple es placed (length es) e refl same in
        let here : at ≡ length es = cc in
        let last : slice_get (values_of placed) at ≡ Some (no_parts ms) = (λ i. slice_get (values_of (same i)) (here i)) ∙ value-last es tuple (no_parts ms) in
        let one : no_parts ms ≡ own = cc in
        let all = no-parts-good ms in
        subst (λ l. (are_parts ms l ≡ true) × ((k : ℕ) → (slice_index_or l k no_part).count ≤ combinations_in ms es)) one
        (and_both (length (no_parts ms) == length ms) (list_all is_bounded (no_parts ms)) (eq-eqb (length (no_parts ms)) (length ms) all.0) all.1, λ k. let none = no-parts-none ms k in omega (arith, none))

-- what follows of a result where it is Ok
pub on-ok : {T E : Type 0} (r : Result T E) (P Q : Type 0) → (P → Q) → OnOk r P → OnOk r Q
on-ok (Ok x) P Q step p = step p
on-ok (Err e) P Q step p = p
