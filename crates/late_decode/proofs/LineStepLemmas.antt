-- Fields of a group that move into a line one by one.
use Rattle.std.proofs.Common.{◌≡◌, ◌<◌, ◌+◌, ℕ, zero, suc, true, List, [], ◌∷◌, ◌++◌, map, length, slice_set, slice_index_or, take, Some, None, is_some, unwrap_or, refl, sym, ap, ◌∙◌, true≢false, arith}
use Rattle.std.specs.Prelude.{pos}
use Rattle.std.specs.Bool.{⊤}
use Rattle.std.specs.List.{list_all}
use Rattle.std.proofs.lemmas.Bool.{ltb-true}
use Rattle.std.proofs.lemmas.List.{map-append, take_more}
use Rattle.std.proofs.lemmas.Option.{slice_get_within}
use Rattle.blink_lists.proofs.AllLemmas.{all_at}
use Rattle.blink_lists.proofs.SliceLemmas.{front-at, behind-at}
use Rattle.blink_base.specs.declared.answer.Field.{Field}
use Rattle.blink_base.specs.declared.answer.Field.TheVariants.{Null}
use Rattle.blink_base.specs.declared.value.Value.TheVariants.{Int}
use Rattle.blink_base.specs.Lines.{Line, field_of}
use Rattle.blink_base.specs.Values.{Row}
use Rattle.late_decode.specs.declared.plan.Measure.{Measure}
use Rattle.late_decode.specs.declared.plan.Measure.TheVariants.{Count}
use Rattle.late_decode.specs.declared.plan.Part.{Part}
use Rattle.late_decode.specs.declared.plan.Slot.{Slot}
use Rattle.late_decode.specs.declared.plan.Slot.TheVariants as slot
use Rattle.late_decode.specs.declared.source.Source.{Source}
use Rattle.late_decode.specs.declared.source.Source.TheVariants.{Here, Moved}
use Rattle.late_decode.specs.Bounds.{are_parts, slot_within}
use Rattle.late_decode.specs.GroupLines.{measure_field, slot_field, group_line}
use Rattle.late_decode.specs.LineSteps.{measure_fields, group_fields, place_of, source_field}
use Rattle.late_decode.specs.Parts.{no_part}
use Rattle.late_decode.proofs.BoundLemmas.{parts_of}

-- each source gives its field
abbrev pub AreFields : Line → List Source → List Field → Type 0
AreFields line [] [] = ⊤
AreFields line (s ∷ sources) (f ∷ fields) = (source_field line s ≡ Some f) × AreFields line sources fields
AreFields line sources fields = ⊥

pub here_first : (line : Line) (fields : List Field) → AreFields line (map (λ field. Here field) fields) fields
here_first line [] = tt
here_first line (f ∷ fields) = (refl, here_first line fields)

pub as_many : (line : Line) (sources : List Source) (fields : List Field) → AreFields line sources fields → length sources ≡ length fields
as_many line [] [] a = refl
as_many line [] (f ∷ fields) a = absurd a
as_many line (s ∷ sources) [] a = absurd a
as_many line (s ∷ sources) (f ∷ fields) a = ap suc (as_many line sources fields a.1)

pub field_at : (line : Line) (sources : List Source) (fields : List Field) (k : ℕ) (d : Source) → AreFields line sources fields → k < length fields
    → source_field line (slice_index_or sources k d) ≡ Some (slice_index_or fields k Null)
field_at line [] [] k d a lt = absurd (omega (arith, lt))
field_at line [] (f ∷ fields) k d a lt = absurd a
field_at line (s ∷ sources) [] k d a lt = absurd a
field_at line (s ∷ sources) (f ∷ fields) zero d a lt = a.0
field_at line (s ∷ sources) (f ∷ fields) (suc k) d a lt = field_at line sources fields k d a.1 (omega (arith, lt))

pub some_there : (line : Line) (sources : List Source) (fields : List Field) (k : ℕ) (d : Source) → AreFields line sources fields → k < length fields
    → source_field line (slice_index_or sources k d) ≡ None → ⊥
some_there line sources fields k d a lt e = true≢false (sym (ap is_some (field_at line sources fields k d a lt)) ∙ ap is_some e)

pub one_field : (line : Line) (sources : List Source) (fields : List Field) (k : ℕ) (d : Source) (x : Field) → AreFields line sources fields → k < length fields
    → Some x ≡ source_field line (slice_index_or sources k d) → x ≡ slice_index_or fields k Null
one_field line sources fields k d x a lt e = ap (λ r. unwrap_or r x) (e ∙ field_at line sources fields k d a lt)

-- a longer line has the same fields
source_later : (line : Line) (x f : Field) (s : Source) → source_field line s ≡ Some f → source_field (line ++ x ∷ []) s ≡ Some f
source_later line x f (Here g) e = e
source_later line x f (Moved at) e = front-at line (x ∷ []) at (slice_get_within line at f e) ∙ e

later : (line : Line) (x : Field) (sources : List Source) (fields : List Field) → AreFields line sources fields → AreFields (line ++ x ∷ []) sources fields
later line x [] [] a = tt
later line x [] (f ∷ fields) a = absurd a
later line x (s ∷ sources) [] a = absurd a
later line x (s ∷ sources) (f ∷ fields) a = (source_later line x f s a.0, later line x sources fields a.1)

-- the field at a place, moved to the end of the line
pub field_moved : (line : Line) (sources : List Source) (fields : List Field) (k : ℕ) (x : Field) → AreFields line sources fields → k < length fields → x ≡ slice_index_or fields k Null
    → AreFields (line ++ x ∷ []) (slice_set sources k (Moved (length line))) fields
field_moved line [] [] k x a lt e = absurd (omega (arith, lt))
field_moved line [] (f ∷ fields) k x a lt e = absurd a
field_moved line (s ∷ sources) [] k x a lt e = absurd a
field_moved line (s ∷ sources) (f ∷ fields) zero x a lt e =
    (behind-at line (x ∷ []) 0 (length line) (omega arith) ∙ ap (λ g. Some g) e, later line x sources fields a.1)
field_moved line (s ∷ sources) (f ∷ fields) (suc k) x a lt e = (source_later line x f s a.0, field_moved line sources fields k x a.1 (omega (arith, lt)) e)

-- ---- slots

measure_at : (ms : List Measure) (ps : List Part) (key : List Field) (k : ℕ) → length ps ≡ length ms → k < length ms
    → slice_index_or (measure_fields ms ps ++ key) k Null ≡ measure_field (slice_index_or ms k Count) (slice_index_or ps k no_part)
measure_at [] ps key k e lt = absurd (omega (arith, lt))
measure_at (m ∷ ms) [] key k e lt = absurd (omega (arith, e))
measure_at (m ∷ ms) (p ∷ ps) key zero e lt = refl
measure_at (m ∷ ms) (p ∷ ps) key (suc k) e lt = measure_at ms ps key k (omega (arith, e)) (omega (arith, lt))

key_here : (key : Row) (k : ℕ) → k < length key → slice_index_or (map field_of key) k Null ≡ field_of (slice_index_or key k (Int (pos 0)))
key_here [] k lt = absurd (omega (arith, lt))
key_here (v ∷ key) zero lt = refl
key_here (v ∷ key) (suc k) lt = key_here key k (omega (arith, lt))

key_at : (ms : List Measure) (ps : List Part) (key : Row) (k : ℕ) → length ps ≡ length ms → k < length key
    → slice_index_or (measure_fields ms ps ++ map field_of key) (length ms + k) Null ≡ field_of (slice_index_or key k (Int (pos 0)))
key_at [] ps key k e lt = ap (λ j. slice_index_or (map field_of key) j Null) (omega arith) ∙ key_here key k lt
key_at (m ∷ ms) [] key k e lt = absurd (omega (arith, e))
key_at (m ∷ ms) (p ∷ ps) key k e lt =
    let next : length (m ∷ ms) + k ≡ suc (length ms + k) = omega arith in
    ap (λ j. slice_index_or (measure_field m p ∷ (measure_fields ms ps ++ map field_of key)) j Null) next ∙ key_at ms ps key k (omega (arith, e)) lt

fields_long : (ms : List Measure) (ps : List Part) (key : Row) → length ps ≡ length ms → length (measure_fields ms ps ++ map field_of key) ≡ length ms + length key
fields_long [] ps [] e = refl
fields_long [] ps (v ∷ key) e = let more = fields_long [] [] key refl in omega (arith, more)
fields_long (m ∷ ms) [] key e = absurd (omega (arith, e))
fields_long (m ∷ ms) (p ∷ ps) key e = let more = fields_long ms ps key (omega (arith, e)) in omega (arith, more)

module _ (ms : List Measure) (key : Row) (parts : List Part) (good : are_parts ms parts ≡ true) where
  -- the place of a slot in range
  pub place_within : (s : Slot) → slot_within ms key s ≡ true → place_of (length ms) s < length (group_fields ms (key, parts))
  place_within (slot.Key k) w =
      let long = fields_long ms parts key (parts_of ms parts good).0 in
      let lt = ltb-true k (length key) w in
      omega (arith, long, lt)
  place_within (slot.Measure k) w =
      let long = fields_long ms parts key (parts_of ms parts good).0 in
      let lt = ltb-true k (length ms) w in
      omega (arith, long, lt)

  -- and what stands there
  pub slot_at : (s : Slot) → slot_within ms key s ≡ true → slice_index_or (group_fields ms (key, parts)) (place_of (length ms) s) Null ≡ slot_field ms (key, parts) s
  slot_at (slot.Key k) w = key_at ms parts key k (parts_of ms parts good).0 (ltb-true k (length key) w)
  slot_at (slot.Measure k) w = measure_at ms parts (map field_of key) k (parts_of ms parts good).0 (ltb-true k (length ms) w)

  module _ (slots : List Slot) (i : ℕ) (d : Slot) (within : list_all (slot_within ms key) slots ≡ true) (lt : i < length slots) where
    pub slot_good : slot_within ms key (slice_index_or slots i d) ≡ true
    slot_good = all_at (slot_within ms key) slots i d within lt

    -- one more field of the line
    pub line_more : (line : Line) (x : Field) → line ≡ group_line ms (take i slots) (key, parts)
        → x ≡ slice_index_or (group_fields ms (key, parts)) (place_of (length ms) (slice_index_or slots i d)) Null → line ++ x ∷ [] ≡ group_line ms (take (i + 1) slots) (key, parts)
    line_more line x so_far e =
        (λ j. so_far j ++ (e ∙ slot_at (slice_index_or slots i d) slot_good) j ∷ [])
        ∙ sym (map-append (slot_field ms (key, parts)) (take i slots) (slice_index_or slots i d ∷ []))
        ∙ ap (map (slot_field ms (key, parts))) (sym (take_more slots i d lt))
