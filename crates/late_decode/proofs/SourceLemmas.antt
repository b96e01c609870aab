-- Fields of a group, gathered from the last one down.
use Rattle.std.proofs.Common.{◌≡◌, ◌<◌, ◌+◌, ℕ, List, [], ◌∷◌, ◌++◌, map, reverse, length, slice_index_or, refl, sym, ap, ◌∙◌, append_assoc, length-append, ◌≤◌, arith}
use Rattle.std.proofs.lemmas.List.{map-append, reverse-append}
use Rattle.blink_base.specs.declared.answer.Field.{Field}
use Rattle.blink_base.specs.Lines.{field_of}
use Rattle.blink_base.specs.Values.{Row}
use Rattle.late_decode.specs.declared.plan.Measure.{Measure}
use Rattle.late_decode.specs.declared.plan.Part.{Part}
use Rattle.late_decode.specs.declared.source.Source.{Source}
use Rattle.late_decode.specs.declared.source.Source.TheVariants.{Here}
use Rattle.late_decode.specs.GroupLines.{measure_field}
use Rattle.late_decode.specs.LineSteps.{measure_fields, group_fields}
use Rattle.late_decode.proofs.GroupLemmas.{append_nothing}

here_of : Field → Source
here_of field = Here field

-- one more of what is left, the last one first
pub popped : {X Y : Type 0} (f : X → Y) (done : List Y) (xs : List X) (x : X) → (done ++ f x ∷ []) ++ reverse (map f xs) ≡ done ++ reverse (map f (xs ++ x ∷ []))
popped f done xs x = append_assoc done (f x ∷ []) (reverse (map f xs)) ∙ ap (λ l. done ++ l) (sym (ap reverse (map-append f xs (x ∷ [])) ∙ reverse-append (map f xs) (f x ∷ [])))

fields_more : (ms : List Measure) (ps : List Part) (p : Part) (d : Measure) → length ps < length ms
    → measure_fields ms (ps ++ p ∷ []) ≡ measure_fields ms ps ++ measure_field (slice_index_or ms (length ps) d) p ∷ []
fields_more [] ps p d lt = absurd (omega (arith, lt))
fields_more (m ∷ []) [] p d lt = refl
fields_more (m ∷ n ∷ ms) [] p d lt = refl
fields_more (m ∷ ms) (q ∷ ps) p d lt = ap (λ l. measure_field m q ∷ l) (fields_more ms ps p d (omega (arith, lt)))

pub part_popped : (ms : List Measure) (done : List Source) (ps : List Part) (p : Part) (d : Measure) → length ps < length ms
    → (done ++ Here (measure_field (slice_index_or ms (length ps) d) p) ∷ []) ++ reverse (map (λ field. Here field) (measure_fields ms ps))
    ≡ done ++ reverse (map (λ field. Here field) (measure_fields ms (ps ++ p ∷ [])))
part_popped ms done ps p d lt =
    popped (λ field. Here field) done (measure_fields ms ps) (measure_field (slice_index_or ms (length ps) d) p)
    ∙ ap (λ l. done ++ reverse (map (λ field. Here field) l)) (sym (fields_more ms ps p d lt))

reverse_back : {X : Type 0} (xs : List X) → reverse (reverse xs) ≡ xs
reverse_back [] = refl
reverse_back (x ∷ xs) = ap reverse (reverse-append (x ∷ []) xs) ∙ reverse-append (reverse xs) (x ∷ []) ∙ ap (λ l. x ∷ l) (reverse_back xs)

map_here : (key : Row) → map (λ value. Here (field_of value)) key ≡ map (λ field. Here field) (map field_of key)
map_here [] = refl
map_here (v ∷ key) = ap (λ l. Here (field_of v) ∷ l) (map_here key)

pub turned : (ms : List Measure) (key : Row) (parts : List Part)
    → reverse (reverse (map (λ value. Here (field_of value)) key) ++ reverse (map (λ field. Here field) (measure_fields ms parts))) ≡ map (λ field. Here field) (group_fields ms (key, parts))
turned ms key parts =
    let mine = map (λ field. Here field) (measure_fields ms parts) in
    let others = map (λ value. Here (field_of value)) key in
    reverse-append (reverse others) (reverse mine) ∙ (λ i. reverse_back mine i ++ reverse_back others i)
    ∙ ap (λ l. mine ++ l) (map_here key) ∙ sym (map-append (λ (field : Field). Here field) (measure_fields ms parts) (map field_of key))

pub length_popped : {X : Type 0} (rest ys : List X) (y : X) (n : ℕ) → rest ≡ ys ++ y ∷ [] → length rest ≤ n → length ys < n
length_popped rest ys y n split fits =
    let more : length rest ≡ length ys + 1 = ap length split ∙ length-append ys (y ∷ []) in
    omega (arith, more, fits)

pub nothing_left : (ms : List Measure) (done : List Source) (ps : List Part) → length ps ≡ 0 → done ≡ done ++ reverse (map (λ field. Here field) (measure_fields ms ps))
nothing_left [] done ps e = sym (append_nothing done)
nothing_left (m ∷ ms) done [] e = sym (append_nothing done)
nothing_left (m ∷ ms) done (p ∷ ps) e = absurd (omega (arith, e))
