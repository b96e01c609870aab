-- Lines of groups, from the last group down.
use Rattle.std.proofs.Common.{◌≡◌, ℕ, Bool, true, List, [], ◌∷◌, ◌++◌, length, replicate, refl, sym, ap, subst, ◌∙◌, append_assoc, not, nat_lt, true≢false, ◌<◌, zero, suc, Option, None, is_some, IsSome, arith}
use Rattle.std.specs.List.{list_all, list_any}
use Rattle.std.proofs.lemmas.Grind.{flat_map-append}
use Rattle.std.proofs.lemmas.List.Folds.{list_all-append}
use Rattle.blink_lists.specs.Rearrangement.{Rearranged}
use Rattle.blink_lists.specs.Rearrangement.Rearranged.{followed}
use Rattle.blink_lists.proofs.GroupLemmas.{both, and_both}
use Rattle.blink_lists.proofs.RearrangementLemmas.{itself, in_front, exchanged}
use Rattle.blink_base.specs.Lines.{Line}
use Rattle.blink_base.specs.Values.{Row}
use Rattle.late_decode.specs.declared.plan.Measure.{Measure}
use Rattle.late_decode.specs.declared.plan.Part.{Part}
use Rattle.late_decode.specs.declared.plan.Slot.{Slot}
use Rattle.late_decode.specs.declared.plan.Slot.TheVariants as slot
use Rattle.late_decode.specs.Parts.{no_parts}
use Rattle.late_decode.specs.Bounds.{are_parts, are_groups, slot_within, measure_within, slots_within, is_key_slot}
use Rattle.late_decode.specs.GroupLines.{group_line, line_count, lines_of, or_single}
use Rattle.late_decode.specs.Groups.{Grouped}
use Rattle.late_decode.proofs.GroupLemmas.{append_nothing}

-- lines so far, and those of the groups that are left
pub record IsGiving (ms : List Measure) (slots : List Slot) (repeat : Bool) (whole : List Line) (lines : List Line) (rest : Grouped Row) : Type 0 where
  pub same : Rearranged (lines ++ lines_of ms slots repeat rest) whole
  pub good : are_groups ms rest ≡ true
  pub within : list_all (λ (group : Row × List Part). list_all (slot_within ms group.0) slots) rest ≡ true

pub begin : (ms : List Measure) (slots : List Slot) (repeat : Bool) (groups : Grouped Row) → are_groups ms groups ≡ true → slots_within ms slots groups ≡ true
    → IsGiving ms slots repeat (lines_of ms slots repeat groups) [] groups
begin ms slots repeat groups h w = record {
  same = itself (lines_of ms slots repeat groups);
  good = h;
  within = (both (list_all (measure_within ms) slots) (list_all (λ (group : Row × List Part). list_all (slot_within ms group.0) slots) groups) w).1;
}

module _ (ms : List Measure) (slots : List Slot) (repeat : Bool) (whole lines : List Line) (groups rest : Grouped Row) (group : Row × List Part)
    (split : groups ≡ rest ++ group ∷ []) (so_far : IsGiving ms slots repeat whole lines groups) where
  here : IsGiving ms slots repeat whole lines (rest ++ group ∷ [])
  here = subst (IsGiving ms slots repeat whole lines) split so_far

  goods : (are_groups ms rest ≡ true) × (are_groups ms (group ∷ []) ≡ true)
  goods = both (are_groups ms rest) (are_groups ms (group ∷ [])) (sym (list_all-append (λ (g : Row × List Part). are_parts ms g.1) rest (group ∷ [])) ∙ here.good)

  ranges : (list_all (λ (g : Row × List Part). list_all (slot_within ms g.0) slots) rest ≡ true) × (list_all (λ (g : Row × List Part). list_all (slot_within ms g.0) slots) (group ∷ []) ≡ true)
  ranges =
      both (list_all (λ (g : Row × List Part). list_all (slot_within ms g.0) slots) rest) (list_all (λ (g : Row × List Part). list_all (slot_within ms g.0) slots) (group ∷ []))
      (sym (list_all-append (λ (g : Row × List Part). list_all (slot_within ms g.0) slots) rest (group ∷ [])) ∙ here.within)

  pub last_parts : are_parts ms group.1 ≡ true
  last_parts = (both (are_parts ms group.1) true goods.1).0

  pub last_slots : list_all (slot_within ms group.0) slots ≡ true
  last_slots = (both (list_all (slot_within ms group.0) slots) true ranges.1).0

  abbrev mine : List Line
  mine = replicate (line_count repeat group.1) (group_line ms slots group)

  split_lines : lines_of ms slots repeat (rest ++ group ∷ []) ≡ lines_of ms slots repeat rest ++ mine
  split_lines =
      flat_map-append (λ (g : Row × List Part). replicate (line_count repeat g.1) (group_line ms slots g)) rest (group ∷ [])
      ∙ ap (λ l. lines_of ms slots repeat rest ++ l) (append_nothing mine)

  turn : (xs ys : List Line) → Rearranged (xs ++ ys) (ys ++ xs)
  turn xs ys = subst (λ l. Rearranged (xs ++ l) (ys ++ xs)) (append_nothing ys) (subst (λ l. Rearranged (xs ++ (ys ++ [])) (ys ++ l)) (append_nothing xs) (exchanged xs ys []))

  pub group_given : (more : List Line) → more ≡ lines ++ mine → IsGiving ms slots repeat whole more rest
  group_given more e = record {
    same = subst (λ l. Rearranged (l ++ lines_of ms slots repeat rest) whole) (sym e)
        (subst (λ l. Rearranged l whole) (sym (append_assoc lines mine (lines_of ms slots repeat rest)))
        (followed (in_front lines (turn mine (lines_of ms slots repeat rest))) (subst (λ l. Rearranged (lines ++ l) whole) split_lines here.same)));
    good = goods.0;
    within = ranges.0;
  }

pub given : (ms : List Measure) (slots : List Slot) (repeat : Bool) (whole lines : List Line) (rest : Grouped Row) → length rest ≡ 0 → IsGiving ms slots repeat whole lines rest → Rearranged lines whole
given ms slots repeat whole lines [] e so_far = subst (λ l. Rearranged l whole) (append_nothing lines) so_far.same
given ms slots repeat whole lines (group ∷ rest) e so_far = absurd (omega (arith, e))

-- where there is no group, slots of measures are in range of a key without values
pub measures_within : (ms : List Measure) (slots : List Slot) → list_all (measure_within ms) slots ≡ true → not (list_any is_key_slot slots) ≡ true → list_all (slot_within ms []) slots ≡ true
measures_within ms [] w n = refl
measures_within ms (slot.Key k ∷ slots) w n = absurd (true≢false (sym n))
measures_within ms (slot.Measure k ∷ slots) w n =
    let b = both (nat_lt k (length ms)) (list_all (measure_within ms) slots) w in
    and_both (nat_lt k (length ms)) (list_all (slot_within ms []) slots) b.0 (measures_within ms slots b.1 n)

pub slots_of_measures : (ms : List Measure) (slots : List Slot) (groups : Grouped Row) → slots_within ms slots groups ≡ true → not (list_any is_key_slot slots) ≡ true → list_all (slot_within ms []) slots ≡ true
slots_of_measures ms slots groups w n = measures_within ms slots (both (list_all (measure_within ms) slots) (list_all (λ (group : Row × List Part). list_all (slot_within ms group.0) slots) groups) w).0 n

pub single_line : (ms : List Measure) (slots : List Slot) (repeat single : Bool) (lines : List Line) (groups : Grouped Row) → single ≡ true → length groups ≡ 0
    → lines ≡ replicate (line_count repeat (no_parts ms)) (group_line ms slots ([], no_parts ms)) → Rearranged lines (lines_of ms slots repeat (or_single single ms groups))
single_line ms slots repeat single lines [] one none e =
    let mine = replicate (line_count repeat (no_parts ms)) (group_line ms slots ([], no_parts ms)) in
    let all : lines_of ms slots repeat (or_single single ms []) ≡ mine = ap (λ b. lines_of ms slots repeat (or_single b ms [])) one ∙ append_nothing mine in
    subst (Rearranged lines) (sym (all ∙ sym e)) (itself lines)
single_line ms slots repeat single lines (group ∷ groups) one none e = absurd (omega (arith, none))

pub nothing_there : {A : Type 0} (o : Option A) (n : ℕ) → o ≡ None → (0 < n → IsSome o) → n ≡ 0
nothing_there o zero e some = refl
nothing_there o (suc n) e some = absurd (true≢false (sym (some (omega arith)) ∙ ap is_some e))
