-- What is written so far, in front of what is left.
use Rattle.std.proofs.Common.{◌≡◌, ◌≢◌, ◌<◌, ◌≤◌, ◌+◌, ◌==◌, eq-eqb, ℕ, zero, suc, true, false, List, [], ◌∷◌, ◌++◌, length, drop, get_or, Some, None, Ok, Err, refl, ap, sym, ◌∙◌, add-one, append-nil, arith}
use Rattle.std.specs.List.{zip}
use Rattle.std.proofs.lemmas.Bool.{ne_eqb}
use Rattle.std.proofs.lemmas.List.{drop_all}
use Rattle.blink_base.specs.declared.schema.Column.{Column}
use Rattle.blink_base.specs.declared.value.Value.{Value}
use Rattle.blink_base.specs.declared.refusal.Refusal.{Refusal}
use Rattle.blink_base.specs.declared.refusal.Refusal.TheVariants as refusal
use Rattle.blink_base.specs.Values.{Row}
use Rattle.blink_lists.proofs.ZipLemmas.{next_pair, no_pair}
use Rattle.star_sql.specs.declared.ast.Literal.{Literal}
use Rattle.star_sql.specs.Literals.{literal_value}
use Rattle.star_engine.specs.InsertedRows.{value_or_refusal, written_values, written_row, written_from}
use Rattle.blink_lists.specs.FirstFault.{before}
use Rattle.blink_lists.proofs.FirstFaultLemmas.{behind, behind_before}

-- the next literal of a row
next_value : (columns : List Column) (literals : List Literal) (at k : ℕ) (column : Column) (literal : Literal) → k < length columns → length literals ≡ length columns
    → column ≡ get_or columns k column → literal ≡ get_or literals k literal
    → written_values at (k + 1) (drop k (zip columns literals)) ≡ before (value_or_refusal at (k + 1) (literal_value column.kind literal)) (written_values at (k + 1 + 1) (drop (k + 1) (zip columns literals)))
next_value columns literals at k column literal h e p q =
    ap (written_values at (k + 1)) (next_pair columns literals k column column literal literal h e p q)
    ∙ ap (λ n. before (value_or_refusal at (k + 1) (literal_value column.kind literal)) (written_values at (k + 1 + 1) (drop n (zip columns literals)))) (sym (add-one k))

-- one more value is written
pub value_written : (columns : List Column) (literals : List Literal) (at k : ℕ) (column : Column) (literal : Literal) (done : List Value) (value : Value)
    → k < length columns → length literals ≡ length columns → column ≡ get_or columns k column → literal ≡ get_or literals k literal
    → Some value ≡ literal_value column.kind literal
    → behind done (written_values at (k + 1) (drop k (zip columns literals))) ≡ behind (done ++ value ∷ []) (written_values at (k + 1 + 1) (drop (k + 1) (zip columns literals)))
value_written columns literals at k column literal done value h e p q is =
    rw (next_value columns literals at k column literal h e p q, ← is) (behind_before done value _)

-- a literal at fault
pub value_refused : (columns : List Column) (literals : List Literal) (at k : ℕ) (column : Column) (literal : Literal) (done : List Value)
    → k < length columns → length literals ≡ length columns → column ≡ get_or columns k column → literal ≡ get_or literals k literal
    → None ≡ literal_value column.kind literal
    → behind done (written_values at (k + 1) (drop k (zip columns literals))) ≡ Err (refusal.BadValue at (k + 1))
value_refused columns literals at k column literal done h e p q is = rw (next_value columns literals at k column literal h e p q, ← is) refl

-- no literal is left
pub values_written : (columns : List Column) (literals : List Literal) (at k : ℕ) (done : List Value) → k ≡ length columns
    → behind done (written_values at (k + 1) (drop k (zip columns literals))) ≡ Ok done
values_written columns literals at k done end = rw (end, no_pair columns literals) (search append-nil)

-- one more row is written
next_row : (rows : List (List Literal)) (k : ℕ) (row : List Literal) → k < length rows → row ≡ get_or rows k row → drop k rows ≡ row ∷ drop (suc k) rows
next_row [] k row h p = absurd (omega (arith, h))
next_row (r ∷ rows) zero row h p = rw p refl
next_row (r ∷ rows) (suc k) row h p = next_row rows k row (omega (arith, h)) p

next_rows : (columns : List Column) (rows : List (List Literal)) (k : ℕ) (row : List Literal) → k < length rows → row ≡ get_or rows k row
    → written_from columns (k + 1) (drop k rows) ≡ before (written_row columns (k + 1) row) (written_from columns (k + 1 + 1) (drop (k + 1) rows))
next_rows columns rows k row h p =
    ap (written_from columns (k + 1)) (next_row rows k row h p)
    ∙ ap (λ n. before (written_row columns (k + 1) row) (written_from columns (k + 1 + 1) (drop n rows))) (sym (add-one k))

pub row_written : (columns : List Column) (rows : List (List Literal)) (k : ℕ) (row : List Literal) (done : List Row) (made : Row) → k < length rows → row ≡ get_or rows k row
    → written_row columns (k + 1) row ≡ Ok made
    → behind done (written_from columns (k + 1) (drop k rows)) ≡ behind (done ++ made ∷ []) (written_from columns (k + 1 + 1) (drop (k + 1) rows))
row_written columns rows k row done made h p is = rw (next_rows columns rows k row h p, is) (behind_before done made _)

pub row_refused : (columns : List Column) (rows : List (List Literal)) (k : ℕ) (row : List Literal) (done : List Row) (why : Refusal) → k < length rows → row ≡ get_or rows k row
    → written_row columns (k + 1) row ≡ Err why → behind done (written_from columns (k + 1) (drop k rows)) ≡ Err why
row_refused columns rows k row done why h p is = rw (next_rows columns rows k row h p, is) refl

pub rows_written : (columns : List Column) (rows : List (List Literal)) (k : ℕ) (done : List Row) → length rows ≤ k → behind done (written_from columns (k + 1) (drop k rows)) ≡ Ok done
rows_written columns rows k done end = rw (drop_all k rows end) (search append-nil)

pub not_long : (columns : List Column) (at : ℕ) (row : List Literal) → length row ≢ length columns → written_row columns at row ≡ Err (refusal.Arity at)
not_long columns at row other = let no : (length row == length columns) ≡ false = ne_eqb (length row) (length columns) other in rw (no, written_row) refl

pub as_long : (columns : List Column) (at : ℕ) (row : List Literal) → length row ≡ length columns → written_row columns at row ≡ written_values at 1 (zip columns row)
as_long columns at row same = let yes : (length row == length columns) ≡ true = eq-eqb (length row) (length columns) same in rw (yes, written_row) refl
