-- What is read so far, in front of what is left.
use Rattle.std.proofs.Common.{◌≡◌, ◌<◌, ◌+◌, ℕ, List, [], ◌∷◌, ◌++◌, length, drop, get_or, Ok, Err, ◌&&◌, refl, ap, sym, ◌∙◌, add-one, append-nil}
use Rattle.std.specs.List.{list_all, zip}
use Rattle.blink_base.specs.declared.schema.Column.{Column}
use Rattle.blink_base.specs.declared.value.Value.{Value}
use Rattle.blink_base.specs.ReadValue.{read_value}
use Rattle.blink_loader.specs.declared.batch.LoadFault.{LoadFault}
use Rattle.blink_loader.specs.Records.{Record, same_name}
use Rattle.blink_loader.specs.Batch.{value_of, values_from}
use Rattle.blink_lists.specs.FirstFault.{before}
use Rattle.blink_lists.proofs.ZipLemmas.{next_pair, no_pair}
use Rattle.blink_lists.proofs.FirstFaultLemmas.{behind, behind_before}

-- the next name of a header
pub next_name : (columns : List Column) (fields : Record) (k : ℕ) (column : Column) (field : List ℕ) → k < length columns → length fields ≡ length columns
    → column ≡ get_or columns k column → field ≡ get_or fields k []
    → list_all (λ p. same_name p.0.name p.1) (drop k (zip columns fields)) ≡ (same_name column.name field && list_all (λ p. same_name p.0.name p.1) (drop (k + 1) (zip columns fields)))
next_name columns fields k column field h e p q = rw (add-one, next_pair columns fields k column column field [] h e p q) refl

-- the next field of a record
next_field : (columns : List Column) (fields : Record) (at k : ℕ) (column : Column) (field : List ℕ) → k < length columns → length fields ≡ length columns
    → column ≡ get_or columns k column → field ≡ get_or fields k []
    → values_from at (k + 1) (drop k (zip columns fields)) ≡ before (value_of at (k + 1) (read_value column.kind field)) (values_from at (k + 1 + 1) (drop (k + 1) (zip columns fields)))
next_field columns fields at k column field h e p q =
    ap (values_from at (k + 1)) (next_pair columns fields k column column field [] h e p q)
    ∙ ap (λ n. before (value_of at (k + 1) (read_value column.kind field)) (values_from at (k + 1 + 1) (drop n (zip columns fields)))) (sym (add-one k))

-- one more field is read
pub value_read : (columns : List Column) (fields : Record) (at k : ℕ) (column : Column) (field : List ℕ) (done : List Value) (value : Value)
    → k < length columns → length fields ≡ length columns → column ≡ get_or columns k column → field ≡ get_or fields k []
    → Ok value ≡ value_of at (k + 1) (read_value column.kind field)
    → behind done (values_from at (k + 1) (drop k (zip columns fields))) ≡ behind (done ++ value ∷ []) (values_from at (k + 1 + 1) (drop (k + 1) (zip columns fields)))
value_read columns fields at k column field done value h e p q is =
    rw (next_field columns fields at k column field h e p q, ← is) (behind_before done value _)

-- a field at fault
pub value_refused : (columns : List Column) (fields : Record) (at k : ℕ) (column : Column) (field : List ℕ) (done : List Value) (why : LoadFault)
    → k < length columns → length fields ≡ length columns → column ≡ get_or columns k column → field ≡ get_or fields k []
    → Err why ≡ value_of at (k + 1) (read_value column.kind field)
    → behind done (values_from at (k + 1) (drop k (zip columns fields))) ≡ Err why
value_refused columns fields at k column field done why h e p q is = rw (next_field columns fields at k column field h e p q, ← is) refl

-- no field is left
pub values_read : (columns : List Column) (fields : Record) (at k : ℕ) (done : List Value) → k ≡ length columns
    → behind done (values_from at (k + 1) (drop k (zip columns fields))) ≡ Ok done
values_read columns fields at k done end = rw (end, no_pair columns fields) (search append-nil)
