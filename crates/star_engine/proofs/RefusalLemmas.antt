-- The refusal of a batch, by the accepted rows and by the rows of the image.
use Rattle.std.proofs.Common.{◌≡◌, ◌≢◌, ◌≤◌, ◌+◌, ℕ, Bool, true, false, List, [], ◌++◌, length, find, take, nat_lt, Option, Some, None, Result, Err, refl, sym, ap, ◌∙◌, arith}
use Rattle.std.specs.List.{list_any}
use Rattle.std.proofs.lemmas.Bool.{ltb-false, le-ltb}
use Rattle.blink_base.specs.declared.limits.Limits.{Limits}
use Rattle.blink_base.specs.declared.refusal.Refusal.{Refusal}
use Rattle.blink_base.specs.declared.refusal.Refusal.TheVariants as refusal
use Rattle.blink_base.specs.declared.value.Value.{Value}
use Rattle.blink_base.specs.Values.{Row, same_value}
use Rattle.blink_lists.specs.Lists.{first_of, numbered}
use Rattle.blink_lists.specs.Rearrangement.{Rearranged}
use Rattle.blink_lists.proofs.RearrangementLemmas.{length-rearranged, map-rearranged, behind}
use Rattle.cell_layout.specs.declared.fault.LayoutError.{LayoutError}
use Rattle.cell_layout.specs.declared.fault.LayoutError.TheVariants.{DuplicateKey, Rows, Memory}
use Rattle.cell_layout.specs.Image.{TableImage, rows_of, row_count}
use Rattle.column_classes.specs.ColumnClasses.{column_values}
use Rattle.cell_layout.specs.Refusals.{repeated_key, duplicate_in, duplicate_of, refusal_of}
use Rattle.blink_lists.proofs.AnyLemmas.{any-rearranged}
use Rattle.star_engine.specs.declared.fault.EngineError.{EngineError}
use Rattle.star_engine.specs.declared.fault.EngineError.TheVariants as engine
use Rattle.star_engine.specs.Causes.{IsCause}
use Rattle.star_engine.specs.State.{AcceptedTable}
use Rattle.star_engine.specs.Changes.{add_refusals, if_many, if_repeated, unless, duplicate_of as duplicates_of}
use Rattle.star_engine.specs.Faults.{layout_error}

-- a refused layout as a refusal
abbrev pub as_refusal : Option LayoutError → Option Refusal
as_refusal None = None
as_refusal (Some (DuplicateKey at)) = Some (refusal.DuplicateKey at)
as_refusal (Some Rows) = Some refusal.TooManyRows
as_refusal (Some Memory) = None

-- the keys that stand before, in whatever order
repeated_same : (a b keys : List Value) → Rearranged a b → repeated_key a keys ≡ repeated_key b keys
repeated_same a b keys r =
    let same : (p : ℕ × Value) → list_any (same_value p.1) (a ++ take p.0 keys) ≡ list_any (same_value p.1) (b ++ take p.0 keys) = λ p. any-rearranged (same_value p.1) (behind (take p.0 keys) r) in
    λ i. find (λ p. same p i) (numbered keys)

told_once : (o : Option (ℕ × Value)) → first_of (duplicates_of o) ≡ as_refusal (duplicate_of o)
told_once None = refl
told_once (Some p) = refl

keys_told : (key : Option ℕ) (accepted rows batch : List Row) → Rearranged accepted rows → first_of (if_repeated key accepted batch) ≡ as_refusal (duplicate_in key rows batch)
keys_told None accepted rows batch r = refl
keys_told (Some key) accepted rows batch r =
    ap (λ o. first_of (duplicates_of o)) (repeated_same (column_values accepted key) (column_values rows key) (column_values batch key) (map-rearranged _ r))
    ∙ told_once (repeated_key (column_values rows key) (column_values batch key))

-- the first refusal of a batch is that of the layout
pub first_told : (limits : Limits) (accepted : AcceptedTable) (batch : List Row) → Rearranged accepted.rows (rows_of accepted.image) → first_of (add_refusals limits accepted batch) ≡ as_refusal (refusal_of limits.rows accepted.image batch)
first_told limits accepted batch r =
    ap (λ n. first_of (if_many limits (n + length batch) ++ if_repeated accepted.image.schema.key accepted.rows batch)) (length-rearranged r)
    ∙ by (nat_lt limits.rows (row_count accepted.image + length batch)) refl
  where
    by : (b : Bool) → nat_lt limits.rows (row_count accepted.image + length batch) ≡ b
        → first_of (if_many limits (row_count accepted.image + length batch) ++ if_repeated accepted.image.schema.key accepted.rows batch) ≡ as_refusal (refusal_of limits.rows accepted.image batch)
    by true e = rw e refl
    by false e = rw e (keys_told accepted.image.schema.key accepted.rows (rows_of accepted.image) batch r)

-- a refused layout is the cause that the definition gives
pub cause_told : {X : Type 0} (why : LayoutError) (o : Option LayoutError) (x : X) → (why ≢ Memory → o ≡ Some why) → IsCause (layout_error why) (unless (as_refusal o) x)
cause_told (DuplicateKey at) o x told = let is = told (λ e. cc) in rw is refl
cause_told Rows o x told = let is = told (λ e. cc) in rw is refl
cause_told Memory o x told = tt

-- where nothing is refused there is room
pub few_rows : (limit : ℕ) (image : TableImage) (batch : List Row) → refusal_of limit image batch ≡ None → row_count image + length batch ≤ limit
few_rows limit image batch none = by (nat_lt limit (row_count image + length batch)) refl
  where
    by : (b : Bool) → nat_lt limit (row_count image + length batch) ≡ b → row_count image + length batch ≤ limit
    by true e = cc (rw e at none)
    by false e = ltb-false limit (row_count image + length batch) e

-- no batch is refused
pub none_refused : (limit : ℕ) (image : TableImage) → row_count image ≤ limit → refusal_of limit image [] ≡ None
none_refused limit image few =
    let below : nat_lt limit (row_count image + length {A = Row} []) ≡ false = le-ltb limit (row_count image + 0) (omega arith) in
    rw below (by image.schema.key)
  where
    by : (key : Option ℕ) → duplicate_in key (rows_of image) [] ≡ None
    by None = refl
    by (Some k) = refl

-- an error that the definition gives
pub cause_from : {X : Type 0} (e : EngineError) (why : Refusal) (told : Result X Refusal) → (e ≢ engine.Memory → e ≡ engine.Refused why) → told ≡ Err why → IsCause e told
cause_from (engine.Refused w) why told is given = let same : w ≡ why = cc (is (λ e. cc)) in given ∙ ap (λ r. Err r) (sym same)
cause_from engine.Memory why told is given = tt

-- where nothing is refused, only memory is wanting
pub only_memory : (o : Option LayoutError) (why : LayoutError) → o ≡ None → (why ≢ Memory → o ≡ Some why) → why ≡ Memory
only_memory o (DuplicateKey at) none told = let is = told (λ e. cc) in cc
only_memory o Rows none told = let is = told (λ e. cc) in cc
only_memory o Memory none told = refl
