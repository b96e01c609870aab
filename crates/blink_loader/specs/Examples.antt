-- Worked CSV texts, as facts that compute. Source: this project's own.
use Rattle.std.specs.Prelude.{◌≡◌, pos, [], ◌∷◌, codes, Ok, Err, None, refl}
use Rattle.csv.specs.Machine.{next_record}
use Rattle.csv.specs.Reading.{records_from, strip_bom}
use Rattle.blink_base.specs.declared.schema.Schema.{Schema}
use Rattle.blink_base.specs.declared.value.Kind.TheVariants as kind
use Rattle.blink_base.specs.declared.value.Value.TheVariants.{Int, Text}
use Rattle.blink_base.specs.declared.value.ValueFault.TheVariants as why
use Rattle.blink_loader.specs.declared.batch.LoadFault.TheVariants as load
use Rattle.blink_loader.specs.Batch.{batch}
use Rattle.blink_loader.specs.Records.{records_of}
use Rattle.blink_loader.specs.RangeCount.{range_of, unknown_column, bad_record, arity, bad_value}

-- three bytes in front of a text, by which some writers mark UTF-8
abbrev pub TextsRead : Type 0
TextsRead =
    (records_of (codes "a,b\n1,\"x,\"\"y\"\"\"\n\n2,\n") ≡ (codes "a" ∷ codes "b" ∷ []) ∷ (codes "1" ∷ codes "x,\"y\"" ∷ []) ∷ (codes "2" ∷ [] ∷ []) ∷ [])
    × (records_of (codes "a\r\n1\r2") ≡ (codes "a" ∷ []) ∷ (codes "1" ∷ []) ∷ (codes "2" ∷ []) ∷ [])
    × (records_of (239 ∷ 187 ∷ 191 ∷ codes "a\n\" \n") ≡ (codes "a" ∷ []) ∷ (codes " \n" ∷ []) ∷ [])
    × (records_of (codes "\n\n") ≡ [])

-- four numbers, two of them within the bounds; bounds in the wrong order; no header; the first of two equal names; a field
-- that is no number, and one that has too many digits; a short record before a bad one
abbrev pub RangesCounted : Type 0
RangesCounted =
    (range_of (codes "a\n1\n2\n5\n6\n") (codes "a") (pos 2) (pos 5) ≡ Ok 2)
    × (range_of (codes "a\n1\n") (codes "a") (pos 5) (pos 2) ≡ Ok 0)
    × (range_of [] (codes "a") (pos 1) (pos 1) ≡ Err unknown_column)
    × (range_of (codes "a,A\n-0,7\n007,0\n") (codes "A") (pos 0) (pos 5) ≡ Ok 1)
    × (range_of (codes "b,A\n1,x\n") (codes "a") (pos 1) (pos 1) ≡ Err (bad_record (bad_value 1 2)))
    × (range_of (codes "a\n999999999999999\n1000000000000000\n") (codes "a") (pos 1) (pos 1) ≡ Err (bad_record (bad_value 2 1)))
    × (range_of (codes "a,b\n1,2\n1\nx,y\n") (codes "a") (pos 1) (pos 1) ≡ Err (bad_record (arity 2)))

-- a table of one column of numbers
abbrev pub schema_a : Schema
schema_a = record { columns = record { name = codes "a"; kind = kind.Int } ∷ []; key = None }

-- a table of a column of numbers and one of texts
abbrev pub schema_ab : Schema
schema_ab = record { columns = record { name = codes "a"; kind = kind.Int } ∷ record { name = codes "b"; kind = kind.Text } ∷ []; key = None }

-- quotes, an empty line, an empty field, the case of a name; no text, a header alone; names in another order, and of another
-- number; a short record and a long one; a field at fault, the first of two, and one behind a short record
abbrev pub TextsLoaded : Type 0
TextsLoaded =
    (batch schema_ab (codes "A,b\n1,\"x,\"\"y\"\"\"\n\n2,\n") ≡ Ok ((Int (pos 1) ∷ Text (codes "x,\"y\"") ∷ []) ∷ (Int (pos 2) ∷ Text [] ∷ []) ∷ []))
    × (batch schema_a (codes "\n\na\n-0\n\n007") ≡ Ok ((Int (pos 0) ∷ []) ∷ (Int (pos 7) ∷ []) ∷ []))
    × (batch schema_a [] ≡ Ok [])
    × (batch schema_a (codes "a\n") ≡ Ok [])
    × (batch schema_ab (codes "b,a\n1,x\n") ≡ Err load.Header)
    × (batch schema_ab (codes "a\n1\n") ≡ Err load.Header)
    × (batch schema_ab (codes "a,b\n1,x\n2\n") ≡ Err (load.Arity 2))
    × (batch schema_a (codes "a\n\n1,2\n") ≡ Err (load.Arity 1))
    × (batch schema_ab (codes "a,b\n1,x\n+2,y\n") ≡ Err (load.BadValue 2 1 why.NotNumber))
    × (batch schema_a (codes "a\n1000000000000000\nx\n") ≡ Err (load.BadValue 1 1 why.TooLong))
    × (batch schema_ab (codes "a,b\n1\nx,y\n") ≡ Err (load.Arity 1))
    × (batch schema_a (codes "a\n\"\"\n") ≡ Err (load.BadValue 1 1 why.NotNumber))

pub texts_read_lem : TextsRead
unfolding next_record records_from strip_bom
texts_read_lem = (refl, refl, refl, refl)

pub ranges_counted_lem : RangesCounted
unfolding next_record records_from strip_bom
ranges_counted_lem = (refl, refl, refl, refl, refl, refl, refl)

pub texts_loaded_lem : TextsLoaded
unfolding next_record records_from strip_bom
texts_loaded_lem = (refl, refl, refl, refl, refl, refl, refl, refl, refl, refl, refl, refl)
