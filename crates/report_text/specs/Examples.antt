-- Worked texts, as facts that compute. Source: this project's own.
use Rattle.std.specs.Prelude.{◌≡◌, [], ◌∷◌, pos, negsuc, true, false, codes, refl}
use Rattle.std.specs.Fmt.{digits}
use Rattle.csv.specs.Writing.{fields_text, escaped, is_blank}
use Rattle.blink_base.specs.declared.answer.Field.TheVariants.{Null, Number, Text, Date}
use Rattle.blink_base.specs.declared.refusal.Refusal.TheVariants as refusal
use Rattle.blink_base.specs.declared.value.Kind.TheVariants as kind
use Rattle.report_text.specs.AnswerText.{answer_bytes}
use Rattle.report_text.specs.Texts.{refusal_bytes, layout_bytes, created_bytes, dropped_bytes, reorganized_bytes, added_bytes}

-- refusals without a name, with a name, and with numbers
abbrev pub RefusalsPrinted : Type 0
RefusalsPrinted =
    (refusal_bytes refusal.TooDeep ≡ codes "refused: too deep\n")
    × (refusal_bytes (refusal.UnknownColumn (codes "t.a")) ≡ codes "refused: unknown column t.a\n")
    × (refusal_bytes (refusal.Arity 18446744073709551615) ≡ codes "refused: arity 18446744073709551615\n")
    × (refusal_bytes (refusal.BadValue 2 1) ≡ codes "refused: bad value 2 1\n")

pub refusals_printed_lem : RefusalsPrinted
unfolding digits
refusals_printed_lem = (refl, refl, refl, refl)

-- a layout of two columns and two cells, an empty one, and what tells that a table changed
abbrev pub LayoutsPrinted : Type 0
LayoutsPrinted =
    (layout_bytes (record {
      table = codes "t";
      rows = 142;
      blocks = 2;
      columns = record { name = codes "a"; kind = kind.Int; classes = record { width = 1; size = 2 } ∷ record { width = 2; size = 3 } ∷ []; key = true } ∷ record { name = codes "b"; kind = kind.Text; classes = record { width = 1; size = 1 } ∷ []; key = false } ∷ [];
      cells = record { classes = 0 ∷ 0 ∷ []; rows = 110; pages = 1; banks = 8 ∷ 4 ∷ [] } ∷ record { classes = 1 ∷ 0 ∷ []; rows = 30; pages = 1; banks = 8 ∷ [] } ∷ [];
      rest = 2;
    })
    ≡ codes "table t rows 142 blocks 2\ncolumn a int classes 2 1:2 2:3 key\ncolumn b text classes 1 1:1\ncell 0.0 rows 110 pages 1 banks 8,4\ncell 1.0 rows 30 pages 1 banks 8\nrest 2\n")
    × (layout_bytes (record { table = codes "u"; rows = 0; blocks = 1; columns = record { name = codes "d"; kind = kind.Date; classes = []; key = false } ∷ []; cells = []; rest = 0 })
    ≡ codes "table u rows 0 blocks 1\ncolumn d date classes 0\nrest 0\n")
    × (created_bytes (codes "t") ≡ codes "created t\n")
    × (dropped_bytes (codes "t") ≡ codes "dropped t\n")
    × (reorganized_bytes (codes "t") ≡ codes "reorganized t\n")
    × (added_bytes 12 ≡ codes "added 12\n")

pub layouts_printed_lem : LayoutsPrinted
unfolding digits
layouts_printed_lem = (refl, refl, refl, refl, refl, refl)

-- an answer of two lines: NULL and a number below zero, a text that needs quotes and a date with zeros; and one of no line whose name is empty
abbrev pub AnswersPrinted : Type 0
AnswersPrinted =
    (answer_bytes (record {
      names = codes "a" ∷ codes "sum(b)" ∷ [];
      lines = (Null ∷ Number (negsuc 11) ∷ []) ∷ (Text (codes "x, \"y\"") ∷ Date (pos 9990201) ∷ []) ∷ [];
    })
    ≡ codes "a,sum(b)\nNULL,-12\n\"x, \"\"y\"\"\",0999-02-01\n2 rows\n")
    × (answer_bytes (record { names = [] ∷ []; lines = [] }) ≡ codes "\"\"\n0 rows\n")

pub answers_printed_lem : AnswersPrinted
unfolding digits fields_text escaped is_blank
answers_printed_lem = (refl, refl)
