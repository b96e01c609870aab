-- The bytes that are printed. Source: this project's own.
use Rattle.std.specs.Prelude.{ℕ, Bool, true, false, List, [], ◌∷◌, ◌++◌, map, flat_map, length, codes}
use Rattle.std.specs.Fmt.{decimal}
use Rattle.blink_lists.specs.Lists.{separated}
use Rattle.blink_base.specs.declared.refusal.Refusal.{Refusal}
use Rattle.blink_base.specs.declared.refusal.Refusal.TheVariants as refusal
use Rattle.blink_base.specs.declared.value.Kind.{Kind}
use Rattle.blink_base.specs.declared.value.Kind.TheVariants as kind
use Rattle.report_text.specs.declared.lines.ClassLine.{ClassLine}
use Rattle.report_text.specs.declared.lines.ColumnLine.{ColumnLine}
use Rattle.report_text.specs.declared.lines.CellLine.{CellLine}
use Rattle.report_text.specs.declared.lines.LayoutLines.{LayoutLines}

-- bytes
abbrev pub Bytes : Type 0
Bytes = List ℕ

-- words with a blank between each two, and a line feed behind them
abbrev pub line_text : List Bytes → Bytes
line_text words = separated (codes " ") words ++ codes "\n"

-- what a refusal says
abbrev pub refusal_words : Refusal → List Bytes
refusal_words refusal.Syntax = codes "syntax" ∷ []
refusal_words refusal.TooDeep = codes "too deep" ∷ []
refusal_words refusal.NumberTooLong = codes "number too long" ∷ []
refusal_words (refusal.UnknownTable name) = codes "unknown table" ∷ name ∷ []
refusal_words (refusal.TableExists name) = codes "table exists" ∷ name ∷ []
refusal_words refusal.BadColumns = codes "bad columns" ∷ []
refusal_words refusal.TooManyTables = codes "too many tables" ∷ []
refusal_words (refusal.UnknownColumn name) = codes "unknown column" ∷ name ∷ []
refusal_words (refusal.AmbiguousColumn name) = codes "ambiguous column" ∷ name ∷ []
refusal_words refusal.WrongKind = codes "wrong kind" ∷ []
refusal_words refusal.NotStar = codes "not a star query" ∷ []
refusal_words refusal.NotGrouped = codes "not grouped" ∷ []
refusal_words refusal.TooManyConjunctions = codes "too many conjunctions" ∷ []
refusal_words refusal.NoFile = codes "no file" ∷ []
refusal_words refusal.FileTooLong = codes "file too long" ∷ []
refusal_words refusal.BadHeader = codes "header" ∷ []
refusal_words (refusal.Arity at) = codes "arity" ∷ decimal at ∷ []
refusal_words (refusal.BadValue at field) = codes "bad value" ∷ decimal at ∷ decimal field ∷ []
refusal_words (refusal.DuplicateKey at) = codes "duplicate key" ∷ decimal at ∷ []
refusal_words refusal.TooManyRows = codes "too many rows" ∷ []
refusal_words refusal.NoSpace = codes "no space" ∷ []
refusal_words refusal.NotTableFile = codes "not a table file" ∷ []
refusal_words refusal.NotBuilt = codes "not built" ∷ []

-- the line of a refusal
abbrev pub refusal_bytes : Refusal → Bytes
refusal_bytes why = line_text (codes "refused:" ∷ refusal_words why)

-- the line of a CREATE
abbrev pub created_bytes : Bytes → Bytes
created_bytes name = line_text (codes "created" ∷ name ∷ [])

-- the line of a DROP
abbrev pub dropped_bytes : Bytes → Bytes
dropped_bytes name = line_text (codes "dropped" ∷ name ∷ [])

-- the line of a REORGANIZE
abbrev pub reorganized_bytes : Bytes → Bytes
reorganized_bytes name = line_text (codes "reorganized" ∷ name ∷ [])

-- the line of rows that were added
abbrev pub added_bytes : ℕ → Bytes
added_bytes n = line_text (codes "added" ∷ decimal n ∷ [])

-- a count alone on its line
abbrev pub number_bytes : ℕ → Bytes
number_bytes n = line_text (decimal n ∷ [])

-- pieces, each behind a mark
abbrev pub each_behind : Bytes → List Bytes → Bytes
each_behind mark pieces = flat_map (λ piece. mark ++ piece) pieces

-- the name of a kind
abbrev pub kind_text : Kind → Bytes
kind_text kind.Int = codes "int"
kind_text kind.Text = codes "text"
kind_text kind.Date = codes "date"

-- WIDTH:SIZE of a class
abbrev pub class_text : ClassLine → Bytes
class_text c = decimal c.width ++ codes ":" ++ decimal c.size

-- the word behind the primary key
abbrev pub key_words : Bool → List Bytes
key_words true = codes "key" ∷ []
key_words false = []

-- the line of a column: its classes, and whether it is the key
abbrev pub column_bytes : ColumnLine → Bytes
column_bytes c = line_text (codes "column" ∷ c.name ∷ kind_text c.kind ∷ codes "classes" ∷ decimal (length c.classes) ∷ map class_text c.classes ++ key_words c.key)

-- numbers with a mark between each two
abbrev pub numbers_text : Bytes → List ℕ → Bytes
numbers_text mark ns = separated mark (map decimal ns)

-- the line of a cell
abbrev pub cell_bytes : CellLine → Bytes
cell_bytes c =
    line_text (codes "cell" ∷ numbers_text (codes ".") c.classes ∷ codes "rows" ∷ decimal c.rows ∷ codes "pages" ∷ decimal c.pages ∷ codes "banks" ∷ numbers_text (codes ",") c.banks ∷ [])

-- the lines of DESCRIBE
abbrev pub layout_bytes : LayoutLines → Bytes
layout_bytes l =
    line_text (codes "table" ∷ l.table ∷ codes "rows" ∷ decimal l.rows ∷ codes "blocks" ∷ decimal l.blocks ∷ [])
    ++ flat_map column_bytes l.columns
    ++ flat_map cell_bytes l.cells
    ++ line_text (codes "rest" ∷ decimal l.rest ∷ [])

-- the line for words of the command line that are in no form
abbrev pub usage_bytes : Bytes
usage_bytes = codes "usage: blink run [--rows N] [--blocks N] | blink range COLUMN LOW HIGH | blink demo SEED ROWS\n"
