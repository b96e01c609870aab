-- Records of fields. Source: RFC 4180 (records of CSV), with a line feed alone.
use Rattle.std.specs.Prelude.{ℕ, List, ◌++◌, map, codes}
use Rattle.std.specs.Fmt.{decimal}
use Rattle.blink_lists.specs.Lists.{separated}

-- bytes
abbrev pub Bytes : Type 0
Bytes = List ℕ

-- fields with a comma between each two, and a line feed behind them
abbrev pub record_of : List Bytes → Bytes
record_of fields = separated (codes ",") fields ++ codes "\n"

-- a record of whole numbers
abbrev pub numbers_record : List ℕ → Bytes
numbers_record ns = record_of (map decimal ns)
