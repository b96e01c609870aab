-- Good values, schemas that a table may have, and rows that fit one. Source: ISO/IEC 9075 (tables as multisets of rows); the ranges are this project's own.
use Rattle.std.specs.Prelude.{◌^◌, ℕ, Bool, true, ◌&&◌, ◌==◌, List, map, length, nat_le, nat_lt, nat_abs, Option, Some, None}
use Rattle.std.specs.List.{list_all, zip}
use Rattle.std.specs.Str.{bytes_eq}
use Rattle.blink_lists.specs.Lists.{are_distinct}
use Rattle.blink_base.specs.Texts.{is_text}
use Rattle.blink_base.specs.declared.value.Value.{Value}
use Rattle.blink_base.specs.declared.value.Value.TheVariants.{Int, Text, Date}
use Rattle.blink_base.specs.declared.value.Kind.{Kind}
use Rattle.blink_base.specs.declared.schema.Column.{Column}
use Rattle.blink_base.specs.declared.schema.Schema.{Schema}
use Rattle.blink_base.specs.Identifiers.{is_name}
use Rattle.blink_base.specs.Values.{Row, kind_of, same_kind}
use Rattle.blink_base.specs.Dates.{is_date_number}
use Rattle.blink_base.specs.declared.limits.TheConstants.{MOST_DIGITS, LONGEST_TEXT}
use Rattle.blink_lists.specs.declared.limits.TheConstants.{MOST_COLUMNS}

-- whether a value lies in the range of its kind
abbrev pub is_good : Value → Bool
is_good (Int n) = nat_lt (nat_abs n) (10 ^ MOST_DIGITS)
is_good (Text t) = is_text t && nat_le (length t) LONGEST_TEXT
is_good (Date d) = is_date_number d

-- whether a value may stand in a column of this kind
abbrev pub is_entry : Kind → Value → Bool
is_entry kind v = is_good v && same_kind kind (kind_of v)

-- whether a row has one good value of its kind per column
abbrev pub fits : Schema → Row → Bool
fits schema row = length row == length schema.columns && list_all (λ p. is_entry p.0.kind p.1) (zip schema.columns row)

-- the key, if any, is a column
abbrev pub is_key_of : List Column → Option ℕ → Bool
is_key_of columns None = true
is_key_of columns (Some key) = nat_lt key (length columns)

-- 1 to 32 columns of distinct names, and a key among them
abbrev pub is_schema : Schema → Bool
is_schema schema =
    nat_le 1 (length schema.columns) && nat_le (length schema.columns) MOST_COLUMNS
    && list_all (λ c. is_name c.name) schema.columns
    && are_distinct bytes_eq (map (λ c. c.name) schema.columns)
    && is_key_of schema.columns schema.key
