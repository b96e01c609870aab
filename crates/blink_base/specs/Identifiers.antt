-- Words that may name a table or a column. Source: ISO/IEC 9075 (regular identifiers); the folding to lower case and the list of reserved words are this project's own.
use Rattle.std.specs.Prelude.{ℕ, Bool, false, not, ◌&&◌, ◌||◌, ◌==◌, List, [], ◌∷◌, length, nat_le, codes}
use Rattle.std.specs.List.{list_any, list_all}
use Rattle.std.specs.Char.{is_ascii_digit, is_ascii_lowercase, is_ascii_uppercase}
use Rattle.std.specs.Str.{bytes_eq}
use Rattle.blink_base.specs.declared.limits.TheConstants.{LONGEST_INPUT}

-- a letter or an underscore
abbrev pub begins_name : ℕ → Bool
begins_name c = is_ascii_lowercase c || is_ascii_uppercase c || c == 95

-- a letter, an underscore or a digit
abbrev pub is_name_byte : ℕ → Bool
is_name_byte c = begins_name c || is_ascii_digit c

-- the words that have a meaning of their own wherever they stand
abbrev pub reserved_words : List (List ℕ)
reserved_words =
    codes "and" ∷ codes "as" ∷ codes "asc" ∷ codes "between" ∷ codes "by" ∷ codes "desc" ∷ codes "from" ∷ codes "group" ∷ codes "in"
    ∷ codes "is" ∷ codes "like" ∷ codes "limit" ∷ codes "not" ∷ codes "null" ∷ codes "or" ∷ codes "order" ∷ codes "select" ∷ codes "where" ∷ []

-- whether a word is reserved
abbrev pub is_reserved : List ℕ → Bool
is_reserved word = list_any (bytes_eq word) reserved_words

-- a word of a script as it is kept: in lower case
abbrev pub is_kept_word : List ℕ → Bool
is_kept_word [] = false
is_kept_word (c ∷ cs) = begins_name c && list_all is_name_byte cs && list_all (λ b. not (is_ascii_uppercase b)) (c ∷ cs) && nat_le (length (c ∷ cs)) LONGEST_INPUT

-- a word that may stand for a name
abbrev pub is_name : List ℕ → Bool
is_name word = is_kept_word word && not (is_reserved word)
