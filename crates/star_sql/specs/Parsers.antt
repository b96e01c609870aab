-- Parsers: what stands first in some tokens, and the tokens behind it. Contracts of private functions alone cite this and the other modules of parsers. Source: this project's own.
use Rattle.std.specs.Prelude.{◌≡◌, ℕ, zero, suc, ℤ, pos, negsuc, Bool, true, false, List, [], ◌∷◌, length, ◌==◌, Option, Some, None, Result, Ok, Err, codes, if◌then◌else◌}
use Rattle.std.specs.Str.{bytes_eq}
use Rattle.blink_base.specs.declared.value.Kind.{Kind}
use Rattle.blink_base.specs.declared.value.Kind.TheVariants as kind
use Rattle.blink_base.specs.Identifiers.{is_name}
use Rattle.star_lex.specs.declared.token.TokenKind.{TokenKind}
use Rattle.star_lex.specs.declared.token.TokenKind.TheVariants.{Name, Number, Text, Symbol}
use Rattle.star_lex.specs.declared.token.Mark.{Mark}
use Rattle.star_lex.specs.declared.token.Mark.TheVariants as mark
use Rattle.star_lex.specs.Kinds.{is_word}
use Rattle.star_sql.specs.declared.ast.Literal.{Literal}
use Rattle.star_sql.specs.declared.ast.Literal.TheVariants as literal
use Rattle.star_sql.specs.declared.fault.ParseFault.{ParseFault}
use Rattle.star_sql.specs.declared.fault.ParseFault.TheVariants as fault
use Rattle.star_sql.specs.Spelling.{Spelled}
use Rattle.star_sql.specs.WellFormed.{is_written_number, is_written_limit}

-- what stands first, if it is there, and what is behind it
abbrev pub ParseOf : Type 0 → Type 0
ParseOf A = Option (A × Spelled)

infixl 10 ◌>>=◌
-- what is there, read on
abbrev pub ◌>>=◌ : {A B : Type 0} → Option A → (A → Option B) → Option B
(Some x) >>= f = f x
None >>= f = None

-- one of two things, as it is there or not
abbrev pub cases_of : {A B : Type 0} → Option A → B → (A → B) → B
cases_of None none some = none
cases_of (Some x) none some = some x

-- a fault of reading, unless memory ran out
abbrev pub Fails : {A : Type 0} → ParseFault → Option A → Type 0
Fails fault.Memory read = Unit {0}
Fails fault.Syntax read = read ≡ None
Fails fault.Deep read = ⊥

-- what a function returned, seen by view, is what reading gives, unless memory ran out
abbrev pub Gives : {X Y : Type 0} → (X → Y) → Result X ParseFault → Option Y → Type 0
Gives view (Ok x) read = read ≡ Some (view x)
Gives view (Err e) read = Fails e read

-- the tokens that a function found behind something, seen by view, are those that reading gives
abbrev pub Finds : {X : Type 0} → (X → Spelled) → Option X → Option Spelled → Type 0
Finds view None read = read ≡ None
Finds view (Some r) read = read ≡ Some (view r)

-- the number of a mark among the marks, by which two are compared
abbrev pub mark_index : Mark → ℕ
mark_index mark.LessEqual = 0
mark_index mark.GreaterEqual = 1
mark_index mark.Unequal = 2
mark_index mark.Left = 3
mark_index mark.Right = 4
mark_index mark.Comma = 5
mark_index mark.Dot = 6
mark_index mark.Star = 7
mark_index mark.Plus = 8
mark_index mark.Minus = 9
mark_index mark.Equal = 10
mark_index mark.Less = 11
mark_index mark.Greater = 12

-- whether a token is this mark
abbrev pub is_mark : Mark → TokenKind → Bool
is_mark m (Name w) = false
is_mark m (Number n) = false
is_mark m (Text w) = false
is_mark m (Symbol s) = mark_index m == mark_index s

-- whether a token is a text
abbrev pub is_text : TokenKind → Bool
is_text (Name w) = false
is_text (Number n) = false
is_text (Text w) = true
is_text (Symbol m) = false

-- what was read, made into something else
abbrev pub made_of : {A B : Type 0} → (A → B) → ParseOf A → ParseOf B
made_of make read = read >>= λ x. Some (make x.0, x.1)

-- one thing, and another behind it
abbrev pub then_at : {A B : Type 0} → (Spelled → ParseOf A) → (Spelled → ParseOf B) → Spelled → ParseOf (A × B)
then_at first second ts = first ts >>= λ a. second a.1 >>= λ b. Some ((a.0, b.0), b.1)

-- what is behind a token that passes the test
unfoldable pub behind : (TokenKind → Bool) → Spelled → Option Spelled
behind test [] = None
behind test (t ∷ ts) = if test t then Some ts else None

-- a name
unfoldable pub name_at : Spelled → ParseOf (List ℕ)
name_at [] = None
name_at (Name w ∷ ts) = if is_name w then Some (w, ts) else None
name_at (Number n ∷ ts) = None
name_at (Text w ∷ ts) = None
name_at (Symbol m ∷ ts) = None

-- a text
unfoldable pub text_at : Spelled → ParseOf (List ℕ)
text_at [] = None
text_at (Name w ∷ ts) = None
text_at (Number n ∷ ts) = None
text_at (Text w ∷ ts) = Some (w, ts)
text_at (Symbol m ∷ ts) = None

-- a number, behind a minus or not
unfoldable pub number_at : Bool → Spelled → ParseOf Literal
number_at minus [] = None
number_at minus (Name w ∷ ts) = None
number_at minus (Number n ∷ ts) = if is_written_number n then Some (literal.Number minus n, ts) else None
number_at minus (Text w ∷ ts) = None
number_at minus (Symbol m ∷ ts) = None

-- a text that is meant as a date
unfoldable pub date_at : Spelled → ParseOf Literal
date_at ts = do
  w ← text_at ts
  Some (literal.Date w.0, w.1)

-- a literal without minus
unfoldable pub plain_at : Spelled → ParseOf Literal
plain_at [] = None
plain_at (Name w ∷ ts) = if bytes_eq w (codes "date") then date_at ts else None
plain_at (Number n ∷ ts) = number_at false (Number n ∷ ts)
plain_at (Text w ∷ ts) = Some (literal.Text w, ts)
plain_at (Symbol m ∷ ts) = None

-- a literal
unfoldable pub literal_at : Spelled → ParseOf Literal
literal_at ts = cases_of (behind (is_mark mark.Minus) ts) (plain_at ts) (λ rest. number_at true rest)

-- a kind that a word says
unfoldable pub kind_of_word : List ℕ → Option Kind
kind_of_word w =
    if bytes_eq w (codes "int") then Some kind.Int
    else (if bytes_eq w (codes "text") then Some kind.Text
    else (if bytes_eq w (codes "date") then Some kind.Date else None))

-- a kind
unfoldable pub kind_at : Spelled → ParseOf Kind
kind_at [] = None
kind_at (Name w ∷ ts) = do
  k ← kind_of_word w
  Some (k, ts)
kind_at (Number n ∷ ts) = None
kind_at (Text w ∷ ts) = None
kind_at (Symbol m ∷ ts) = None

-- whether PRIMARY KEY stands there
unfoldable pub key_at : Spelled → ParseOf Bool
key_at ts = cases_of (behind (is_word (codes "primary")) ts) (Some (false, ts)) (λ rest. behind (is_word (codes "key")) rest >>= λ r. Some (true, r))

-- what stands behind a word
abbrev pub after_at : {A : Type 0} → List ℕ → (Spelled → ParseOf A) → Spelled → ParseOf A
after_at word parses ts = behind (is_word word) ts >>= λ rest. parses rest

-- a word and what stands behind it, where the word is there
abbrev pub optional_at : {A : Type 0} → List ℕ → (Spelled → ParseOf A) → Spelled → ParseOf (Option A)
optional_at word parses ts = cases_of (behind (is_word word) ts) (Some (None, ts)) (λ rest. parses rest >>= λ x. Some (Some x.0, x.1))

-- what stands before a closing parenthesis
abbrev pub closed_at : {A : Type 0} → (Spelled → ParseOf A) → Spelled → ParseOf A
closed_at parses ts = parses ts >>= λ x. behind (is_mark mark.Right) x.1 >>= λ rest. Some (x.0, rest)

-- what stands in parentheses
abbrev pub inside_at : {A : Type 0} → (Spelled → ParseOf A) → Spelled → ParseOf A
inside_at parses ts = behind (is_mark mark.Left) ts >>= λ inside. closed_at parses inside

-- a list with this member before what is read
abbrev pub with_first : {A : Type 0} → A → ParseOf (List A) → ParseOf (List A)
with_first x read = read >>= λ xs. Some (x ∷ xs.0, xs.1)

-- further members of a list, each behind a token that passes the test, and at most so many
unfoldable pub more_at : {A : Type 0} → (TokenKind → Bool) → (Spelled → ParseOf A) → ℕ → Spelled → ParseOf (List A)
more_at between parses zero ts = Some ([], ts)
more_at between parses (suc n) ts = cases_of (behind between ts) (Some ([], ts)) (λ rest. parses rest >>= λ x. with_first x.0 (more_at between parses n x.1))

-- a list with a token that passes the test between each two members
unfoldable pub separated_at : {A : Type 0} → (TokenKind → Bool) → (Spelled → ParseOf A) → Spelled → ParseOf (List A)
separated_at between parses ts = parses ts >>= λ x. with_first x.0 (more_at between parses (length x.1) x.1)

-- a list with a comma between each two members
abbrev pub listed_at : {A : Type 0} → (Spelled → ParseOf A) → Spelled → ParseOf (List A)
listed_at parses ts = separated_at (is_mark mark.Comma) parses ts

-- a list in parentheses
abbrev pub enclosed_at : {A : Type 0} → (Spelled → ParseOf A) → Spelled → ParseOf (List A)
enclosed_at parses ts = inside_at (listed_at parses) ts

-- a list behind a word and BY, where the word is there
abbrev pub by_at : {A : Type 0} → List ℕ → (Spelled → ParseOf A) → Spelled → ParseOf (List A)
by_at word parses ts = cases_of (behind (is_word word) ts) (Some ([], ts)) (λ rest. after_at (codes "by") (listed_at parses) rest)

-- a first word, and what stands behind it
abbrev pub Form : Type 0 → Type 0
Form A = List ℕ × (Spelled → ParseOf A)

-- what stands behind a word, by the first of some forms that has this word
abbrev pub by_word : {A : Type 0} → List (Form A) → List ℕ → Spelled → ParseOf A
by_word [] w ts = None
by_word (form ∷ more) w ts = if bytes_eq w form.0 then form.1 ts else by_word more w ts

-- a number without minus that LIMIT may have
abbrev pub limit_of : ℤ → Option ℕ
limit_of (pos n) = if is_written_limit n then Some n else None
limit_of (negsuc n) = None

-- the number of LIMIT
unfoldable pub limit_at : Spelled → ParseOf ℕ
limit_at [] = None
limit_at (Name w ∷ ts) = None
limit_at (Number n ∷ ts) = limit_of n >>= λ limit. Some (limit, ts)
limit_at (Text w ∷ ts) = None
limit_at (Symbol m ∷ ts) = None
