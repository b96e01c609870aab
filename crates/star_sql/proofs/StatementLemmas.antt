-- What is read as a statement is spelled so, and what is spelled so is read again: the parser is the inverse of the spelling.
use Rattle.std.proofs.Common.{◌≡◌, ℕ, Bool, true, ◌&&◌, ◌||◌, List, [], ◌∷◌, ◌++◌, map, Some, None, refl, sym, ap, ◌∙◌, Result, Ok, Err}
use Rattle.std.specs.Prelude.{IsTrue, IfOk, codes}
use Rattle.std.proofs.lemmas.List.{append-nil}
use Rattle.blink_base.specs.declared.value.Kind.{Kind}
use Rattle.blink_base.specs.Identifiers.{is_name}
use Rattle.star_lex.specs.declared.token.TokenKind.{TokenKind}
use Rattle.star_lex.specs.declared.token.TokenKind.TheVariants.{Name, Number, Text, Symbol}
use Rattle.star_lex.specs.Kinds.{is_word}
use Rattle.star_sql.specs.declared.ast.ColumnDef.{ColumnDef}
use Rattle.star_sql.specs.declared.ast.Literal.{Literal}
use Rattle.star_sql.specs.declared.ast.Statement.{Statement}
use Rattle.star_sql.specs.declared.ast.Statement.TheVariants as statement
use Rattle.star_sql.specs.declared.fault.ParseFault.{ParseFault}
use Rattle.star_sql.specs.declared.fault.ParseFault.TheVariants as fault
use Rattle.star_sql.specs.Spelling.{Spelled, name_of, text_of, kind_spelled, key_mark, literal_spelled, definition_spelled, in_parentheses, listed, spell}
use Rattle.star_sql.specs.WellFormed.{some_and_all, is_definition, is_literal, is_well_formed}
use Rattle.star_sql.specs.ParseResult.{IsSpelled, SpelledOnce}
use Rattle.star_sql.specs.Parsers.{ParseOf, Gives, is_mark, behind, enclosed_at, literal_at}
use Rattle.star_sql.specs.StatementParsers.{definition_at, named_at, filed_at, create_at, insert_at, of_both, forms, behind_word, statement_at, alone, whole}
use Rattle.star_sql.proofs.StepLemmas.{some_is}
use Rattle.std.proofs.Math.Bool.{and-true}
use Rattle.star_sql.proofs.TokenLemmas.{Parses, none_further, names, texts, literals, kinds, keys, any_text, never_behind}
use Rattle.star_sql.proofs.CombinatorLemmas.{both, made, after, lists, enclosures, by_word_takes, AllTake, form}
use Rattle.star_sql.proofs.SelectLemmas.{select_parts, selects}
use Rattle.star_lex.specs.declared.token.Mark.TheVariants as mark

-- ---- the parts of statements

-- what a column of CREATE may be read on with
abbrev definition_goes_on : TokenKind → Bool
definition_goes_on t = none_further t || (none_further t || is_word (codes "primary") t)

definitions : Parses definition_at definition_spelled is_definition definition_goes_on
unfolding definition_at
definitions =
    made (both names (both kinds keys (λ key rest ends. never_behind (key_mark key ++ rest))) (λ x rest ends. never_behind ((kind_spelled x.0 ++ key_mark x.1) ++ rest)))
    (λ (x : List ℕ × (Kind × Bool)). record { name = x.0; kind = x.1.0; key = x.1.1 }) (λ d. (d.name, (d.kind, d.key))) definition_spelled is_definition (λ d. refl) (λ x. refl) (λ x. sym (and-true (is_name x.0)))

named : (w : List ℕ) → Parses (named_at w) (λ (n : List ℕ). Name w ∷ name_of n) is_name none_further
unfolding named_at
named w = after names w

filed : (w v : List ℕ) → Parses (filed_at w v) (λ (x : List ℕ × List ℕ). (Name w ∷ name_of x.0) ++ (Name v ∷ text_of x.1)) (λ x. is_name x.0 && any_text x.1) (λ t. none_further t || none_further t)
unfolding filed_at
filed w v = both (named w) (after texts v) (λ file rest ends. never_behind ((Name v ∷ text_of file) ++ rest))

creates : Parses create_at (λ (x : List ℕ × List ColumnDef). (Name (codes "table") ∷ name_of x.0) ++ in_parentheses (listed (map definition_spelled x.1))) (λ x. is_name x.0 && some_and_all is_definition x.1) (λ t. none_further t || none_further t)
unfolding create_at
creates = both (named (codes "table")) (enclosures definitions refl refl) (λ ds rest ends. never_behind (in_parentheses (listed (map definition_spelled ds)) ++ rest))

abbrev row_spelled : List Literal → Spelled
row_spelled row = in_parentheses (listed (map literal_spelled row))

rows : Parses (enclosed_at literal_at) row_spelled (some_and_all is_literal) none_further
rows = enclosures literals refl refl

inserts : Parses insert_at (λ (x : List ℕ × List (List Literal)). (Name (codes "into") ∷ name_of x.0) ++ (Name (codes "values") ∷ listed (map row_spelled x.1))) (λ x. is_name x.0 && some_and_all (some_and_all is_literal) x.1) (λ t. none_further t || (is_mark mark.Comma t || none_further t))
unfolding insert_at
inserts = both (named (codes "into")) (after (lists rows refl) (codes "values")) (λ rs rest ends. never_behind ((Name (codes "values") ∷ listed (map row_spelled rs)) ++ rest))

-- ---- statements

-- the tokens are a well formed statement, and the tokens behind it
abbrev Takes : Spelled → Statement × Spelled → Type 0
Takes ts x = IsTrue (is_well_formed x.0) × (ts ≡ spell x.0 ++ x.1)

-- a name, and a text that is always one
name_alone : (b : Bool) → IsTrue (b && true) → IsTrue b
name_alone b h = sym (and-true b) ∙ h

forms_take : AllTake Takes forms
forms_take = (
  form Takes creates (codes "create") (of_both statement.Create) (λ x rest f. (f, refl)),
  (
    form Takes (named (codes "table")) (codes "drop") statement.Drop (λ n rest f. (f, refl)),
    (
      form Takes (filed (codes "into") (codes "from")) (codes "load") (of_both statement.Load) (λ x rest f. (name_alone (is_name x.0) f, refl)),
      (
        form Takes (filed (codes "into") (codes "from")) (codes "append") (of_both statement.Append) (λ x rest f. (name_alone (is_name x.0) f, refl)),
        (
          form Takes inserts (codes "insert") (of_both statement.Insert) (λ x rest f. (f, refl)),
          (
            form Takes (named (codes "table")) (codes "reorganize") statement.Reorganize (λ n rest f. (f, refl)),
            (
              form Takes selects (codes "select") statement.Select (λ s rest f. (f, ap (λ (t : Spelled). t ++ rest) (sym (select_parts s)))),
              (
                form Takes names (codes "describe") statement.Describe (λ n rest f. (f, refl)),
                (
                  form Takes (after selects (codes "select")) (codes "explain") statement.Explain (λ s rest f. (f, ap (λ (t : Spelled). Name (codes "explain") ∷ (t ++ rest)) (sym (select_parts s)))),
                  (
                    form Takes (filed (codes "table") (codes "to")) (codes "export") (of_both statement.Export) (λ x rest f. (name_alone (is_name x.0) f, refl)),
                    (form Takes (filed (codes "table") (codes "from")) (codes "import") (of_both statement.Import) (λ x rest f. (name_alone (is_name x.0) f, refl)), tt),
                  ),
                ),
              ),
            ),
          ),
        ),
      ),
    ),
  ),
)

statement_takes : (ts : Spelled) (x : Statement × Spelled) → statement_at ts ≡ Some x → Takes ts x
unfolding statement_at behind_word
statement_takes [] x e = absurd cc
statement_takes (Name w ∷ ts) x e = by_word_takes Takes forms w ts x forms_take e
statement_takes (Number n ∷ ts) x e = absurd cc
statement_takes (Text w ∷ ts) x e = absurd cc
statement_takes (Symbol m ∷ ts) x e = absurd cc

-- with nothing behind it
to_end : {A : Type 0} {parses : Spelled → ParseOf A} {spelled : A → Spelled} {formed : A → Bool} {further : TokenKind → Bool} → Parses parses spelled formed further → (a : A) → IsTrue (formed a) → parses (spelled a) ≡ Some (a, [])
unfolding behind
to_end {A} {parses} {spelled} {formed} {further} one a f = ap parses (sym (append-nil (spelled a))) ∙ one.again a [] f refl

file_formed : (b : Bool) → IsTrue b → IsTrue (b && true)
file_formed b h = and-true b ∙ h

statement_again : (s : Statement) → IsTrue (is_well_formed s) → statement_at (spell s) ≡ Some (s, [])
unfolding statement_at behind_word
statement_again (statement.Create n cs) f = rw (to_end creates (n, cs) f) refl
statement_again (statement.Drop n) f = rw (to_end (named (codes "table")) n f) refl
statement_again (statement.Load n file) f = rw (to_end (filed (codes "into") (codes "from")) (n, file) (file_formed (is_name n) f)) refl
statement_again (statement.Append n file) f = rw (to_end (filed (codes "into") (codes "from")) (n, file) (file_formed (is_name n) f)) refl
statement_again (statement.Insert n rs) f = rw (to_end inserts (n, rs) f) refl
statement_again (statement.Reorganize n) f = rw (to_end (named (codes "table")) n f) refl
statement_again (statement.Select s) f = ap statement_at (select_parts s) ∙ rw (to_end selects s f) refl
statement_again (statement.Describe n) f = rw (to_end names n f) refl
statement_again (statement.Explain s) f = ap (λ (t : Spelled). statement_at (Name (codes "explain") ∷ t)) (select_parts s) ∙ rw (to_end (after selects (codes "select")) s f) refl
statement_again (statement.Export n file) f = rw (to_end (filed (codes "table") (codes "to")) (n, file) (file_formed (is_name n) f)) refl
statement_again (statement.Import n file) f = rw (to_end (filed (codes "table") (codes "from")) (n, file) (file_formed (is_name n) f)) refl

alone_is : (read : ParseOf Statement) (s : Statement) → alone read ≡ Some s → read ≡ Some (s, [])
alone_is None s e = absurd cc
alone_is (Some (t, [])) s e = ap (λ (u : Statement). Some (u, [])) (some_is t s e)
alone_is (Some (t, k ∷ ks)) s e = absurd cc

-- what is read of all the tokens is spelled so
whole_takes : (ts : Spelled) (s : Statement) → whole ts ≡ Some s → IsSpelled ts s
unfolding whole
whole_takes ts s e =
    let t = statement_takes ts (s, []) (alone_is (statement_at ts) s e) in
    record { formed = t.0; spelled = sym (t.1 ∙ append-nil (spell s)) }

-- what is spelled so is read
whole_again : (ts : Spelled) (s : Statement) → IsSpelled ts s → whole ts ≡ Some s
unfolding whole
whole_again ts s is = ap whole (sym is.spelled) ∙ rw (statement_again s is.formed) refl

-- two well formed statements with one spelling are equal
pub spelled_once : SpelledOnce
spelled_once s t formed_s formed_t e =
    some_is s t (sym (whole_again (spell s) s (record { formed = formed_s; spelled = refl })) ∙ whole_again (spell s) t (record { formed = formed_t; spelled = sym e }))

-- ---- what a function returned that gives what reading gives

pub gives_spelled : (ts : Spelled) (r : Result Statement ParseFault) → Gives (λ s. s) r (whole ts) → IfOk r (λ s. IsSpelled ts s)
gives_spelled ts (Ok s) given = whole_takes ts s given
gives_spelled ts (Err e) given = tt

pub gives_no_depth : (ts : Spelled) (r : Result Statement ParseFault) → Gives (λ s. s) r (whole ts) → r ≡ Err fault.Deep → ⊥
gives_no_depth ts (Ok s) given e = cc
gives_no_depth ts (Err fault.Deep) given e = given
gives_no_depth ts (Err fault.Syntax) given e = cc
gives_no_depth ts (Err fault.Memory) given e = cc

pub gives_no_statement : (ts : Spelled) (r : Result Statement ParseFault) → Gives (λ s. s) r (whole ts) → r ≡ Err fault.Syntax → (s : Statement) → IsSpelled ts s → ⊥
gives_no_statement ts (Ok s) given e t is = cc
gives_no_statement ts (Err fault.Deep) given e t is = given
gives_no_statement ts (Err fault.Syntax) given e t is =
    let h = whole_again ts t is in
    cc
gives_no_statement ts (Err fault.Memory) given e t is = cc
