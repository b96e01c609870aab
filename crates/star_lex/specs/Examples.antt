-- Worked pieces and tokens, as facts that compute. Source: this project's own.
use Rattle.std.specs.Prelude.{◌≡◌, pos, [], ◌∷◌, codes, Ok, Err}
use Rattle.star_lex.specs.declared.token.Mark.TheVariants as mark
use Rattle.star_lex.specs.declared.token.TokenKind.TheVariants as token
use Rattle.star_lex.specs.declared.token.LexFault.TheVariants as fault
use Rattle.star_lex.specs.Pieces.{piece_texts}
use Rattle.star_lex.specs.Lex.{lexed}

-- a semicolon inside a text or a comment ends no piece; a quote inside a comment opens no text
abbrev pub PiecesCut : Type 0
PiecesCut =
    (piece_texts (codes "a;'b;''c';-- d;'\ne") ≡ codes "a" ∷ codes "'b;''c'" ∷ codes "-- d;'\ne" ∷ [])
    × (piece_texts (codes ";;") ≡ [] ∷ [] ∷ [] ∷ [])
    × (piece_texts [] ≡ [] ∷ [])
    × (piece_texts (codes "x 'y; z") ≡ codes "x 'y; z" ∷ [])

-- longest forms, names in lower case, and pairs of quotes as one
abbrev pub TokensTaken : Type 0
TokensTaken =
    (lexed (codes "A1<=007 -- c\n-'it''s'") ≡ Ok (
    record { kind = token.Name (codes "a1"); start = 0; end = 2 }
    ∷ record { kind = token.Symbol mark.LessEqual; start = 2; end = 4 }
    ∷ record { kind = token.Number (pos 7); start = 4; end = 7 }
    ∷ record { kind = token.Symbol mark.Minus; start = 13; end = 14 }
    ∷ record { kind = token.Text (codes "it's"); start = 14; end = 21 } ∷ []))
    × (lexed (codes " \t--x") ≡ Ok [])
    × (lexed (codes "<") ≡ Ok (record { kind = token.Symbol mark.Less; start = 0; end = 1 } ∷ []))

-- the first place at fault
abbrev pub FaultsFound : Type 0
FaultsFound =
    (lexed (codes "a 'b''") ≡ Err (fault.OpenText 2))
    × (lexed (codes "a ? 'b") ≡ Err (fault.BadByte 2))
    × (lexed (codes "0000000000000001 1000000000000000 ?") ≡ Err (fault.LongNumber 17))
    × (lexed (codes "12ab") ≡ Ok (record { kind = token.Number (pos 12); start = 0; end = 2 } ∷ record { kind = token.Name (codes "ab"); start = 2; end = 4 } ∷ []))
