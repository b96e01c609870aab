-- Pieces at their places in a script. Source: this project's own.
use Rattle.std.specs.Prelude.{◌≤◌, length, slice_range}
use Rattle.report_text.specs.Texts.{Bytes}
use Rattle.star_lex.specs.declared.token.Place.{Place}

-- a place lies within a script
abbrev pub IsWithin : Bytes → Place → Type 0
IsWithin script place = (place.start ≤ place.end) × (place.end ≤ length script)

-- the bytes of the piece there
abbrev pub text_at : Bytes → Place → Bytes
text_at script place = slice_range script place.start place.end
