-- The texts that begin with a text, as those from it up to, but without, it and 64 times the last character. Source: RFC 3629 (UTF-8), where bytes are in the order of characters; the range is this project's own.
use Rattle.std.specs.Prelude.{◌≡◌, ℕ, true, ◌&&◌, List, [], ◌∷◌, ◌++◌, replicate}
use Rattle.std.specs.Ordering.{is_le, is_lt}
use Rattle.blink_base.specs.declared.value.Value.TheVariants.{Text}
use Rattle.blink_base.specs.Values.{value_cmp}
use Rattle.blink_base.specs.RowFits.{is_good}
use Rattle.blink_base.specs.Tests.{begins_with}
use Rattle.blink_base.specs.Texts.{is_text}
use Rattle.blink_lists.specs.Lists.{joined}

-- the bytes of the last character, U+10FFFF
abbrev pub last_letter : List ℕ
last_letter = 244 ∷ 143 ∷ 191 ∷ 191 ∷ []

-- so many of them
abbrev pub last_letters : ℕ → List ℕ
last_letters n = joined (replicate n last_letter)

-- what stands behind every text with this front
abbrev pub behind_front : List ℕ → List ℕ
behind_front front = front ++ last_letters 64

-- The law that a good text begins with a text exactly where it lies from it up to, but without, it and 64 times the last character.
abbrev pub PrefixIsRange : Type 0
PrefixIsRange =
    (front text : List ℕ) → is_text front ≡ true → is_good (Text text) ≡ true
    → begins_with front (Text text) ≡ (is_le (value_cmp (Text front) (Text text)) && is_lt (value_cmp (Text text) (Text (behind_front front))))
