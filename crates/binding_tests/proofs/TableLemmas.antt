-- The tables of the tests, as a catalog.
use Rattle.std.proofs.Common.{◌≡◌, ◌<◌, ◌≤◌, ◌^◌, ℕ, Bool, true, false, ◌&&◌, List, length, Option, Some, None, sym, ap, ◌∙◌, subst, map, true≢false, arith}
use Rattle.std.specs.Prelude.{codes, if◌then◌else◌}
use Rattle.std.specs.Option.{is_some}
use Rattle.std.specs.Str.{bytes_eq}
use Rattle.std.proofs.lemmas.Bool.{and_parts}
use Rattle.std.proofs.lemmas.List.{length-map}
use Rattle.blink_base.specs.declared.schema.Schema.{Schema}
use Rattle.blink_base.specs.RowFits.{is_schema}
use Rattle.star_lex.specs.declared.token.Token.{Token}
use Rattle.star_sql.specs.declared.ast.Statement.{Statement}
use Rattle.star_lex.specs.Kinds.{kinds_of}
use Rattle.star_sql.specs.ParseResult.{IsSpelled}
use Rattle.star_sql.specs.Spelling.{HasFewTokens}
use Rattle.binding_tests.specs.Allowed.{are_allowed}

-- a short text has few tokens
pub few_tokens : (bytes : List ℕ) (tokens : List Token) (s : Statement) → length tokens ≤ length bytes → length bytes ≤ 2000 → IsSpelled (kinds_of tokens) s → HasFewTokens s
few_tokens bytes tokens s fewer short spelled =
    let many : length (map (λ (t : Token). t.kind) tokens) ≡ length tokens = simp length-map in
    let same = ap length spelled.spelled ∙ many in
    omega arith

-- what is found where the test is passed, and else behind it
either : (b : Bool) (x y : Schema) (rest : Option Schema) → (if b then Some x else rest) ≡ Some y → is_schema x ≡ true → (rest ≡ Some y → is_schema y ≡ true) → is_schema y ≡ true
either true x y rest e good more = subst (λ (z : Schema). is_schema z ≡ true) (ap there e) good
  where
    there : Option Schema → Schema
    there None = x
    there (Some z) = z
either false x y rest e good more = more e

pub tables_allowed : (p u d e f : Schema) → are_allowed p u d e f ≡ true → (name : List ℕ) (schema : Schema)
    → (if bytes_eq name (codes "p") then Some p else (if bytes_eq name (codes "u") then Some u else (if bytes_eq name (codes "d") then Some d else (if bytes_eq name (codes "e") then Some e else (if bytes_eq name (codes "f") then Some f else None))))) ≡ Some schema
    → is_schema schema ≡ true
tables_allowed p u d e f good name schema found =
    let q = and_parts (is_schema p && is_schema u && is_schema d && is_schema e) (is_schema f) good in
    let r = and_parts (is_schema p && is_schema u && is_schema d) (is_schema e) q.0 in
    let s = and_parts (is_schema p && is_schema u) (is_schema d) r.0 in
    let t = and_parts (is_schema p) (is_schema u) s.0 in
    either (bytes_eq name (codes "p")) p schema _ found t.0 (λ g.
    either (bytes_eq name (codes "u")) u schema _ g t.1 (λ h.
    either (bytes_eq name (codes "d")) d schema _ h s.1 (λ i.
    either (bytes_eq name (codes "e")) e schema _ i r.1 (λ j.
    either (bytes_eq name (codes "f")) f schema None j q.1 (λ k. absurd (true≢false (ap is_some (sym k))))))))
