-- Whether a table's condition has more conjunctions than it may, by capped counts.
use Rattle.std.proofs.Common.{◌≡◌, ◌<◌, ◌≤◌, ◌+◌, ◌-◌, ◌==◌, ◌&&◌, ◌||◌, not, ℕ, suc, Bool, true, false, List, [], ◌∷◌, map, filter, length, nat_lt, refl, sym, ap, ◌∙◌, arith}
use Rattle.std.specs.List.{list_all, list_any}
use Rattle.std.proofs.lemmas.List.{length-map}
use Rattle.blink_lists.specs.Lists.{numbered, numbered_from, numbers_from}
use Rattle.star_sql.specs.declared.ast.Primary.{Primary}
use Rattle.star_sql.specs.declared.ast.Select.{Select}
use Rattle.star_meaning.specs.Names.{Scope, FromEntry}
use Rattle.star_bind.specs.declared.limits.TheConstants.{MOST_CONJUNCTIONS}
use Rattle.star_bind.specs.declared.names.scope.Entry.{Entry}
use Rattle.star_bind.specs.Caps.{capped}
use Rattle.star_bind.specs.Counts.{and_count, factor_count}
use Rattle.star_bind.specs.Factors.{factors}
use Rattle.star_bind.specs.StarForm.{is_pair_factor, tables_in}
use Rattle.star_bind.specs.BoundQuery.{is_wide}
use Rattle.star_bind.specs.CappedCounts.{count_in}
use Rattle.star_bind.specs.Lookup.{scope_from}
use Rattle.star_bind.proofs.CountLemmas.{conjunctions_counted}

wide_capped : (n : ℕ) → nat_lt MOST_CONJUNCTIONS (capped n) ≡ nat_lt MOST_CONJUNCTIONS n
wide_capped n = grind arith

pub wide_told : (scope : Scope) (table number : ℕ) (b : Bool) (fs kept : List Primary)
    → kept ≡ filter (λ f. not (is_pair_factor f) && list_all (λ t. t == table) (tables_in scope f)) fs → number ≡ capped (and_count (map (factor_count scope) kept)).count
    → b ≡ nat_lt MOST_CONJUNCTIONS number → b ≡ nat_lt MOST_CONJUNCTIONS (count_in scope fs table)
wide_told scope table number b fs kept k told wide =
    wide ∙ ap (nat_lt MOST_CONJUNCTIONS) (told ∙ ap (λ (ps : List Primary). capped (and_count (map (factor_count scope) ps)).count) k)
    ∙ wide_capped (count_in scope fs table)

-- the numbers of tables that are wide
abbrev pub is_table_wide : Scope → List Primary → ℕ → Bool
is_table_wide scope fs k = nat_lt MOST_CONJUNCTIONS (count_in scope fs k)

numbered-any : (p : ℕ → Bool) (a : ℕ) (xs : Scope) → list_any (λ (q : ℕ × FromEntry). p q.0) (numbered_from a xs) ≡ list_any p (numbers_from a (length xs))
numbered-any p a [] = refl
numbered-any p a (x ∷ xs) = ap (λ b. p a || b) (numbered-any p (a + 1) xs)

pub wide_is : (entries : List Entry) (s : Select) (fs : List Primary) → fs ≡ factors s.condition → list_any (is_table_wide (scope_from entries) fs) (numbers_from 0 (length entries)) ≡ is_wide (scope_from entries) s
wide_is entries s fs same =
    let scope = scope_from entries in
    let long : length (scope_from entries) ≡ length entries = simp length-map in
    (λ i. list_any (is_table_wide scope (same i)) (numbers_from 0 (sym long i)))
    ∙ sym (numbered-any (is_table_wide scope (factors s.condition)) 0 scope)
    ∙ ap (λ (t : ℕ × FromEntry → Bool). list_any t (numbered scope)) (λ i p. nat_lt MOST_CONJUNCTIONS (sym (conjunctions_counted scope s p.0) i))

pub any_begin : (p : ℕ → Bool) (n : ℕ) → list_any p (numbers_from 0 (n - 0)) ≡ list_any p (numbers_from 0 n)
any_begin p n = let e : n - 0 ≡ n = omega arith in ap (λ m. list_any p (numbers_from 0 m)) e

pub any_next : (p : ℕ → Bool) (i n : ℕ) (whole : Bool) → i < n → p i ≡ false → list_any p (numbers_from i (n - i)) ≡ whole → list_any p (numbers_from (i + 1) (n - (i + 1))) ≡ whole
any_next p i n whole lt here so_far =
    let e : n - i ≡ suc (n - (i + 1)) = omega arith in
    ap (λ b. b || list_any p (numbers_from (i + 1) (n - (i + 1)))) (sym here) ∙ ap (λ m. list_any p (numbers_from i m)) (sym e) ∙ so_far

pub any_here : (p : ℕ → Bool) (i n : ℕ) (whole : Bool) → i < n → p i ≡ true → list_any p (numbers_from i (n - i)) ≡ whole → true ≡ whole
any_here p i n whole lt here so_far =
    let e : n - i ≡ suc (n - (i + 1)) = omega arith in
    ap (λ b. b || list_any p (numbers_from (i + 1) (n - (i + 1)))) (sym here) ∙ ap (λ m. list_any p (numbers_from i m)) (sym e) ∙ so_far

pub any_end : (p : ℕ → Bool) (i n : ℕ) (whole : Bool) → n ≤ i → list_any p (numbers_from i (n - i)) ≡ whole → false ≡ whole
any_end p i n whole le so_far = let e : n - i ≡ 0 = omega arith in ap (λ m. list_any p (numbers_from i m)) (sym e) ∙ so_far
