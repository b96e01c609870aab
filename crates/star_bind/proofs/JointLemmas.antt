-- Comparisons of two columns and ties as the code holds them, and those of the definitions.
use Rattle.std.proofs.Common.{◌≡◌, ◌<◌, ◌≤◌, ◌+◌, ◌-◌, ◌==◌, ℕ, suc, Bool, true, false, not, ◌&&◌, ◌||◌, cond, List, [], ◌∷◌, map, find, length, Option, Some, None, Result, Ok, Err, IfOk, refl, sym, ap, ◌∙◌, arith}
use Rattle.std.specs.Prelude.{count_by}
use Rattle.std.specs.List.{list_all, list_any}
use Rattle.std.specs.Str.{bytes_eq}
use Rattle.std.specs.Prelude.{nat_le}
use Rattle.std.proofs.lemmas.List.{length-map}
use Rattle.star_bind.specs.declared.names.scope.Entry.{Entry}
use Rattle.star_bind.specs.Lookup.{scope_from}
use Rattle.blink_lists.proofs.SumLemmas.{count-map}
use Rattle.blink_lists.specs.Lists.{joined, numbered, numbered_from, numbers_from, are_distinct}
use Rattle.star_sql.specs.declared.ast.Primary.{Primary}
use Rattle.star_sql.specs.declared.ast.Select.{Select}
use Rattle.star_meaning.specs.Names.{Scope, FromEntry}
use Rattle.star_bind.specs.declared.star.star_form.Joint.{Joint}
use Rattle.star_bind.specs.declared.star.star_form.Tied.{Tied}
use Rattle.star_bind.specs.declared.query.Tie.{Tie}
use Rattle.star_bind.specs.Factors.{factors}
use Rattle.star_bind.specs.StarForm.{ColumnPair, is_pair_factor, pairs_in, tie_from, ties_in, ties_of, is_fact, is_filter, needs_one_table, has_star_parts, fact_if, fact_of}
use Rattle.star_bind.specs.Joints.{is_joint, pairs_of, tie_from_tied, ties_of_joints, joint_ties, joints_fact}

pub numbers_next : (p : ℕ → Bool) (i n : ℕ) (whole : Bool) → i < n → p i ≡ true → list_all p (numbers_from i (n - i)) ≡ whole → list_all p (numbers_from (i + 1) (n - (i + 1))) ≡ whole
numbers_next p i n whole lt here so_far =
    let e : n - i ≡ suc (n - (i + 1)) = omega arith in
    ap (λ b. b && list_all p (numbers_from (i + 1) (n - (i + 1)))) (sym here) ∙ ap (λ m. list_all p (numbers_from i m)) (sym e) ∙ so_far

pub find_next : (p : ℕ → Bool) (i n : ℕ) (whole : Option ℕ) → i < n → p i ≡ false → find p (numbers_from i (n - i)) ≡ whole → find p (numbers_from (i + 1) (n - (i + 1))) ≡ whole
find_next p i n whole lt here so_far =
    let e : n - i ≡ suc (n - (i + 1)) = omega arith in
    ap (λ b. cond b (Some i) (find p (numbers_from (i + 1) (n - (i + 1))))) (sym here) ∙ ap (λ m. find p (numbers_from i m)) (sym e) ∙ so_far

pub find_here : (p : ℕ → Bool) (i n : ℕ) (whole : Option ℕ) → i < n → p i ≡ true → find p (numbers_from i (n - i)) ≡ whole → Some i ≡ whole
find_here p i n whole lt here so_far =
    let e : n - i ≡ suc (n - (i + 1)) = omega arith in
    ap (λ b. cond b (Some i) (find p (numbers_from (i + 1) (n - (i + 1))))) (sym here) ∙ ap (λ m. find p (numbers_from i m)) (sym e) ∙ so_far

pub find_end : (p : ℕ → Bool) (i n : ℕ) (whole : Option ℕ) → n ≤ i → find p (numbers_from i (n - i)) ≡ whole → None ≡ whole
find_end p i n whole le so_far = let e : n - i ≡ 0 = omega arith in ap (λ m. find p (numbers_from i m)) (sym e) ∙ so_far

-- what ties of the code say of a table
pub fact_told : (scope : Scope) (joints : List Joint) (fact n : ℕ) (ts : List Tied) (b : Bool) → list_all (joint_ties scope fact) joints ≡ true → map tie_from_tied ts ≡ ties_of_joints scope fact joints → n ≡ length scope
    → b ≡ list_all (λ k. k == fact || count_by (λ (t : Tied). t.dimension == k) ts == 1) (numbers_from 0 n) → b ≡ joints_fact scope joints fact
fact_told scope joints fact n ts b all same long told =
    told
    ∙ (λ i. list_all (λ k. k == fact || (sym (count-map (λ (t : Tie). t.dimension == k) tie_from_tied ts) ∙ ap (λ (xs : List Tie). count_by (λ (t : Tie). t.dimension == k) xs) same) i == 1) (numbers_from 0 (long i)))
    ∙ ap (λ c. c && list_all (λ k. k == fact || count_by (λ (t : Tie). t.dimension == k) (ties_of_joints scope fact joints) == 1) (numbers_from 0 (length scope))) (sym all)

-- a test of factors by whether they compare two columns, and by these
abbrev all_pass : (Bool → List ColumnPair → Bool) → List Bool → List (List ColumnPair) → Bool
all_pass p [] ps = true
all_pass p (b ∷ bs) [] = true
all_pass p (b ∷ bs) (c ∷ cs) = p b c && all_pass p bs cs

pass_is : {X : Type 0} (p : Bool → List ColumnPair → Bool) (f : X → Bool) (g : X → List ColumnPair) (xs : List X) → list_all (λ x. p (f x) (g x)) xs ≡ all_pass p (map f xs) (map g xs)
pass_is p f g [] = refl
pass_is p f g (x ∷ xs) = ap (λ b. p (f x) (g x) && b) (pass_is p f g xs)

map-twice : {X Y Z : Type 0} (f : Y → Z) (g : X → Y) (xs : List X) → map f (map g xs) ≡ map (λ x. f (g x)) xs
map-twice f g [] = refl
map-twice f g (x ∷ xs) = ap (λ l. f (g x) ∷ l) (map-twice f g xs)

module _ (scope : Scope) (joints : List Joint) (fs : List Primary) (e : map is_joint joints ≡ map is_pair_factor fs) (g : map pairs_of joints ≡ map (pairs_in scope) fs) where
  abbrev one_tie : ℕ → Bool → List ColumnPair → Bool
  one_tie fact b ps = not b || length (joined (map (tie_from scope fact) ps)) == 1

  ties_same : (fact : ℕ) → list_all (joint_ties scope fact) joints ≡ list_all (λ f. not (is_pair_factor f) || length (ties_in scope fact f) == 1) fs
  ties_same fact = pass_is (one_tie fact) is_joint pairs_of joints ∙ (λ i. all_pass (one_tie fact) (e i) (g i)) ∙ sym (pass_is (one_tie fact) is_pair_factor (pairs_in scope) fs)

  pub ties_listed : (fact : ℕ) → ties_of_joints scope fact joints ≡ joined (map (ties_in scope fact) fs)
  ties_listed fact =
      ap joined (sym (map-twice (λ (ps : List ColumnPair). joined (map (tie_from scope fact) ps)) pairs_of joints)
      ∙ ap (map (λ (ps : List ColumnPair). joined (map (tie_from scope fact) ps))) g
      ∙ map-twice (λ (ps : List ColumnPair). joined (map (tie_from scope fact) ps)) (pairs_in scope) fs)

numbered-first : (a : ℕ) (xs : Scope) → map (λ (p : ℕ × FromEntry). p.0) (numbered_from a xs) ≡ numbers_from a (length xs)
numbered-first a [] = refl
numbered-first a (x ∷ xs) = ap (λ ks. a ∷ ks) (numbered-first (a + 1) xs) ∙ refl

numbered-all : (p : ℕ → Bool) (a : ℕ) (xs : Scope) → list_all (λ (q : ℕ × FromEntry). p q.0) (numbered_from a xs) ≡ list_all p (numbers_from a (length xs))
numbered-all p a [] = refl
numbered-all p a (x ∷ xs) = ap (λ b. p a && b) (numbered-all p (a + 1) xs)

-- the fact of the code is that of the definition
pub fact_is : (scope : Scope) (s : Select) (joints : List Joint) → map is_joint joints ≡ map is_pair_factor (factors s.condition) → map pairs_of joints ≡ map (pairs_in scope) (factors s.condition)
    → find (joints_fact scope joints) (numbers_from 0 (length scope)) ≡ find (is_fact scope s) (map (λ p. p.0) (numbered scope))
fact_is scope s joints e g =
    (λ i. find (λ k. same k i) (sym (numbered-first 0 scope) i))
  where
    same : (k : ℕ) → joints_fact scope joints k ≡ is_fact scope s k
    same k =
        λ i. ties_same scope joints (factors s.condition) e g k i
        && ((λ j. list_all (λ n. n == k || count_by (λ (t : Tie). t.dimension == n) (ties_listed scope joints (factors s.condition) e g k j) == 1) (numbers_from 0 (length scope)))
        ∙ sym (numbered-all (λ n. n == k || count_by (λ (t : Tie). t.dimension == n) (ties_of scope s k) == 1) 0 scope)) i

-- the fact of the code is that of the query
pub fact_found : {E : Type 0} (r : Result (Option ℕ) E) (entries : List Entry) (s : Select) (joints : List Joint) (fs : List Primary) → fs ≡ factors s.condition → has_star_parts (scope_from entries) s ≡ true
    → map is_joint joints ≡ map is_pair_factor fs → map pairs_of joints ≡ map (pairs_in (scope_from entries)) fs
    → IfOk r (λ o. o ≡ find (joints_fact (scope_from entries) joints) (numbers_from 0 (length entries))) → IfOk r (λ o. o ≡ fact_of (scope_from entries) s)
fact_found (Ok o) entries s joints fs same parts e g told =
    let scope = scope_from entries in
    let long : length (scope_from entries) ≡ length entries = simp length-map in
    told ∙ ap (λ n. find (joints_fact scope joints) (numbers_from 0 n)) (sym long)
    ∙ fact_is scope s joints (e ∙ ap (map is_pair_factor) same) (g ∙ ap (map (pairs_in scope)) same)
    ∙ ap (λ b. fact_if b (find (is_fact scope s) (map (λ p. p.0) (numbered scope)))) (sym parts)
fact_found (Err why) entries s joints fs same parts e g told = tt

pub no_fact : (scope : Scope) (s : Select) → has_star_parts scope s ≡ false → None ≡ fact_of scope s
no_fact scope s e = ap (λ b. fact_if b (find (is_fact scope s) (map (λ p. p.0) (numbered scope)))) (sym e)

-- the parts of a star
pub parts_found : {E : Type 0} (r : Result Bool E) (scope : Scope) (s : Select) (fs : List Primary) → fs ≡ factors s.condition → are_distinct bytes_eq s.tables ≡ true
    → (nat_le (length s.tables) 1 || not (list_any (λ i. needs_one_table i.what) s.items)) ≡ true
    → IfOk r (λ b. b ≡ list_all (λ f. is_pair_factor f || is_filter scope f) fs) → IfOk r (λ b. b ≡ has_star_parts scope s)
parts_found (Ok b) scope s fs same one several told =
    told ∙ ap (list_all (λ f. is_pair_factor f || is_filter scope f)) same
    ∙ λ i. sym one i && sym several i && list_all (λ f. is_pair_factor f || is_filter scope f) (factors s.condition)
parts_found (Err why) scope s fs same one several told = tt
