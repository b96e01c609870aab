-- What is read as a condition is spelled so, and what is spelled so is read again.
use Rattle.std.proofs.Common.{◌≡◌, ℕ, zero, suc, ◌+◌, ◌<◌, ◌≤◌, Bool, true, false, ◌||◌, List, ◌++◌, length, map, Option, Some, None, refl, sym, ap, subst, ◌∙◌, arith, inl, inr}
use Rattle.std.specs.Prelude.{IsTrue, codes}
use Rattle.std.proofs.lemmas.List.{length-append}
use Rattle.blink_lists.specs.Lists.{separated}
use Rattle.star_lex.specs.declared.token.TokenKind.{TokenKind}
use Rattle.star_lex.specs.declared.token.TokenKind.TheVariants.{Name}
use Rattle.star_lex.specs.declared.token.Mark.TheVariants as mark
use Rattle.star_lex.specs.Kinds.{is_word}
use Rattle.star_sql.specs.declared.ast.TestWords.{TestWords}
use Rattle.star_sql.specs.declared.ast.Primary.{Primary, Test, Group}
use Rattle.star_sql.specs.declared.ast.Conj.{Conj}
use Rattle.star_sql.specs.declared.ast.Cond.{Cond}
use Rattle.star_sql.specs.Spelling.{Spelled, name_of, mark_of, in_parentheses, test_spelled, cond_spelled}
use Rattle.star_sql.specs.WellFormed.{some_and_all, is_test, is_condition}
use Rattle.star_sql.specs.Conditions.{of_cond}
use Rattle.star_sql.specs.Parsers.{cases_of, behind, made_of, inside_at, is_mark}
use Rattle.star_sql.specs.PredicateParsers.{test_at}
use Rattle.star_sql.specs.ConditionParsers.{conj_of, cond_of, primary_at, conj_at, cond_at, condition_at}
use Rattle.star_sql.proofs.StepLemmas.{bind_some, cased, some_is}
use Rattle.star_sql.proofs.TokenLemmas.{Parses, none_further, never_behind, word_is}
use Rattle.star_sql.proofs.MemberTestLemmas.{some_mapped, some_alike, some_imply, some_short}
use Rattle.star_sql.proofs.SequenceLemmas.{Marks, sequences}
use Rattle.star_sql.proofs.CombinatorLemmas.{insides, made}
use Rattle.star_sql.proofs.PredicateLemmas.{goes_on, not_opened, tests}
use Rattle.star_sql.proofs.FoldLemmas.{on_prim, on_conj, fold_cond, fold_group, conjs_of, cond_of-conjs, parted}

-- ---- well formed with fewer than so many parentheses open at once

abbrev pub Within : Type 0
Within = ℕ → Bool

abbrev each_within : List Within → Within
each_within fs n = some_and_all (λ (f : Within). f n) fs

abbrev one_less : Within → Within
one_less f zero = false
one_less f (suc n) = f n

abbrev test_within : TestWords → Within
test_within t n = is_test t

abbrev group_within : Within → Within
group_within f n = f n

abbrev cond_parts_within : List Within → Within
cond_parts_within fs = one_less (each_within fs)

-- whether a condition is so, and whether the parts of one are
abbrev pub is_within : Cond → Within
is_within = of_cond test_within group_within each_within cond_parts_within

abbrev prim_within : ℕ → Primary → Bool
prim_within n p = on_prim test_within group_within each_within cond_parts_within p n

abbrev conj_within : ℕ → Conj → Bool
conj_within n c = some_and_all (prim_within n) c.all

-- the same of being well formed and of spelling
abbrev same_bool : Bool → Bool
same_bool b = b

abbrev is_prim : Primary → Bool
is_prim = on_prim is_test same_bool (some_and_all same_bool) (some_and_all same_bool)

abbrev prim_spelled : Primary → Spelled
prim_spelled = on_prim test_spelled in_parentheses (separated (name_of (codes "and"))) (separated (name_of (codes "or")))

abbrev conj_spelled : Conj → Spelled
conj_spelled c = separated (name_of (codes "and")) (map prim_spelled c.all)

within_any : (cs : List Conj) (n : ℕ) → is_within (cond_of cs) (suc n) ≡ some_and_all (conj_within n) cs
within_any cs n =
    ap (λ (f : Within). f (suc n)) (fold_cond test_within group_within each_within cond_parts_within cs)
    ∙ some_mapped (λ (f : Within). f n) (on_conj test_within group_within each_within cond_parts_within) cs
    ∙ some_alike (λ (c : Conj). each_within (map (on_prim test_within group_within each_within cond_parts_within) c.all) n) (conj_within n) (λ c. some_mapped (λ (f : Within). f n) (on_prim test_within group_within each_within cond_parts_within) c.all) cs

within_none : (cs : List Conj) → is_within (cond_of cs) zero ≡ false
within_none cs = ap (λ (f : Within). f zero) (fold_cond test_within group_within each_within cond_parts_within cs)

formed_any : (cs : List Conj) → is_condition (cond_of cs) ≡ some_and_all (λ (c : Conj). some_and_all is_prim c.all) cs
formed_any cs =
    fold_cond is_test same_bool (some_and_all same_bool) (some_and_all same_bool) cs
    ∙ some_mapped same_bool (on_conj is_test same_bool (some_and_all same_bool) (some_and_all same_bool)) cs
    ∙ some_alike (λ (c : Conj). some_and_all same_bool (map is_prim c.all)) (λ (c : Conj). some_and_all is_prim c.all) (λ c. some_mapped same_bool is_prim c.all) cs

spelled_any : (cs : List Conj) → cond_spelled (cond_of cs) ≡ separated (name_of (codes "or")) (map conj_spelled cs)
spelled_any cs = fold_cond test_spelled in_parentheses (separated (name_of (codes "and"))) (separated (name_of (codes "or"))) cs

spelled_group : (c : Cond) → prim_spelled (Group c) ≡ in_parentheses (cond_spelled c)
spelled_group c = fold_group test_spelled in_parentheses (separated (name_of (codes "and"))) (separated (name_of (codes "or"))) c

within_group : (c : Cond) (n : ℕ) → prim_within n (Group c) ≡ is_within c n
within_group c n = ap (λ (f : Within). f n) (fold_group test_within group_within each_within cond_parts_within c)

formed_group : (c : Cond) → is_prim (Group c) ≡ is_condition c
formed_group c = fold_group is_test same_bool (some_and_all same_bool) (some_and_all same_bool) c

-- ---- conditions

ands : Marks (is_word (codes "and")) (Name (codes "and"))
ands = record { passes = refl; only = word_is (codes "and") }

ors : Marks (is_word (codes "or")) (Name (codes "or"))
ors = record { passes = refl; only = word_is (codes "or") }

-- what a condition may be read on with
abbrev conj_goes_on : TokenKind → Bool
conj_goes_on t = is_word (codes "and") t || goes_on t

abbrev pub cond_goes_on : TokenKind → Bool
cond_goes_on t = is_word (codes "or") t || conj_goes_on t

module _ (n : ℕ) (inner : Parses (cond_at n) cond_spelled (λ c. is_within c n) cond_goes_on) where
  group : Parses (inside_at (cond_at n)) (λ (c : Cond). in_parentheses (cond_spelled c)) (λ c. is_within c n) none_further
  group = insides inner refl

  abbrev TakesPrimary : Spelled → Primary × Spelled → Type 0
  TakesPrimary ts x = IsTrue (prim_within n x.0) × (ts ≡ prim_spelled x.0 ++ x.1)

  primary_takes : (ts : Spelled) (x : Primary × Spelled) → primary_at (cond_at n) ts ≡ Some x → TakesPrimary ts x
  unfolding primary_at
  primary_takes ts x e =
      elim (cased (behind (is_mark mark.Left) ts) (made_of Test (test_at ts)) (λ rest. made_of Group (inside_at (cond_at n) ts)) (Some x) e) [
        | inl p ↦
            let a = bind_some (test_at ts) (λ t. Some (Test t.0, t.1)) x p.1 in
            subst (TakesPrimary ts) (some_is (Test a.0.0, a.0.1) x a.2) (tests.takes ts a.0 a.1)
        | inr p ↦
            let a = bind_some (inside_at (cond_at n) ts) (λ c. Some (Group c.0, c.1)) x p.2 in
            let t = group.takes ts a.0 a.1 in
            subst (TakesPrimary ts) (some_is (Group a.0.0, a.0.1) x a.2) (within_group a.0.0 n ∙ t.0, t.1 ∙ ap (λ (s : Spelled). s ++ a.0.1) (sym (spelled_group a.0.0)))
      ]

  group_opened : (s rest : Spelled) → behind (is_mark mark.Left) (in_parentheses s ++ rest) ≡ Some ((s ++ mark_of mark.Right) ++ rest)
  unfolding behind
  group_opened s rest = refl

  group_read : (ts behind_left : Spelled) (c : Cond) (rest : Spelled) → behind (is_mark mark.Left) ts ≡ Some behind_left → inside_at (cond_at n) ts ≡ Some (c, rest) → primary_at (cond_at n) ts ≡ Some (Group c, rest)
  unfolding primary_at
  group_read ts behind_left c rest opened read =
      ap (λ (o : Option Spelled). cases_of o (made_of Test (test_at ts)) (λ after. made_of Group (inside_at (cond_at n) ts))) opened ∙ ap (made_of Group) read

  group_again : (c : Cond) (rest : Spelled) → IsTrue (is_within c n) → primary_at (cond_at n) (prim_spelled (Group c) ++ rest) ≡ Some (Group c, rest)
  unfolding primary_at
  group_again c rest f =
      ap (λ (s : Spelled). primary_at (cond_at n) (s ++ rest)) (spelled_group c)
      ∙ group_read (in_parentheses (cond_spelled c) ++ rest) ((cond_spelled c ++ mark_of mark.Right) ++ rest) c rest (group_opened (cond_spelled c) rest) (group.again c rest f (never_behind rest))

  primary_again : (p : Primary) (rest : Spelled) → IsTrue (prim_within n p) → behind goes_on rest ≡ None → primary_at (cond_at n) (prim_spelled p ++ rest) ≡ Some (p, rest)
  unfolding primary_at
  primary_again p rest formed ends =
      elim (parted p) [
        | inl t ↦ subst (λ (q : Primary). IsTrue (prim_within n q) → primary_at (cond_at n) (prim_spelled q ++ rest) ≡ Some (q, rest)) (sym t.1) (λ f. rw (not_opened t.0 rest, tests.again t.0 rest f ends) refl) formed
        | inr c ↦ subst (λ (q : Primary). IsTrue (prim_within n q) → primary_at (cond_at n) (prim_spelled q ++ rest) ≡ Some (q, rest)) (sym c.1) (λ f. group_again c.0 rest (sym (within_group c.0 n) ∙ f)) formed
      ]

  primaries : Parses (primary_at (cond_at n)) prim_spelled (prim_within n) goes_on
  primaries = record { takes = primary_takes; again = primary_again }

  conjunctions : Parses (conj_at (cond_at n)) conj_spelled (conj_within n) conj_goes_on
  unfolding conj_at
  conjunctions = made (sequences primaries ands refl) conj_of (λ c. c.all) conj_spelled (conj_within n) (λ c. refl) (λ ps. refl) (λ ps. refl)

  next : Parses (cond_at (suc n)) cond_spelled (λ c. is_within c (suc n)) cond_goes_on
  unfolding cond_at
  next = made (sequences conjunctions ors refl) cond_of conjs_of cond_spelled (λ c. is_within c (suc n)) cond_of-conjs spelled_any (λ cs. within_any cs n)

never_within : (c : Cond) → is_within c zero ≡ true → ⊥
never_within c h =
    let no : false ≡ true = sym (within_none (conjs_of c)) ∙ ap (λ (d : Cond). is_within d zero) (cond_of-conjs c) ∙ h in
    cc

conds : (n : ℕ) → Parses (cond_at n) cond_spelled (λ c. is_within c n) cond_goes_on
unfolding cond_at
conds zero = record {
  takes = λ ts x e. absurd cc;
  again = λ c rest formed ends. absurd (never_within c formed);
}
conds (suc n) = next n (conds n)

-- ---- what is within some depth is well formed, and what is well formed is within the depth that its length allows

prim_formed : (n : ℕ) → ((c : Cond) → is_within c n ≡ true → is_condition c ≡ true) → (p : Primary) → prim_within n p ≡ true → is_prim p ≡ true
prim_formed n inner p f =
    elim (parted p) [
      | inl t ↦ subst (λ (q : Primary). prim_within n q ≡ true → is_prim q ≡ true) (sym t.1) (λ h. h) f
      | inr c ↦ subst (λ (q : Primary). prim_within n q ≡ true → is_prim q ≡ true) (sym c.1) (λ h. formed_group c.0 ∙ inner c.0 (sym (within_group c.0 n) ∙ h)) f
    ]

cond_formed : (n : ℕ) (c : Cond) → is_within c n ≡ true → is_condition c ≡ true
cond_formed zero c h = absurd (never_within c h)
cond_formed (suc n) c h =
    let cs = conjs_of c in
    let w : some_and_all (conj_within n) cs ≡ true = sym (within_any cs n) ∙ ap (λ (d : Cond). is_within d (suc n)) (cond_of-conjs c) ∙ h in
    ap is_condition (sym (cond_of-conjs c)) ∙ formed_any cs
    ∙ some_imply (conj_within n) (λ (d : Conj). some_and_all is_prim d.all) (λ d. some_imply (prim_within n) is_prim (prim_formed n (cond_formed n)) d.all) cs w

prim_fits : (n : ℕ) → ((c : Cond) → is_condition c ≡ true → length (cond_spelled c) < n → is_within c n ≡ true) → (p : Primary) → is_prim p ≡ true → length (prim_spelled p) ≤ n → prim_within n p ≡ true
prim_fits n inner p f le =
    elim (parted p) [
      | inl t ↦ subst (λ (q : Primary). is_prim q ≡ true → prim_within n q ≡ true) (sym t.1) (λ h. h) f
      | inr c ↦
          let text : length (prim_spelled (Group c.0)) ≤ n = subst (λ (q : Primary). length (prim_spelled q) ≤ n) c.1 le in
          let l : length (prim_spelled (Group c.0)) ≡ suc (length (cond_spelled c.0 ++ mark_of mark.Right)) = ap length (spelled_group c.0) in
          let k : length (cond_spelled c.0 ++ mark_of mark.Right) ≡ length (cond_spelled c.0) + 1 = length-append (cond_spelled c.0) (mark_of mark.Right) in
          let lt : length (cond_spelled c.0) < n = omega arith in
          let g : is_prim (Group c.0) ≡ true = subst (λ (q : Primary). is_prim q ≡ true) c.1 f in
          subst (λ (q : Primary). prim_within n q ≡ true) (sym c.1) (within_group c.0 n ∙ inner c.0 (sym (formed_group c.0) ∙ g) lt)
    ]

cond_fits : (n : ℕ) (c : Cond) → is_condition c ≡ true → length (cond_spelled c) < n → is_within c n ≡ true
cond_fits zero c f lt = absurd (omega arith)
cond_fits (suc n) c f lt =
    let cs = conjs_of c in
    let text : cond_spelled c ≡ separated (name_of (codes "or")) (map conj_spelled cs) = ap cond_spelled (sym (cond_of-conjs c)) ∙ spelled_any cs in
    let le : length (separated (name_of (codes "or")) (map conj_spelled cs)) ≤ n = omega (arith, ap length text) in
    let formed : some_and_all (λ (d : Conj). some_and_all is_prim d.all) cs ≡ true = sym (formed_any cs) ∙ ap is_condition (cond_of-conjs c) ∙ f in
    let each : (d : Conj) → some_and_all is_prim d.all ≡ true → length (conj_spelled d) ≤ n → conj_within n d ≡ true = λ d. some_short (Name (codes "and")) prim_spelled is_prim (prim_within n) n (prim_fits n (cond_fits n)) d.all in
    ap (λ (d : Cond). is_within d (suc n)) (sym (cond_of-conjs c)) ∙ within_any cs n
    ∙ some_short (Name (codes "or")) conj_spelled (λ (d : Conj). some_and_all is_prim d.all) (conj_within n) n each cs formed le

condition_takes : (ts : Spelled) (x : Cond × Spelled) → condition_at ts ≡ Some x → IsTrue (is_condition x.0) × (ts ≡ cond_spelled x.0 ++ x.1)
unfolding condition_at
condition_takes ts x e =
    let t = (conds (suc (length ts))).takes ts x e in
    (cond_formed (suc (length ts)) x.0 t.0, t.1)

condition_again : (c : Cond) (rest : Spelled) → IsTrue (is_condition c) → behind cond_goes_on rest ≡ None → condition_at (cond_spelled c ++ rest) ≡ Some (c, rest)
unfolding condition_at
condition_again c rest f ends =
    let lt : length (cond_spelled c) < suc (length (cond_spelled c ++ rest)) = omega (arith, length-append (cond_spelled c) rest) in
    (conds (suc (length (cond_spelled c ++ rest)))).again c rest (cond_fits (suc (length (cond_spelled c ++ rest))) c f lt) ends

pub conditions : Parses condition_at cond_spelled is_condition cond_goes_on
conditions = record { takes = condition_takes; again = condition_again }
