-- A query by its parts.
use Rattle.std.proofs.Common.{◌≡◌, ◌^◌, ◌<◌, ◌≤◌, ◌+◌, ◌==◌, ◌&&◌, not, ℕ, suc, Bool, true, false, List, [], ◌∷◌, map, filter, filter_map, length, nat_lt, Option, Some, None, option_map, Result, Ok, Err, IfOk, refl, sym, ap, ◌∙◌, arith}
use Rattle.std.specs.List.{list_all, cons_option}
use Rattle.std.specs.Prelude.{nat_le, unwrap_or}
use Rattle.std.specs.Str.{bytes_eq}
use Rattle.std.proofs.lemmas.Bool.{and_parts, lt-ltb, ltb-true, leb-true}
use Rattle.blink_base.specs.declared.refusal.Refusal.{Refusal}
use Rattle.blink_base.specs.declared.schema.Schema.{Schema}
use Rattle.blink_base.specs.Identifiers.{is_name}
use Rattle.blink_base.specs.RowFits.{is_schema, is_key_of}
use Rattle.blink_base.specs.Lines.{LineKey}
use Rattle.blink_lists.specs.declared.limits.TheConstants.{MOST_COLUMNS}
use Rattle.blink_lists.specs.Lists.{joined, numbered, numbered_from, numbers_from, are_distinct}
use Rattle.star_sql.specs.declared.ast.OrderKey.{OrderKey}
use Rattle.star_sql.specs.declared.ast.Primary.{Primary}
use Rattle.star_sql.specs.declared.ast.Select.{Select}
use Rattle.star_sql.specs.declared.ast.Statement.TheVariants as statement
use Rattle.star_sql.specs.Conditions.{of_prim}
use Rattle.star_sql.specs.Spelling.{HasFewTokens}
use Rattle.star_meaning.specs.Names.{Scope, FromEntry}
use Rattle.star_meaning.specs.Answer.{item_meant, is_falling, line_keys}
use Rattle.star_bind.specs.declared.query.BoundOrder.{BoundOrder}
use Rattle.star_bind.specs.declared.conditions.branch.Branch.{Branch}
use Rattle.star_bind.specs.declared.fault.BindFault.{BindFault}
use Rattle.star_bind.specs.declared.query.Conjunction.{Conjunction}
use Rattle.star_bind.specs.declared.query.Query.{Query}
use Rattle.star_bind.specs.declared.query.Tie.{Tie}
use Rattle.star_bind.specs.declared.star.star_form.Joint.{Joint}
use Rattle.star_bind.specs.declared.star.star_form.Tied.{Tied}
use Rattle.star_bind.specs.BoundQuery.{Schemas, entry_of, scope_of, scope_refusal, first_refusal, query_in, query_of, bound_or_refused, bound_of}
use Rattle.star_bind.specs.Conjunctions.{Tests, factor_subtree, and_of, table_conjunctions}
use Rattle.star_bind.specs.Factors.{factors}
use Rattle.star_bind.specs.Preconditions.{AreAllowed}
use Rattle.star_bind.specs.QueryParts.{is_addressable, conjunctions_among, order_of}
use Rattle.star_bind.specs.BindAnswer.{refusal_of, is_cause, IsBound}
use Rattle.star_bind.specs.Branches.{made_of, branch_every, branch_some, branch_test}
use Rattle.star_bind.specs.Checks.{is_why, IsChecked}
use Rattle.star_bind.specs.Joints.{is_joint, pairs_of, tie_from_tied, ties_of_joints}
use Rattle.star_bind.specs.StarForm.{is_pair_factor, pairs_in, tables_in, ties_in, fact_of}
use Rattle.star_bind.proofs.AcceptanceLemmas.{accepted}
use Rattle.star_bind.proofs.BranchLemmas.{made_is}
use Rattle.star_bind.proofs.JointLemmas.{ties_listed}
use Rattle.star_bind.proofs.TokenCountLemmas.{few-tables}

numbered-map : {Y : Type 0} (f : ℕ → Y) (a : ℕ) (xs : Scope) → map f (numbers_from a (length xs)) ≡ map (λ (p : ℕ × FromEntry). f p.0) (numbered_from a xs)
numbered-map f a [] = refl
numbered-map f a (x ∷ xs) = ap (λ ys. f a ∷ ys) (numbered-map f (a + 1) xs)

-- the conjunctions of each table
pub filters_is : (scope : Scope) (s : Select) (fs : List Primary) (n : ℕ) → fs ≡ factors s.condition → n ≡ length scope
    → map (conjunctions_among scope fs) (numbers_from 0 n) ≡ map (λ p. table_conjunctions scope s p.0) (numbered scope)
filters_is scope s fs n same long =
    (λ i. map (conjunctions_among scope (same i)) (numbers_from 0 (long i))) ∙ numbered-map (table_conjunctions scope s) 0 scope

-- the keys of the order
pub order_is : (scope : Scope) (s : Select) → filter_map (order_of scope s.items) s.order ≡ map (λ key. record { item = key.item; falling = key.falling }) (line_keys scope s)
order_is scope s = by s.order
  where
    one : (o : Option ℕ) (falling : Bool) (rest : List BoundOrder) (keys : List LineKey) → rest ≡ map (λ (key : LineKey). record { item = key.item; falling = key.falling }) keys
        → cons_option (option_map (λ at. record { item = at; falling = falling }) o) rest
        ≡ map (λ (key : LineKey). record { item = key.item; falling = key.falling }) (cons_option (option_map (λ at. record { item = at; falling = falling }) o) keys)
    one None falling rest keys e = e
    one (Some at) falling rest keys e = ap (λ ys. record { item = at; falling = falling } ∷ ys) e

    by : (keys : List OrderKey) → filter_map (order_of scope s.items) keys
        ≡ map (λ (key : LineKey). record { item = key.item; falling = key.falling }) (filter_map (λ (key : OrderKey). option_map (λ at. record { item = at; falling = is_falling key.way }) (item_meant scope s.items key.column)) keys)
    by [] = refl
    by (key ∷ keys) = one (item_meant scope s.items key.column) (is_falling key.way) (filter_map (order_of scope s.items) keys)
        (filter_map (λ (key : OrderKey). option_map (λ at. record { item = at; falling = is_falling key.way }) (item_meant scope s.items key.column)) keys) (by keys)

-- ---- places in 32 bits

schema-few : (schema : Schema) → is_schema schema ≡ true → nat_lt (length schema.columns) (2 ^ 32) ≡ true
schema-few schema e =
    let n = length schema.columns in
    let named = list_all (λ c. is_name c.name) schema.columns in
    let apart = are_distinct bytes_eq (map (λ c. c.name) schema.columns) in
    let a = and_parts (nat_le 1 n && nat_le n MOST_COLUMNS && named && apart) (is_key_of schema.columns schema.key) e in
    let b = and_parts (nat_le 1 n && nat_le n MOST_COLUMNS && named) apart a.0 in
    let c = and_parts (nat_le 1 n && nat_le n MOST_COLUMNS) named b.0 in
    let d = and_parts (nat_le 1 n) (nat_le n MOST_COLUMNS) c.0 in
    let le = leb-true n MOST_COLUMNS d.1 in
    lt-ltb n (2 ^ 32) (omega (arith, le))

entries-few : (schemas : Schemas) → AreAllowed schemas → (tables : List (List ℕ))
    → (length (filter_map (entry_of schemas) tables) ≤ length tables) × (list_all (λ entry. nat_lt (length entry.schema.columns) (2 ^ 32)) (filter_map (entry_of schemas) tables) ≡ true)
entries-few schemas allowed [] = (omega arith, refl)
entries-few schemas allowed (name ∷ tables) = by (schemas name) refl (entries-few schemas allowed tables)
  where
    by : (o : Option Schema) → schemas name ≡ o
        → (length (filter_map (entry_of schemas) tables) ≤ length tables) × (list_all (λ entry. nat_lt (length entry.schema.columns) (2 ^ 32)) (filter_map (entry_of schemas) tables) ≡ true)
        → (length (cons_option (option_map (λ schema. record { name = name; schema = schema }) o) (filter_map (entry_of schemas) tables)) ≤ suc (length tables))
        × (list_all (λ entry. nat_lt (length entry.schema.columns) (2 ^ 32)) (cons_option (option_map (λ schema. record { name = name; schema = schema }) o) (filter_map (entry_of schemas) tables)) ≡ true)
    by None e more = let h = more.0 in (omega (arith, h), more.1)
    by (Some schema) e more =
        let h = more.0 in
        (omega (arith, h), λ i. schema-few schema (allowed name schema e) i && more.1 i)

-- the FROM entries of a statement over allowed schemas
pub scope-addressable : (schemas : Schemas) (s : Select) (scope : Scope) → HasFewTokens (statement.Select s) → AreAllowed schemas → scope ≡ scope_of schemas s → is_addressable scope ≡ true
scope-addressable schemas s scope few allowed same =
    ap is_addressable same ∙ by
  where
    by : is_addressable (scope_of schemas s) ≡ true
    by =
        let h = entries-few schemas allowed s.tables in
        let n = few-tables s few in
        let le = h.0 in
        λ i. lt-ltb (length (scope_of schemas s)) (2 ^ 32) (omega (arith, le, n)) i && h.1 i

pub fact-small : (scope : Scope) (s : Select) (fact : ℕ) → is_addressable scope ≡ true → scope_refusal scope s ≡ None → fact_of scope s ≡ Some fact → fact < 2 ^ 32
fact-small scope s fact a free is =
    let found = accepted scope s free in
    let same : found.0 ≡ fact = some-same found.0 fact (sym found.1.is_fact ∙ is) in
    let few = ltb-true (length scope) (2 ^ 32) (and_parts (nat_lt (length scope) (2 ^ 32)) (list_all (λ entry. nat_lt (length entry.schema.columns) (2 ^ 32)) scope) a).0 in
    let within = found.1.within in
    omega (arith, same, few, within)
  where
    some : Option ℕ → ℕ
    some None = 0
    some (Some x) = x

    some-same : (x y : ℕ) → Some x ≡ Some y → x ≡ y
    some-same x y e = ap some e

-- the conjunctions that are made for a table are those of the definition
pub made_told : {E : Type 0} (r : Result (List Conjunction) E) (scope : Scope) (fs kept : List Primary) (table : ℕ) (branch : Branch) (made : List Tests) → is_addressable scope ≡ true
    → kept ≡ filter (λ f. not (is_pair_factor f) && list_all (λ t. t == table) (tables_in scope f)) fs
    → branch ≡ branch_every (map (of_prim (branch_test scope) (λ x. x) branch_every branch_some) kept) → made ≡ made_of branch
    → IfOk r (λ all. all ≡ map (λ (tests : Tests). record { tests = tests }) made) → IfOk r (λ all. all ≡ conjunctions_among scope fs table)
made_told (Ok all) scope fs kept table branch made a k b m told =
    told ∙ ap (map (λ (tests : Tests). record { tests = tests })) (m ∙ ap made_of b ∙ made_is scope kept a ∙ ap (λ (ps : List Primary). (and_of (map (factor_subtree scope) ps)).conjunctions) k)
made_told (Err why) scope fs kept table branch made a k b m told = tt

-- the ties of the code are those of the definition
pub ties_told : {E : Type 0} (r : Result (List Tie) E) (scope : Scope) (fact : ℕ) (ts : List Tied) (joints : List Joint) (fs : List Primary) → map is_joint joints ≡ map is_pair_factor fs → map pairs_of joints ≡ map (pairs_in scope) fs
    → map tie_from_tied ts ≡ ties_of_joints scope fact joints → IfOk r (λ all. all ≡ map tie_from_tied ts) → IfOk r (λ all. all ≡ joined (map (ties_in scope fact) fs))
ties_told (Ok all) scope fact ts joints fs e g t told = told ∙ t ∙ ties_listed scope joints fs e g fact
ties_told (Err why) scope fact ts joints fs e g t told = tt

-- ---- the answer of `bind`

-- a fault that is the first refusal is the answer
pub cause_told : (w : Option Refusal) (schemas : Schemas) (s : Select) → is_why w (first_refusal schemas s) → is_cause w (bound_of schemas s)
cause_told None schemas s h = tt
cause_told (Some why) schemas s h = ap (λ (o : Option Refusal). bound_or_refused o schemas s) h

-- a query over the FROM entries is the one that the statement is
pub bound_told : (r : Result Query BindFault) (schemas : Schemas) (s : Select) (scope : Scope) → scope ≡ scope_of schemas s → IsChecked r (first_refusal schemas s)
    → IfOk r (λ query. query ≡ query_in scope s (unwrap_or (fact_of scope s) 0)) → IsBound r (bound_of schemas s)
unfolding query_of
bound_told (Ok query) schemas s scope same free is =
    ap (λ (o : Option Refusal). bound_or_refused o schemas s) free
    ∙ ap Ok (sym (is ∙ ap (λ (sc : Scope). query_in sc s (unwrap_or (fact_of sc s) 0)) same))
bound_told (Err why) schemas s scope same cause is = cause_told (refusal_of why) schemas s cause
