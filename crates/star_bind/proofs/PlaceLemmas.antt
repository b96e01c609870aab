-- Columns that names mean are there, and have numbers in 32 bits.
use Rattle.std.proofs.Common.{◌≡◌, ◌^◌, ℕ, suc, ◌+◌, ◌<◌, ◌==◌, Bool, true, false, not, ◌&&◌, List, [], ◌∷◌, map, length, slice_get, nat_lt, filter_map, Option, Some, None, option_map, refl, sym, ap, ◌∙◌, subst, arith}
use Rattle.std.specs.List.{list_all, cons_option}
use Rattle.std.specs.Prelude.{unwrap_or}
use Rattle.std.specs.Str.{bytes_eq}
use Rattle.std.proofs.lemmas.Bool.{and_parts, eqb-true, lt-ltb, ltb-true}
use Rattle.blink_base.specs.declared.op.Op.{Op}
use Rattle.blink_base.specs.declared.schema.Column.{Column}
use Rattle.blink_lists.specs.Lists.{joined, numbered_from}
use Rattle.blink_lists.proofs.GroupLemmas.{and_both}
use Rattle.star_sql.specs.declared.ast.ColumnName.{ColumnName}
use Rattle.star_sql.specs.declared.ast.TestWords.TheVariants.{Compare, Columns, Between, Among, Like}
use Rattle.star_sql.specs.declared.ast.Primary.{Primary, Test, Group'}
use Rattle.star_meaning.specs.Names.{Scope, FromEntry, ColumnPlace, is_meant, place_if, places_in, places, place_of}
use Rattle.star_bind.specs.declared.query.ColumnRef.{ColumnRef}
use Rattle.star_bind.specs.declared.query.Tie.{Tie}
use Rattle.star_bind.specs.declared.names.scope.Entry.{Entry}
use Rattle.star_bind.specs.declared.names.scope.Place.{Place}
use Rattle.star_bind.specs.declared.star.star_form.Joint.{Joint}
use Rattle.star_bind.specs.declared.star.star_form.Tied.{Tied}
use Rattle.star_bind.specs.BoundQuery.{ref_of, meant}
use Rattle.star_bind.specs.Joints.{is_joint, pairs_of, tie_from_tied, ties_of_joints}
use Rattle.star_bind.specs.Lookup.{place_in}
use Rattle.star_bind.specs.QueryParts.{is_addressable}
use Rattle.star_bind.specs.StarForm.{ColumnPair, pair_of, pairs_in, is_pair_factor, is_equality, is_key, tie_if, tie_read, tie_from, ties_in}
use Rattle.star_bind.proofs.JointLemmas.{ties_listed}
use Rattle.star_bind.proofs.TableNameLemmas.{only-of, place-within, each-weaker}
use Rattle.star_bind.proofs.TieLemmas.{Each, each-append}

-- whether both numbers of a place have 32 bits
abbrev pub IsAddressed : ColumnPlace → Type 0
IsAddressed p = (p.table < 2 ^ 32) × (p.column < 2 ^ 32)

columns-below : (c : ColumnName) (t : ℕ) (entry : FromEntry) (n from : ℕ) (columns : List Column) → from + length columns ≡ n
    → Each (λ p. p.column < n) (filter_map (λ at. place_if (is_meant c.table entry && bytes_eq c.column at.1.name) t at.0) (numbered_from from columns))
columns-below c t entry n from [] l = tt
columns-below c t entry n from (column ∷ columns) l = by (is_meant c.table entry && bytes_eq c.column column.name) (columns-below c t entry n (from + 1) columns (omega (arith, l)))
  where
    by : (b : Bool) → Each (λ p. p.column < n) (filter_map (λ at. place_if (is_meant c.table entry && bytes_eq c.column at.1.name) t at.0) (numbered_from (from + 1) columns))
        → Each (λ p. p.column < n) (cons_option (place_if b t from) (filter_map (λ at. place_if (is_meant c.table entry && bytes_eq c.column at.1.name) t at.0) (numbered_from (from + 1) columns)))
    by true more = (omega (arith, l), more)
    by false more = more

columns-addressed : (c : ColumnName) (from : ℕ) (es : Scope) → list_all (λ entry. nat_lt (length entry.schema.columns) (2 ^ 32)) es ≡ true → Each (λ p. p.column < 2 ^ 32) (joined (map (places_in c) (numbered_from from es)))
columns-addressed c from [] a = tt
columns-addressed c from (e ∷ es) a =
    let parts = and_parts (nat_lt (length e.schema.columns) (2 ^ 32)) (list_all (λ entry. nat_lt (length entry.schema.columns) (2 ^ 32)) es) a in
    let few = ltb-true (length e.schema.columns) (2 ^ 32) parts.0 in
    each-append (λ p. p.column < 2 ^ 32) (places_in c (from, e)) (joined (map (places_in c) (numbered_from (from + 1) es)))
    (each-weaker (λ p. p.column < length e.schema.columns) (λ p. p.column < 2 ^ 32) (λ p h. below p.column (length e.schema.columns) (2 ^ 32) h few) (places_in c (from, e)) (columns-below c from e (length e.schema.columns) 0 e.schema.columns (omega arith)))
    (columns-addressed c (from + 1) es parts.1)
  where
    below : (a b c : ℕ) → a < b → b < c → a < c
    below a b c h k = omega (arith, h, k)

pub place-addressed : (scope : Scope) (c : ColumnName) (p : ColumnPlace) → is_addressable scope ≡ true → place_of scope c ≡ Some p → IsAddressed p
place-addressed scope c p a e =
    let parts = and_parts (nat_lt (length scope) (2 ^ 32)) (list_all (λ entry. nat_lt (length entry.schema.columns) (2 ^ 32)) scope) a in
    let few = ltb-true (length scope) (2 ^ 32) parts.0 in
    let table = place-within scope c p e in
    (below p.table (length scope) (2 ^ 32) table few, only-of (λ q. q.column < 2 ^ 32) (places scope c) p (columns-addressed c 0 scope parts.1) e)
  where
    below : (a b c : ℕ) → a < b → b < c → a < c
    below a b c h k = omega (arith, h, k)

-- the place that the code finds is one that the name means
pub found-addressed : (scope : Scope) (c : ColumnName) (p : Place) → is_addressable scope ≡ true → Some p ≡ option_map place_in (place_of scope c) → (p.table < 2 ^ 32) × (p.column < 2 ^ 32)
found-addressed scope c p a e = by (place_of scope c) refl e
  where
    by : (o : Option ColumnPlace) → place_of scope c ≡ o → Some p ≡ option_map place_in o → (p.table < 2 ^ 32) × (p.column < 2 ^ 32)
    by None f g = absurd (cc)
    by (Some q) f g = let same : place_in q ≡ p = cc in let h = place-addressed scope c q a f in (subst (λ (x : Place). x.table < 2 ^ 32) same h.0, subst (λ (x : Place). x.column < 2 ^ 32) same h.1)

pub meant-found : (scope : Scope) (c : ColumnName) (p : Place) → Some p ≡ option_map place_in (place_of scope c) → record { table = p.table; column = p.column } ≡ meant scope c
meant-found scope c p e = by (place_of scope c) e
  where
    by : (o : Option ColumnPlace) → Some p ≡ option_map place_in o → record { table = p.table; column = p.column } ≡ unwrap_or (option_map ref_of o) (record { table = 0; column = 0 })
    by None g = absurd (cc)
    by (Some q) g = let same : p ≡ place_in q = cc in ap (λ (x : Place). record { table = x.table; column = x.column }) same

module _ (scope : Scope) (fact : ℕ) (P : ColumnPlace → Type 0) (named : (c : ColumnName) (p : ColumnPlace) → place_of scope c ≡ Some p → P p) where
  -- a tie goes from a column of the fact to the key of another table, both of which names mean
  pub record IsRead (t : Tie) : Type 0 where
    pub own : ColumnPlace
    pub other : ColumnPlace
    pub own_named : P own
    pub other_named : P other
    pub of_fact : own.table ≡ fact
    pub away : not (other.table == fact) ≡ true
    pub key : is_key scope other ≡ true
    pub is : t ≡ record { dimension = other.table; column = own.column }

  read-parts : (o : Op) (own other : ColumnPlace) → P own → P other → Each IsRead (tie_read scope fact o own other)
  read-parts o own other p q = by (own.table == fact && not (other.table == fact) && is_key scope other && is_equality o) refl
    where
      by : (b : Bool) → (own.table == fact && not (other.table == fact) && is_key scope other && is_equality o) ≡ b → Each IsRead (tie_if b own other)
      by true e =
          let a = and_parts (own.table == fact && not (other.table == fact) && is_key scope other) (is_equality o) e in
          let b = and_parts (own.table == fact && not (other.table == fact)) (is_key scope other) a.0 in
          let c = and_parts (own.table == fact) (not (other.table == fact)) b.0 in
          (record { own = own; other = other; own_named = p; other_named = q; of_fact = eqb-true own.table fact c.0; away = c.1; key = b.1; is = refl }, tt)
      by false e = tt

  abbrev AreNamed : ColumnPair → Type 0
  AreNamed pair = P pair.left × P pair.right

  pairs-named : (f : Primary) → Each AreNamed (pairs_in scope f)
  pairs-named (Test (Columns l o r)) = by (place_of scope l) (place_of scope r) refl refl
    where
      by : (p q : Option ColumnPlace) → place_of scope l ≡ p → place_of scope r ≡ q → Each AreNamed (pair_of p o q)
      by None q e k = tt
      by (Some p) None e k = tt
      by (Some p) (Some q) e k = ((named l p e, named r q k), tt)
  pairs-named (Test (Compare c o l)) = tt
  pairs-named (Test (Between c low high)) = tt
  pairs-named (Test (Among c list)) = tt
  pairs-named (Test (Like c pattern)) = tt
  pairs-named (Group' shape conds) = tt

  pairs-parts : (pairs : List ColumnPair) → Each AreNamed pairs → Each IsRead (joined (map (tie_from scope fact) pairs))
  pairs-parts [] e = tt
  pairs-parts (pair ∷ pairs) e =
      each-append IsRead (tie_from scope fact pair) (joined (map (tie_from scope fact) pairs))
      (each-append IsRead (tie_read scope fact pair.op pair.left pair.right) (tie_read scope fact pair.op pair.right pair.left)
      (read-parts pair.op pair.left pair.right e.0.0 e.0.1) (read-parts pair.op pair.right pair.left e.0.1 e.0.0))
      (pairs-parts pairs e.1)

  pub ties-parts : (fs : List Primary) → Each IsRead (joined (map (ties_in scope fact) fs))
  ties-parts [] = tt
  ties-parts (f ∷ fs) = each-append IsRead (ties_in scope fact f) (joined (map (ties_in scope fact) fs)) (pairs-parts (pairs_in scope f) (pairs-named f)) (ties-parts fs)

-- the ties of the code have numbers in 32 bits
tied-small : (scope : Scope) (fact : ℕ) (a : is_addressable scope ≡ true) (t : Tied)
    → IsRead scope fact IsAddressed (λ c p e. place-addressed scope c p a e) (tie_from_tied t) → (nat_lt t.dimension (2 ^ 32) && nat_lt t.column (2 ^ 32)) ≡ true
tied-small scope fact a t h =
    let d : t.dimension ≡ h.other.table = ap (λ (x : Tie). x.dimension) h.is in
    let k : t.column ≡ h.own.column = ap (λ (x : Tie). x.column) h.is in
    and_both (nat_lt t.dimension (2 ^ 32)) (nat_lt t.column (2 ^ 32))
    (lt-ltb t.dimension (2 ^ 32) (subst (λ n. n < 2 ^ 32) (sym d) h.other_named.0)) (lt-ltb t.column (2 ^ 32) (subst (λ n. n < 2 ^ 32) (sym k) h.own_named.1))

tied-all : (P : Tie → Type 0) (q : Tied → Bool) → ((t : Tied) → P (tie_from_tied t) → q t ≡ true) → (ts : List Tied) → Each P (map tie_from_tied ts) → list_all q ts ≡ true
tied-all P q step [] e = refl
tied-all P q step (t ∷ ts) e = and_both (q t) (list_all q ts) (step t e.0) (tied-all P q step ts e.1)

pub ties-small : (scope : Scope) (fact : ℕ) (ts : List Tied) (joints : List Joint) (fs : List Primary) → is_addressable scope ≡ true → map is_joint joints ≡ map is_pair_factor fs → map pairs_of joints ≡ map (pairs_in scope) fs
    → map tie_from_tied ts ≡ ties_of_joints scope fact joints → list_all (λ t. nat_lt t.dimension (2 ^ 32) && nat_lt t.column (2 ^ 32)) ts ≡ true
ties-small scope fact ts joints fs a e g told =
    let P = IsRead scope fact IsAddressed (λ c p e. place-addressed scope c p a e) in
    tied-all P (λ t. nat_lt t.dimension (2 ^ 32) && nat_lt t.column (2 ^ 32)) (tied-small scope fact a) ts
    (subst (λ (xs : List Tie). Each P xs) (sym (told ∙ ties_listed scope joints fs e g fact)) (ties-parts scope fact IsAddressed (λ c p e. place-addressed scope c p a e) fs))
