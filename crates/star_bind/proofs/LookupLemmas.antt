-- Columns that are found one behind the other.
use Rattle.std.proofs.Common.{◌≡◌, ◌+◌, ◌<◌, ◌&&◌, ℕ, suc, Bool, true, false, cond, List, [], ◌∷◌, ◌++◌, map, filter_map, length, drop, get_or, Option, Some, None, option_map, refl, sym, ap, ◌∙◌, true≢false, add-one, drop-cons, ◌==◌, nat_lt, arith}
use Rattle.std.proofs.lemmas.Bool.{lt-ltb}
use Rattle.std.specs.List.{cons_option}
use Rattle.std.specs.Str.{bytes_eq}
use Rattle.blink_base.specs.declared.schema.Column.{Column}
use Rattle.blink_lists.specs.Lists.{numbered_from, joined, only_one}
use Rattle.star_sql.specs.declared.ast.ColumnName.{ColumnName}
use Rattle.star_meaning.specs.Names.{FromEntry, ColumnPlace, is_meant, place_if, places_in}
use Rattle.star_bind.specs.declared.names.scope.Entry.{Entry}
use Rattle.star_bind.specs.declared.names.scope.Place.{Place}
use Rattle.star_bind.specs.declared.names.scope.Found.{Found}
use Rattle.star_bind.specs.declared.names.scope.Found.TheVariants as found
use Rattle.star_bind.specs.Lookup.{entry_from, scope_from, place_in, found_and, found_more, found_of, is_nothing, are_several}

pub more_append : (f : Found) (xs ys : List ColumnPlace) → found_more f (xs ++ ys) ≡ found_more (found_more f xs) ys
more_append f [] ys = refl
more_append f (x ∷ xs) ys = more_append (found_and f x) xs ys

-- behind several there is nothing else to find
pub more_several : (xs : List ColumnPlace) → found_more found.Several xs ≡ found.Several
more_several [] = refl
more_several (x ∷ xs) = more_several xs

pub more_none : {X : Type 0} (t : ℕ) (at : X → ℕ) (f : Found) (xs : List X) → found_more f (filter_map (λ x. place_if false t (at x)) xs) ≡ f
more_none t at f [] = refl
more_none t at f (x ∷ xs) = more_none t at f xs

pub more_here : (f : Found) (b : Bool) (t k : ℕ) (ps : List ColumnPlace) → found_more f (cons_option (place_if b t k) ps) ≡ found_more (cond b (found_and f (record { table = t; column = k })) f) ps
more_here f true t k ps = refl
more_here f false t k ps = refl

-- an entry that a name can't mean has nothing
pub not_meant : (f : Found) (c : ColumnName) (t : ℕ) (e : FromEntry) → is_meant c.table e ≡ false → found_more f (places_in c (t, e)) ≡ f
not_meant f c t e = by (is_meant c.table e) (numbered_from 0 e.schema.columns)
  where
    by : (b : Bool) (xs : List (ℕ × Column)) → b ≡ false → found_more f (filter_map (λ (at : ℕ × Column). place_if (b && bytes_eq c.column at.1.name) t at.0) xs) ≡ f
    by true xs h = absurd (true≢false h)
    by false xs h = more_none t (λ (at : ℕ × Column). at.0) f xs

-- an entry that a name can mean has its columns of that name
pub meant_there : (f : Found) (c : ColumnName) (t : ℕ) (e : FromEntry) → is_meant c.table e ≡ true
    → found_more f (places_in c (t, e)) ≡ found_more f (filter_map (λ at. place_if (bytes_eq c.column at.1.name) t at.0) (numbered_from 0 e.schema.columns))
meant_there f c t e h = ap (λ (b : Bool). found_more f (filter_map (λ (at : ℕ × Column). place_if (b && bytes_eq c.column at.1.name) t at.0) (numbered_from 0 e.schema.columns))) h

pub next_entry : (f more g : Found) (c : ColumnName) (scope : List Entry) (t : ℕ) (x : Entry) → t < length scope → x ≡ get_or scope t x
    → more ≡ found_more f (places_in c (t, entry_from x))
    → found_more f (joined (map (places_in c) (numbered_from t (scope_from (drop t scope))))) ≡ g
    → found_more more (joined (map (places_in c) (numbered_from (t + 1) (scope_from (drop (t + 1) scope))))) ≡ g
next_entry f more g c scope t x lt is told so_far =
    let rest = joined (map (places_in c) (numbered_from (t + 1) (scope_from (drop (t + 1) scope)))) in
    let here : drop t scope ≡ x ∷ drop (t + 1) scope = rw (add-one, drop-cons scope t x) (ap (λ (y : Entry). y ∷ drop (suc t) scope) (sym is)) in
    ap (λ (h : Found). found_more h rest) told
    ∙ sym (more_append f (places_in c (t, entry_from x)) rest)
    ∙ ap (λ (es : List Entry). found_more f (joined (map (places_in c) (numbered_from t (scope_from es))))) (sym here)
    ∙ so_far

pub early : (f g : Found) (xs : List ColumnPlace) → f ≡ found.Several → found_more f xs ≡ g → f ≡ g
early f g xs e i = e ∙ sym (more_several xs) ∙ ap (λ (h : Found). found_more h xs) (sym e) ∙ i

-- the one place, where it is one
abbrev pub found_place : Found → Option Place
found_place found.Nothing = None
found_place (found.One p) = Some p
found_place found.Several = None

pub one_found : (ps : List ColumnPlace) → option_map place_in (only_one ps) ≡ found_place (found_of ps)
one_found [] = refl
one_found (p ∷ []) = refl
one_found (p ∷ q ∷ ps) = ap found_place (sym (more_several ps))

pub nothing_found : (ps : List ColumnPlace) → (length ps == 0) ≡ is_nothing (found_of ps)
nothing_found [] = refl
nothing_found (p ∷ []) = refl
nothing_found (p ∷ q ∷ ps) = grind (arith) ∙ ap is_nothing (sym (more_several ps))

pub several_found : (ps : List ColumnPlace) → nat_lt 1 (length ps) ≡ are_several (found_of ps)
several_found [] = refl
several_found (p ∷ []) = refl
several_found (p ∷ q ∷ ps) = lt-ltb 1 (length (p ∷ q ∷ ps)) (omega arith) ∙ ap are_several (sym (more_several ps))
