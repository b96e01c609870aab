-- The place of a table among the tables, and what is changed there.
use Rattle.std.proofs.Common.{◌≡◌, ◌<◌, ℕ, suc, Bool, true, false, not, List, [], ◌∷◌, map, length, get_or, slice_set, Some, refl, sym, ap, ◌∙◌, arith}
use Rattle.std.specs.List.{list_any, position_or_len, remove}
use Rattle.std.specs.Str.{bytes_eq}
use Rattle.std.proofs.lemmas.Bool.{and_parts, or_parts, not-true}
use Rattle.std.proofs.lemmas.Slice.Eq.{bytes_eq-Decides}
use Rattle.blink_lists.specs.Lists.{are_distinct}
use Rattle.star_engine.specs.State.{AcceptedTable, Tables, find_table, with_table, without_table}

-- texts that are one
pub one_name : (x y : List ℕ) → bytes_eq x y ≡ true → x ≡ y
one_name x y e = (bytes_eq-Decides x y).0 e

pub same_name : (x y : List ℕ) → x ≡ y → bytes_eq x y ≡ true
same_name x y e = (bytes_eq-Decides x y).1 e

abbrev pub names : Tables → List (List ℕ)
names tables = map (λ h. h.name) tables

-- where no table has its name, nothing is replaced
stays : (tables : Tables) (h : AcceptedTable) → list_any (bytes_eq h.name) (names tables) ≡ false → with_table tables h ≡ tables
stays [] h none = refl
stays (x ∷ xs) h none =
    let parts = or_parts (bytes_eq h.name x.name) (list_any (bytes_eq h.name) (names xs)) none in
    let rest = stays xs h parts.1 in
    rw (parts.0, rest) refl

all_left : (tables : Tables) (name : List ℕ) → list_any (bytes_eq name) (names tables) ≡ false → without_table tables name ≡ tables
all_left [] name none = refl
all_left (x ∷ xs) name none =
    let parts = or_parts (bytes_eq name x.name) (list_any (bytes_eq name) (names xs)) none in
    let rest = all_left xs name parts.1 in
    rw (parts.0, rest) refl

-- the table of a name, at its place
pub record IsFound (tables : Tables) (name : List ℕ) (accepted : AcceptedTable) (at : ℕ) : Type 0 where
  pub found : find_table tables name ≡ Some accepted
  pub within : at < length tables
  pub here : (d : AcceptedTable) → get_or tables at d ≡ accepted
  pub named : name ≡ accepted.name
  pub replaced : (h : AcceptedTable) → h.name ≡ accepted.name → with_table tables h ≡ slice_set tables at h
  pub left : without_table tables name ≡ remove tables at

pub record Finding (tables : Tables) (name : List ℕ) (at : ℕ) : Type 0 where
  pub accepted : AcceptedTable
  pub is : IsFound tables name accepted at

module _ (name : List ℕ) where
  abbrev has : AcceptedTable → Bool
  has h = bytes_eq name h.name

  first_found : (x : AcceptedTable) (xs : Tables) → list_any (bytes_eq x.name) (names xs) ≡ false → has x ≡ true → IsFound (x ∷ xs) name x 0
  first_found x xs alone e =
      let same = one_name name x.name e in
      record {
        found = rw e refl;
        within = omega arith;
        here = λ d. refl;
        named = same;
        replaced = λ h called.
            let own : bytes_eq h.name x.name ≡ true = same_name h.name x.name called in
            let none : list_any (bytes_eq h.name) (names xs) ≡ false = ap (λ n. list_any (bytes_eq n) (names xs)) called ∙ alone in
            let others = stays xs h none in
            rw (own, others) refl;
        left =
            let none : list_any (bytes_eq name) (names xs) ≡ false = ap (λ n. list_any (bytes_eq n) (names xs)) same ∙ alone in
            let others = all_left xs name none in
            rw (e, others) refl;
      }

  later_found : (x : AcceptedTable) (xs : Tables) (accepted : AcceptedTable) (k : ℕ) → has x ≡ false → IsFound xs name accepted k → IsFound (x ∷ xs) name accepted (suc k)
  later_found x xs accepted k e f = record {
    found = rw e f.found;
    within = let w = f.within in omega arith;
    here = λ d. f.here d;
    named = f.named;
    replaced = λ h called.
        let other : bytes_eq h.name x.name ≡ false = ap (λ n. bytes_eq n x.name) (called ∙ sym f.named) ∙ e in
        let others = f.replaced h called in
        rw (other, others) refl;
    left = let others = f.left in rw (e, others) refl;
  }

  pub found_at : (tables : Tables) (at : ℕ) → are_distinct bytes_eq (names tables) ≡ true → at ≡ position_or_len has tables → at < length tables → Finding tables name at
  found_at [] at each is lt = absurd (omega (arith, lt))
  found_at (x ∷ xs) at each is lt = by (has x) refl (λ k. found_at xs k (and_parts (not (list_any (bytes_eq x.name) (names xs))) (are_distinct bytes_eq (names xs)) each).1)
    where
      by : (b : Bool) → has x ≡ b → ((k : ℕ) → k ≡ position_or_len has xs → k < length xs → Finding xs name k) → Finding (x ∷ xs) name at
      by true e rest =
          let first : at ≡ 0 = is ∙ rw e refl in
          rw first (record { accepted = x; is = first_found x xs (not-true _ (and_parts (not (list_any (bytes_eq x.name) (names xs))) (are_distinct bytes_eq (names xs)) each).0) e })
      by false e rest =
          let k = position_or_len has xs in
          let later : at ≡ suc k = is ∙ rw e (omega arith) in
          let f = rest k refl (omega (arith, lt, later)) in
          rw later (record { accepted = f.accepted; is = later_found x xs f.accepted k e f.is })
