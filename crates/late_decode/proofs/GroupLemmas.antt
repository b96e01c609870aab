-- Rows added to groups, one by one and group by group.
use Rattle.std.proofs.Common.{◌≡◌, Bool, true, false, not, ◌||◌, List, [], ◌∷◌, ◌++◌, map, filter, refl, sym, ap, ◌∙◌, true≢false, append_assoc}
use Rattle.std.specs.List.{list_any, list_all, flat_map}
use Rattle.std.proofs.lemmas.List.{map-append}
use Rattle.std.proofs.lemmas.List.Elements.{filter-append}
use Rattle.std.proofs.lemmas.List.Folds.{list_all-map}
use Rattle.blink_lists.specs.Lists.{once_each, are_distinct}
use Rattle.blink_lists.specs.Groups.{IsSame, with_key}
use Rattle.blink_lists.proofs.GroupLemmas.{both, and_both, not_true, neither, all-imply, once_each-distinct, once_each-any}
use Rattle.blink_lists.proofs.AllLemmas.{all-part, all-passing, all-once_each}
use Rattle.blink_lists.proofs.ChoiceLemmas.{any-alike, any-map}
use Rattle.late_decode.specs.declared.plan.Measure.{Measure}
use Rattle.late_decode.specs.declared.plan.Part.{Part}
use Rattle.late_decode.specs.Parts.{Picked, merged_parts, no_parts, parts_over}
use Rattle.late_decode.specs.Groups.{Grouped, added, rows_added, groups_added, grouped}
use Rattle.late_decode.proofs.PartLemmas.{all_parts_merge, none_parts}

-- a key with the parts that it has
abbrev with_parts : {K : Type 0} → (K → List Part) → K → K × List Part
with_parts f k = (k, f k)

pub append_nothing : {X : Type 0} (xs : List X) → xs ++ [] ≡ xs
append_nothing [] = refl
append_nothing (x ∷ xs) = ap (λ l. x ∷ l) (append_nothing xs)

pub all-pass : {X : Type 0} (c : X → Bool) (xs : List X) → list_all c xs ≡ true → filter c xs ≡ xs
all-pass c [] h = refl
all-pass c (x ∷ xs) h = let b = both (c x) (list_all c xs) h in rw b.0 (ap (λ l. x ∷ l) (all-pass c xs b.1))

none-pass : {X : Type 0} (c : X → Bool) (xs : List X) → list_any c xs ≡ false → filter c xs ≡ []
none-pass c [] h = refl
none-pass c (x ∷ xs) h = let n = neither (c x) (list_any c xs) h in rw n.0 (none-pass c xs n.1)

pub none-not : {X : Type 0} (c : X → Bool) (xs : List X) → list_all c xs ≡ true → filter (λ x. not (c x)) xs ≡ []
none-not c [] h = refl
none-not c (x ∷ xs) h = let b = both (c x) (list_all c xs) h in rw b.0 (none-not c xs b.1)

abbrev is_nothing : {X : Type 0} → List X → Bool
is_nothing [] = true
is_nothing (x ∷ xs) = false

pub any-none : {X : Type 0} (c : X → Bool) (xs : List X) → filter c xs ≡ [] → list_any c xs ≡ false
any-none c [] h = refl
any-none {X} c (x ∷ xs) h = by (c x) refl h (any-none c xs)
  where
    by : (d : Bool) → c x ≡ d → filter c (x ∷ xs) ≡ [] → (filter c xs ≡ [] → list_any c xs ≡ false) → list_any c (x ∷ xs) ≡ false
    by true e k r = let here : x ∷ filter c xs ≡ [] = rw e at k in absurd (true≢false (sym (ap is_nothing here)))
    by false e k r = rw e (r (rw e at k))

all-any-false : {X : Type 0} (p q : X → Bool) → ((x : X) → p x ≡ true → q x ≡ false) → (xs : List X) → list_all p xs ≡ true → list_any q xs ≡ false
all-any-false p q step [] h = refl
all-any-false p q step (x ∷ xs) h = let b = both (p x) (list_all p xs) h in rw (step x b.0) (all-any-false p q step xs b.1)

module _ {K : Type 0} (eq : K → K → Bool) (s : IsSame eq) where
  -- further keys that all are k, behind keys
  module _ (k : K) (rs : List K) (same : list_all (λ r. eq r k) rs ≡ true) where
    behind_new : (ks : List K) → list_any (λ a. eq a k) ks ≡ false → once_each eq (ks ++ k ∷ rs) ≡ once_each eq ks ++ k ∷ []
    behind_new [] h = ap (λ l. k ∷ l) (none-not (eq k) (once_each eq rs) (all-once_each eq (eq k) rs (all-imply (λ r. eq r k) (eq k) (λ r e. s.back k r ∙ e) rs same)))
    behind_new (a ∷ ks) h =
        let n = neither (eq a k) (list_any (λ b. eq b k) ks) h in
        ap (λ l. a ∷ filter (λ y. not (eq a y)) l) (behind_new ks n.1)
        ∙ ap (λ l. a ∷ l) (filter-append (λ y. not (eq a y)) (once_each eq ks) (k ∷ []) ∙ (rw n.0 refl))

    behind_there : (ks : List K) → list_any (λ a. eq a k) ks ≡ true → once_each eq (ks ++ k ∷ rs) ≡ once_each eq ks
    behind_there [] h = absurd (true≢false (sym h))
    behind_there (a ∷ ks) h = by (eq a k) (list_any (λ b. eq b k) ks) refl refl h (behind_there ks)
      where
        by : (c d : Bool) → eq a k ≡ c → list_any (λ b. eq b k) ks ≡ d → list_any (λ b. eq b k) (a ∷ ks) ≡ true
            → (list_any (λ b. eq b k) ks ≡ true → once_each eq (ks ++ k ∷ rs) ≡ once_each eq ks) → once_each eq (a ∷ ks ++ k ∷ rs) ≡ once_each eq (a ∷ ks)
        by c true e m t r = ap (λ l. a ∷ filter (λ y. not (eq a y)) l) (r m)
        by true false e m t r =
            ap (λ l. a ∷ filter (λ y. not (eq a y)) l) (behind_new ks m)
            ∙ ap (λ l. a ∷ l) (filter-append (λ y. not (eq a y)) (once_each eq ks) (k ∷ []) ∙ (rw e (append_nothing (filter (λ y. not (eq a y)) (once_each eq ks)))))
        by false false e m t r = absurd (true≢false (sym (let u = rw (e, m) at t in u)))

  module _ (measures : List Measure) (k : K) (ps : List Part) (f g : K → List Part) where
    untouched : ((a : K) → eq a k ≡ false → g a ≡ f a) → (ks : List K) → list_any (λ a. eq a k) ks ≡ false → map (with_parts f) ks ≡ map (with_parts g) ks
    untouched other [] h = refl
    untouched other (a ∷ ks) h =
        let n = neither (eq a k) (list_any (λ b. eq b k) ks) h in
        let here = sym (other a n.0) in
        λ i. (a, here i) ∷ untouched other ks n.1 i

    added_new : (ks : List K) → list_any (λ a. eq a k) ks ≡ false
        → added eq measures k ps (map (with_parts f) ks) ≡ map (with_parts f) ks ++ (k, merged_parts measures (no_parts measures) ps) ∷ []
    added_new [] h = refl
    added_new (a ∷ ks) h = let n = neither (eq a k) (list_any (λ b. eq b k) ks) h in rw n.0 (ap (λ l. (a, f a) ∷ l) (added_new ks n.1))

    added_there : ((a : K) → eq a k ≡ true → g a ≡ merged_parts measures (f a) ps) → ((a : K) → eq a k ≡ false → g a ≡ f a)
        → (ks : List K) → are_distinct eq ks ≡ true → list_any (λ a. eq a k) ks ≡ true → added eq measures k ps (map (with_parts f) ks) ≡ map (with_parts g) ks
    added_there here other [] d h = absurd (true≢false (sym h))
    added_there here other (a ∷ ks) d h =
        let parts = both (not (list_any (eq a) ks)) (are_distinct eq ks) d in
        by (eq a k) refl h (not_true (list_any (eq a) ks) parts.0) (added_there here other ks parts.1)
      where
        by : (c : Bool) → eq a k ≡ c → list_any (λ b. eq b k) (a ∷ ks) ≡ true → list_any (eq a) ks ≡ false
            → (list_any (λ b. eq b k) ks ≡ true → added eq measures k ps (map (with_parts f) ks) ≡ map (with_parts g) ks)
            → added eq measures k ps (map (with_parts f) (a ∷ ks)) ≡ map (with_parts g) (a ∷ ks)
        by true e t n r =
            let others : list_any (λ b. eq b k) ks ≡ false = any-alike (λ b. eq b k) (eq a) (λ b. s.back b k ∙ ap (λ c. eq c b) (sym (s.one a k e))) ks ∙ n in
            let first = sym (here a e) in
            rw e (λ i. (a, first i) ∷ untouched other ks others i)
        by false e t n r = let first = sym (other a e) in rw e (λ i. (a, first i) ∷ r (rw e at t) i)

module _ {X K : Type 0} (eq : K → K → Bool) (s : IsSame eq) (measures : List Measure) (key : X → K) (picked : X → Picked) where
  -- the parts of the rows of a key
  abbrev parts_at : List X → K → List Part
  parts_at xs k = parts_over measures (map picked (with_key eq key xs k))

  abbrev groups_of : List X → Grouped K
  groups_of xs = grouped eq measures key picked xs

  -- rows of one key behind others
  module _ (xs : List X) (y : X) (ys : List X) (same : list_all (λ z. eq (key z) (key y)) (y ∷ ys) ≡ true) where
    abbrev key_here : K
    key_here = key y

    here : (a : K) → eq a key_here ≡ true → parts_at (xs ++ y ∷ ys) a ≡ merged_parts measures (parts_at xs a) (parts_over measures (map picked (y ∷ ys)))
    here a e =
        let all : list_all (λ z. eq a (key z)) (y ∷ ys) ≡ true = all-imply (λ z. eq (key z) key_here) (λ z. eq a (key z)) (λ z h. ap (eq a) (s.one (key z) key_here h) ∙ e) (y ∷ ys) same in
        ap (λ l. parts_over measures (map picked l)) (filter-append (λ z. eq a (key z)) xs (y ∷ ys) ∙ ap (λ l. with_key eq key xs a ++ l) (all-pass (λ z. eq a (key z)) (y ∷ ys) all))
        ∙ ap (parts_over measures) (map-append picked (with_key eq key xs a) (y ∷ ys))
        ∙ all_parts_merge measures (map picked (with_key eq key xs a)) (map picked (y ∷ ys))

    other : (a : K) → eq a key_here ≡ false → parts_at (xs ++ y ∷ ys) a ≡ parts_at xs a
    other a e =
        let none : list_any (λ z. eq a (key z)) (y ∷ ys) ≡ false = all-any-false (λ z. eq (key z) key_here) (λ z. eq a (key z)) (λ z h. ap (eq a) (s.one (key z) key_here h) ∙ e) (y ∷ ys) same in
        ap (λ l. parts_over measures (map picked l))
        (filter-append (λ z. eq a (key z)) xs (y ∷ ys) ∙ ap (λ l. with_key eq key xs a ++ l) (none-pass (λ z. eq a (key z)) (y ∷ ys) none) ∙ append_nothing (with_key eq key xs a))

    keys_same : list_all (λ r. eq r key_here) (map key ys) ≡ true
    keys_same = list_all-map (λ r. eq r key_here) key ys ∙ (both (eq key_here key_here) (list_all (λ z. eq (key z) key_here) ys) same).1

    new_parts : list_any (λ a. eq a key_here) (map key xs) ≡ false → merged_parts measures (no_parts measures) (parts_over measures (map picked (y ∷ ys))) ≡ parts_at (xs ++ y ∷ ys) key_here
    new_parts h =
        let none : list_any (λ x. eq key_here (key x)) xs ≡ false = any-alike (λ x. eq key_here (key x)) (λ x. eq (key x) key_here) (λ x. s.back key_here (key x)) xs ∙ sym (any-map (λ a. eq a key_here) key xs) ∙ h in
        let before : parts_at xs key_here ≡ no_parts measures = ap (λ l. parts_over measures (map picked l)) (none-pass (λ x. eq key_here (key x)) xs none) ∙ none_parts measures in
        ap (λ p. merged_parts measures p (parts_over measures (map picked (y ∷ ys)))) (sym before) ∙ sym (here key_here (s.itself key_here))

    pub group_added : added eq measures key_here (parts_over measures (map picked (y ∷ ys))) (groups_of xs) ≡ groups_of (xs ++ y ∷ ys)
    group_added = by (list_any (λ a. eq a key_here) (map key xs)) refl
      where
        ps : List Part
        ps = parts_over measures (map picked (y ∷ ys))

        by : (b : Bool) → list_any (λ a. eq a key_here) (map key xs) ≡ b → added eq measures key_here ps (groups_of xs) ≡ groups_of (xs ++ y ∷ ys)
        by true e =
            added_there eq s measures key_here ps (parts_at xs) (parts_at (xs ++ y ∷ ys)) here other (once_each eq (map key xs)) (once_each-distinct eq s (map key xs)) (once_each-any eq s key_here (map key xs) ∙ e)
            ∙ ap (map (with_parts (parts_at (xs ++ y ∷ ys)))) (sym (behind_there eq s key_here (map key ys) keys_same (map key xs) e) ∙ ap (once_each eq) (sym (map-append key xs (y ∷ ys))))
        by false e =
            let absent : list_any (λ a. eq a key_here) (once_each eq (map key xs)) ≡ false = once_each-any eq s key_here (map key xs) ∙ e in
            added_new eq s measures key_here ps (parts_at xs) (parts_at (xs ++ y ∷ ys)) (once_each eq (map key xs)) absent
            ∙ (λ i. untouched eq s measures key_here ps (parts_at xs) (parts_at (xs ++ y ∷ ys)) other (once_each eq (map key xs)) absent i ++ (key_here, new_parts e i) ∷ [])
            ∙ sym (map-append (with_parts (parts_at (xs ++ y ∷ ys))) (once_each eq (map key xs)) (key_here ∷ []))
            ∙ ap (map (with_parts (parts_at (xs ++ y ∷ ys)))) (sym (behind_new eq s key_here (map key ys) keys_same (map key xs) e) ∙ ap (once_each eq) (sym (map-append key xs (y ∷ ys))))

  -- rows one by one
  pub rows_group : (ys xs : List X) → rows_added eq measures key picked ys (groups_of xs) ≡ groups_of (xs ++ ys)
  rows_group [] xs = ap groups_of (sym (append_nothing xs))
  rows_group (y ∷ ys) xs =
      ap (rows_added eq measures key picked ys) (group_added xs y [] (rw (s.itself (key y)) refl))
      ∙ rows_group ys (xs ++ y ∷ []) ∙ ap groups_of (append_assoc xs (y ∷ []) ys)

-- ---- groups of codes, spilled

module _ {X Y K C : Type 0} (eq : K → K → Bool) (s : IsSame eq) (eqc : C → C → Bool) (sc : IsSame eqc) (measures : List Measure)
    (key : X → K) (picked : X → Picked) (code : Y → C) (row_of : Y → X) (decoded : C → K) (good : Y → Bool) (stands : (y : Y) → good y ≡ true → key (row_of y) ≡ decoded (code y)) where
  -- all rows of a list of the code have the decoded key
  decode_all : (k : K) (c : C) → decoded c ≡ k → (zs : List Y) → list_all good zs ≡ true → list_all (λ z. eqc c (code z)) zs ≡ true → list_all (λ x. eq (key x) k) (map row_of zs) ≡ true
  decode_all k c d [] g h = refl
  decode_all k c d (z ∷ zs) g h =
      let w = both (good z) (list_all good zs) g in
      let b = both (eqc c (code z)) (list_all (λ y. eqc c (code y)) zs) h in
      let one : key (row_of z) ≡ k = stands z w.0 ∙ ap decoded (sym (sc.one c (code z) b.0)) ∙ d in
      and_both (eq (key (row_of z)) k) (list_all (λ x. eq (key x) k) (map row_of zs)) (ap (λ a. eq a k) one ∙ s.itself k) (decode_all k c d zs w.1 b.1)

  map-twice : (zs : List Y) → map picked (map row_of zs) ≡ map (λ y. picked (row_of y)) zs
  map-twice [] = refl
  map-twice (z ∷ zs) = ap (λ l. picked (row_of z) ∷ l) (map-twice zs)

  -- one group of a code
  spill_one : (c : C) (zs : List Y) (xs : List X) → list_all good zs ≡ true → list_all (λ z. eqc c (code z)) zs ≡ true → (zs ≡ [] → ⊥)
      → added eq measures (decoded c) (parts_over measures (map (λ y. picked (row_of y)) zs)) (grouped eq measures key picked xs) ≡ grouped eq measures key picked (xs ++ map row_of zs)
  spill_one c [] xs g h some = absurd (some refl)
  spill_one c (z ∷ zs) xs g h some =
      let b = both (eqc c (code z)) (list_all (λ y. eqc c (code y)) zs) h in
      let one : decoded c ≡ key (row_of z) = ap decoded (sc.one c (code z) b.0) ∙ sym (stands z (both (good z) (list_all good zs) g).0) in
      (λ i. added eq measures (one i) (parts_over measures (sym (map-twice (z ∷ zs)) i)) (grouped eq measures key picked xs))
      ∙ group_added eq s measures key picked xs (row_of z) (map row_of zs) (decode_all (key (row_of z)) c one (z ∷ zs) g h)

  pub groups_spill : (ys : List Y) → list_all good ys ≡ true → (cs : List C) (xs : List X) → list_all (λ c. list_any (λ y. eqc c (code y)) ys) cs ≡ true
      → groups_added eq measures decoded (map (with_parts (λ c. parts_over measures (map (λ y. picked (row_of y)) (with_key eqc code ys c)))) cs) (grouped eq measures key picked xs)
      ≡ grouped eq measures key picked (xs ++ map row_of (flat_map (with_key eqc code ys) cs))
  groups_spill ys g [] xs h = ap (grouped eq measures key picked) (sym (append_nothing xs))
  groups_spill ys g (c ∷ cs) xs h =
      let b = both (list_any (λ y. eqc c (code y)) ys) (list_all (λ d. list_any (λ y. eqc d (code y)) ys) cs) h in
      let mine = with_key eqc code ys c in
      ap (groups_added eq measures decoded (map (with_parts (λ d. parts_over measures (map (λ y. picked (row_of y)) (with_key eqc code ys d)))) cs))
      (spill_one c mine xs (all-part good (λ y. eqc c (code y)) ys g) (all-passing (λ y. eqc c (code y)) ys) (λ e. true≢false (sym b.0 ∙ any-none (λ y. eqc c (code y)) ys e)))
      ∙ groups_spill ys g cs (xs ++ map row_of mine) b.1
      ∙ ap (grouped eq measures key picked)
      (append_assoc xs (map row_of mine) (map row_of (flat_map (with_key eqc code ys) cs)) ∙ ap (λ l. xs ++ l) (sym (map-append row_of mine (flat_map (with_key eqc code ys) cs))))

  each_has : (ys : List Y) → list_all (λ c. list_any (λ y. eqc c (code y)) ys) (map code ys) ≡ true
  each_has ys = list_all-map (λ c. list_any (λ y. eqc c (code y)) ys) code ys ∙ self ys
    where
      later : (a b : Bool) → b ≡ true → (a || b) ≡ true
      later true b e = refl
      later false b e = e

      self : (zs : List Y) → list_all (λ z. list_any (λ y. eqc (code z) (code y)) zs) zs ≡ true
      self [] = refl
      self (z ∷ zs) =
          and_both (list_any (λ y. eqc (code z) (code y)) (z ∷ zs)) (list_all (λ w. list_any (λ y. eqc (code w) (code y)) (z ∷ zs)) zs) (rw (sc.itself (code z)) refl)
          (all-imply (λ w. list_any (λ y. eqc (code w) (code y)) zs) (λ w. list_any (λ y. eqc (code w) (code y)) (z ∷ zs)) (λ w e. later (eqc (code w) (code z)) (list_any (λ y. eqc (code w) (code y)) zs) e) zs (self zs))

  pub spilled_group : (xs : List X) (ys : List Y) → list_all good ys ≡ true
      → groups_added eq measures decoded (grouped eqc measures code (λ y. picked (row_of y)) ys) (grouped eq measures key picked xs)
      ≡ grouped eq measures key picked (xs ++ map row_of (flat_map (with_key eqc code ys) (once_each eqc (map code ys))))
  spilled_group xs ys g = groups_spill ys g (once_each eqc (map code ys)) xs (all-once_each eqc (λ c. list_any (λ y. eqc c (code y)) ys) (map code ys) (each_has ys))
