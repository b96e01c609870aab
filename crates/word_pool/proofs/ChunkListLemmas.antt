-- Lists of 1,024, one after the other.
use Rattle.std.proofs.Common.{ℕ, ◌+◌, ◌-◌, ◌*◌, ◌≡◌, ◌<◌, refl, sym, ◌∙◌, ap, arith, zero, suc, List, [], ◌∷◌, ◌++◌, length, get_or, length-append, map, Vec, Global, zero-add, ◌/◌, ◌%◌, append_assoc, append-nil}
use Rattle.std.proofs.Math.ListN.{set, length-set}
use Rattle.std.proofs.lemmas.List.{get_or_append_left, get_or-append_right, set-append_left, set-append_right}
use Rattle.word_pool.specs.ChunkList.{joined, AreWhole}

pub length-joined : {X : Type 0} (cs : List (List X)) → AreWhole cs → length (joined cs) ≡ 1024 * length cs
length-joined [] h = refl
length-joined (c ∷ cs) h = omega (arith, length-append c (joined cs), h.0, length-joined cs h.1)

pub joined_get : {X : Type 0} (cs : List (List X)) (q r : ℕ) (d : X) → AreWhole cs → q < length cs → r < 1024 → get_or (joined cs) (1024 * q + r) d ≡ get_or (get_or cs q []) r d
joined_get [] q r d h l b = absurd (omega arith)
joined_get (c ∷ cs) zero r d h l b = get_or_append_left c (joined cs) d (1024 * 0 + r) (omega (arith, h.0)) ∙ ap (λ n. get_or c n d) (zero-add r)
joined_get (c ∷ cs) (suc q) r d h l b =
    get_or-append_right c (joined cs) 1024 (1024 * suc q + r) d h.0 (omega arith)
    ∙ (let e : 1024 * suc q + r - 1024 ≡ 1024 * q + r = omega arith in rw e (joined_get cs q r d h.1 (omega arith) b))

pub joined_set : {X : Type 0} (cs : List (List X)) (q r : ℕ) (b : X) → AreWhole cs → q < length cs → r < 1024 → joined (set cs q (set (get_or cs q []) r b)) ≡ set (joined cs) (1024 * q + r) b
joined_set [] q r b h l s = absurd (omega arith)
joined_set (c ∷ cs) zero r b h l s = sym (set-append_left c (joined cs) (1024 * 0 + r) b (omega (arith, h.0)) ∙ ap (λ n. set c n b ++ joined cs) (zero-add r))
joined_set (c ∷ cs) (suc q) r b h l s =
    let e : 1024 * suc q + r - 1024 ≡ 1024 * q + r = omega arith in
    ap (λ z. c ++ z) (joined_set cs q r b h.1 (omega arith) s)
    ∙ sym (rw (set-append_right c (joined cs) 1024 (1024 * suc q + r) b h.0 (omega arith), e) refl)

pub whole_set : {X : Type 0} (cs : List (List X)) (q r : ℕ) (b : X) → AreWhole cs → AreWhole (set cs q (set (get_or cs q []) r b))
whole_set [] q r b h = tt
whole_set (c ∷ cs) zero r b h = (length-set c r b ∙ h.0, h.1)
whole_set (c ∷ cs) (suc q) r b h = (h.0, whole_set cs q r b h.1)

abbrev Chunk : Type 0
Chunk = Vec (List ℕ) Global

abbrev pub lists : List (Vec (List ℕ) Global) → List (List (List ℕ))
lists cs = map (λ c. c.items) cs

lists_get : (cs : List (Vec (List ℕ) Global)) (q : ℕ) (d : Vec (List ℕ) Global) → q < length cs → get_or (lists cs) q [] ≡ (get_or cs q d).items
lists_get [] q d h = absurd (omega arith)
lists_get (c ∷ cs) zero d h = refl
lists_get (c ∷ cs) (suc q) d h = lists_get cs q d (omega arith)

lists_set : (cs : List (Vec (List ℕ) Global)) (q : ℕ) (v : Vec (List ℕ) Global) → lists (set cs q v) ≡ set (lists cs) q v.items
lists_set [] q v = refl
lists_set (c ∷ cs) zero v = refl
lists_set (c ∷ cs) (suc q) v = ap (λ z. c.items ∷ z) (lists_set cs q v)

pub length-lists : (cs : List (Vec (List ℕ) Global)) → length (lists cs) ≡ length cs
length-lists [] = refl
length-lists (c ∷ cs) = ap suc (length-lists cs)

any_default : {X : Type 0} (xs : List X) (n : ℕ) (a b : X) → n < length xs → get_or xs n a ≡ get_or xs n b
any_default [] n a b h = absurd (omega arith)
any_default (x ∷ xs) zero a b h = refl
any_default (x ∷ xs) (suc n) a b h = any_default xs n a b (omega arith)

-- block n, by its chunk q and its place r there
pub record Located (cs : List (Vec (List ℕ) Global)) (n : ℕ) (chunk : Vec (List ℕ) Global) : Type 0 where
  pub chunk_within : n / 1024 < length cs
  pub block_within : n % 1024 < length chunk.items
  pub block : (d : List ℕ) → get_or chunk.items (n % 1024) d ≡ get_or (joined (lists cs)) n []
  pub after : (b : List ℕ) (v : Vec (List ℕ) Global) → v.items ≡ set chunk.items (n % 1024) b → (joined (lists (set cs (n / 1024) v)) ≡ set (joined (lists cs)) n b) × AreWhole (lists (set cs (n / 1024) v))

pub chunk_there : (cs : List (Vec (List ℕ) Global)) (n : ℕ) → AreWhole (lists cs) → n < length (joined (lists cs)) → n / 1024 < length cs
chunk_there cs n h l = omega (arith, length-joined (lists cs) h, length-lists cs)

whole_at : {X : Type 0} (cs : List (List X)) (q : ℕ) → AreWhole cs → q < length cs → length (get_or cs q []) ≡ 1024
whole_at [] q h l = absurd (omega arith)
whole_at (c ∷ cs) zero h l = h.0
whole_at (c ∷ cs) (suc q) h l = whole_at cs q h.1 (omega arith)

pub located : (cs : List (Vec (List ℕ) Global)) (n : ℕ) (chunk d : Vec (List ℕ) Global) → AreWhole (lists cs) → n < length (joined (lists cs)) → chunk ≡ get_or cs (n / 1024) d → Located cs n chunk
located cs n chunk d h l e =
    let q : ℕ = n / 1024 in
    let r : ℕ = n % 1024 in
    let ql : q < length cs = chunk_there cs n h l in
    let qs : q < length (lists cs) = omega (arith, length-lists cs) in
    let rb : r < 1024 = omega arith in
    let ne : n ≡ 1024 * q + r = omega arith in
    let ce : get_or (lists cs) q [] ≡ chunk.items = lists_get cs q d ql ∙ ap (λ v. v.items) (sym e) in
    record {
      chunk_within = ql;
      block_within = omega (arith, ap length ce, whole_at (lists cs) q h qs);
      block = λ b. sym (any_default (joined (lists cs)) n [] b l ∙ (ap (λ z. get_or (joined (lists cs)) z b) ne ∙ (joined_get (lists cs) q r b h qs rb ∙ ap (λ z. get_or z r b) ce)));
      after = λ b v ve.
          let s : lists (set cs q v) ≡ set (lists cs) q (set (get_or (lists cs) q []) r b) = lists_set cs q v ∙ ap (λ z. set (lists cs) q z) (ve ∙ ap (λ z. set z r b) (sym ce)) in (
            ap joined s ∙ (joined_set (lists cs) q r b h qs rb ∙ ap (λ z. set (joined (lists cs)) z b) (sym ne)),
            rw s (whole_set (lists cs) q r b h),
          );
    }

-- a chunk more
pub record Grown (cs : List (Vec (List ℕ) Global)) (v : Vec (List ℕ) Global) : Type 0 where
  pub view : joined (lists (cs ++ v ∷ [])) ≡ joined (lists cs) ++ v.items
  pub whole : AreWhole (lists (cs ++ v ∷ []))

pub grown : (cs : List (Vec (List ℕ) Global)) (v : Vec (List ℕ) Global) → AreWhole (lists cs) → length v.items ≡ 1024 → Grown cs v
grown [] v h l = record { view = append-nil v.items; whole = (l, tt) }
grown (c ∷ cs) v h l = let m = grown cs v h.1 l in record {
  view = rw (m.view) (sym (append_assoc c.items (joined (lists cs)) v.items));
  whole = (h.0, m.whole);
}
