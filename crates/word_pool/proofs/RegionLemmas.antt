-- Blocks by their tags and their words.
use Rattle.std.proofs.Common.{ℕ, ◌≡◌, ◌≢◌, ◌≤◌, ◌<◌, refl, sym, ◌∙◌, ap, subst, arith, zero, suc, List, [], ◌∷◌, ◌++◌, length, map, get_or, Option, Some, None, IsSome, ◌||◌, nat_eq, inl, inr, false, true≢false}
use Rattle.std.specs.List.{list_any}
use Rattle.std.proofs.Math.ListN.{set}
use Rattle.std.proofs.lemmas.Bool.Decides.{eqb_tells}
use Rattle.std.proofs.lemmas.List.{get_or-set_same, get_or-set_other}
use Rattle.word_pool.specs.Region.{slot_of, slots_of, block_at, live_count, IsLive, tag_at, words_of}
use Rattle.word_pool.specs.RegionLaws.{KeepsOtherBlocks}

pub slot_at : (ts : List (Option ℕ)) (bs : List (List ℕ)) (k : ℕ) → block_at (slots_of ts bs) k ≡ slot_of (get_or ts k None) (get_or bs k [])
slot_at [] bs k = refl
slot_at (t ∷ ts) [] zero = refl
slot_at (t ∷ ts) [] (suc k) = slot_at ts [] k
slot_at (t ∷ ts) (b ∷ bs) zero = refl
slot_at (t ∷ ts) (b ∷ bs) (suc k) = slot_at ts bs k

-- a live block's tag and words
pub record Held (ts : List (Option ℕ)) (bs : List (List ℕ)) (slots : List (Option (ℕ × List ℕ))) (k : ℕ) : Type 0 where
  pub tag : get_or ts k None ≡ Some (tag_at (block_at slots k))
  pub words : words_of (block_at slots k) ≡ get_or bs k []
  pub used : k < length ts

held_by : (o : Option ℕ) (ws : List ℕ) → IsSome (slot_of o ws) → (o ≡ Some (tag_at (slot_of o ws))) × (words_of (slot_of o ws) ≡ ws)
held_by None ws h = cc
held_by (Some t) ws h = (refl, refl)

used_by : (ts : List (Option ℕ)) (k t : ℕ) → get_or ts k None ≡ Some t → k < length ts
used_by [] k t h = cc
used_by (t ∷ ts) zero u h = omega arith
used_by (t ∷ ts) (suc k) u h = omega (arith, used_by ts k u h)

held_there : (ts : List (Option ℕ)) (bs : List (List ℕ)) (k : ℕ) → IsLive (slots_of ts bs) k → Held ts bs (slots_of ts bs) k
held_there ts bs k h =
    let e = slot_at ts bs k in
    let f = held_by (get_or ts k None) (get_or bs k []) (rw e at h) in
    let t : get_or ts k None ≡ Some (tag_at (block_at (slots_of ts bs) k)) = rw e (f.0) in
    record { tag = t; words = rw e (f.1); used = used_by ts k _ t }

pub held : (ts : List (Option ℕ)) (bs : List (List ℕ)) (slots : List (Option (ℕ × List ℕ))) (k : ℕ) → slots_of ts bs ≡ slots → IsLive slots k → Held ts bs slots k
held ts bs slots k e h = subst (λ s. Held ts bs s k) e (held_there ts bs k (rw e h))

-- the block of a number whose words are written
pub slot_written : (us : List (Option ℕ)) (bs : List (List ℕ)) (k t : ℕ) (b : List ℕ) → get_or us k None ≡ Some t → k < length bs → block_at (slots_of us (set bs k b)) k ≡ Some (t, b)
slot_written us bs k t b e h = slot_at us (set bs k b) k ∙ rw (e, get_or-set_same bs k b [] h) refl

-- the block of another number, where words are written
pub slot_kept : (ts us : List (Option ℕ)) (bs : List (List ℕ)) (slots : List (Option (ℕ × List ℕ))) (n k : ℕ) (b : List ℕ) → slots_of ts bs ≡ slots → get_or us k None ≡ get_or ts k None → k ≢ n → block_at (slots_of us (set bs n b)) k ≡ block_at slots k
slot_kept ts us bs slots n k b v e h = slot_at us (set bs n b) k ∙ (rw (e, get_or-set_other bs n k b [] h) refl ∙ (sym (slot_at ts bs k) ∙ ap (λ s. block_at s k) v))

-- the block of a free number
pub slot_none : (ts : List (Option ℕ)) (bs : List (List ℕ)) (k : ℕ) → get_or ts k None ≡ None → block_at (slots_of ts bs) k ≡ None
slot_none ts bs k e = slot_at ts bs k ∙ rw e refl

-- the block of a number whose tag stays
pub slot_same : (ts us : List (Option ℕ)) (bs : List (List ℕ)) (slots : List (Option (ℕ × List ℕ))) (k : ℕ) → slots_of ts bs ≡ slots → get_or us k None ≡ get_or ts k None → block_at (slots_of us bs) k ≡ block_at slots k
slot_same ts us bs slots k v e = slot_at us bs k ∙ (rw e refl ∙ (sym (slot_at ts bs k) ∙ ap (λ s. block_at s k) v))

-- as many blocks are live as numbers
pub live_slots : (ts : List (Option ℕ)) (bs : List (List ℕ)) → live_count (slots_of ts bs) ≡ live_count ts
live_slots [] bs = refl
live_slots (None ∷ ts) [] = live_slots ts []
live_slots (Some t ∷ ts) [] = ap suc (live_slots ts [])
live_slots (None ∷ ts) (b ∷ bs) = live_slots ts bs
live_slots (Some t ∷ ts) (b ∷ bs) = ap suc (live_slots ts bs)

-- further blocks change no slot
pub slots-append : (ts : List (Option ℕ)) (bs cs : List (List ℕ)) → length ts ≤ length bs → slots_of ts (bs ++ cs) ≡ slots_of ts bs
slots-append [] bs cs h = refl
slots-append (t ∷ ts) [] cs h = absurd (omega arith)
slots-append (t ∷ ts) (b ∷ bs) cs h = ap (λ z. slot_of t b ∷ z) (slots-append ts bs cs (omega arith))

pub keeps_other_blocks : KeepsOtherBlocks
keeps_other_blocks before after n [] h e = refl
keeps_other_blocks before after n (id ∷ ids) h e = elim (eqb_tells n id) [
  | inl p ↦ absurd (true≢false (sym (ap (λ b. b || list_any (nat_eq n) ids) p.0) ∙ e))
  | inr p ↦
      let rest : list_any (nat_eq n) ids ≡ false = sym (ap (λ b. b || list_any (nat_eq n) ids) p.0) ∙ e in
      ap (λ z. z ∷ map (block_at after) ids) (h id (λ q. p.1 (sym q))) ∙ ap (λ z. block_at before id ∷ z) (keeps_other_blocks before after n ids h rest)
]
