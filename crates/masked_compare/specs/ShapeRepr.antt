-- What a shape keeps. Source: this project's own.
use Rattle.std.specs.Prelude.{◌≡◌, ◌≤◌, ℕ, ◌-◌, List, ◌++◌, length, take, drop, replicate, IsTrue}
use Rattle.std.proofs.Common.{sym, arith}
use Rattle.std.proofs.lemmas.List.{length-take-le, take-append-drop}
use Rattle.masked_compare.specs.Fields.{is_shape, lane_bits}
use Rattle.masked_compare.specs.Marks.{guards_of, tops_of}
use Rattle.masked_compare.specs.declared.shape.Shape.TheInside.{Inside}

-- the widths
abbrev pub widths_of : Inside → List ℕ
widths_of a = take a.count a.widths

-- the places behind the widths are zero, and the bits, guards and tops are those of the lanes
pub record IsGood (a : Inside) : Type 0 where
  pub few : a.count ≤ 16
  pub room : length a.widths ≡ 16
  pub shape : IsTrue (is_shape (widths_of a))
  pub rest : drop a.count a.widths ≡ replicate (16 - a.count) 0
  pub bits : a.bits ≡ lane_bits (widths_of a)
  pub guards : a.guards ≡ guards_of (widths_of a)
  pub tops : a.tops ≡ tops_of (widths_of a)

-- what is kept of some widths
abbrev pub fields_of : List ℕ → Inside
fields_of widths = record {
  widths = widths ++ replicate (16 - length widths) 0;
  count = length widths;
  bits = lane_bits widths;
  guards = guards_of widths;
  tops = tops_of widths;
}

-- the widths say all that is kept
pub fields_back : (a : Inside) → IsGood a → fields_of (widths_of a) ≡ a
fields_back a g =
    let n : length (take a.count a.widths) ≡ a.count = length-take-le a.count a.widths (omega (arith, g.few, g.room)) in
    let w : take a.count a.widths ++ drop a.count a.widths ≡ a.widths = take-append-drop a.count a.widths in
    let r : replicate (16 - a.count) 0 ≡ drop a.count a.widths = sym g.rest in
    let all : widths_of a ++ replicate (16 - length (widths_of a)) 0 ≡ a.widths = rw (n, r) w in
    let b : lane_bits (widths_of a) ≡ a.bits = sym g.bits in
    let u : guards_of (widths_of a) ≡ a.guards = sym g.guards in
    let t : tops_of (widths_of a) ≡ a.tops = sym g.tops in
    λ i. record { widths = all i; count = n i; bits = b i; guards = u i; tops = t i }
