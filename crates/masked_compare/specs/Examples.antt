-- Worked shapes and words, as facts that compute. Source: this project's own.
use Rattle.std.specs.Prelude.{◌≡◌, [], ◌∷◌, true, false, map}
use Rattle.masked_compare.specs.Fields.{is_shape, lane_bits, lane_count}
use Rattle.masked_compare.specs.Words.{word_of, rows_in}
use Rattle.masked_compare.specs.Marks.{marks_of, marked_in, inside_of, lacks, tops_where}

-- fields of at most 32 bits, their guard bits among them, in the least lane that holds them
abbrev pub ShapesTold : Type 0
ShapesTold =
    (is_shape (23 ∷ 8 ∷ []) ≡ false)
    × (is_shape (22 ∷ 8 ∷ []) ≡ true)
    × (is_shape [] ≡ false)
    × (is_shape (24 ∷ []) ≡ false)
    × (lane_bits (3 ∷ []) ≡ 8)
    × (lane_bits (3 ∷ 4 ∷ []) ≡ 16)
    × (lane_count (3 ∷ 4 ∷ []) ≡ 4)

-- one field of three bits in lanes of 8: the codes 0 to 7, of which 0 to 3 lie from 0 to 3
abbrev pub OneFieldTold : Type 0
OneFieldTold = marks_of (3 ∷ []) (inside_of (3 ∷ []) 0x0706_0504_0302_0100 0 0x0303_0303_0303_0303) ≡ 0x0000_0000_0808_0808

-- fields of three and four bits in lanes of 16: the rows (7, 0), (0, 15), (7, 15), (3, 8), and those that lie from (0, 15) to (7, 15)
abbrev pub TwoFieldsTold : Type 0
TwoFieldsTold =
    (word_of (3 ∷ 4 ∷ []) ((7 ∷ 0 ∷ []) ∷ (0 ∷ 15 ∷ []) ∷ (7 ∷ 15 ∷ []) ∷ (3 ∷ 8 ∷ []) ∷ []) ≡ 0x0083_00F7_00F0_0007)
    × (rows_in (3 ∷ 4 ∷ []) 0x0083_00F7_00F0_0007 ≡ (7 ∷ 0 ∷ []) ∷ (0 ∷ 15 ∷ []) ∷ (7 ∷ 15 ∷ []) ∷ (3 ∷ 8 ∷ []) ∷ [])
    × (marks_of (3 ∷ 4 ∷ []) (inside_of (3 ∷ 4 ∷ []) 0x0083_00F7_00F0_0007 0x00F0_00F0_00F0_00F0 0x00F7_00F7_00F7_00F7) ≡ 0x0008_0108_0108_0008)
    × (tops_where (3 ∷ 4 ∷ []) (map lacks (marked_in (3 ∷ 4 ∷ []) 0x0008_0108_0108_0008)) ≡ 0x8000_0000_0000_8000)
