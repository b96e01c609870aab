use Rattle.std.proofs.Common.{rules, arith, ap, ◌≡◌, ◌*◌, ℕ, length, List, Vec, Global}
use Rattle.word_pool.specs.ChunkList.{joined, AreWhole}
use Rattle.word_pool.proofs.ChunkListLemmas.{length-joined, length-lists, lists}
use Rattle.word_pool.proofs.chunks.Chunks.len.Goals as goal

size : (cs : List (Vec (List ℕ) Global)) (v : List (List ℕ)) (n : ℕ) → joined (lists cs) ≡ v → AreWhole (lists cs) → n ≡ length cs → n * 1024 ≡ length v
size cs v n e h m = omega (arith, ap length e, length-joined (lists cs) h, length-lists cs)

pub overflow_mul-result : goal.overflow_mul-result
overflow_mul-result c = let e = size c.self.inside.chunks.items c.args.self.now c.len.result c.self.view_is c.self.invariant (search rules) in record { fits = omega (arith, c.requires) }

pub returns : goal.returns
returns c = size c.self.inside.chunks.items c.args.self.now c.len.result c.self.view_is c.self.invariant (search rules)
