use Rattle.std.proofs.Common.{◌≡◌, arith, ℕ, sym, ap, ◌∙◌}
use Rattle.row_bits.specs.Bits.{is_set}
use Rattle.page_synopsis.proofs.BitSetLemmas.{size_is, no_run, run_ends, first_run}
use Rattle.page_synopsis.proofs.code_bits.CodeBits.next_run.Goals as goal

pub returns-in-None-clause-none : goal.returns-in-None-clause-none
returns-in-None-clause-none c =
    no_run c.self.inside.size c.self.inside.words.items c.args.self.now c.self.view_is c.self.invariant c.args.from c.requires
    (λ k le. sym (ap (λ l. is_set l k) c.deref.ensures.value) ∙ c.in-None.ensures.none k le)

pub returns-in-Some-clause-run : goal.returns-in-Some-clause-run
returns-in-Some-clause-run c =
    let words = c.self.inside.words.items in
    let same : (k : ℕ) → is_set words k ≡ is_set c.deref.result.now k = λ k. sym (ap (λ l. is_set l k) c.deref.ensures.value) in
    let same_2 : (k : ℕ) → is_set words k ≡ is_set c.deref-in-Some.result.now k = λ k. sym (ap (λ l. is_set l k) c.deref-in-Some.ensures.value) in
    let found = c.in-Some.ensures.place in
    let gap = c.next_clear-behind.ensures.place in
    first_run c.self.inside.size words c.args.self.now c.self.view_is c.self.invariant c.args.from c.in-Some.low c.next_clear-behind.result
    found.0 (same c.in-Some.low ∙ found.2) (λ k le lt. same k ∙ c.in-Some.ensures.least k le lt)
    gap.0 (same_2 c.next_clear-behind.result ∙ gap.2) (λ k le lt. same_2 k ∙ c.next_clear-behind.ensures.least k le lt)

pub returns-in-Some-clause-within : goal.returns-in-Some-clause-within
returns-in-Some-clause-within c =
    let words = c.self.inside.words.items in
    let same : (k : ℕ) → is_set words k ≡ is_set c.deref.result.now k = λ k. sym (ap (λ l. is_set l k) c.deref.ensures.value) in
    let same_2 : (k : ℕ) → is_set words k ≡ is_set c.deref-in-Some.result.now k = λ k. sym (ap (λ l. is_set l k) c.deref-in-Some.ensures.value) in
    let found = c.in-Some.ensures.place in
    let gap = c.next_clear-behind.ensures.place in
    let ends = run_ends c.self.inside.size words c.args.self.now c.self.view_is c.self.invariant c.in-Some.low c.next_clear-behind.result (same c.in-Some.low ∙ found.2) gap.0 (same_2 c.next_clear-behind.result ∙ gap.2)
    (λ k le lt. same_2 k ∙ c.next_clear-behind.ensures.least k le lt) in
    let size = size_is c.self.inside.size words c.args.self.now c.self.view_is in
    omega (arith, ends, size)
