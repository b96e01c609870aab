-- Steps of the generator.
use Rattle.std.proofs.Common.{◌≡◌, ℕ, zero, suc, ◌+◌, ◌*◌, sym, ap, ◌∙◌, zero-add, arith}
use Rattle.blink_gen.specs.Generator.{next_state, state_after}

state_after-+ : (n m x : ℕ) → state_after (n + m) x ≡ state_after n (state_after m x)
state_after-+ zero m x = ap (λ k. state_after k x) (zero-add m)
state_after-+ (suc n) m x =
    let e : suc n + m ≡ suc (n + m) = omega arith in
    ap (λ k. state_after k x) e ∙ ap next_state (state_after-+ n m x)

-- eight more steps behind those of k orders
pub eight_steps_more : (k x : ℕ) → state_after 8 (state_after (8 * k) x) ≡ state_after (8 * (k + 1)) x
eight_steps_more k x =
    let e : 8 + 8 * k ≡ 8 * (k + 1) = omega arith in
    sym (state_after-+ 8 (8 * k) x) ∙ ap (λ j. state_after j x) e
