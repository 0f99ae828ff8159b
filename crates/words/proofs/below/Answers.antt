-- `below` gives the word of the variables below v. Assumes nothing.
use mathlib.Core.Path.{◌≡◌, sym, ap}
use Prim.Native.Nat.{ℕ, ◌-◌, ◌*◌, ◌%◌, ◌^◌, ◌<◌}
use native.Mathlib.Omega.{arith}
use lib.Pow.{pow_pos}
use Rattle.words.specs.Sets.{below_word}
use Rattle.meaning.proofs.Words.{one_shifted}
use Rattle.words.proofs.below.Reads as reads
use Rattle.words.proofs.below.Lts as lts
use Rattle.words.proofs.below.Goals as goal

shifted : (c : lts.Else1 reads.Pre reads.Post) → 1 * 2 ^ (c.args.v - 1) % 18446744073709551616 ≡ 2 ^ (c.args.v - 1)
shifted c = one_shifted c.args.v c.requires.0 (omega (arith, c.requires.1, c.if-v-eq65.false))

pub returns-then-v-eq65 : goal.returns-then-v-eq65
unfolding below_word
returns-then-v-eq65 c = sym (ap (λ (v : ℕ). 2 ^ (v - 1) - 1) c.if-v-eq65.true)

pub overflow_sub-result : goal.overflow_sub-result
overflow_sub-result c =
    let v = c.args.v in
    let bit : 1 * 2 ^ (v - 1) % 18446744073709551616 ≡ 2 ^ (v - 1) = shifted c in
    let some : 0 < 2 ^ (v - 1) = pow_pos (v - 1) in
    omega arith

pub returns : goal.returns
unfolding below_word
returns c = ap (λ (x : ℕ). x - 1) (shifted c)
