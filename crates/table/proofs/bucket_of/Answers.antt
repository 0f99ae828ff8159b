-- `bucket_of` is the chain of a node: sums and products modulo 2^32 are the sum modulo 2^32. Assumes nothing.
use Rattle.std.proofs.Common.{◌≡◌, ℕ, ◌+◌, ◌*◌, ◌%◌, ◌^◌, ◌<◌, sym, refl, ap, ◌∙◌, subst, mod-lt, arith}
use native.Mathlib.Nat.{add-mod-mod, mod-add-mod}
use Rattle.table.specs.Index.{bucket}
use Rattle.table.proofs.bucket_of.Reads as reads
use Rattle.table.proofs.bucket_of.Lts as lts
use Rattle.table.proofs.bucket_of.Tie as tie
use Rattle.table.proofs.bucket_of.Goals as goal

key-is : (v l h low high sum key : ℕ) → low ≡ (l * 12582917) % 4294967296 → high ≡ (h * 4256249) % 4294967296
    → sum ≡ (v + low) % 2 ^ 32 → key ≡ (sum + high) % 2 ^ 32 → key ≡ (v + l * 12582917 + h * 4256249) % 4294967296
key-is v l h low high sum key a b d e =
    e ∙ ap (λ (k : ℕ). (k + high) % 4294967296) d ∙ ap (λ (k : ℕ). ((v + k) % 4294967296 + high) % 4294967296) a
    ∙ ap (λ (k : ℕ). ((v + (l * 12582917) % 4294967296) % 4294967296 + k) % 4294967296) b
    ∙ ap (λ (k : ℕ). (k + (h * 4256249) % 4294967296) % 4294967296) (add-mod-mod v (l * 12582917) 4294967296)
    ∙ add-mod-mod ((v + l * 12582917) % 4294967296) (h * 4256249) 4294967296 ∙ mod-add-mod (v + l * 12582917) 4294967296 (h * 4256249)

-- The remainder of the key by n is the chain among n heads.
module _ (c : lts.After-wrapping_add_u322 tie.the-claims reads.Pre reads.Post tie.handed_clauses) where
  chain-is : (n : ℕ) → c.wrapping_add_u32-key.result % n ≡ bucket n c.args.v
      c.args.l c.args.h
  unfolding bucket
  chain-is n =
      ap (λ (k : ℕ). k % n) (key-is _ _ _ _ _ _ _ c.wrapping_product-low.ensures
      c.wrapping_product-high.ensures c.wrapping_add_u32.ensures.value c.wrapping_add_u32-key.ensures.value)

  -- where the heads are n, the remainder by n is the chain
  chain-of : (n : ℕ) → c.args.heads ≡ n → 0 < n
      → (c.wrapping_add_u32-key.result % n ≡ bucket c.args.heads c.args.v
      c.args.l c.args.h)
      × (c.wrapping_add_u32-key.result % n < c.args.heads)
  chain-of n e some =
      let a = c.args in (
        chain-is n ∙ ap (λ (m : ℕ). bucket m a.v a.l a.h) (sym e),
        subst (λ (m : ℕ). c.wrapping_add_u32-key.result % n < m) (sym e) (mod-lt _ some),
      )

pub returns-then-heads-eq-MOST_HEADS : goal.returns-then-heads-eq-MOST_HEADS
returns-then-heads-eq-MOST_HEADS c = let all = chain-of c.before 131072 c.if-heads-eq-MOST_HEADS.true (omega arith) in
    record { value = all.0; upper_bound = all.1 }

pub returns-then-heads-eq-SOME_HEADS : goal.returns-then-heads-eq-SOME_HEADS
returns-then-heads-eq-SOME_HEADS c = let all = chain-of c.before.before 8192 c.if-heads-eq-SOME_HEADS.true (omega arith) in
    record { value = all.0; upper_bound = all.1 }

pub returns : goal.returns
returns c = let all = chain-of c.before.before _ refl c.requires in record { value = all.0; upper_bound = all.1 }
