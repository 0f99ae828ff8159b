-- Of the call: a check that is not refused for room says and leaves the same in every table of at least as many places as its peak, and
-- with fewer it is refused
-- for room. The idea: the verdict is the same (EnoughRoom), and the lent lists hold it with zeros above. Assumes nothing.
use mathlib.Core.Path.{◌≡◌, refl, sym, ap, ◌∙◌, subst}
use mathlib.Core.Logic.{◌≢◌, ◌⊎◌, inl, inr}
use mathlib.Core.Bool.{Bool, true, false}
use mathlib.Core.List.{List, [], ◌∷◌, ◌++◌}
use Prim.Native.Nat.{ℕ, zero, suc, ◌-◌, ◌≤◌, ◌<◌}
use native.Mathlib.Omega.{arith}
use lib.ListN.{length, get_or}
use lib.Dec.{eqb}
use borrow.Author.Tests.{eqb-true, eqb-false}
use Rattle.commands.specs.declared.Mode.{Mode}
use Rattle.verdict.specs.Check.{Verdict, verdict, CheckOutcome, zeros, outcome}
use Rattle.demands.specs.Leaving.{Handed, checked, Fits, places, Leaves, unchanged, emptied, kept}
use Rattle.demands.proofs.Ending.{checked-fits}
use Rattle.demands.proofs.Lent.{read_back}
use Rattle.demands.proofs.Lists.{check-leaves}
use Rattle.exactness.specs.EnoughRoom.{SameFiles, SaysTheSame}
use Rattle.exactness.proofs.EnoughRoom.{enough-room}

-- ---- a list with zeros above it

zero-at : (m k : ℕ) → ◌≡◌ {A = ℕ} (get_or (zeros m) k 0) 0
zero-at zero k = refl
zero-at (suc m) zero = refl
zero-at (suc m) (suc k) = zero-at m k

with-zeros : (xs : List ℕ) (m k : ℕ) → get_or (xs ++ zeros m) k 0 ≡ get_or xs k 0
with-zeros [] m k = zero-at m k
with-zeros (x ∷ xs) m zero = refl
with-zeros (x ∷ xs) m (suc k) = with-zeros xs m k

-- ---- the call

outcome-same : (s s' m m' c c' : ℕ) (v : Verdict) → SaysTheSame (outcome s m c v) (outcome s' m' c' v)
unfolding outcome
outcome-same s s' m m' c c' v = record {
  number = refl;
  in-proof = refl;
  place = refl;
  lines = refl;
  rounds = refl;
  count = refl;
  peak = refl;
  nodes = read_back s v.nodes ∙ sym (read_back s' v.nodes);
  members = λ k. with-zeros v.members (m - length v.members) k ∙ sym (with-zeros v.members (m' - length v.members) k);
  struck = λ k. with-zeros v.struck (m - length v.struck) k ∙ sym (with-zeros v.struck (m' - length v.struck) k);
}

module _ (i j : Handed) (same : SameFiles i j) (fits : Fits i) (fits' : Fits j) where
  abbrev v : Verdict
  v = verdict i.mode (places i) i.text i.proof

  same-verdict : v.number ≢ 8 → v.number ≢ 23 → v.peak ≤ places j → verdict j.mode (places j) j.text j.proof ≡ v
  same-verdict n8 n23 p =
      ap (λ (x : Mode). verdict x (places j) j.text j.proof) (sym same.mode)
      ∙ ap (λ (x : List ℕ). verdict i.mode (places j) x j.proof) (sym same.text)
      ∙ ap (λ (x : List ℕ). verdict i.mode (places j) i.text x) (sym same.proof)
      ∙ enough-room (places i) (places j) i.mode i.text i.proof n8 n23 p

  -- THEOREM: "the greatest count reached" is enough (02, 2/14): a check of the same files with another table, of at least as many places as
  -- the peak that this
  -- one reports, says the same and leaves the same nodes, members and marks, where this one was not refused for room.
  pub enough-places : (checked i).number ≢ 8 → (checked i).number ≢ 23 → (checked i).peak ≤ places j → SaysTheSame (checked i) (checked j)
  unfolding outcome
  enough-places n8 n23 p =
      let e : checked i ≡ outcome (places i) (length i.members) (length i.scratch) v = checked-fits i fits in
      let at : v.number ≡ (checked i).number = sym (ap (λ (o : CheckOutcome). o.number) e) in
      let there : verdict j.mode (places j) j.text j.proof ≡ v =
      same-verdict (λ q. n8 (sym at ∙ q)) (λ q. n23 (sym at ∙ q)) (subst (λ (x : ℕ). x ≤ places j) (ap (λ (o : CheckOutcome). o.peak) e) p)
      in
      let f : checked j ≡ outcome (places j) (length j.members) (length j.scratch) v =
      checked-fits j fits' ∙ ap (outcome (places j) (length j.members) (length j.scratch)) there in
      subst (λ (o : CheckOutcome). SaysTheSame o (checked j)) (sym e) (subst (SaysTheSame _) (sym f)
      (outcome-same (places i) (places j) (length i.members) (length j.members) (length i.scratch) (length j.scratch) v))

-- ---- and no fewer are

peak-there : (i : Handed) → Fits i → (checked i).peak ≤ places i
peak-there i fits = go (check-leaves i)
  where
    go : Leaves i (checked i) → (checked i).peak ≤ places i
    go (unchanged other is) = absurd (other fits)
    go (emptied _ E) = E.peak.1
    go (kept _ K) = K.peak.1

-- THEOREM: with fewer places than the peak that this check reports, a check of the same files is refused for room.
pub peak-needed : (i j : Handed) → SameFiles i j → Fits i → Fits j → places j < (checked i).peak →
    ((checked j).number ≡ 8) ⊎ ((checked j).number ≡ 23)
peak-needed i j same fits fits' p = go (eqb (checked j).number 8) refl (eqb (checked j).number 23) refl
  where
    back : SameFiles j i
    back = record { mode = sym same.mode; text = sym same.text; proof = sym same.proof }

    go : (a : Bool) → eqb (checked j).number 8 ≡ a → (b : Bool) → eqb (checked j).number 23 ≡ b
        → ((checked j).number ≡ 8) ⊎ ((checked j).number ≡ 23)
    go true e b f = inl (eqb-true (checked j).number 8 e)
    go false e true f = inr (eqb-true (checked j).number 23 f)
    go false e false f =
        let S : SaysTheSame (checked j) (checked i) =
        enough-places j i back fits' fits (eqb-false (checked j).number 8 e) (eqb-false (checked j).number 23 f)
        (omega (arith, p, peak-there i fits, peak-there j fits')) in
        absurd (omega (arith, p, S.peak, peak-there j fits'))
