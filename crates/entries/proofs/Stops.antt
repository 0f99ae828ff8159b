-- Records that are refused, and those that change nothing lent: the definition's tests as one number, 0 where none refuses. Assumes
-- nothing.
use mathlib.Core.Path.{◌≡◌, refl, sym}
use mathlib.Core.Bool.{Bool, true, false, not, ◌&&◌, cond}
use Prim.Native.Nat.{ℕ, ◌≤◌, ◌<◌}
use lib.ListN.{length}
use lib.Dec.{eqb, leb}
use borrow.Author.Tests.{eq-eqb, ne_eqb, eqb-false, leb-true, leb-false, not-false}
use Rattle.meaning.proofs.Booleans.{and_both}
use Rattle.table.specs.Nodes.{above, put}
use Rattle.records.specs.declared.NodeBody.{NodeBody}
use Rattle.verdict.specs.Steps as check
use Rattle.verdict.specs.Steps.{stop, is_entry, entry_node, is_variable, entered, node_step}
use Rattle.state.specs.declared.State.{State}
use Rattle.state.specs.declared.Step.TheVariants.{Stop}
use Rattle.state.specs.States.{Lent, Stepped}
use Rattle.entries.specs.Tests.{node_refusal}

-- The lent lists are as they were.
pub stopped : (n : ℕ) (l : Lent) (st : State) (said : check.Step) (number offset : ℕ) → said ≡ stop number offset →
    Stepped n l l st said (Stop number offset)
stopped n l st said number offset e = record { says = sym e; leaves = record { table = refl; members = refl; struck = refl } }

-- ---- tests as one number

abbrev pub unless : ℕ → check.Step → check.Step
unless number made = cond (eqb number 0) made (stop number 0)

pub unless-refused : (number : ℕ) (made : check.Step) → (number ≡ 0 → ⊥) → unless number made ≡ stop number 0
unless-refused number made ne = rw (ne_eqb number 0 ne)

pub unless-none : (number : ℕ) (made : check.Step) → number ≡ 0 → unless number made ≡ made
unless-none number made e = rw (eq-eqb number 0 e)

pub four : (a b c d : Bool) (i j k m : ℕ) (made : check.Step) → eqb i 0 ≡ false → eqb j 0 ≡ false → eqb k 0 ≡ false → eqb m 0 ≡ false
    → cond a (stop i 0) (cond b (stop j 0) (cond c (stop k 0) (cond d (stop m 0) made)))
    ≡ unless (cond a i (cond b j (cond c k (cond d m 0)))) made
four true b c d i j k m made p q r s = rw p
four false true c d i j k m made p q r s = rw q
four false false true d i j k m made p q r s = rw r
four false false false true i j k m made p q r s = rw s
four false false false false i j k m made p q r s = refl

module _ (n s : ℕ) (st : check.State) where
  pub node-is : (b : NodeBody) → node_step n s st b ≡ unless (node_refusal n st b)
      (entered st (put s st.nodes b.variable (entry_node st b.low.0) (entry_node st b.high.0)))
  unfolding node_step node_refusal
  node-is b =
      let v = b.variable in
      let l = b.low.0 in
      let h = b.high.0 in
      four (leb 4096 (length st.entries)) (not (is_variable n v)) (not (is_entry st l && is_entry st h))
      (not (above st.nodes v (entry_node st l) && above st.nodes v (entry_node st h))) 21 12 13 14
      (entered st (put s st.nodes v (entry_node st l) (entry_node st h))) refl refl refl refl

-- ---- no test refused

pub pass : (a : Bool) (k x : ℕ) → eqb k 0 ≡ false → cond a k x ≡ 0 → (a ≡ false) × (x ≡ 0)
pass true k x e z = absurd (eqb-false k 0 e z)
pass false k x e z = (refl, z)

-- What a node record that is not refused has.
pub record NodeFits (n : ℕ) (st : check.State) (b : NodeBody) : Type 0 where
  pub few : length st.entries < 4096
  pub least : 1 ≤ b.variable
  pub most : b.variable ≤ n
  pub low : is_entry st b.low.0 ≡ true
  pub high : is_entry st b.high.0 ≡ true
  pub over-low : above st.nodes b.variable (entry_node st b.low.0) ≡ true
  pub over-high : above st.nodes b.variable (entry_node st b.high.0) ≡ true

pub node-fits : (n : ℕ) (st : check.State) (b : NodeBody) → node_refusal n st b ≡ 0 → NodeFits n st b
unfolding node_refusal is_variable
node-fits n st b e =
    let v : ℕ = b.variable in
    let l : ℕ = entry_node st b.low.0 in
    let h : ℕ = entry_node st b.high.0 in
    let (few, e₁) = pass (leb 4096 (length st.entries)) 21 _ refl e in
    let (variable, e₂) = pass (not (leb 1 v && leb v n)) 12 _ refl e₁ in
    let (entries, e₃) = pass (not (is_entry st b.low.0 && is_entry st b.high.0)) 13 _ refl e₂ in
    let (over, _) = pass (not (above st.nodes v l && above st.nodes v h)) 14 0 refl e₃ in
    let (least, most) = and_both (leb 1 v) (leb v n) (not-false _ variable) in
    let (low, high) = and_both (is_entry st b.low.0) (is_entry st b.high.0) (not-false _ entries) in
    let (over-low, over-high) = and_both (above st.nodes v l) (above st.nodes v h) (not-false _ over) in
    record {
      few = leb-false 4096 (length st.entries) few;
      least = leb-true 1 v least;
      most = leb-true v n most;
      low = low;
      high = high;
      over-low = over-low;
      over-high = over-high;
    }
