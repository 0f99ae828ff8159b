-- Records of sets: their tests as one number; a diagram without room is dropped, so that the table is as it was; one that is placed is the
-- next entry. The idea: the header's variables and 64 give one diagram where no set bit is beyond the header. Assumes nothing.
use mathlib.Core.Path.{◌≡◌, refl, sym, ap, ◌∙◌}
use mathlib.Core.Bool.{Bool, true, false, cond}
use Prim.Native.Nat.{ℕ, suc, ◌-◌, ◌*◌, ◌%◌, ◌^◌, ◌≤◌, ◌<◌, max}
use native.Mathlib.Omega.{arith}
use lib.ListN.{length, set}
use lib.Dec.{eqb, leb}
use lib.Seq.{length-take-le}
use borrow.Author.Tests.{leb-false, lt-leb, le-leb, lt-ltb, le-ltb}
use Rattle.meaning.specs.Diagram.{Diagram}
use Rattle.meaning.specs.Reduced.{Reduced}
use Rattle.meaning.proofs.Booleans.{t≢f}
use Rattle.meaning.proofs.Values.{reduced-to}
use Rattle.meaning.proofs.Words.{one_shifted}
use Rattle.meaning.proofs.Sets.{parity-of-word, at_least-of-word}
use Rattle.table.specs.Nodes.{Placing, full, placed, place}
use Rattle.table.specs.Indexed.{Table, size, nodes_of, Good, Outcome, written}
use Rattle.table.proofs.Written.{nodes-indexed, length-nodes}
use Rattle.table.proofs.Outcomes as outcomes
use Rattle.table.proofs.Outcomes.{place_in, dropped_to, Grown, longer, undone}
use Rattle.records.specs.declared.SetKind.{SetKind}
use Rattle.records.specs.declared.SetKind.TheVariants.{Parity, AtLeast}
use Rattle.records.specs.declared.SetBody.{SetBody}
use Rattle.verdict.specs.Steps as check
use Rattle.verdict.specs.Steps.{stop, spent, entered, beyond, no_parity, set_diagram, set_step}
use Rattle.verdict.proofs.SetValues.{set-reduced}
use Rattle.verdict.proofs.Uses.{place-uses}
use Rattle.state.specs.declared.State.{State}
use Rattle.state.specs.declared.Step.TheVariants.{Next, Stop, Spent}
use Rattle.state.specs.States.{Lent, table_in, state_of, state_with_entry, Held, Stepped}
use Rattle.entries.specs.Tests.{set_refusal}
use Rattle.entries.proofs.Stops.{unless, unless-refused, unless-none, stopped}
use Rattle.entries.proofs.Entering.{lent_with, entry-made}

-- ---- the tests

three : (a b c : Bool) (i j k : ℕ) (made : check.Step) → eqb i 0 ≡ false → eqb j 0 ≡ false → eqb k 0 ≡ false
    → cond a (stop i 0) (cond b (stop j 0) (cond c (stop k 0) made)) ≡ unless (cond a i (cond b j (cond c k 0))) made
three true b c i j k made p q r = rw p
three false true c i j k made p q r = rw q
three false false true i j k made p q r = rw r
three false false false i j k made p q r = refl

set_is : (n s : ℕ) (st : check.State) (kind : SetKind) (b : SetBody)
    → set_step n s st kind b ≡ unless (set_refusal n (length st.entries) kind b) (entered st (place s st.nodes (set_diagram n kind b)))
unfolding set_step set_refusal
set_is n s st kind b =
    three (leb 4096 (length st.entries)) (beyond n b.set) (no_parity kind b.byte) 21 12 29
    (entered st (place s st.nodes (set_diagram n kind b))) refl refl refl

-- What is known where none refuses.
pub record SetFits (n entries : ℕ) (b : SetBody) : Type 0 where
  pub few : entries < 4096
  pub within : b.set < 2 ^ n

pub set-fits : (n entries : ℕ) (kind : SetKind) (b : SetBody) → set_refusal n entries kind b ≡ 0 → SetFits n entries b
unfolding set_refusal beyond
set-fits n entries kind b e = go (leb 4096 entries) (leb (2 ^ n) b.set) refl refl (no_parity kind b.byte) e
  where
    go : (x y : Bool) → leb 4096 entries ≡ x → leb (2 ^ n) b.set ≡ y → (z : Bool) → ◌≡◌ {A = ℕ} (cond x 21 (cond y 12 (cond z 29 0))) 0 →
        SetFits n entries b
    go true y p q z e = absurd (omega arith)
    go false true p q z e = absurd (omega arith)
    go false false p q z e = record { few = leb-false 4096 entries p; within = leb-false (2 ^ n) b.set q }

module _ (n entries : ℕ) (kind : SetKind) (b : SetBody) where
  pub refuse-21 : 4096 ≤ entries → 21 ≡ set_refusal n entries kind b
  unfolding set_refusal
  refuse-21 h = rw (le-leb 4096 entries h)

  module _ (few : entries < 4096) where
    pub refuse-12 : beyond n b.set ≡ true → 12 ≡ set_refusal n entries kind b
    unfolding set_refusal
    refuse-12 e = rw (lt-leb 4096 entries few, e)

    module _ (within : beyond n b.set ≡ false) where
      pub refuse-29 : kind ≡ Parity → 1 < b.byte → 29 ≡ set_refusal n entries kind b
      unfolding set_refusal
      refuse-29 k h = rw (lt-leb 4096 entries few, within, k, lt-ltb 1 b.byte h)

      pub refuse-none : kind ≡ Parity → b.byte ≤ 1 → 0 ≡ set_refusal n entries kind b
      unfolding set_refusal
      refuse-none k h = rw (lt-leb 4096 entries few, within, k, le-ltb 1 b.byte h)

      pub any-byte : kind ≡ AtLeast → 0 ≡ set_refusal n entries kind b
      unfolding set_refusal
      any-byte k = rw (lt-leb 4096 entries few, within, k)

-- no set bit beyond the header: 64 variables give the diagram of the header's
set-64 : (n : ℕ) (kind : SetKind) (b : SetBody) → n ≤ 64 → b.set < 2 ^ n → set_diagram 64 kind b ≡ set_diagram n kind b
set-64 n Parity b narrow within = parity-of-word n 64 b.set (eqb b.byte 1) narrow within
set-64 n AtLeast b narrow within = at_least-of-word n 64 b.set b.byte narrow within

-- the diagram of a record's kind, made in the table
pub kind-made : (T : Table) (kind kind' : SetKind) (b : SetBody) → kind ≡ kind' → (o : Outcome) → o ≡ place_in T (set_diagram 64 kind' b) →
    o
    ≡ place_in T (set_diagram 64 kind b)
kind-made T kind kind' b e o made = made ∙ ap (λ (k : SetKind). place_in T (set_diagram 64 k b)) (sym e)

pub made-grown : (T : Table) → Good T → (kind : SetKind) (b : SetBody) (o : Outcome) → o ≡ place_in T (set_diagram 64 kind b) →
    Grown T (set_diagram 64 kind b) o
made-grown T G kind b o made = outcomes.grown T G (set_diagram 64 kind b) (set-reduced 64 kind b) o made

-- no room: 23, with the count that was reached
entered-full : (st : check.State) (s : ℕ) (p : Placing) → (written s p).full ≡ true
    → entered st p ≡ spent 23 (max st.peak (length (nodes_of (written s p).table)))
unfolding written entered
entered-full st s (full t) f = ap (λ (x : _). spent 23 (max st.peak (length x))) (sym (nodes-indexed s t))
entered-full st s (placed t k) f = t≢f (sym f)

-- ---- the set's word against the header's variables

pub beyond-none : (n w : ℕ) → 64 ≤ n → n ≤ 64 → w < 18446744073709551616 → false ≡ beyond n w
unfolding beyond
beyond-none n w least most lt = let e : n ≡ 64 = omega arith in sym (ap (λ (m : ℕ). leb (2 ^ m) w) e ∙ lt-leb (2 ^ 64) w lt)

pub beyond-bit : (n w : ℕ) → n < 64 → leb (1 * 2 ^ n % 18446744073709551616) w ≡ beyond n w
unfolding beyond
beyond-bit n w lt =
    let z : suc n - 1 ≡ n = omega arith in
    let shifted : 1 * 2 ^ (suc n - 1) % 18446744073709551616 ≡ 2 ^ (suc n - 1) = one_shifted (suc n) (omega arith) (omega arith) in
    ap (λ (m : ℕ). leb m w) (ap (λ (m : ℕ). 1 * 2 ^ m % 18446744073709551616) (sym z) ∙ shifted ∙ ap (λ (m : ℕ). 2 ^ m) z)

-- ---- the step

module _ (n : ℕ) (L : Lent) (st : State) (kind : SetKind) (b : SetBody) (H : Held n L st) where
  abbrev T : Table
  T = table_in L st.count

  abbrev S : check.State
  S = state_of L st

  abbrev said : check.Step
  said = set_step n (size T) S kind b

  abbrev D : Diagram
  D = set_diagram n kind b

  counted : length S.entries ≡ st.entries
  counted = length-take-le st.entries L.scratch (omega (arith, H.entries.few, H.entries.room))

  said-as : said ≡ unless (set_refusal n st.entries kind b) (entered S (place (size T) (nodes_of T) D))
  said-as = set_is n (size T) S kind b ∙ ap (λ (k : ℕ). unless (set_refusal n k kind b) (entered S (place (size T) (nodes_of T) D))) counted

  pub set-refused : (number : ℕ) → number ≡ set_refusal n st.entries kind b → (number ≡ 0 → ⊥) → Stepped n L L st said (Stop number 0)
  set-refused number e ne =
      stopped n L st said number 0
      (said-as ∙ ap (λ (k : ℕ). unless k (entered S (place (size T) (nodes_of T) D))) (sym e) ∙ unless-refused number _ ne)

  module _ (none : set_refusal n st.entries kind b ≡ 0) (o : Outcome) (made : o ≡ place_in T (set_diagram 64 kind b)) where
    fits : SetFits n st.entries b
    fits = set-fits n st.entries kind b none

    said-is : said ≡ entered S (place (size T) (nodes_of T) D)
    said-is = said-as ∙ unless-none (set_refusal n st.entries kind b) _ none

    placed-is : o ≡ place_in T D
    placed-is = made ∙ ap (place_in T) (set-64 n kind b H.entries.narrow fits.within)

    reduced : Reduced 1 65 D
    reduced = reduced-to 1 (suc n) 65 D (omega (arith, H.entries.narrow)) (set-reduced n kind b)

    grown : Grown T D o
    grown = outcomes.grown T H.entries.good D reduced o placed-is

    pub set_full : (T₂ : Table) → T₂ ≡ dropped_to st.count o.table → (peak : ℕ) → peak ≡ max st.peak o.table.count → o.full
        ≡ true
        → Stepped n L (lent_with T₂ L.members L.scratch L.struck) st said (Spent 23 peak)
    set_full T₂ dropped peak greatest f = record {
      says =
          ap (spent 23) (greatest ∙ ap (max st.peak)
          (sym (length-nodes o.table grown.good) ∙ ap (λ (x : Outcome). length (nodes_of x.table)) placed-is))
          ∙ sym (said-is ∙ entered-full S (size T) (place (size T) (nodes_of T) D) (sym (ap (λ (x : Outcome). x.full) placed-is) ∙ f));
      leaves = record {
        table = ap (λ (t : Table). table_in (lent_with t L.members L.scratch L.struck) st.count)
            (dropped ∙ undone T H.entries.good o.table (longer T D o grown));
        members = refl;
        struck = refl;
      };
    }

    pub set-made : o.full ≡ false → (st' : State) → st' ≡ state_with_entry st o.table.count (max st.peak o.table.count)
        → Stepped n L (lent_with o.table L.members (set L.scratch st.entries o.node) L.struck) st said (Next st')
    set-made =
        entry-made n L st H said D (place (size T) (nodes_of T) D) o placed-is grown
        (place-uses n (size T) (nodes_of T) D H.entries.uses (set-reduced n kind b))
        (omega (arith, counted, fits.few)) said-is
