-- Members asked for their negations: where enough are asked and none of them has its negation listed, no member has. The idea: of a
-- conflicting pair one is asked, and a diagram is its negation's negation. Assumes nothing.
use mathlib.Core.Path.{◌≡◌, refl, sym, ap, ◌∙◌, subst}
use mathlib.Core.Logic.{◌≢◌, ◌⊎◌, inl, inr}
use mathlib.Core.Bool.{Bool, true, false, not, ◌||◌}
use mathlib.Core.List.{List, [], ◌∷◌}
use Prim.Native.Nat.{ℕ, zero, suc, ◌+◌, ◌≤◌, ◌<◌}
use native.Mathlib.Omega.{arith}
use native.Mathlib.Decide.{ℕ_discrete, dec_lt}
use lib.ListN.{length, get_or}
use lib.Dec.{eqb}
use borrow.Author.Tests.{eqb-true}
use Rattle.meaning.specs.Diagram.{Diagram, leaf, same, value}
use Rattle.meaning.specs.Operations.{negation}
use Rattle.meaning.specs.Rules.{any, conflicts}
use Rattle.meaning.proofs.Booleans.{t≢f, not-true, or_right, or-neither, eq-eqb}
use Rattle.meaning.proofs.Units.{same-eq, eq-same}
use Rattle.meaning.specs.Words.{truth_from, assignment_of}
use Rattle.meaning.proofs.Pointwise.{negation-value}
use Rattle.meaning.proofs.PointwiseSteps.{negation-twice}
use Rattle.walks.specs.Readable.{value_under}
use Rattle.table.specs.Nodes.{Node, diagram_at}
use Rattle.table.specs.Indexed.{Table, nodes_of}
use Rattle.table.proofs.Order.{Ordered}
use Rattle.table.proofs.Numbers.{diagram_at-reduced}
use Rattle.conflict.specs.Members.{negation_in, some_negated, asks, Asked, NegationsAsked, Unnegated, Passed}
use Rattle.table.specs.Lists.{diagrams_of, Inside}
use Rattle.conflict.specs.Marks.{is_listed}

-- ---- a test over the list's diagrams, place by place

any_at : (p : Diagram → Bool) (t : List Node) (list : List ℕ) (k : ℕ) → k < length list → p (diagram_at t (get_or list k 0)) ≡ true →
    any p (diagrams_of t list) ≡ true
unfolding any
any_at p t [] k q e = absurd (omega arith)
any_at p t (j ∷ js) zero q e = ap (λ (b : Bool). b || any p (diagrams_of t js)) e
any_at p t (j ∷ js) (suc k) q e = or_right (p (diagram_at t j)) (any p (diagrams_of t js)) (any_at p t js k (omega arith) e)

any-nowhere : (p : Diagram → Bool) (t : List Node) (list : List ℕ) →
    ((k : ℕ) → k < length list → p (diagram_at t (get_or list k 0)) ≡ false) →
    any p (diagrams_of t list) ≡ false
unfolding any
any-nowhere p t [] h = refl
any-nowhere p t (j ∷ js) h = ap (λ (b : Bool). b || any p (diagrams_of t js)) (h 0 (omega arith))
    ∙ any-nowhere p t js (λ k q. h (suc k) (omega arith))

-- node 0 is not listed
not_listed : (list : List ℕ) (n : ℕ) → is_listed list n ≡ false → (k : ℕ) → k < length list → get_or list k 0 ≢ n
unfolding is_listed
not_listed [] n e k q z = absurd (omega arith)
not_listed (j ∷ js) n e zero q z = t≢f (sym (eq-eqb j n z) ∙ (or-neither (eqb j n) (is_listed js n) e).0)
not_listed (j ∷ js) n e (suc k) q z = not_listed js n (or-neither (eqb j n) (is_listed js n) e).1 k (omega arith) z

-- a listed number stands at a place
pub listed_at : (list : List ℕ) (n : ℕ) → is_listed list n ≡ true → (k : ℕ) × (k < length list) × (get_or list k 0 ≡ n)
unfolding is_listed
listed_at [] n e = t≢f (sym e)
listed_at (j ∷ js) n e = by (λ z. listed_at js n z) (eqb j n) refl e
  where
    by : (is_listed js n ≡ true → (k : ℕ) × (k < length js) × (get_or js k 0 ≡ n)) → (b : Bool) → eqb j n ≡ b → (b || is_listed js n) ≡ true
        → (k : ℕ) × (k < length (j ∷ js)) × (get_or (j ∷ js) k 0 ≡ n)
    by later true z e = (0, omega arith, eqb-true j n z)
    by later false z e = let m = later e in (suc m.0, omega (arith, m.1), m.2)

pub listed_here : (list : List ℕ) (k : ℕ) → k < length list → is_listed list (get_or list k 0) ≡ true
unfolding is_listed
listed_here [] k q = absurd (omega arith)
listed_here (j ∷ js) zero q = ap (λ (b : Bool). b || is_listed js j) (eq-eqb j j refl)
listed_here (j ∷ js) (suc k) q = or_right (eqb j (get_or js k 0)) (is_listed js (get_or js k 0)) (listed_here js k (omega arith))

-- ---- who is asked

truth-length : (i k w : ℕ) → length (truth_from i k w) ≡ k
unfolding truth_from
truth-length i zero w = refl
truth-length i (suc k) w = ap suc (truth-length (suc i) k w)

asks-zero : (t : List Node) (k : ℕ) (all : Bool) → all ≡ true → value_under t k 0 ≡ false → asks t k all ≡ true
unfolding asks
asks-zero t k all s z = rw (s, z) refl

asks-each : (t : List Node) (k : ℕ) (all : Bool) → all ≡ false → asks t k all ≡ true
unfolding asks
asks-each t k all s = rw s refl

-- of two negations one is 0 where all variables are false
negated-value : (t : List Node) (j k : ℕ) → diagram_at t k ≡ negation 64 (diagram_at t j) → value_under t j 0 ≡ true → value_under t k 0
    ≡ false
unfolding value_under
negated-value t j k e z =
    ap (λ (f : Diagram). value f (assignment_of 64 0)) e
    ∙ negation-value 64 (assignment_of 64 0) (truth-length 1 64 0) (diagram_at t j)
    ∙ ap not z

-- ---- members that are not each other's negations

module _ (t : List Node) (list : List ℕ) where
  pub negated-here : (f : ℕ) → is_listed list f ≡ true → negation_in (diagrams_of t list) (diagram_at t f) ≡ true →
      some_negated (diagrams_of t list) ≡ true
  unfolding some_negated
  negated-here f l e =
      let m = listed_at list f l in
      any_at (negation_in (diagrams_of t list)) t list m.0 m.1
      (ap (λ (k : ℕ). negation_in (diagrams_of t list) (diagram_at t k)) m.2 ∙ e)

  negation-at : (i j : ℕ) → j < length list → diagram_at t (get_or list j 0) ≡ negation 64 (diagram_at t (get_or list i 0)) →
      negation_in (diagrams_of t list) (diagram_at t (get_or list i 0)) ≡ true
  unfolding negation_in
  negation-at i j q e = any_at (λ f. same f (negation 64 (diagram_at t (get_or list i 0)))) t list j q
      (eq-same (diagram_at t (get_or list j 0)) (negation 64 (diagram_at t (get_or list i 0))) e)

  pub no-conflict : conflicts 64 (diagrams_of t list) ≡ false → (i j : ℕ) → i < length list → j < length list
      → diagram_at t (get_or list j 0) ≢ negation 64 (diagram_at t (get_or list i 0))
  unfolding conflicts
  no-conflict c i j p q e =
      t≢f (sym (any_at (λ f. any (λ g. same f (negation 64 g)) (diagrams_of t list)) t list j q
      (any_at (λ g. same (diagram_at t (get_or list j 0)) (negation 64 g)) t list i p
      (eq-same (diagram_at t (get_or list j 0)) (negation 64 (diagram_at t (get_or list i 0))) e)))
      ∙ (or-neither (any (same (leaf false)) (diagrams_of t list))
      (any (λ f. any (λ g. same f (negation 64 g)) (diagrams_of t list)) (diagrams_of t list)) c).1)

  pub no_zero : conflicts 64 (diagrams_of t list) ≡ false → (i : ℕ) → i < length list → diagram_at t (get_or list i 0) ≢ leaf false
  unfolding conflicts
  no_zero c i p e =
      t≢f (sym (any_at (same (leaf false)) t list i p (eq-same (leaf false) (diagram_at t (get_or list i 0)) (sym e)))
      ∙ (or-neither (any (same (leaf false)) (diagrams_of t list))
      (any (λ f. any (λ g. same f (negation 64 g)) (diagrams_of t list)) (diagrams_of t list)) c).0)

  nowhere-negated : (f : Diagram) → ((j : ℕ) → j < length list → diagram_at t (get_or list j 0) ≢ negation 64 f) →
      negation_in (diagrams_of t list) f ≡ false
  unfolding negation_in
  nowhere-negated f n =
      any-nowhere (λ g. same g (negation 64 f)) t list λ j q.
      not-true (same (diagram_at t (get_or list j 0)) (negation 64 f))
      (λ e. n j q (same-eq (diagram_at t (get_or list j 0)) (negation 64 f) e))

  module _ (O : Ordered t) (inside : Inside (length t) list) (asked : List ℕ) (all : Bool) (A : Asked t list asked all)
      (unlisted : (k : ℕ) → k < length asked → asks t (get_or asked k 0) all ≡ true →
      negation_in (diagrams_of t list) (diagram_at t (get_or asked k 0)) ≡ false) where
    -- one that is asked is no member's negation
    not-asked : (i j : ℕ) → j < length list → diagram_at t (get_or list j 0) ≡ negation 64 (diagram_at t (get_or list i 0)) →
        is_listed asked (get_or list i 0) ≡ true
        → asks t (get_or list i 0) all ≡ true → ⊥
    not-asked i j q e l a =
        let m = listed_at asked (get_or list i 0) l in
        t≢f (sym (negation-at i j q e)
        ∙ ap (λ (k : ℕ). negation_in (diagrams_of t list) (diagram_at t k)) (sym m.2)
        ∙ unlisted m.0 m.1 (ap (λ (k : ℕ). asks t k all) m.2 ∙ a))

    not-negations : (i j : ℕ) → i < length list → j < length list → diagram_at t (get_or list j 0) ≢ negation 64
        (diagram_at t (get_or list i 0))
    not-negations i j p q e = by all refl
      where
        back : diagram_at t (get_or list i 0) ≡ negation 64 (diagram_at t (get_or list j 0))
        back = sym (ap (negation 64) e ∙ negation-twice 64 (diagram_at t (get_or list i 0))
            (diagram_at-reduced t O (get_or list i 0) (inside i p)))

        by_value : all ≡ true → (b : Bool) → value_under t (get_or list i 0) 0 ≡ b → ⊥
        by_value s true z = not-asked j i p back (A.whole s j q)
            (asks-zero t (get_or list j 0) all s (negated-value t (get_or list i 0) (get_or list j 0) e z))
        by_value s false z = not-asked i j q e (A.whole s i p) (asks-zero t (get_or list i 0) all s z)

        by-pair : all ≡ false → (is_listed asked (get_or list i 0) ≡ true) ⊎ (is_listed asked (get_or list j 0) ≡ true) → ⊥
        by-pair s (inl l) = not-asked i j q e l (asks-each t (get_or list i 0) all s)
        by-pair s (inr l) = not-asked j i p back l (asks-each t (get_or list j 0) all s)

        by : (b : Bool) → all ≡ b → ⊥
        by true s = by_value s (value_under t (get_or list i 0) 0) refl
        by false s = by-pair s (A.pairs i j p q e)

    pub none-negated : some_negated (diagrams_of t list) ≡ false
    unfolding some_negated
    none-negated = any-nowhere (negation_in (diagrams_of t list)) t list λ i p. nowhere-negated (diagram_at t (get_or list i 0))
        (λ j q. not-negations i j p q)

-- ---- the asked are members

module _ (t : List Node) (list asked : List ℕ) (all : Bool) (A : Asked t list asked all) where
  pub asked-listed : (f : ℕ) → is_listed asked f ≡ true → is_listed list f ≡ true
  asked-listed f l = let m = listed_at asked f l in ap (is_listed list) (sym m.2) ∙ A.listed m.0 m.1

  pub asked-inside : (count : ℕ) → Inside count list → Inside count asked
  asked-inside count h k q = let m = listed_at list (get_or asked k 0) (A.listed k q) in
      subst (λ (f : ℕ). f < count) m.2 (h m.0 m.1)

  pub zero-unlisted : is_listed asked 0 ≡ false → is_listed list 0 ≡ false
  zero-unlisted e = not-true (is_listed list 0) (λ z. t≢f (sym (A.zero z) ∙ e))

-- ---- the loop

pub asked-first : (t : List Node) (list asked : List ℕ) (all : Bool) → NegationsAsked t list asked all 0
asked-first t list asked all = record { so_far = omega arith; none = λ k p. absurd (omega arith) }

pub asked-next : (t : List Node) (list asked : List ℕ) (all : Bool) (i : ℕ) → NegationsAsked t list asked all i → i < length asked
    → (asks t (get_or asked i 0) all ≡ true → negation_in (diagrams_of t list) (diagram_at t (get_or asked i 0)) ≡ false) →
    NegationsAsked t list asked all (i + 1)
asked-next t list asked all i A p here = record { so_far = omega arith; none = λ k q. go k q (ℕ_discrete k i) }
  where
    go : (k : ℕ) → k < i + 1 → Dec (k ≡ i) → asks t (get_or asked k 0) all ≡ true →
        negation_in (diagrams_of t list) (diagram_at t (get_or asked k 0)) ≡ false
    go k q (yes e) = rw e here
    go k q (no n) = A.none k (omega arith)

-- ---- those passed over, which have no negation but 0

pub passed_none : (T : Table) (asked : List ℕ) (all : Bool) (from : ℕ) → from ≤ length asked → Passed T asked all from from
passed_none T asked all from h = record { from_on = omega arith; most = h; none = λ k p q. absurd (omega arith) }

pub passed-next : (T : Table) (asked : List ℕ) (all : Bool) (from i : ℕ) → Passed T asked all from i → i < length asked
    → (asks (nodes_of T) (get_or asked i 0) all ≡ true → Unnegated T (get_or asked i 0)) → Passed T asked all from (i + 1)
passed-next T asked all from i P p here = record
    { from_on = omega (arith, P.from_on); most = omega arith; none = λ k f q. go k f q (ℕ_discrete k i) }
  where
    go : (k : ℕ) → from ≤ k → k < i + 1 → Dec (k ≡ i) → asks (nodes_of T) (get_or asked k 0) all ≡ true → Unnegated T (get_or asked k 0)
    go k f q (yes e) = subst (λ (j : ℕ). asks (nodes_of T) (get_or asked j 0) all ≡ true → Unnegated T (get_or asked j 0)) (sym e) here
    go k f q (no n) = P.none k f (omega arith)

pub asked-passed : (T : Table) (list asked : List ℕ) (all : Bool) → Inside T.count list → is_listed list 0 ≡ false
    → (i place : ℕ) → NegationsAsked (nodes_of T) list asked all i → Passed T asked all i place →
    NegationsAsked (nodes_of T) list asked all place
asked-passed T list asked all h z i place A P = record { so_far = P.most; none = λ k q. go k q (dec_lt k i) }
  where
    least : (j : ℕ) → j < length list → 1 ≤ get_or list j 0
    least j y = omega (arith, not_listed list 0 z j y)

    go : (k : ℕ) → k < place → Dec (k < i) → asks (nodes_of T) (get_or asked k 0) all ≡ true
        → negation_in (diagrams_of (nodes_of T) list) (diagram_at (nodes_of T) (get_or asked k 0)) ≡ false
    go k q (yes p) a = A.none k p a
    go k q (no p) a =
        nowhere-negated (nodes_of T) list (diagram_at (nodes_of T) (get_or asked k 0))
        (λ j y e. P.none k (omega (arith, p)) q a (get_or list j 0) (least j y) (h j y) e)
