-- Rising places found one after another, and what holds of all others. The idea: from behind the last place on every number is passed, or
-- is the next place. Assumes nothing.
use mathlib.Core.Path.{◌≡◌, refl, sym, ap, ◌∙◌, subst}
use mathlib.Core.Logic.{◌⊎◌, inl, inr}
use mathlib.Core.List.{List, [], ◌∷◌, ◌++◌, map}
use Prim.Native.Nat.{ℕ, zero, suc, ◌+◌, ◌≤◌, ◌<◌}
use native.Mathlib.Omega.{arith}
use native.Mathlib.Numerals.{add-one}
use native.Mathlib.Decide.{ℕ_discrete, dec_lt}
use lib.ListN.{length, get_or, set, take, length-append, length-set, length-map, get_or-eq_default, get_or-append, get_or-map}
use lib.Seq.{get_or-append_seam, get_or-set_same, get_or-set_other, get_or-take, take-suc-set, length-take-le, ext_get_or}
use Rattle.table.specs.Lists.{Inside}
use Rattle.touched.specs.Places.{behind, AllBut, Untouched}

-- ---- places of a list

-- inside a list it makes no difference what is outside
pub get_or-inside : (l : List ℕ) (k d e : ℕ) → k < length l → get_or l k d ≡ get_or l k e
get_or-inside [] k d e p = absurd (omega arith)
get_or-inside (x ∷ xs) zero d e p = refl
get_or-inside (x ∷ xs) (suc k) d e p = get_or-inside xs k d e (omega arith)

pub get_or-more : (l : List ℕ) (k d e : ℕ) → d ≤ e → get_or l k d ≤ get_or l k e
get_or-more [] k d e p = p
get_or-more (x ∷ xs) zero d e p = omega arith
get_or-more (x ∷ xs) (suc k) d e p = get_or-more xs k d e p

behind-most : (n : ℕ) (places : List ℕ) (k : ℕ) → k ≤ length places → Inside n places → behind places k ≤ n
behind-most n places zero p h = omega arith
behind-most n places (suc k) p h = omega (arith, h k (omega arith))

behind-append : (places more : List ℕ) (k : ℕ) → k ≤ length places → behind (places ++ more) k ≡ behind places k
behind-append places more zero p = refl
behind-append places more (suc k) p = ap suc (get_or-append places more 0 k (omega arith))

-- ---- one number more

module _ (P : ℕ → Type 0) where
  but-none : AllBut 0 [] P
  but-none = record {
    inside = λ k p. absurd (omega arith);
    rising = λ k p. absurd (omega arith);
    others =
        λ k j p b q. absurd (omega arith);
  }

  module _ (n : ℕ) (places : List ℕ) (A : AllBut n places P) where
    -- it is passed over
    pub but-passed : P n → AllBut (n + 1) places P
    but-passed here = record {
      inside = λ k p. omega (arith, A.inside k p);
      rising = A.rising;
      others =
          λ k j p b q. go k j p b q (dec_lt k (length places)) (ℕ_discrete j n);
    }
      where
        go : (k j : ℕ) → k ≤ length places → behind places k ≤ j → j < get_or places k (n + 1) → Dec (k < length places) → Dec (j ≡ n) → P j
        go k j p b q (yes less) e = A.others k j p b (subst (λ (x : ℕ). j < x) (get_or-inside places k (n + 1) n less) q)
        go k j p b q (no more) (yes e) = subst P (sym e) here
        go k j p b q (no more) (no e) =
            let h : length places ≤ k = omega (arith, more) in
            let below : j < n + 1 = subst (λ (x : ℕ). j < x) (get_or-eq_default places (n + 1) h) q in
            let less : j < n = omega (arith, below, e) in
            A.others k j p b (subst (λ (x : ℕ). j < x) (sym (get_or-eq_default places n h)) less)

    -- it is a place
    pub but-added : AllBut (n + 1) (places ++ n ∷ []) P
    but-added = record {
      inside = λ k p. within k (dec_lt k (length places)) (omega (arith, p, longer));
      rising = λ k p. rises k (dec_lt k (length places)) (omega (arith, p, longer));
      others = λ k j p b q. rest k j (dec_lt k (length places)) (ℕ_discrete k (length places)) (omega (arith, p, longer)) b q;
    }
      where
        longer : length (places ++ n ∷ []) ≡ length places + 1
        longer = length-append places (n ∷ [])

        first : (k d : ℕ) → k < length places → get_or (places ++ n ∷ []) k d ≡ get_or places k d
        first k d p = get_or-append places (n ∷ []) d k p

        last : (k d : ℕ) → k ≡ length places → get_or (places ++ n ∷ []) k d ≡ n
        last k d e = ap (λ (j : ℕ). get_or (places ++ n ∷ []) j d) e ∙ get_or-append_seam places n [] d

        within : (k : ℕ) → Dec (k < length places) → k < length places + 1 → get_or (places ++ n ∷ []) k 0 < n + 1
        within k (yes p) q = let e = first k 0 p in omega (arith, e, A.inside k p)
        within k (no p) q = let e = last k 0 (omega (arith, p)) in omega (arith, e)

        rises : (k : ℕ) → Dec (k < length places) → k < length places + 1 → behind (places ++ n ∷ []) k ≤ get_or (places ++ n ∷ []) k 0
        rises k (yes p) q =
            let e = first k 0 p in
            let b = behind-append places (n ∷ []) k (omega arith) in
            omega (arith, e, b, A.rising k p)
        rises k (no p) q =
            let e = last k 0 (omega (arith, p)) in
            let b = behind-append places (n ∷ []) k (omega arith) in
            omega (arith, e, b, behind-most n places k (omega arith) A.inside)

        rest : (k j : ℕ) → Dec (k < length places) → Dec (k ≡ length places) → k ≤ length places + 1 → behind (places ++ n ∷ []) k ≤ j →
            j < get_or (places ++ n ∷ []) k (n + 1) → P j
        rest k j (yes p) e h b q =
            A.others k j (omega arith) (subst (λ (x : ℕ). x ≤ j) (behind-append places (n ∷ []) k (omega arith)) b)
            (subst (λ (x : ℕ). j < x) (first k (n + 1) p ∙ get_or-inside places k (n + 1) n p) q)
        rest k j (no p) (yes e) h b q =
            A.others k j (omega arith) (subst (λ (x : ℕ). x ≤ j) (behind-append places (n ∷ []) k (omega arith)) b)
            (subst (λ (x : ℕ). j < x) (last k (n + 1) e ∙ sym (get_or-eq_default places n (omega arith))) q)
        rest k j (no p) (no e) h b q = beyond k (omega (arith, p, e)) b q
          where
            beyond : (k : ℕ) → k ≡ suc (length places) → behind (places ++ n ∷ []) k ≤ j → j < get_or (places ++ n ∷ []) k (n + 1) → P j
            beyond k z b q =
                let s : suc n ≤ j = subst (λ (x : ℕ). x ≤ j)
                (ap (λ (m : ℕ). behind (places ++ n ∷ []) m) z ∙ ap suc (last (length places) 0 refl)) b in
                let t : j < n + 1 = subst (λ (x : ℕ). j < x) (get_or-eq_default (places ++ n ∷ []) (n + 1) (omega (arith, z, longer))) q
                in
                absurd (omega (arith, s, t))

-- ---- from behind some of the places to the next

module _ (n : ℕ) (places : List ℕ) (P : ℕ → Type 0) (A : AllBut n places P) where
  -- it is no earlier than behind those before it
  pub next-rises : (k : ℕ) → k ≤ length places → behind places k ≤ get_or places k n
  next-rises k h = elim (dec_lt k (length places)) [
    | yes p ↦ rw (get_or-inside places k n 0 p) (A.rising k p)
    | no p ↦ rw (get_or-eq_default places n {n = k} (omega (arith, p))) (behind-most n places k h A.inside)
  ]

  -- nor behind the end
  pub next-most : (k : ℕ) → get_or places k n ≤ n
  next-most k = elim (dec_lt k (length places)) [
    | yes p ↦ rw (get_or-inside places k n 0 p) (omega (arith, A.inside k p))
    | no p ↦ rw (get_or-eq_default places n {n = k} (omega (arith, p))) (omega arith)
  ]

-- ---- what follows of the others

pub but-so : (n : ℕ) (places : List ℕ) (P Q : ℕ → Type 0) → AllBut n places P → ((j : ℕ) → j < n → P j → Q j) → AllBut n places Q
but-so n places P Q A f =
    record {
      inside = A.inside;
      rising = A.rising;
      others = λ k j p b q. f j (omega (arith, q, next-most n places P A k))
          (A.others k j p b q);
    }

-- ---- each number is a place, or P holds of it

pub place-or : (n : ℕ) (places : List ℕ) (P : ℕ → Type 0) → AllBut n places P → (i : ℕ) → i < n →
    ((k : ℕ) × (k < length places) × (get_or places k 0 ≡ i)) ⊎ P i
place-or n places P A i p = from (length places) (omega arith)
    (subst (λ (x : ℕ). i < x) (sym (get_or-eq_default places n (omega arith))) p)
  where
    -- i is before the next place after the first k
    from : (k : ℕ) → k ≤ length places → i < get_or places k n → ((k : ℕ) × (k < length places) × (get_or places k 0 ≡ i)) ⊎ P i
    from zero h q = inr (A.others 0 i h (omega arith) q)
    from (suc k) h q = go (dec_lt (get_or places k 0) i) (ℕ_discrete (get_or places k 0) i) (from k (omega arith))
      where
        go : Dec (get_or places k 0 < i) → Dec (get_or places k 0 ≡ i) →
            (i < get_or places k n → ((k : ℕ) × (k < length places) × (get_or places k 0 ≡ i)) ⊎ P i)
            → ((k : ℕ) × (k < length places) × (get_or places k 0 ≡ i)) ⊎ P i
        go (yes less) e later = inr (A.others (suc k) i h (omega arith) q)
        go (no l) (yes e) later = inl (k, omega arith, e)
        go (no l) (no e) later = later (let same = get_or-inside places k n 0 (omega arith) in omega (arith, l, e, same))

-- ---- the loop

-- Of the first i words those that have a variable in `touching` are found, their places at the front of the list.
pub record Finding (words : List ℕ) (touching : ℕ) (places₀ places : List ℕ) (i count : ℕ) : Type 0 where
  pub few : count ≤ i
  pub within : i ≤ length words
  pub room : length places ≡ length places₀
  pub found : AllBut i (take count places) (Untouched words touching)

module _ (words : List ℕ) (touching : ℕ) (places₀ : List ℕ) where
  pub finding-none : Finding words touching places₀ places₀ 0 0
  finding-none = record { few = omega arith; within = omega arith; room = refl; found = but-none (Untouched words touching) }

  module _ (places : List ℕ) (i count : ℕ) (F : Finding words touching places₀ places i count) (more : i < length words) where
    pub finding-passed : Untouched words touching i → Finding words touching places₀ places (i + 1) count
    finding-passed u = record {
      few = omega (arith, F.few);
      within = omega arith;
      room = F.room;
      found = but-passed (Untouched words touching) i (take count places) F.found u;
    }

    pub finding-added : length words ≤ length places₀ → Finding words touching places₀ (set places count i) (i + 1) (count + 1)
    finding-added fits = record {
      few = omega (arith, F.few);
      within = omega arith;
      room = length-set places count i ∙ F.room;
      found =
          subst (λ (l : List ℕ). AllBut (i + 1) l (Untouched words touching))
          (sym (ap (λ (k : ℕ). take k (set places count i)) (add-one count) ∙ take-suc-set places count i (omega (arith, F.few, F.room))))
          (but-added (Untouched words touching) i (take count places) F.found);
    }

  pub finding-all : (places : List ℕ) (i count : ℕ) → Finding words touching places₀ places i count → length words ≤ i
      → (count ≤ length words) × AllBut (length words) (take count places) (Untouched words touching)
  finding-all places i count F h =
      let e : i ≡ length words = omega (arith, F.within) in
      (omega (arith, F.few, F.within), subst (λ (n : ℕ). AllBut n (take count places) (Untouched words touching)) e F.found)

-- ---- the list's nodes at the places

-- The first k nodes are those that the list has at the first k places.
pub record Filling (list places nodes₀ nodes : List ℕ) (k : ℕ) : Type 0 where
  pub most : k ≤ length places
  pub room : length nodes ≡ length nodes₀
  pub filled : (j : ℕ) → j < k → get_or nodes j 0 ≡ get_or list (get_or places j 0) 0

module _ (list places nodes₀ : List ℕ) where
  pub filling-none : Filling list places nodes₀ nodes₀ 0
  filling-none = record { most = omega arith; room = refl; filled = λ j p. absurd (omega arith) }

  pub filling-next : (nodes : List ℕ) (k : ℕ) → Filling list places nodes₀ nodes k → k < length places → length places ≤ length nodes₀
      → Filling list places nodes₀ (set nodes k (get_or list (get_or places k 0) 0)) (k + 1)
  filling-next nodes k F p len = record {
    most = omega arith;
    room = length-set nodes k (get_or list (get_or places k 0) 0) ∙ F.room;
    filled = λ j q. go j q (ℕ_discrete j k);
  }
    where
      go : (j : ℕ) → j < k + 1 → Dec (j ≡ k) → get_or (set nodes k (get_or list (get_or places k 0) 0)) j 0
          ≡ get_or list (get_or places j 0) 0
      go j q (yes e) = rw e (get_or-set_same nodes k (get_or list (get_or places k 0) 0) 0 (omega (arith, F.room)))
      go j q (no n) = get_or-set_other nodes k j (get_or list (get_or places k 0) 0) 0 n ∙ F.filled j (omega arith)

  pub filling-all : (nodes : List ℕ) (k : ℕ) → Filling list places nodes₀ nodes k → length places ≤ k → length places ≤ length nodes₀
      → take (length places) nodes ≡ map (λ i. get_or list i 0) places
  filling-all nodes k F h fits =
      ext_get_or 0 (take (length places) nodes) (map (λ i. get_or list i 0) places) (short ∙ sym (length-map places (λ i. get_or list i 0)))
      (λ j q.
      let inside : j < length places = omega (arith, q, short) in
      get_or-take (length places) nodes j 0 inside
      ∙ F.filled j (omega arith)
      ∙ sym (get_or-map (λ i. get_or list i 0) places j 0)
      ∙ get_or-inside (map (λ i. get_or list i 0) places) j (get_or list 0 0) 0
      (omega (arith, inside, length-map places (λ i. get_or list i 0))))
    where
      short : length (take (length places) nodes) ≡ length places
      short = length-take-le (length places) nodes (omega (arith, F.room))
