-- The memo's cells: what one tells is held, and what is held as a result is stored and as the memo is emptied. The idea: a packed entry has
-- one reading. Assumes nothing.
use Rattle.std.proofs.Common.{◌≡◌, ℕ, ◌+◌, ◌*◌, ◌/◌, ◌%◌, ◌<◌, ◌≤◌, ◌⊎◌, List, length, get_or, set, replicate, sym, refl, ap, ◌∙◌, subst}
use Rattle.std.proofs.Common.{inl, inr, arith, length-set, get_or-set_other, get_or-set_same, eq-eqb, ne_eqb}
use native.Mathlib.Decide.{ℕ_discrete, dec_lt}
use Rattle.table.specs.declared.Found.TheVariants.{At, Nothing}
use Rattle.table.proofs.Zeros.{zeros-at, ZerosBelow}
use Rattle.memo.specs.Memo.{pack, live, Shaped, Holds, EmptyMemo, told_by, Tells, Cleared, InCells, Moved, Follows, Stores}

-- ---- packed entries

unpack : (e f g : ℕ) → e / 65536 ≡ f * 65536 + g → e ≡ pack f g (e % 65536)
unpack e f g h = omega arith

low_part : (e : ℕ) → e % 65536 < 65536
low_part e = omega arith

parts : (f g r f' g' r' : ℕ) → g < 65536 → r < 65536 → g' < 65536 → r' < 65536 → pack f g r ≡ pack f' g' r' → (f ≡ f') × (g ≡ g') × (r ≡ r')
parts f g r f' g' r' a b a' b' e = (omega arith, omega arith, omega arith)

-- what a live cell tells is held
pub cell-tells : (memo : List ℕ) (c f g : ℕ) → c < live memo → g < 65536 → 2 ≤ f → Tells memo f g (told_by (get_or memo (3 + c) 0) f g)
unfolding told_by
cell-tells memo c f g inside less two = go (ℕ_discrete (e / 65536) (f * 65536 + g))
  where
    e : ℕ
    e = get_or memo (3 + c) 0

    go : Dec (e / 65536 ≡ f * 65536 + g) → Tells memo f g (told_by e f g)
    go (yes q) =
        let told : told_by e f g ≡ At (record { 0 = e % 65536 }) = rw (eq-eqb _ _ q) in
        let holds : Holds memo f g (e % 65536) = record
        { cell = c; inside = inside; has = unpack e f g q; no-constant = two; g-fits = less; r-fits = low_part e } in
        subst (Tells memo f g) (sym told) holds
    go (no n) = let told : told_by e f g ≡ Nothing = rw (ne_eqb _ _ n) in subst (Tells memo f g) (sym told) tt

-- ---- storing

-- what follows, with nothing stored
pub follows-stores : {memo memo' : List ℕ} {f g r : ℕ} → Follows memo memo' → Stores memo f g r memo'
follows-stores F = record { shaped = F.shaped; held = λ f' g' r' h. inr (F.held f' g' r' h) }

pub follows_same : {memo : List ℕ} → Shaped memo → Follows memo memo
follows_same S = record { shaped = S; held = λ f g r h. h }

-- an entry is stored in a memo that follows another, with u for the number of results stored
pub memo-stored : (before memo : List ℕ) → Follows before memo → (u c f g r : ℕ) → c < live memo → g < 65536 → r < 65536
    → Stores before f g r (set (set memo 1 u) (3 + c) (pack f g r))
memo-stored before memo F u c f g r inside lg lr =
    record { shaped = record { room = rw (header, len) F.shaped.room; few = rw header F.shaped.few }; held = entry }
  where
    counted : List ℕ
    counted = set memo 1 u

    after : List ℕ
    after = set counted (3 + c) (pack f g r)

    len : length after ≡ length memo
    len = length-set counted (3 + c) (pack f g r) ∙ length-set memo 1 u

    header : live after ≡ live memo
    header = get_or-set_other counted (3 + c) 0 (pack f g r) 0 (λ z. absurd (omega arith))
        ∙ get_or-set_other memo 1 0 u 0 (λ z. absurd (omega arith))

    stored : get_or after (3 + c) 0 ≡ pack f g r
    stored = get_or-set_same counted (3 + c) (pack f g r) 0 (omega (arith, length-set memo 1 u, F.shaped.room))

    other : (i : ℕ) → (i ≡ c → ⊥) → get_or after (3 + i) 0 ≡ get_or memo (3 + i) 0
    other i n = get_or-set_other counted (3 + c) (3 + i) (pack f g r) 0 (λ z. n (omega arith))
        ∙ get_or-set_other memo 1 (3 + i) u 0 (λ z. absurd (omega arith))

    go : (f' g' r' : ℕ) (h : Holds after f' g' r') → Dec (h.cell ≡ c) → ((f ≡ f') × (g ≡ g') × (r ≡ r')) ⊎ Holds before f' g' r'
    go f' g' r' h (yes q) =
        inl (parts f g r f' g' r' lg lr h.g-fits h.r-fits (sym stored ∙ ap (λ (k : ℕ). get_or after (3 + k) 0) (sym q) ∙ h.has))
    go f' g' r' h (no n) = inr (F.held f' g' r' (record {
      cell = h.cell;
      inside = omega (arith, header, h.inside);
      has = sym (other h.cell n) ∙ h.has;
      no-constant = h.no-constant;
      g-fits = h.g-fits;
      r-fits = h.r-fits;
    }))

    entry : (f' g' r' : ℕ) → Holds after f' g' r' → ((f ≡ f') × (g ≡ g') × (r ≡ r')) ⊎ Holds before f' g' r'
    entry f' g' r' h = go f' g' r' h (ℕ_discrete h.cell c)

-- ---- emptying

pub cleared-none : (memo : List ℕ) (from : ℕ) → Cleared memo from from memo
cleared-none memo from = record { length-kept = refl; empty = λ k p q. absurd (omega arith); others = λ k p. refl }

pub cleared_more : (before memo : List ℕ) (from i : ℕ) → from ≤ i → i < length memo → Cleared before from i memo →
    Cleared before from (i + 1) (set memo i 0)
cleared_more before memo from i least inside C = record {
  length-kept = length-set memo i 0 ∙ C.length-kept;
  empty = λ k p q. go k p q (ℕ_discrete k i);
  others = λ k p. get_or-set_other memo i k 0 0 (λ z. absurd (omega arith)) ∙ C.others k p;
}
  where
    go : (k : ℕ) → from ≤ k → k < i + 1 → Dec (k ≡ i) → ◌≡◌ {A = ℕ} (get_or (set memo i 0) k 0) 0
    go k p q (yes e) = rw e (get_or-set_same memo i 0 0 inside)
    go k p q (no n) = get_or-set_other memo i k 0 0 n ∙ C.empty k p (omega arith)

pub cleared-less : (before memo : List ℕ) (from i to : ℕ) → to ≤ i → Cleared before from i memo → Cleared before from to memo
cleared-less before memo from i to less C =
    record { length-kept = C.length-kept; empty = λ k p q. C.empty k p (omega arith); others = C.others }

-- ---- moving

-- e is none, or one of the first n cells has it
abbrev pub Kept : List ℕ → ℕ → ℕ → Type 0
Kept memo n e = (e ≡ 0) ⊎ InCells memo n e

pub moved_same : (memo : List ℕ) (n : ℕ) → Moved memo n memo
moved_same memo n = record { length-kept = refl; cells = λ i p. inr (record { cell = i; inside = p; has = refl }) }

-- a place that gets nothing, or what one of the first cells had
pub moved-set : (before memo : List ℕ) (n : ℕ) → Moved before n memo → (c e : ℕ) → 3 + c < length memo → Kept before n e →
    Moved before n (set memo (3 + c) e)
moved-set before memo n M c e room kept =
    record { length-kept = length-set memo (3 + c) e ∙ M.length-kept; cells = λ i p. go i p (ℕ_discrete i c) }
  where
    go : (i : ℕ) → i < n → Dec (i ≡ c) → Kept before n (get_or (set memo (3 + c) e) (3 + i) 0)
    go i p (yes q) =
        let same : get_or (set memo (3 + c) e) (3 + i) 0 ≡ e = rw q (get_or-set_same memo (3 + c) e 0 room) in
        subst (Kept before n) (sym same) kept
    go i p (no m) =
        let other : get_or (set memo (3 + c) e) (3 + i) 0 ≡ get_or memo (3 + i) 0 =
        get_or-set_other memo (3 + c) (3 + i) e 0 (λ z. m (omega arith)) in
        subst (Kept before n) (sym other) (M.cells i p)

pub moved_twice : (first second third : List ℕ) (n : ℕ) → Moved first n second → Moved second n third → Moved first n third
moved_twice first second third n M N =
    record { length-kept = N.length-kept ∙ M.length-kept; cells = λ i p. go (get_or third (3 + i) 0) (N.cells i p) }
  where
    go : (e : ℕ) → Kept second n e → Kept first n e
    go e (inl z) = inl z
    go e (inr h) = subst (Kept first n) h.has (M.cells h.cell h.inside)

-- A memo of n cells gets `more`: the new ones are emptied, then all are moved.
pub grown-follows : (memo emptied moved : List ℕ) (n more : ℕ) → live memo ≡ n → 3 + more ≤ length memo → more ≤ 1048576
    → Cleared memo (3 + n) (3 + more) emptied → Moved emptied more moved → Follows memo (set moved 0 more)
grown-follows memo emptied moved n more begun room few C M =
    record { shaped = record { room = rw (header, len) room; few = rw header few }; held = held }
  where
    after : List ℕ
    after = set moved 0 more

    len : length after ≡ length memo
    len = length-set moved 0 more ∙ M.length-kept ∙ C.length-kept

    header : live after ≡ more
    header = get_or-set_same moved 0 more 0 (omega (arith, M.length-kept, C.length-kept))

    cell-is : (i : ℕ) → get_or after (3 + i) 0 ≡ get_or moved (3 + i) 0
    cell-is i = get_or-set_other moved 0 (3 + i) more 0 (λ z. absurd (omega arith))

    held : (f g r : ℕ) → Holds after f g r → Holds memo f g r
    held f g r h = go (M.cells h.cell (omega (arith, header, h.inside)))
      where
        packed : get_or moved (3 + h.cell) 0 ≡ pack f g r
        packed = sym (cell-is h.cell) ∙ h.has

        old : (j : ℕ) → j < more → get_or emptied (3 + j) 0 ≡ pack f g r → Dec (j < n) → Holds memo f g r
        old j inside e (yes less) = record {
          cell = j;
          inside = omega (arith, begun);
          has = sym (C.others (3 + j) (omega arith)) ∙ e;
          no-constant = h.no-constant;
          g-fits = h.g-fits;
          r-fits = h.r-fits;
        }
        old j inside e (no q) =
            absurd (omega (arith, e, C.empty (3 + j) (omega (arith, q)) (omega arith), h.no-constant))

        go : Kept emptied more (get_or moved (3 + h.cell) 0) → Holds memo f g r
        go (inl z) = absurd (omega (arith, z, packed, h.no-constant))
        go (inr k) = old k.cell k.inside (k.has ∙ packed) (dec_lt k.cell n)

-- ---- an empty memo

-- one without live cells
pub memo-none : (memo : List ℕ) → 3 ≤ length memo → ◌≡◌ {A = ℕ} (live memo) 0 → EmptyMemo memo
memo-none memo three e =
    record { shaped = record { room = omega arith; few = omega arith }; none = λ f g r h. absurd (omega (arith, h.inside, e)) }

-- it follows every other
pub empty-follows : (memo memo' : List ℕ) → EmptyMemo memo' → Follows memo memo'
empty-follows memo memo' E = record { shaped = E.shaped; held = λ f g r h. absurd (E.none f g r h) }

-- one of zeros
pub memo-fresh : (memo : List ℕ) → 3 ≤ length memo → memo ≡ replicate (length memo) 0 → EmptyMemo memo
memo-fresh memo three e = memo-none memo three (ap (λ (m : List ℕ). get_or m 0 0) e ∙ zeros-at (length memo) 0)

-- one whose live cells are zeros, with its header
pub memo-zeros : (memo : List ℕ) (n step : ℕ) → 3 + n ≤ length memo → n ≤ 1048576 → ZerosBelow memo (3 + n) →
    EmptyMemo (set (set memo 0 n) 2 step)
memo-zeros memo n step room few zero-cells = record
    { shaped = record { room = rw (header, len) room; few = rw header few }; none = nothing }
  where
    begun : List ℕ
    begun = set memo 0 n

    after : List ℕ
    after = set begun 2 step

    len : length after ≡ length memo
    len = length-set begun 2 step ∙ length-set memo 0 n

    header : live after ≡ n
    header = get_or-set_other begun 2 0 step 0 (λ z. absurd (omega arith)) ∙ get_or-set_same memo 0 n 0 (omega arith)

    empty : (i : ℕ) → i < n → ◌≡◌ {A = ℕ} (get_or after (3 + i) 0) 0
    empty i p =
        get_or-set_other begun 2 (3 + i) step 0 (λ z. absurd (omega arith))
        ∙ get_or-set_other memo 0 (3 + i) n 0 (λ z. absurd (omega arith))
        ∙ zero-cells (3 + i) (omega arith)

    nothing : (f g r : ℕ) → Holds after f g r → ⊥
    nothing f g r h = absurd (omega (arith, h.has, h.no-constant, empty h.cell (omega (arith, header, h.inside))))
