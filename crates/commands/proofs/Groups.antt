-- Groups of a binary proof by the place of the last of them: one law for each way through the reader of a literal. The idea: all groups but
-- the last have the top bit set, so the last is where their run ends; three groups whose last is not 0 make 16,384 or more. Assumes
-- nothing.
use mathlib.Core.Path.{◌≡◌, refl, sym, ap, ap₂, ◌∙◌, subst}
use mathlib.Core.Logic.{◌≢◌}
use mathlib.Core.Bool.{Bool, true, false, ◌&&◌, ◌||◌, cond}
use mathlib.Core.List.{List, [], ◌∷◌}
use Prim.Native.Nat.{ℕ, zero, suc, ◌+◌, ◌-◌, ◌*◌, ◌/◌, ◌%◌, ◌≤◌, ◌<◌}
use native.Mathlib.Omega.{arith}
use lib.ListN.{length, get_or, drop, length-drop}
use lib.Dec.{eqb, ltb}
use borrow.Author.Tests.{eqb-true, eqb-false, ne_eqb, lt-ltb, ltb-true, ltb-false, lt-leb, le-leb}
use Rattle.meaning.proofs.Booleans.{and-false, and_both, or-neither}
use Rattle.dimacs.specs.Numbers.{Token, Closing, Literal, Wrong}
use Rattle.dimacs.specs.Text.{run, past}
use Rattle.dimacs.proofs.Runs.{past_stop}
use Rattle.commands.specs.Commands.{Groups, cut, groups, group_then, groups_in, groups_token}
use Rattle.commands.specs.Inner.{is_open_group, literal_coded, Said, groups_said}

-- The number that the first k open groups and the byte behind them make.
number_in : ℕ → List ℕ → ℕ
number_in k [] = 0
number_in zero (b ∷ bs) = b
number_in (suc k) (b ∷ bs) = b - 128 + 128 * number_in k bs

-- a byte is a last group or an open one
open-not-last : (b : ℕ) (t : Bool) → ltb b 128 ≡ t → is_open_group b ≡ cond t false true
open-not-last b true e = lt-leb 128 b (ltb-true b 128 e)
open-not-last b false e = le-leb 128 b (ltb-false b 128 e)

groups-end : (bs : List ℕ) (k : ℕ) → run is_open_group bs ≡ k → k < length bs → groups_in bs
    ≡ groups (number_in k bs) (suc k) (get_or bs k 0)
unfolding run groups_in number_in
groups-end [] k e h = absurd (omega arith)
groups-end (b ∷ bs) k e h = go (ltb b 128) refl k e h (λ j q i. groups-end bs j q i)
  where
    go : (t : Bool) → ltb b 128 ≡ t → (k : ℕ) → cond (is_open_group b) (suc (run is_open_group bs)) 0 ≡ k → k < suc (length bs)
        → ((j : ℕ) → run is_open_group bs ≡ j → j < length bs → groups_in bs ≡ groups (number_in j bs) (suc j) (get_or bs j 0))
        → cond (ltb b 128) (groups b 1 b) (group_then (b - 128) (groups_in bs))
        ≡ groups (number_in k (b ∷ bs)) (suc k) (get_or (b ∷ bs) k 0)
    go true t zero e h ih = rw t refl
    go true t (suc k) e h ih = let z : ◌≡◌ {A = ℕ} 0 (suc k) = rw (open-not-last b true t) at e in absurd (omega arith)
    go false t zero e h ih = let z : ◌≡◌ {A = ℕ} (suc (run is_open_group bs)) 0 = rw (open-not-last b false t) at e in absurd (omega arith)
    go false t (suc k) e h ih =
        let z : ◌≡◌ {A = ℕ} (suc (run is_open_group bs)) (suc k) = rw (open-not-last b false t) at e in
        rw (t, ih k (omega arith) (omega arith)) refl

groups_none : (bs : List ℕ) → run is_open_group bs ≡ length bs → groups_in bs ≡ cut
unfolding run groups_in
groups_none [] e = refl
groups_none (b ∷ bs) e = go (ltb b 128) refl e (λ q. groups_none bs q)
  where
    go : (t : Bool) → ltb b 128 ≡ t → cond (is_open_group b) (suc (run is_open_group bs)) 0 ≡ suc (length bs) →
        (run is_open_group bs ≡ length bs → groups_in bs ≡ cut)
        → cond (ltb b 128) (groups b 1 b) (group_then (b - 128) (groups_in bs)) ≡ cut
    go true t e ih = let z : ◌≡◌ {A = ℕ} 0 (suc (length bs)) = rw (open-not-last b true t) at e in absurd (omega arith)
    go false t e ih =
        let z : ◌≡◌ {A = ℕ} (suc (run is_open_group bs)) (suc (length bs)) = rw (open-not-last b false t) at e in
        rw (t, ih (omega arith)) refl

some_number : (k : ℕ) (bs : List ℕ) → k < length bs → get_or bs k 0 ≢ 0 → 1 ≤ number_in k bs
unfolding number_in
some_number k [] h nz = absurd (omega arith)
some_number zero (b ∷ bs) h nz = omega (arith, nz)
some_number (suc k) (b ∷ bs) h nz = omega (arith, some_number k bs (omega arith) nz)

number-two : (bs : List ℕ) → 2 ≤ length bs → number_in 1 bs ≡ get_or bs 0 0 - 128 + 128 * get_or bs 1 0
unfolding number_in
number-two [] h = absurd (omega arith)
number-two (b ∷ []) h = absurd (omega arith)
number-two (b ∷ c ∷ bs) h = refl

number-one : (bs : List ℕ) → 1 ≤ length bs → number_in 0 bs ≡ get_or bs 0 0
unfolding number_in
number-one [] h = absurd (omega arith)
number-one (b ∷ bs) h = refl

number-many : (k : ℕ) (bs : List ℕ) → suc (suc k) < length bs → get_or bs (suc (suc k)) 0 ≢ 0 → 16384 ≤ number_in (suc (suc k)) bs
unfolding number_in
number-many k [] h nz = absurd (omega arith)
number-many k (b ∷ []) h nz = absurd (omega arith)
number-many k (b ∷ c ∷ bs) h nz = omega (arith, some_number k bs (omega arith) nz)

get_d_drop : (at k : ℕ) (s : List ℕ) → get_or (drop at s) k 0 ≡ get_or s (at + k) 0
get_d_drop zero k s = ap (λ (j : ℕ). get_or s j 0) (omega arith)
get_d_drop (suc at) k [] = refl
get_d_drop (suc at) k (b ∷ s) = let next : suc at + k ≡ suc (at + k) = omega arith in get_d_drop at k s
    ∙ ap (λ (j : ℕ). get_or (b ∷ s) j 0) (sym next)

-- ---- the ways through the reader of a literal

-- groups of which the first is not the last begin with an open one
pub open-first : (s : List ℕ) (at last : ℕ) → last ≡ past is_open_group s at → last ≢ at → at < length s → 128 ≤ get_or s at 0
open-first s at last is more inside = go (ltb (get_or s at 0) 128) refl
  where
    go : (t : Bool) → ltb (get_or s at 0) 128 ≡ t → 128 ≤ get_or s at 0
    go true e = absurd (more (is ∙ past_stop is_open_group s at inside (open-not-last (get_or s at 0) true e)))
    go false e = ltb-false (get_or s at 0) 128 e

module _ (s : List ℕ) (n at last : ℕ) (is : last ≡ past is_open_group s at) where
  run_is : run is_open_group (drop at s) ≡ last - at
  unfolding past
  run_is = omega (arith, is)

  least : at ≤ last
  unfolding past
  least = omega (arith, is)

  pub read-cut : last ≡ length s → at ≤ length s → record { token = Wrong 6; end = at } ≡ groups_said n at (groups_in (drop at s))
  read-cut e h = ap (groups_said n at) (sym (groups_none (drop at s) (run_is ∙ omega (arith, length-drop at s))))

  module _ (inside : last < length s) (top : ℕ) (top-is : top ≡ get_or s last 0) where
    here : groups_in (drop at s) ≡ groups (number_in (last - at) (drop at s)) (suc (last - at)) top
    here =
        let same : at + (last - at) ≡ last = omega (arith, least) in
        groups-end (drop at s) (last - at) run_is (omega (arith, length-drop at s, least))
        ∙ ap (groups (number_in (last - at) (drop at s)) (suc (last - at)))
        (get_d_drop at (last - at) s ∙ ap (λ (k : ℕ). get_or s k 0) same ∙ sym top-is)

    module _ (end : ℕ) (end_is : end ≡ last + 1) where
      says : (t : Token) → groups_token n (number_in (last - at) (drop at s)) (suc (last - at)) top ≡ t → record { token = t; end = end }
          ≡ groups_said n at (groups_in (drop at s))
      says t e =
          let behind : at + suc (last - at) ≡ end = omega (arith, least, end_is) in
          sym (ap (groups_said n at) here
          ∙ ap₂ (λ (x : Token) (k : ℕ). ◌⟨Said⟩ x k) e behind)
        where
          ◌⟨Said⟩ : Token → ℕ → Said
          ◌⟨Said⟩ x k = record { token = x; end = k }

      one_number : last ≡ at → number_in (last - at) (drop at s) ≡ top
      one_number e =
          let none : last - at ≡ 0 = omega arith in
          let same : at + 0 ≡ last = omega arith in
          ap (λ (k : ℕ). number_in k (drop at s)) none ∙ number-one (drop at s) (omega (arith, length-drop at s)) ∙ get_d_drop at 0 s
          ∙ ap (λ (k : ℕ). get_or s k 0) same ∙ sym top-is

      pub read-closing : last ≡ at → top ≡ 0 → record { token = Closing; end = end } ≡ groups_said n at (groups_in (drop at s))
      read-closing e z =
          let one : suc (last - at) ≡ 1 = omega arith in
          let none : number_in (last - at) (drop at s) ≡ 0 = one_number e ∙ z in
          says Closing (rw (none, one) refl)

      pub read_one : last ≡ at → top ≡ 1 → record { token = Wrong 31; end = end } ≡ groups_said n at (groups_in (drop at s))
      read_one e z =
          let is_one : number_in (last - at) (drop at s) ≡ 1 = one_number e ∙ z in
          says (Wrong 31) (rw (is_one, z) refl)

      pub read_short : last ≡ at → top ≢ 0 → top ≢ 1 → (t : Token) → t ≡ literal_coded n top → record { token = t; end = end }
          ≡ groups_said n at (groups_in (drop at s))
      read_short e nz no_one t is =
          says t (rw (one_number e, ne_eqb top 0 nz, ne_eqb top 1 no_one) (sym is))

      pub read-surplus : last ≢ at → top ≡ 0 → record { token = Wrong 31; end = end } ≡ groups_said n at (groups_in (drop at s))
      read-surplus more z =
          let many : eqb (suc (last - at)) 1 ≡ false = ne_eqb (suc (last - at)) 1 (λ q. more (omega (arith, least))) in
          says (Wrong 31) (rw (many, and-false (eqb (number_in (last - at) (drop at s)) 0), z) refl)

      -- a number above 1 of groups whose last is not 0
      large : (u : ℕ) → number_in (last - at) (drop at s) ≡ u → 2 ≤ u → top ≢ 0 → (t : Token) → t ≡ literal_coded n u →
          record { token = t; end = end } ≡ groups_said n at (groups_in (drop at s))
      large u e two nz t is =
          says t (rw (e, ne_eqb u 0 (λ q. omega arith), ne_eqb top 0 nz, ne_eqb u 1 (λ q. omega arith)) (sym is))

      pub read-two : end - at ≡ 2 → top ≢ 0 → (u : ℕ) → u ≡ get_or s at 0 - 128 + 128 * top → (t : Token) → t ≡ literal_coded n u →
          record { token = t; end = end } ≡ groups_said n at (groups_in (drop at s))
      read-two e nz u is t q =
          let one : last - at ≡ 1 = omega (arith, end_is) in
          let first : at + 0 ≡ at = omega arith in
          let second : at + 1 ≡ last = omega (arith, least) in
          let number : number_in (last - at) (drop at s) ≡ u =
          ap (λ (k : ℕ). number_in k (drop at s)) one ∙ number-two (drop at s) (omega (arith, length-drop at s))
          ∙ ap₂ (λ (x y : ℕ). x - 128 + 128 * y) (get_d_drop at 0 s ∙ ap (λ (k : ℕ). get_or s k 0) first)
          (get_d_drop at 1 s ∙ ap (λ (k : ℕ). get_or s k 0) second ∙ sym top-is) ∙ sym is in
          large u number (omega (arith, nz)) nz t q

      -- three groups at least
      three-groups : last ≢ at → end - at ≢ 2 → 2 ≤ last - at
      three-groups more no-two =
          let far : at + 1 ≤ last = omega (arith, least, more) in
          let farther : last ≢ at + 1 = λ q. no-two (omega (arith, end_is)) in
          omega (arith, far, farther)

      pub read-many : last ≢ at → end - at ≢ 2 → top ≢ 0 → n ≤ 64 → record { token = Wrong 4; end = end }
          ≡ groups_said n at (groups_in (drop at s))
      read-many more no-two nz narrow =
          let k : ℕ = last - at - 2 in
          let three : suc (suc k) ≡ last - at = omega (arith, three-groups more no-two) in
          let same : at + (last - at) ≡ last = omega (arith, least) in
          let byte : get_or (drop at s) (suc (suc k)) 0 ≢ 0 = λ z. nz
          (top-is ∙ sym (ap (λ (j : ℕ). get_or s j 0) same) ∙ sym (get_d_drop at (last - at) s)
          ∙ sym (ap (λ (j : ℕ). get_or (drop at s) j 0) three) ∙ z) in
          let big : 16384 ≤ number_in (suc (suc k)) (drop at s) = number-many k (drop at s) (omega (arith, length-drop at s, least)) byte in
          let u : ℕ = number_in (last - at) (drop at s) in
          let big' : 16384 ≤ u = subst (λ (j : ℕ). 16384 ≤ number_in j (drop at s)) three big in
          large u refl (omega (arith, big')) nz (Wrong 4) (sym (rw (lt-ltb n (u / 2) (omega (arith, big'))) refl))

-- ---- what groups are

-- There is one at least, they lie in the bytes, and they make more than 0 where the last is not 0.
pub record Well (bs : List ℕ) (number many last : ℕ) : Type 0 where
  pub some : 1 ≤ many
  pub within : many ≤ length bs
  pub more : last ≢ 0 → 1 ≤ number

pub groups-well : (bs : List ℕ) (number many last : ℕ) → groups_in bs ≡ groups number many last → Well bs number many last
unfolding groups_in
groups-well [] number many last e = let z : ◌≡◌ {A = ℕ} 0 1 = cc in absurd (omega arith)
groups-well (b ∷ bs) number many last e = go (ltb b 128) (groups_in bs) refl e (λ u m l q. groups-well bs u m l q)
  where
    go : (t : Bool) (g : Groups) → groups_in bs ≡ g → cond t (groups b 1 b) (group_then (b - 128) g) ≡ groups number many last
        → ((u m l : ℕ) → groups_in bs ≡ groups u m l → Well bs u m l) → Well (b ∷ bs) number many last
    go true g q e ih =
        let x : b ≡ number = cc in
        let y : 1 ≡ many = cc in
        let z : b ≡ last = cc in
        record { some = omega arith; within = omega arith; more = λ nz. omega (arith, nz) }
    go false cut q e ih = let z : ◌≡◌ {A = ℕ} 0 1 = cc in absurd (omega arith)
    go false (groups u m l) q e ih =
        let W : Well bs u m l = ih u m l q in
        let x : b - 128 + 128 * u ≡ number = cc in
        let y : suc m ≡ many = cc in
        let z : l ≡ last = cc in
        record { some = omega arith; within = omega (arith, W.within); more = λ nz. omega (arith, W.more (λ w. nz (sym z ∙ w))) }

-- What they say, case by case.
pub token-by : (n number many last : ℕ) (P : Token → Type 0) → (number ≡ 0 → many ≡ 1 → P Closing) → P (Wrong 31) → P (Wrong 4)
    → (last ≢ 0 → number ≢ 1 → number / 2 ≤ n → P (Literal (number / 2) (eqb (number % 2) 0))) → P (groups_token n number many last)
token-by n number many last P closing surplus beyond literal =
    go (eqb number 0 && eqb many 1) (eqb last 0 || eqb number 1) (ltb n (number / 2)) refl refl refl
  where
    go : (x y z : Bool) → (eqb number 0 && eqb many 1) ≡ x → (eqb last 0 || eqb number 1) ≡ y → ltb n (number / 2) ≡ z
        → P (cond x Closing (cond y (Wrong 31) (cond z (Wrong 4) (Literal (number / 2) (eqb (number % 2) 0)))))
    go true y z p q r = let (e, f) = and_both (eqb number 0) (eqb many 1) p in closing (eqb-true number 0 e) (eqb-true many 1 f)
    go false true z p q r = surplus
    go false false true p q r = beyond
    go false false false p q r =
        let (e, f) = or-neither (eqb last 0) (eqb number 1) q in
        literal (eqb-false last 0 e) (eqb-false number 1 f) (ltb-false n (number / 2) r)
