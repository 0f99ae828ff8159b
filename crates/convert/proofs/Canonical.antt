-- A binary proof that is read to its end is what its clauses print: the form is canonical. The idea: groups that are not surplus, of a
-- number up to 129, are its own. Assumes nothing.
use mathlib.Core.Path.{◌≡◌, refl, sym, ap, ap₂, ◌∙◌, subst}
use mathlib.Core.Logic.{◌≢◌}
use mathlib.Core.Bool.{Bool, true, false, cond}
use mathlib.Core.List.{List, [], ◌∷◌, ◌++◌, append_assoc}
use Prim.Native.Nat.{ℕ, zero, suc, ◌+◌, ◌-◌, ◌*◌, ◌/◌, ◌%◌, ◌≤◌, ◌<◌}
use native.Mathlib.Omega.{arith}
use lib.ListN.{length, get_or, drop, drop_of_length-le}
use lib.Seq.{drop-drop, drop-cons}
use lib.Dec.{eqb, ltb}
use borrow.Author.Tests.{le-ltb, eqb-true, eqb-false, ltb-true, ltb-false}
use Rattle.meaning.specs.Operations as meaning
use Rattle.dimacs.specs.Clauses.{Next, closed, ended, refused, literal_then, after_token}
use Rattle.commands.specs.declared.Form.TheVariants.{Binary}
use Rattle.commands.specs.Commands.{Command, added, struck_out, wrong, finished, Read, reading, clause_read, Groups, cut, groups}
use Rattle.commands.specs.Commands.{group_then}
use Rattle.commands.specs.Commands.{groups_in, after_groups, binary_from, binary_read}
use Rattle.commands.proofs.Groups.{Well, groups-well, token-by}
use Rattle.convert.specs.Convert.{Lines, line_then, lines_then, lines_from, lines_of, code_of, groups_of, binary_literals, binary_line}
use Rattle.convert.specs.Convert.{printed}
use Rattle.convert.proofs.Left.{Small, AllSmall}

abbrev pub Bytes : List ℕ → Type 0
Bytes [] = Unit {0}
Bytes (b ∷ bs) = (b < 256) × Bytes bs

bytes_drop : (n : ℕ) (s : List ℕ) → Bytes s → Bytes (drop n s)
bytes_drop zero s B = B
bytes_drop (suc n) [] B = tt
bytes_drop (suc n) (b ∷ s) B = bytes_drop n s B.1

-- ---- groups

-- groups of a number up to 129 are its own
groups-own : (bs : List ℕ) → Bytes bs → (u many last : ℕ) → groups_in bs ≡ groups u many last → last ≢ 0 → u ≤ 129 →
    (bs ≡ groups_of u ++ drop many bs) × (1 ≤ many)
unfolding groups_in
groups-own [] B u many last e nz most = let z : ◌≡◌ {A = ℕ} 0 1 = cc in absurd (omega arith)
groups-own (b ∷ bs) B u many last e nz most = first (ltb b 128) refl e
  where
    second : (c : ℕ) (cs : List ℕ) → bs ≡ c ∷ cs → 128 ≤ b → (t : Bool) → ltb c 128 ≡ t →
        group_then (b - 128) (cond t (groups c 1 c) (group_then (c - 128) (groups_in cs))) ≡ groups u many last
        → (b ∷ bs ≡ groups_of u ++ drop many (b ∷ bs)) × (1 ≤ many)
    second c cs is ge true lt e =
        let x : b - 128 + 128 * c ≡ u = cc in
        let m : 2 ≡ many = cc in
        let y : c ≡ last = cc in
        let lt' : c < 128 = ltb-true c 128 lt in
        let nzc : c ≢ 0 = λ z. nz (sym y ∙ z) in
        let one : c ≡ 1 = omega (arith, nzc) in
        let big : ltb u 128 ≡ false = le-ltb u 128 (omega arith) in
        let lowb : 128 + u % 128 ≡ b = omega (arith, B.0) in
        let top : u / 128 ≡ c = omega (arith, B.0) in
        (rw (is, big, lowb, top, ← m) refl, omega arith)
    second c cs is ge false lt e = third (groups_in cs) refl e
      where
        third : (g : Groups) → groups_in cs ≡ g → group_then (b - 128) (group_then (c - 128) (groups_in cs)) ≡ groups u many last →
            (b ∷ bs ≡ groups_of u ++ drop many (b ∷ bs)) × (1 ≤ many)
        third cut q e = let x : ◌≡◌ {A = Groups} cut (groups u many last) =
            sym (ap (λ (g : Groups). group_then (b - 128) (group_then (c - 128) g)) q) ∙ e in let w : ◌≡◌ {A = ℕ} 0 1 = cc in
            absurd (omega arith)
        third (groups u' m' l') q e =
            let x : groups (b - 128 + 128 * (c - 128 + 128 * u')) (suc (suc m')) l' ≡ groups u many last =
            sym (ap (λ (g : Groups). group_then (b - 128) (group_then (c - 128) g)) q) ∙ e in
            let y : b - 128 + 128 * (c - 128 + 128 * u') ≡ u = cc in
            let w : l' ≡ last = cc in
            absurd (omega (arith, (groups-well cs u' m' l' q).more (λ z. nz (sym w ∙ z))))

    first : (t : Bool) → ltb b 128 ≡ t → cond t (groups b 1 b) (group_then (b - 128) (groups_in bs)) ≡ groups u many last →
        (b ∷ bs ≡ groups_of u ++ drop many (b ∷ bs)) × (1 ≤ many)
    first true lt e =
        let x : b ≡ u = cc in
        let m : 1 ≡ many = cc in
        (rw (← x, ← m, lt) refl, omega arith)
    first false lt e = split bs refl (ltb-false b 128 lt) e
      where
        split : (xs : List ℕ) → bs ≡ xs → 128 ≤ b → group_then (b - 128) (groups_in bs) ≡ groups u many last →
            (b ∷ bs ≡ groups_of u ++ drop many (b ∷ bs)) × (1 ≤ many)
        split [] is ge e = let x : ◌≡◌ {A = Groups} cut (groups u many last) =
            sym (ap (λ (r : List ℕ). group_then (b - 128) (groups_in r)) is) ∙ e in let w : ◌≡◌ {A = ℕ} 0 1 = cc in absurd (omega arith)
        split (c ∷ cs) is ge e = second c cs is ge (ltb c 128) refl (sym (ap (λ (r : List ℕ). group_then (b - 128) (groups_in r)) is) ∙ e)

-- a number of one group is the byte itself
groups-one : (bs : List ℕ) (u last : ℕ) → groups_in bs ≡ groups u 1 last → bs ≡ u ∷ drop 1 bs
unfolding groups_in
groups-one [] u last e = let z : ◌≡◌ {A = ℕ} 0 1 = cc in absurd (omega arith)
groups-one (b ∷ bs) u last e = go (ltb b 128) (groups_in bs) refl e
  where
    go : (c : Bool) (g : Groups) → groups_in bs ≡ g → cond c (groups b 1 b) (group_then (b - 128) g) ≡ groups u 1 last → b ∷ bs ≡ u ∷ bs
    go true g q e = let x : b ≡ u = cc in ap (λ (v : ℕ). v ∷ bs) x
    go false cut q e = let z : ◌≡◌ {A = ℕ} 0 1 = cc in absurd (omega arith)
    go false (groups u' m' l') q e = let m : suc m' ≡ 1 = cc in absurd (omega (arith, (groups-well bs u' m' l' q).some))

-- The literal of a number.
abbrev literal_of : ℕ → meaning.Literal
literal_of u = record { variable = u / 2; positive = eqb (u % 2) 0 }

code-of : (u : ℕ) → code_of (literal_of u) ≡ u
code-of u = go (eqb (u % 2) 0) refl
  where
    go : (b : Bool) → eqb (u % 2) 0 ≡ b → cond b (2 * (u / 2)) (2 * (u / 2) + 1) ≡ u
    go true e = let z : u % 2 ≡ 0 = eqb-true (u % 2) 0 e in omega arith
    go false e = let z : u % 2 ≢ 0 = eqb-false (u % 2) 0 e in omega (arith, z)

-- ---- a clause

-- The bytes from a place on are those of the literals, and then what is left at `end`; or there is a fault.
abbrev Own : List ℕ → ℕ → Next → Type 0
Own s at (closed ls first end) = (drop at s ≡ binary_literals ls ++ drop end s) × Small ls × (at < end)
Own s at (refused number place) = number ≢ 0
Own s at ended = ⊥

module _ (s : List ℕ) (B : Bytes s) where
  literal-own : (u many last at : ℕ) → groups_in (drop at s) ≡ groups u many last → last ≢ 0 → u ≢ 1 → u / 2 ≤ 64 → (x : Next) →
      Own s (at + many) x → Own s at (literal_then (literal_of u) x)
  literal-own u many last at q nz no_one most (refused number place) O = O
  literal-own u many last at q nz no_one most ended O = O
  literal-own u many last at q nz no_one most (closed ls first end) (left, small, lt) =
      let (own, more) = groups-own (drop at s) (bytes_drop at s B) u many last q nz (omega arith) in
      let W : Well (drop at s) u many last = groups-well (drop at s) u many last q in (
        own ∙ ap₂ ◌++◌ (ap groups_of (sym (code-of u))) (drop-drop many at s ∙ left)
            ∙ sym (append_assoc (groups_of (code_of (literal_of u))) (binary_literals ls) (drop end s)),
        (omega (arith, W.more nz, no_one), most, small),
        omega arith,
      )

  body_own : (k first at : ℕ) → Own s at (binary_from s 64 k first at)
  unfolding binary_from
  body_own zero first at = λ z. omega arith
  body_own (suc k) first at = go (groups_in (drop at s)) refl (λ p. body_own k first p)
    where
      go : (g : Groups) → groups_in (drop at s) ≡ g → ((p : ℕ) → Own s p (binary_from s 64 k first p)) →
          Own s at (after_groups 64 first at g (λ next. binary_from s 64 k first next))
      go cut q ih = λ z. omega arith
      go (groups u many last) q ih =
          token-by 64 u many last (λ t. Own s at (after_token t first at (at + many) (binary_from s 64 k first (at + many))))
          (λ none one. (closes none one, tt, omega arith))
          (λ z. omega arith)
          (λ z. omega arith)
          (λ nz no_one most. literal-own u many last at q nz no_one most (binary_from s 64 k first (at + many)) (ih (at + many)))
        where
          closes : u ≡ 0 → many ≡ 1 → drop at s ≡ 0 ∷ drop (at + many) s
          closes none one =
              let q' : groups_in (drop at s) ≡ groups 0 1 last = q ∙ ap₂ (λ (x y : ℕ). groups x y last) none one in
              groups-one (drop at s) 0 last q' ∙ ap (◌∷◌ 0) (drop-drop 1 at s ∙ ap (λ (m : ℕ). drop (at + m) s) (sym one))

  -- ---- all clauses

  abbrev OwnLines : ℕ → Lines → Type 0
  OwnLines at r = r.number ≡ 0 → (printed binary_line r.lines ≡ drop at s) × AllSmall r.lines

  line-own : (b : Bool) (k at : ℕ) → at < length s → get_or s at 0 ≡ cond b 0x64 0x61 → (body : Next) → Own s (at + 1) body
      → (c : List meaning.Literal → Command) → ((ls : List meaning.Literal) (p : ℕ) (r : Lines) → lines_then (c ls) p r ≡ line_then b ls r)
      → ((p : ℕ) → at < p → OwnLines p (lines_from k Binary s p))
      → OwnLines at (lines_then (clause_read (λ next. next) at c body).command at
      (lines_from k Binary s (clause_read (λ next. next) at c body).next))
  line-own b k at lt is (refused number place) O c means ih = λ z. absurd (O z)
  line-own b k at lt is ended O c means ih = absurd O
  line-own b k at lt is (closed ls first end) (left, small, past) c means ih =
      let rest : Lines = lines_from k Binary s end in
      subst (OwnLines at) (sym (means ls at rest)) (λ z.
      let (more, smalls) = ih end (omega arith) z in
      let next : suc at ≡ at + 1 = omega arith in (
        ap (◌++◌ (binary_line b ls)) more ∙ ap (◌∷◌ (cond b 0x64 0x61)) (sym left) ∙ ap (λ (x : ℕ). x ∷ drop (at + 1) s) (sym is)
            ∙ ap (λ (m : ℕ). get_or s at 0 ∷ drop m s) (sym next) ∙ sym (drop-cons s at 0 lt),
        (small, smalls),
      ))

  lines-own : (k at : ℕ) → length s < at + k → OwnLines at (lines_from k Binary s at)
  unfolding lines_from binary_read
  lines-own zero at lt = λ z. let past : length s ≤ at = omega arith in (sym (drop_of_length-le s past), tt)
  lines-own (suc k) at lt =
      inside (ltb at (length s)) refl (eqb (get_or s at 0) 0x61) refl (eqb (get_or s at 0) 0x64) refl (λ p q. lines-own k p (omega arith))
    where
      body : Next
      body = binary_from s 64 (length s - (at + 1)) at (at + 1)

      chosen : Bool → Bool → Bool → Read
      chosen t a b = cond t (cond a (clause_read (λ next. next) at added body)
          (cond b (clause_read (λ next. next) at struck_out body) (reading (wrong 9 0) at))) (reading finished at)

      inside : (t : Bool) → ltb at (length s) ≡ t → (a : Bool) → eqb (get_or s at 0) 0x61 ≡ a → (b : Bool) → eqb (get_or s at 0) 0x64 ≡ b
          → ((p : ℕ) → at < p → OwnLines p (lines_from k Binary s p))
          → OwnLines at (lines_then (chosen t a b).command at (lines_from k Binary s (chosen t a b).next))
      inside false p a q b r ih = λ z. (sym (drop_of_length-le s (ltb-false at (length s) p)), tt)
      inside true p true q b r ih =
          line-own false k at (ltb-true at (length s) p) (eqb-true (get_or s at 0) 0x61 q) body (body_own (length s - (at + 1)) at (at + 1))
          added (λ ls p r. refl) ih
      inside true p false q true r ih =
          line-own true k at (ltb-true at (length s) p) (eqb-true (get_or s at 0) 0x64 r) body (body_own (length s - (at + 1)) at (at + 1))
          struck_out (λ ls p r. refl) ih
      inside true p false q false r ih = λ z. absurd (omega arith)

-- THEOREM: a binary proof that is read to its end is what its clauses print, and their literals are of the variables 1 to 64.
pub binary-own : (s : List ℕ) → Bytes s → (lines_of Binary s).number ≡ 0 → (printed binary_line (lines_of Binary s).lines ≡ s)
    × AllSmall (lines_of Binary s).lines
binary-own s B z = lines-own s B (suc (length s)) 0 (omega arith) z
