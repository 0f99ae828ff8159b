-- Blanks and comments: the grammar's bytes are those of the reader's classes, in both directions. The idea: the tests, byte by byte.
-- Assumes nothing.
use mathlib.Core.Path.{◌≡◌, refl, ap, ap₂, sym, ◌∙◌}
use mathlib.Core.Bool.{Bool, true, false, ◌||◌}
use mathlib.Core.List.{List, [], ◌∷◌, ◌++◌}
use Prim.Native.Nat.{ℕ}
use lib.Dec.{eqb}
use borrow.Author.Tests.{ne_eqb, eqb-true, eqb-false, not-true}
use Rattle.dimacs.specs.Text.{is_space, is_blank, is_parting, is_line}
use Rattle.dimacs.proofs.Cases.{by, clash}
use Rattle.grammar.specs.Parts.{Space, space, tab, space_byte, Blank, spaced, carriage, blank_byte, spaces, blanks, InLine}
use Rattle.grammar.proofs.Places.{All}

-- ---- printed

pub spaces-then : (xs : List Space) (r : List ℕ) → spaces xs r ≡ spaces xs [] ++ r
spaces-then [] r = refl
spaces-then (x ∷ xs) r = ap (λ (l : List ℕ). space_byte x ∷ l) (spaces-then xs r)

pub blanks-then : (bs : List Blank) (r : List ℕ) → blanks bs r ≡ blanks bs [] ++ r
blanks-then [] r = refl
blanks-then (b ∷ bs) r = ap (λ (l : List ℕ). blank_byte b ∷ l) (blanks-then bs r)

space-is : (x : Space) → is_space (space_byte x) ≡ true
space-is space = refl
space-is tab = refl

blank-is : (b : Blank) → is_blank (blank_byte b) ≡ true
blank-is (spaced space) = refl
blank-is (spaced tab) = refl
blank-is carriage = refl

pub blank-parts : (b : Blank) → is_parting (blank_byte b) ≡ true
blank-parts (spaced space) = refl
blank-parts (spaced tab) = refl
blank-parts carriage = refl

blank-line : (b : Blank) → is_line (blank_byte b) ≡ true
blank-line (spaced space) = refl
blank-line (spaced tab) = refl
blank-line carriage = refl

pub spaces-all : (xs : List Space) → All is_space (spaces xs [])
spaces-all [] = tt
spaces-all (x ∷ xs) = (space-is x, spaces-all xs)

pub blanks-all : (bs : List Blank) → All is_blank (blanks bs [])
blanks-all [] = tt
blanks-all (b ∷ bs) = (blank-is b, blanks-all bs)

pub blanks-line : (bs : List Blank) → All is_line (blanks bs [])
blanks-line [] = tt
blanks-line (b ∷ bs) = (blank-line b, blanks-line bs)

pub line-all : (bs : List ℕ) → InLine bs → All is_line bs
line-all [] h = tt
line-all (b ∷ bs) h = (rw (ne_eqb b 10 h.0), line-all bs h.1)

-- ---- read

space-of : (b : ℕ) → is_space b ≡ true → (x : Space) × (space_byte x ≡ b)
space-of b e = by (eqb b 32) (λ t. (space, sym (eqb-true b 32 t))) (λ f. (tab, sym (eqb-true b 9 (sym (rw f) ∙ e))))

blank_of : (b : ℕ) → is_blank b ≡ true → (x : Blank) × (blank_byte x ≡ b)
blank_of b e =
    by (is_space b)
    (λ t. let x = space-of b t in (spaced x.0, x.1))
    (λ f. (carriage, sym (eqb-true b 13 (sym (ap (λ (t : Bool). t || eqb b 13) f) ∙ e))))

-- A byte that parts tokens is a blank or LF.
pub parting-of : (b : ℕ) → is_parting b ≡ true → eqb b 10 ≡ false → (x : Blank) × (blank_byte x ≡ b)
parting-of b e n = by (is_blank b) (λ t. blank_of b t) (λ f. clash (sym (sym (ap₂ ◌||◌ f n) ∙ e)))

pub spaces-of : (bs : List ℕ) → All is_space bs → (xs : List Space) × (spaces xs [] ≡ bs)
spaces-of [] h = ([], refl)
spaces-of (b ∷ bs) h =
    let x = space-of b h.0 in
    let xs = spaces-of bs h.1 in
    (x.0 ∷ xs.0, ap₂ (λ (c : ℕ) (cs : List ℕ). c ∷ cs) x.1 xs.1)

pub blanks-of : (bs : List ℕ) → All is_blank bs → (xs : List Blank) × (blanks xs [] ≡ bs)
blanks-of [] h = ([], refl)
blanks-of (b ∷ bs) h =
    let x = blank_of b h.0 in
    let xs = blanks-of bs h.1 in
    (x.0 ∷ xs.0, ap₂ (λ (c : ℕ) (cs : List ℕ). c ∷ cs) x.1 xs.1)

pub line_of : (bs : List ℕ) → All is_line bs → InLine bs
line_of [] h = tt
line_of (b ∷ bs) h = (eqb-false b 10 (not-true (eqb b 10) h.0), line_of bs h.1)
