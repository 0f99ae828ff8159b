-- Lines and end records that are refused: a line's tests as one number, 0 where none refuses. Assumes nothing.
use mathlib.Core.Path.{◌≡◌, refl, sym}
use mathlib.Core.Bool.{Bool, true, false, not, cond}
use Prim.Native.Nat.{ℕ, ◌<◌}
use lib.Dec.{eqb, leb, ltb}
use borrow.Author.Tests.{eqb-false, leb-false, ltb-false, not-false}
use Rattle.meaning.specs.Rules.{witnessed}
use Rattle.meaning.specs.Words.{in_word}
use Rattle.paths.specs.Paths.{path_count}
use Rattle.records.specs.declared.Rule.{Rule}
use Rattle.records.specs.declared.Rule.TheVariants.{Rup, Pr, Path}
use Rattle.verdict.specs.Steps as check
use Rattle.verdict.specs.Steps.{stop, is_entry, entry_node, waiting, judged, diagram_in, line_step, end_step}
use Rattle.verdict.specs.Taken.{line_of}
use Rattle.steps.specs.Tests.{line_refusal, FewPaths}
use Rattle.entries.proofs.Stops.{unless, unless-refused, unless-none, four, pass}

-- ---- a line

-- five tests, and then x
five : (a b c d e : Bool) (i j k l m : ℕ) (x : check.Step) → eqb i 0 ≡ false → eqb j 0 ≡ false → eqb k 0 ≡ false → eqb l 0 ≡ false → eqb m 0
    ≡ false
    → cond a (stop i 0) (cond b (stop j 0) (cond c (stop k 0) (cond d (stop l 0) (cond e (stop m 0) x))))
    ≡ unless (cond a i (cond b j (cond c k (cond d l (cond e m 0))))) x
five true b c d e i j k l m x p q r s t = sym (unless-refused i x (eqb-false i 0 p))
five false true c d e i j k l m x p q r s t = sym (unless-refused j x (eqb-false j 0 q))
five false false true d e i j k l m x p q r s t = sym (unless-refused k x (eqb-false k 0 r))
five false false false true e i j k l m x p q r s t = sym (unless-refused l x (eqb-false l 0 s))
five false false false false true i j k l m x p q r s t = sym (unless-refused m x (eqb-false m 0 t))
five false false false false false i j k l m x p q r s t = sym (unless-none 0 x refl)

module _ (n s : ℕ) (st : check.State) where
  pub line-is : (rule : Rule) (root : ℕ) → line_step n s st rule root ≡ unless (line_refusal n st rule root)
      (judged s st (entry_node st root) (line_of n st rule (entry_node st root)))
  unfolding line_step line_refusal
  line-is Rup root =
      four (not (is_entry st root)) (waiting st) (leb 1024 st.lines) (eqb (entry_node st root) 1) 13 16 22 17
      (judged s st (entry_node st root) (line_of n st Rup (entry_node st root))) refl refl refl refl
  line-is Pr root =
      four (not (is_entry st root)) (leb 1024 st.lines) (eqb (entry_node st root) 1)
      (not (witnessed n (in_word st.positive) (in_word st.negative) (diagram_in st (entry_node st root)))) 13 22 17 18
      (judged s st (entry_node st root) (line_of n st Pr (entry_node st root))) refl refl refl refl
  line-is Path root =
      five (not (is_entry st root)) (waiting st) (leb 1024 st.lines) (eqb (entry_node st root) 1)
      (ltb 4096 (path_count (diagram_in st (entry_node st root))))
      13 16 22 17 34 (judged s st (entry_node st root) (line_of n st Path (entry_node st root))) refl refl refl refl refl

-- What a line that is to be judged has.
pub record LineFits (st : check.State) (root : ℕ) : Type 0 where
  pub entry : is_entry st root ≡ true
  pub few : st.lines < 1024
  pub not-one : entry_node st root ≡ 1 → ⊥

pub line-fits : (n : ℕ) (st : check.State) (rule : Rule) (root : ℕ) → line_refusal n st rule root ≡ 0 → LineFits st root
unfolding line_refusal
line-fits n st Rup root e =
    let (entry, e₁) = pass (not (is_entry st root)) 13 _ refl e in
    let (none, e₂) = pass (waiting st) 16 _ refl e₁ in
    let (few, e₃) = pass (leb 1024 st.lines) 22 _ refl e₂ in
    let (one, _) = pass (eqb (entry_node st root) 1) 17 0 refl e₃ in
    record { entry = not-false _ entry; few = leb-false 1024 st.lines few; not-one = eqb-false (entry_node st root) 1 one }
line-fits n st Pr root e =
    let (entry, e₁) = pass (not (is_entry st root)) 13 _ refl e in
    let (few, e₂) = pass (leb 1024 st.lines) 22 _ refl e₁ in
    let (one, _) = pass (eqb (entry_node st root) 1) 17 _ refl e₂ in
    record { entry = not-false _ entry; few = leb-false 1024 st.lines few; not-one = eqb-false (entry_node st root) 1 one }
line-fits n st Path root e =
    let (entry, e₁) = pass (not (is_entry st root)) 13 _ refl e in
    let (none, e₂) = pass (waiting st) 16 _ refl e₁ in
    let (few, e₃) = pass (leb 1024 st.lines) 22 _ refl e₂ in
    let (one, e₄) = pass (eqb (entry_node st root) 1) 17 _ refl e₃ in
    record { entry = not-false _ entry; few = leb-false 1024 st.lines few; not-one = eqb-false (entry_node st root) 1 one }

-- and at most 4,096 paths, where it is a path line
pub line-paths : (n : ℕ) (st : check.State) (rule : Rule) (root : ℕ) → line_refusal n st rule root ≡ 0 →
    FewPaths rule (diagram_in st (entry_node st root))
unfolding line_refusal
line-paths n st Rup root e = tt
line-paths n st Pr root e = tt
line-paths n st Path root e =
    let (entry, e₁) = pass (not (is_entry st root)) 13 _ refl e in
    let (none, e₂) = pass (waiting st) 16 _ refl e₁ in
    let (few, e₃) = pass (leb 1024 st.lines) 22 _ refl e₂ in
    let (one, e₄) = pass (eqb (entry_node st root) 1) 17 _ refl e₃ in
    let (paths, _) = pass (ltb 4096 (path_count (diagram_in st (entry_node st root)))) 34 0 refl e₄ in
    ltb-false 4096 (path_count (diagram_in st (entry_node st root))) paths

-- ---- the end record

module _ (st : check.State) (more : Bool) where
  pub end-16 : waiting st ≡ true → end_step st more ≡ stop 16 0
  unfolding end_step
  end-16 w = rw w

  module _ (w : waiting st ≡ false) where
    pub end-11 : more ≡ true → end_step st more ≡ stop 11 1
    unfolding end_step
    end-11 m = rw (w, m)

    pub end-0 : more ≡ false → st.refuted ≡ true → end_step st more ≡ stop 0 0
    unfolding end_step
    end-0 m r = rw (w, m, r)

    pub end-20 : more ≡ false → st.refuted ≡ false → end_step st more ≡ stop 20 0
    unfolding end_step
    end-20 m r = rw (w, m, r)
