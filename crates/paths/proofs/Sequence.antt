-- The paths are found one after another: the first, and each next one from the words of the one before it; their number is `path_count`.
-- The idea:
-- by the diagram's cases; a node's paths are those of its low side and then those of its high side. Assumes nothing.
use mathlib.Core.Path.{◌≡◌, refl, sym, ap, ap₂, ◌∙◌, subst}
use mathlib.Core.Logic.{◌≢◌}
use mathlib.Core.Bool.{Bool, true, false, ◌&&◌, ◌||◌, cond, beq}
use mathlib.Core.List.{List, [], ◌∷◌, ◌++◌, map}
use Prim.Native.Nat.{ℕ, zero, suc, ◌+◌, ◌-◌, ◌≤◌, ◌<◌}
use native.Mathlib.Omega.{arith}
use native.Mathlib.Decide.{dec_lt}
use lib.ListN.{length, get_or, length-append, length-map}
use lib.Dec.{eqb}
use Rattle.meaning.specs.Diagram.{Diagram, leaf, node}
use Rattle.meaning.specs.Reduced.{Reduced}
use Rattle.meaning.specs.Operations.{Literal, cofactor_literals}
use Rattle.meaning.specs.Literals.{OfVariables}
use Rattle.meaning.specs.Words.{in_word}
use borrow.Author.Tests.{eq-eqb, ne_eqb}
use Rattle.meaning.proofs.Booleans.{t≢f}
use Rattle.meaning.proofs.Clauses.{occurs}
use Rattle.meaning.proofs.PointwiseSteps.{literals-cong}
use Rattle.words.specs.declared.Literals.{Literals}
use Rattle.words.specs.Sets.{has as has_word, with_literal, with_all, literals_of}
use Rattle.words.proofs.LiteralSets.{in-set}
use Rattle.clausal.specs.Literals.{literal, has, alike}
use Rattle.clausal.specs.Tries.{makes_true, makes_false}
use Rattle.paths.specs.declared.NextPath.{NextPath}
use Rattle.paths.specs.Paths.{paths, by_path, path_count}
use Rattle.paths.specs.Walk.{is_one, first_from, found, after_from}

-- ---- how many

pub count-is : (g : Diagram) → length (paths g) ≡ path_count g
unfolding paths path_count
count-is (leaf true) = refl
count-is (leaf false) = refl
count-is (node v l h) =
    length-append (map (◌∷◌ (literal v false)) (paths l)) (map (◌∷◌ (literal v true)) (paths h))
    ∙ ap₂ ◌+◌ (length-map (paths l) (◌∷◌ (literal v false)) ∙ count-is l) (length-map (paths h) (◌∷◌ (literal v true)) ∙ count-is h)

-- ---- the path of a number

-- The literals at hand and those of the j-th of the paths, or another.
unfoldable pub nth : List (List Literal) → ℕ → Literals → NextPath → NextPath
nth [] j u other = other
nth (c ∷ cs) zero u other = found true (with_all u c)
nth (c ∷ cs) (suc j) u other = nth cs j u other

nth-map : (v : ℕ) (s : Bool) (cs : List (List Literal)) (j : ℕ) (u : Literals) (other : NextPath) →
    nth (map (◌∷◌ (literal v s)) cs) j u other ≡ nth cs j (with_literal u v s) other
unfolding nth with_all
nth-map v s [] j u other = refl
nth-map v s (c ∷ cs) zero u other = refl
nth-map v s (c ∷ cs) (suc j) u other = nth-map v s cs j u other

nth-append : (cs ds : List (List Literal)) (j : ℕ) (u : Literals) (other : NextPath) → nth (cs ++ ds) j u other
    ≡ nth cs j u (nth ds (j - length cs) u other)
unfolding nth
nth-append [] ds j u other = let z : j ≡ j - 0 = omega arith in ap (λ (k : ℕ). nth ds k u other) z
nth-append (c ∷ cs) ds zero u other = refl
nth-append (c ∷ cs) ds (suc j) u other =
    let z : j - length cs ≡ suc j - suc (length cs) = omega arith in
    nth-append cs ds j u other ∙ ap (λ (k : ℕ). nth cs j u (nth ds k u other)) z

nth_past : (cs : List (List Literal)) (j : ℕ) (u : Literals) (other : NextPath) → length cs ≤ j → nth cs j u other ≡ other
unfolding nth
nth_past [] j u other p = refl
nth_past (c ∷ cs) zero u other p = absurd (omega arith)
nth_past (c ∷ cs) (suc j) u other p = nth_past cs j u other (omega arith)

pub nth-there : (cs : List (List Literal)) (j : ℕ) (u : Literals) (other : NextPath) → j < length cs → nth cs j u other
    ≡ found true (with_all u (get_or cs j []))
unfolding nth
nth-there [] j u other p = absurd (omega arith)
nth-there (c ∷ cs) zero u other p = refl
nth-there (c ∷ cs) (suc j) u other p = nth-there cs j u other (omega arith)

pub nth-none : (cs : List (List Literal)) (j : ℕ) (u : Literals) (other : NextPath) → length cs ≤ j → nth cs j u other ≡ other
nth-none = nth_past

-- ---- the first

one_alike : (l h : Diagram) → is_one l ≡ true → is_one h ≡ true → l ≡ h
one_alike (leaf true) (leaf true) p q = refl
one_alike (leaf true) (leaf false) p q = t≢f (sym q)
one_alike (leaf true) (node v l h) p q = t≢f (sym q)
one_alike (leaf false) h p q = t≢f (sym p)
one_alike (node v l r) h p q = t≢f (sym p)

pub first-is : (i e : ℕ) (g : Diagram) → Reduced i e g → (u : Literals) (other : NextPath) → nth (paths g) 0 u other
    ≡ cond (is_one g) other (found true (first_from g u))
unfolding paths nth first_from with_all
first-is i e (leaf true) o u other = refl
first-is i e (leaf false) o u other = refl
first-is i e (node v l h) o u other =
    let z : 0 - length (map (◌∷◌ (literal v false)) (paths l)) ≡ 0 = omega arith in
    nth-append (map (◌∷◌ (literal v false)) (paths l)) (map (◌∷◌ (literal v true)) (paths h)) 0 u other
    ∙ ap (λ (k : ℕ). nth (map (◌∷◌ (literal v false)) (paths l)) 0 u (nth (map (◌∷◌ (literal v true)) (paths h)) k u other)) z
    ∙ nth-map v false (paths l) 0 u (nth (map (◌∷◌ (literal v true)) (paths h)) 0 u other)
    ∙ first-is (suc v) e l o.3 (with_literal u v false) (nth (map (◌∷◌ (literal v true)) (paths h)) 0 u other)
    ∙ ap (λ (x : NextPath). cond (is_one l) x (found true (first_from l (with_literal u v false))))
    (nth-map v true (paths h) 0 u other ∙ first-is (suc v) e h o.4 (with_literal u v true) other)
    ∙ go (is_one l) refl (is_one h) refl
  where
    go : (a : Bool) → is_one l ≡ a → (b : Bool) → is_one h ≡ b
        → cond a (cond b other (found true (first_from h (with_literal u v true)))) (found true (first_from l (with_literal u v false)))
        ≡ found true (cond a (first_from h (with_literal u v true)) (first_from l (with_literal u v false)))
    go true p true q = absurd (o.2 (one_alike l h p q))
    go true p false q = refl
    go false p b q = refl

-- ---- the next

-- The path goes high just at those of its variables that the word has.
abbrev pub Along : ℕ → List Literal → Type 0
Along word [] = Unit {0}
Along word (l ∷ c) = (in_word word l.variable ≡ l.positive) × Along word c

get_or-left : (cs ds : List (List Literal)) (j : ℕ) → j < length cs → get_or (cs ++ ds) j [] ≡ get_or cs j []
get_or-left [] ds j p = absurd (omega arith)
get_or-left (c ∷ cs) ds zero p = refl
get_or-left (c ∷ cs) ds (suc j) p = get_or-left cs ds j (omega arith)

get_or-right : (cs ds : List (List Literal)) (j : ℕ) → length cs ≤ j → get_or (cs ++ ds) j [] ≡ get_or ds (j - length cs) []
get_or-right [] ds j p = let z : j ≡ j - 0 = omega arith in ap (λ (k : ℕ). get_or ds k []) z
get_or-right (c ∷ cs) ds zero p = absurd (omega arith)
get_or-right (c ∷ cs) ds (suc j) p =
    let z : j - length cs ≡ suc j - suc (length cs) = omega arith in get_or-right cs ds j (omega arith) ∙ ap (λ (k : ℕ). get_or ds k []) z

get_d_map : (l : Literal) (cs : List (List Literal)) (j : ℕ) → j < length cs → get_or (map (◌∷◌ l) cs) j [] ≡ l ∷ get_or cs j []
get_d_map l [] j p = absurd (omega arith)
get_d_map l (c ∷ cs) zero p = refl
get_d_map l (c ∷ cs) (suc j) p = get_d_map l cs j (omega arith)

-- a path of a node goes through one of its sides
module _ (v : ℕ) (l h : Diagram) (j : ℕ) where
  abbrev lows : List (List Literal)
  lows = map (◌∷◌ (literal v false)) (paths l)

  abbrev highs : List (List Literal)
  highs = map (◌∷◌ (literal v true)) (paths h)

  low-length : length lows ≡ length (paths l)
  low-length = length-map (paths l) (◌∷◌ (literal v false))

  high-length : length highs ≡ length (paths h)
  high-length = length-map (paths h) (◌∷◌ (literal v true))

  through : {A : Type 0} → j < length (paths (node v l h))
      → (j < length (paths l) → get_or (paths (node v l h)) j [] ≡ literal v false ∷ get_or (paths l) j [] → A)
      → (length (paths l) ≤ j → j - length (paths l) < length (paths h) → get_or (paths (node v l h)) j [] ≡ literal v true ∷
      get_or (paths h) (j - length (paths l)) [] → A)
      → A
  unfolding paths
  through {A} p low high = go (dec_lt j (length (paths l)))
    where
      go : Dec (j < length (paths l)) → A
      go (yes q) = low q (get_or-left lows highs j (omega (arith, low-length)) ∙ get_d_map (literal v false) (paths l) j q)
      go (no q) =
          let inside : j - length (paths l) < length (paths h) = omega (arith, p, length-append lows highs, low-length, high-length) in
          high (omega arith) inside
          (get_or-right lows highs j (omega (arith, low-length)) ∙ ap (λ (k : ℕ). get_or highs (j - k) []) low-length
          ∙ get_d_map (literal v true) (paths h) (j - length (paths l)) inside)

pub after_is : (i e : ℕ) (g : Diagram) → Reduced i e g → (j : ℕ) → j < length (paths g) → (word : ℕ) → Along word (get_or (paths g) j []) →
    (u : Literals) (other : NextPath)
    → after_from g word u other ≡ nth (paths g) (suc j) u other
unfolding paths nth after_from
after_is i e (leaf true) o j p word a u other = refl
after_is i e (leaf false) o j p word a u other = sym (nth_past ([] ∷ []) (suc j) u other (omega arith))
after_is i e (node v l h) o j p word a u other =
    through v l h j p
    (λ q is.
    let b : Along word (literal v false ∷ get_or (paths l) j []) = subst (Along word) is a in
    let z : suc j - length (lows v l h j) ≡ 0 = omega (arith, low-length v l h j) in
    ap (λ (x : Bool). cond x (after_from h word (with_literal u v true) other) (after_from l word (with_literal u v false) turned)) b.0
    ∙ after_is (suc v) e l o.3 j q word b.1 (with_literal u v false) turned
    ∙ ap (nth (paths l) (suc j) (with_literal u v false))
    (sym (first-is (suc v) e h o.4 (with_literal u v true) other) ∙ sym (nth-map v true (paths h) 0 u other))
    ∙ sym (nth-map v false (paths l) (suc j) u (nth (highs v l h j) 0 u other))
    ∙ ap (λ (k : ℕ). nth (lows v l h j) (suc j) u (nth (highs v l h j) k u other)) (sym z)
    ∙ sym (nth-append (lows v l h j) (highs v l h j) (suc j) u other))
    (λ past q is.
    let b : Along word (literal v true ∷ get_or (paths h) (j - length (paths l)) []) = subst (Along word) is a in
    let z : suc j - length (lows v l h j) ≡ suc (j - length (paths l)) = omega (arith, low-length v l h j) in
    ap (λ (x : Bool). cond x (after_from h word (with_literal u v true) other) (after_from l word (with_literal u v false) turned)) b.0
    ∙ after_is (suc v) e h o.4 (j - length (paths l)) q word b.1 (with_literal u v true) other
    ∙ sym (nth-map v true (paths h) (suc (j - length (paths l))) u other)
    ∙ ap (λ (k : ℕ). nth (highs v l h j) k u other) (sym z)
    ∙ sym (nth_past (lows v l h j) (suc j) u (nth (highs v l h j) (suc j - length (lows v l h j)) u other)
    (omega (arith, low-length v l h j)))
    ∙ sym (nth-append (lows v l h j) (highs v l h j) (suc j) u other))
  where
    turned : NextPath
    turned = cond (is_one h) other (found true (first_from h (with_literal u v true)))

-- ---- its words

-- The variables of a path rise.
abbrev pub Rises : ℕ → ℕ → List Literal → Type 0
Rises i e [] = Unit {0}
Rises i e (l ∷ c) = (i ≤ l.variable) × (l.variable < e) × Rises (suc l.variable) e c

pub path-rises : (i e : ℕ) (g : Diagram) → Reduced i e g → (j : ℕ) → j < length (paths g) → Rises i e (get_or (paths g) j [])
unfolding paths
path-rises i e (leaf true) o j p = absurd (omega arith)
path-rises i e (leaf false) o zero p = tt
path-rises i e (leaf false) o (suc j) p = absurd (omega arith)
path-rises i e (node v l h) o j p =
    through v l h j p (λ q is. subst (Rises i e) (sym is) (o.0, o.1, path-rises (suc v) e l o.3 j q))
    (λ past q is. subst (Rises i e) (sym is) (o.0, o.1, path-rises (suc v) e h o.4 (j - length (paths l)) q))

rises-within : (i : ℕ) (c : List Literal) → 1 ≤ i → Rises i 65 c → OfVariables 64 c
rises-within i [] one r = tt
rises-within i (l ∷ c) one r = (omega (arith, r.0), omega (arith, r.1), rises-within (suc l.variable) c (omega arith) r.2)

rises-above : (i e : ℕ) (c : List Literal) → Rises i e c → (v : ℕ) (s : Bool) → v < i → occurs c v s ≡ false
unfolding occurs
rises-above i e [] r v s p = refl
rises-above i e (l ∷ c) r v s p = rw (
  ne_eqb l.variable v (λ q. omega (arith, r.0)),
  rises-above (suc l.variable) e c r.2 v s (omega (arith, r.0)),
)

-- what the path has of each variable, told by the word from some variable on
along-occurs : (word i e : ℕ) (c : List Literal) → Rises i e c → ((v : ℕ) → i ≤ v → in_word word v ≡ occurs c v true) → Along word c
unfolding occurs
along-occurs word i e [] r told = tt
along-occurs word i e (l ∷ c) r told = (
  told l.variable r.0 ∙ rw (
    eq-eqb l.variable l.variable refl,
    rises-above (suc l.variable) e c r.2 l.variable true (omega arith),
  ) (only l.positive),
  along-occurs word (suc l.variable) e c r.2
      (λ v p. told v (omega (arith, r.0)) ∙ rw (ne_eqb l.variable v (λ q. omega (arith, p)))),
)
  where
    only : (s : Bool) → (beq s true || false) ≡ s
    only true = refl
    only false = refl

pub path-along : (c : List Literal) → Rises 1 65 c → Along (literals_of c).positive c
unfolding has_word
path-along c r = along-occurs (literals_of c).positive 1 65 c r (λ v p. in-set 64 c v true (rises-within 1 c (omega arith) r) p)

has-occurs : (c : List Literal) (v : ℕ) (s : Bool) → has c (literal v s) ≡ occurs c v s
unfolding has alike occurs
has-occurs [] v s = refl
has-occurs (l ∷ c) v s = ap (λ (x : Bool). (eqb l.variable v && beq l.positive s) || x) (has-occurs c v s)

-- the members by a path, and by its words
pub by-words : (c : List Literal) → Rises 1 65 c → (ms : List Diagram)
    → by_path 64 c ms ≡ map (cofactor_literals 64 (in_word (literals_of c).positive) (in_word (literals_of c).negative)) ms
unfolding has_word
by-words c r [] = refl
by-words c r (f ∷ fs) =
    ap₂ ◌∷◌ (literals-cong 64 (makes_true c) (makes_false c) (in_word (literals_of c).positive) (in_word (literals_of c).negative) f
    (λ v p q. has-occurs c v true ∙ sym (in-set 64 c v true (rises-within 1 c (omega arith) r) p))
    (λ v p q. has-occurs c v false ∙ sym (in-set 64 c v false (rises-within 1 c (omega arith) r) p)))
    (by-words c r fs)
