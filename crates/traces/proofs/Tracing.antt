-- A trace round by round: what is written are the words of the rounds so far, and the rounds to come are those of the members as they are.
-- The idea: `Going` of the propagation, with the literals beside it. Assumes nothing.
use mathlib.Core.Path.{◌≡◌, refl, sym, ap, ap₂, ◌∙◌}
use mathlib.Core.Bool.{Bool, true, false, cond}
use mathlib.Core.List.{List, [], ◌∷◌, ◌++◌, map, append-nil, append_assoc}
use mathlib.Core.Option.{Option, none, some}
use Prim.Native.Nat.{ℕ, zero, suc, ◌+◌, ◌-◌, ◌*◌, ◌^◌, ◌≤◌, ◌<◌}
use native.Mathlib.Omega.{arith}
use lib.ListN.{length, set, replicate, length-append, length-set}
use borrow.Author.Tests.{le-leb}
use Rattle.meaning.specs.Diagram.{Diagram}
use Rattle.meaning.specs.Operations.{Literal, is_unit, cofactor_literals}
use Rattle.meaning.specs.Rules.{conflicts, first_with_unit, by_units, Propagation, still, propagate, unit_prop}
use Rattle.meaning.specs.Words.{in_word}
use Rattle.meaning.proofs.Booleans.{t≢f, not-true}
use Rattle.meaning.proofs.PointwiseSteps.{literals-cong}
use Rattle.table.specs.Nodes.{diagram_at}
use Rattle.table.specs.Indexed.{Table, size, nodes_of, Good}
use Rattle.table.specs.Lists.{diagrams_of}
use Rattle.words.specs.declared.Literals as words
use Rattle.words.specs.Sets as sets
use Rattle.clausal.specs.Literals.{has, literal}
use Rattle.clausal.specs.Tries.{makes_true, makes_false}
use Rattle.operate.specs.declared.Operation.TheVariants.{Literals}
use Rattle.operate.specs.Operate.{result}
use Rattle.supports.specs.Supports.{Supports}
use Rattle.walks.specs.Readable.{ListReady}
use Rattle.conflict.specs.Marks.{unmarked}
use Rattle.members.specs.Made.{results, AllMade}
use Rattle.unit_search.specs.Units.{UnitsTaken}
use Rattle.propagate.specs.Rounds.{rounds_left}
use Rattle.propagate.proofs.Rounds.{Going, going-first, going-ready, going-ends, going-full, going_on, ends-conflict, ends_last, ends-still}
use Rattle.verdict.specs.Check.{zeros}
use Rattle.meaning.specs.Rules.{units_to}
use Rattle.causes.specs.Causes.{taking_fixes, fixes_within, fixes}
use Rattle.causes.specs.Answers.{true_word, false_word, fixed_words}
use Rattle.traces.specs.Traced.{TraceSays}
use Rattle.traces.proofs.Units.{word-is, units-has}

-- ---- the definition's steps

within_end : (most n : ℕ) (ms : List Diagram) → conflicts n ms ≡ false → first_with_unit n ms ≡ none → fixes_within most n ms ≡ []
unfolding fixes_within
within_end zero n ms c e = refl
within_end (suc most) n ms c e =
    ap₂ (λ (b : Bool) (x : Option Diagram). cond b [] (taking_fixes x (λ u. units_to n n u ∷ fixes_within most n (by_units n u ms)))) c e

within_step : (most n : ℕ) (ms : List Diagram) (u : Diagram) → conflicts n ms ≡ false → first_with_unit n ms ≡ some u
    → fixes_within (suc most) n ms ≡ units_to n n u ∷ fixes_within most n (by_units n u ms)
unfolding fixes_within
within_step most n ms u c e =
    ap₂ (λ (b : Bool) (x : Option Diagram). cond b [] (taking_fixes x (λ u. units_to n n u ∷ fixes_within most n (by_units n u ms)))) c e

within_none : (most n : ℕ) (ms : List Diagram) → most ≡ 0 → fixes_within most n ms ≡ []
unfolding fixes_within
within_none zero n ms e = refl
within_none (suc most) n ms e = absurd (omega (arith, e))

fixes-is : (n : ℕ) (ms : List Diagram) → fixes n ms ≡ fixes_within n n ms
unfolding fixes
fixes-is n ms = refl

-- ---- the words of a round

module _ (ms : List Diagram) (u : words.Literals) (K : UnitsTaken 64 ms u) where
  abbrev these : List Literal
  these = units_to 64 64 K.member

  listed : (j : ℕ) → j < 64 → (s : Bool) → sets.has u (suc j) s ≡ has these (literal (1 + j) s)
  listed j lt s =
      let one_more : 1 + j ≡ suc j = omega arith in
      K.holds (suc j) s (omega arith) (omega (arith, lt))
      ∙ sym (ap (λ (v : ℕ). has these (literal v s)) one_more ∙ units-has 64 64 K.member (suc j) s
      ∙ rw (le-leb 1 (suc j) (omega arith), le-leb (suc j) 64 (omega (arith, lt))))

  true-is : u.positive < 2 ^ 64 → u.positive ≡ true_word these
  unfolding sets.has
  true-is fits = word-is 64 1 (makes_true these) u.positive fits (λ j lt. listed j lt true)

  false-is : u.negative < 2 ^ 64 → u.negative ≡ false_word these
  unfolding sets.has
  false-is fits = word-is 64 1 (makes_false these) u.negative fits (λ j lt. listed j lt false)

words_more : (rounds : List (List Literal)) (ls : List Literal) (rest : List ℕ) → fixed_words (rounds ++ ls ∷ []) ++ rest
    ≡ fixed_words rounds
    ++ true_word ls ∷ false_word ls ∷ rest
unfolding fixed_words
words_more [] ls rest = refl
words_more (r ∷ rounds) ls rest = ap (λ (x : List ℕ). true_word r ∷ false_word r ∷ x) (words_more rounds ls rest)

-- Two stores behind the rounds so far.
stores : (rounds : List (List Literal)) (k : ℕ) → length rounds ≡ k → (a b p q : ℕ) (rest : List ℕ)
    → set (set (fixed_words rounds ++ a ∷ b ∷ rest) (2 * k) p) (2 * k + 1) q ≡ fixed_words rounds ++ p ∷ q ∷ rest
unfolding fixed_words
stores [] k e a b p q rest =
    let z : k ≡ 0 = omega (arith, e) in rw z
stores (r ∷ rounds) zero e a b p q rest = absurd (omega (arith, e))
stores (r ∷ rounds) (suc k) e a b p q rest =
    let i : 2 * suc k ≡ suc (suc (2 * k)) = omega arith in
    let j : suc (suc (2 * k)) + 1 ≡ suc (suc (2 * k + 1)) = omega arith in
    rw (i, j) (ap (λ (x : List ℕ). true_word r ∷ false_word r ∷ x) (stores rounds k (omega (arith, e)) a b p q rest))

zeros-two : (m : ℕ) → 2 ≤ m → zeros m ≡ 0 ∷ 0 ∷ zeros (m - 2)
zeros-two m h = let e : m ≡ suc (suc (m - 2)) = omega (arith, h) in ap (λ (k : ℕ). replicate k 0) e

-- ---- the members by the units

map-cong : (f g : Diagram → Diagram) (ms : List Diagram) → ((h : Diagram) → f h ≡ g h) → map f ms ≡ map g ms
map-cong f g [] e = refl
map-cong f g (h ∷ hs) e = ap₂ ◌∷◌ (e h) (map-cong f g hs e)

units-made : (T : Table) (list : List ℕ) (u : words.Literals) (K : UnitsTaken 64 (diagrams_of (nodes_of T) list) u)
    → results (Literals u.positive u.negative) T list 1 ≡ by_units 64 K.member (diagrams_of (nodes_of T) list)
unfolding sets.has by_units result
units-made T list u K =
    map-cong (λ f. result (Literals u.positive u.negative) f (diagram_at (nodes_of T) 1))
    (cofactor_literals 64 (λ v. is_unit 64 K.member v true) (λ v. is_unit 64 K.member v false)) (diagrams_of (nodes_of T) list)
    (λ f. literals-cong 64 (in_word u.positive) (in_word u.negative) (λ v. is_unit 64 K.member v true)
    (λ v. is_unit 64 K.member v false) f (λ v. K.holds v true) (λ v. K.holds v false))

-- ---- the loop

pub record Tracing (T₀ : Table) (ms₀ : List Diagram) (m : ℕ) (T : Table) (list memo listwords fixed : List ℕ) (rounds : ℕ) : Type 0 where
  pub going : Going T₀ ms₀ T list memo (unmarked (size T₀)) rounds
  pub worded : length listwords ≡ length list
  pub supports : Supports (nodes_of T) list listwords
  pub long : length fixed ≡ m
  pub sofar : List (List Literal)
  pub counted : length sofar ≡ rounds
  pub all : fixes 64 ms₀ ≡ sofar ++ fixes_within (rounds_left rounds) 64 (diagrams_of (nodes_of T) list)
  pub written : fixed ≡ fixed_words sofar ++ zeros (m - 2 * rounds)

pub tracing-first : (T : Table) (list memo listwords fixed : List ℕ) → ListReady T list memo → length listwords ≡ length list →
    Supports (nodes_of T) list listwords
    → fixed ≡ zeros (length fixed) → Tracing T (diagrams_of (nodes_of T) list) (length fixed) T list memo listwords fixed 0
unfolding fixed_words
tracing-first T list memo listwords fixed R w S z = record {
  going = going-first T list memo (unmarked (size T)) R refl;
  worded = w;
  supports = S;
  long = refl;
  sofar = [];
  counted = refl;
  all = fixes-is 64 (diagrams_of (nodes_of T) list);
  written = z ∙ ap (λ (k : ℕ). replicate k 0) none-off;
}
  where
    none-off : length fixed ≡ length fixed - 2 * 0
    none-off = omega arith

module _ (T₀ : Table) (G₀ : Good T₀) (ms₀ : List Diagram) (m : ℕ) (calm : (unit_prop 64 ms₀).conflict ≡ false) (T : Table)
    (list memo listwords fixed : List ℕ) (rounds : ℕ)
    (W : Tracing T₀ ms₀ m T list memo listwords fixed rounds) where
  abbrev now-members : List Diagram
  now-members = diagrams_of (nodes_of T) list

  pub tracing-ready : ListReady T list memo
  tracing-ready = going-ready T₀ G₀ ms₀ T list memo (unmarked (size T₀)) rounds W.going

  quiet : conflicts 64 now-members ≡ false
  quiet =
      not-true (conflicts 64 now-members) (λ c. t≢f
      (sym (ap (λ (p : Propagation). p.conflict) (ends-conflict (rounds_left rounds) now-members c)) ∙ sym W.going.conflict ∙ calm))

  ends : propagate (rounds_left rounds) 64 now-members ≡ still false → fixes_within (rounds_left rounds) 64 now-members ≡ []
      → TraceSays T₀ ms₀ (record { full = false; rounds = rounds; count = T.count }) T fixed
  ends still-so none_left =
      let said = going-ends T₀ G₀ ms₀ T list memo (unmarked (size T₀)) rounds W.going false still-so in
      let whole : fixes 64 ms₀ ≡ W.sofar = W.all ∙ ap (λ (x : List (List Literal)). W.sofar ++ x) none_left ∙ append-nil W.sofar in
      let many : length (fixes 64 ms₀) ≡ rounds = ap length whole ∙ W.counted in
      record {
        extended = said.extended;
        places = said.places;
        rounds = λ _. sym many;
        fixed = λ _. W.written ∙ ap₂ (λ (x : List (List Literal)) (k : ℕ). fixed_words x ++ zeros k) (sym whole)
            (ap₂ (λ (a b : ℕ). a - 2 * b) (sym W.long) (sym many));
      }

  pub tracing-last : rounds ≡ 64 → TraceSays T₀ ms₀ (record { full = false; rounds = rounds; count = T.count }) T fixed
  tracing-last e =
      let z : rounds_left rounds ≡ 0 = omega (arith, e) in
      ends (ends_last (rounds_left rounds) now-members z quiet) (within_none (rounds_left rounds) 64 now-members z)

  pub tracing-still : first_with_unit 64 now-members ≡ none → TraceSays T₀ ms₀ (record { full = false; rounds = rounds; count = T.count }) T
      fixed
  tracing-still e = ends (ends-still (rounds_left rounds) now-members quiet e) (within_end (rounds_left rounds) 64 now-members quiet e)

  module _ (less : rounds < 64) (u : words.Literals) (K : UnitsTaken 64 now-members u) (full : Bool) (T' : Table) (list' : List ℕ)
      (A : AllMade T (results (Literals u.positive u.negative) T list 1) full T' list') where
    pub tracing-full : full ≡ true → (fixed' : List ℕ) → TraceSays T₀ ms₀ (record { full = true; rounds = rounds; count = T'.count }) T'
        fixed'
    tracing-full f fixed' =
        let said = going-full T₀ G₀ ms₀ T list memo (unmarked (size T₀)) rounds W.going less quiet u K full T' list' A f false in
        record { extended = said.extended; places = said.places; rounds = λ z. t≢f z; fixed = λ z. t≢f z }

    pub tracing-on : full ≡ false → (memo' : List ℕ) → length memo' ≡ length memo → (listwords' : List ℕ) → length listwords'
        ≡ length list' → Supports (nodes_of T') list' listwords'
        → 128 ≤ m → u.positive < 2 ^ 64 → u.negative < 2 ^ 64
        → Tracing T₀ ms₀ m T' list' memo' listwords' (set (set fixed (2 * rounds) u.positive) (2 * rounds + 1) u.negative)
        (rounds + 1)
    tracing-on f memo' len listwords' worded' S' room fp fn =
        let now-are : diagrams_of (nodes_of T') list' ≡ by_units 64 K.member now-members = A.are f ∙ units-made T list u K in
        let left : rounds_left rounds ≡ suc (rounds_left (rounds + 1)) = omega (arith, less) in
        let this-round : fixes_within (rounds_left rounds) 64 now-members ≡ these now-members u K ∷
        fixes_within (rounds_left (rounds + 1)) 64 (diagrams_of (nodes_of T') list') =
        ap (λ (k : ℕ). fixes_within k 64 now-members) left ∙ within_step (rounds_left (rounds + 1)) 64 now-members K.member quiet K.is
        ∙ ap (λ (x : List Diagram). these now-members u K ∷ fixes_within (rounds_left (rounds + 1)) 64 x) (sym now-are) in
        let rest : m - 2 * rounds - 2 ≡ m - 2 * (rounds + 1) = omega arith in
        record {
          going = going_on T₀ G₀ ms₀ T list memo (unmarked (size T₀)) rounds W.going less quiet u K full T' list' A f memo' len
              (unmarked (size T₀)) refl;
          worded = worded';
          supports = S';
          long = length-set (set fixed (2 * rounds) u.positive) (2 * rounds + 1) u.negative
              ∙ length-set fixed (2 * rounds) u.positive ∙ W.long;
          sofar = W.sofar ++ these now-members u K ∷ [];
          counted = length-append W.sofar (these now-members u K ∷ []) ∙ ap (λ (k : ℕ). k + 1) W.counted;
          all = W.all ∙ ap (λ (x : List (List Literal)). W.sofar ++ x) this-round
              ∙ sym (append_assoc W.sofar (these now-members u K ∷ []) _);
          written =
              ap (λ (x : List ℕ). set (set x (2 * rounds) u.positive) (2 * rounds + 1) u.negative)
              (W.written ∙ ap (λ (x : List ℕ). fixed_words W.sofar ++ x) (zeros-two (m - 2 * rounds) (omega (arith, room, less))))
              ∙ stores W.sofar rounds W.counted 0 0 u.positive u.negative (zeros (m - 2 * rounds - 2))
              ∙ ap₂ (λ (p q : ℕ). fixed_words W.sofar ++ p ∷ q ∷ zeros (m - 2 * rounds - 2)) (true-is now-members u K fp)
              (false-is now-members u K fn)
              ∙ sym (words_more W.sofar (these now-members u K) (zeros (m - 2 * rounds - 2)))
              ∙ ap (λ (k : ℕ). fixed_words (W.sofar ++ these now-members u K ∷ []) ++ zeros k) rest;
        }
