-- Clause after clause: what is to be converted is what is left to be converted, with the output so far. The idea: a clause that stands next
-- is the next line read, and the rest is read behind it. Assumes nothing.
use mathlib.Core.Path.{◌≡◌, refl, sym, ap, ◌∙◌, subst}
use mathlib.Core.Logic.{◌≢◌}
use mathlib.Core.Bool.{Bool, true, false, cond}
use mathlib.Core.List.{List, [], ◌∷◌}
use Prim.Native.Nat.{ℕ, zero, suc, ◌+◌, ◌-◌, ◌≤◌, ◌<◌}
use native.Mathlib.Omega.{arith}
use lib.ListN.{length, get_or, replicate, length-replicate}
use lib.Dec.{eqb}
use borrow.Author.Tests.{eq-eqb, ne_eqb, lt-ltb, le-ltb}
use Rattle.meaning.specs.Operations.{Literal}
use Rattle.dimacs.specs.Text.{between}
use Rattle.dimacs.specs.Header.{is_word}
use Rattle.dimacs.specs.Clauses.{Next, closed, ended, refused, clause_from}
use Rattle.dimacs.proofs.Between.{between-least, between-most}
use Rattle.commands.specs.declared.Form.{Form}
use Rattle.commands.specs.declared.Form.TheVariants.{Text, Binary}
use Rattle.commands.specs.Commands.{clause_read, text_read, binary_from, binary_read, start}
use Rattle.commands.specs.Inner.{command_for}
use Rattle.commands.proofs.Reading.{Fault, ClauseIn, clause-in}
use Rattle.commands.proofs.Onward.{BinaryFault, binary-clause-in}
use Rattle.std.specs.Prelude.{Result, Ok, Err}
use Rattle.dimacs.specs.declared.Refusal.{Refusal}
use Rattle.dimacs.specs.Inner.{refusal_at}
use Rattle.convert.specs.declared.Written.{Written}
use Rattle.convert.specs.Convert.{Lines, ending, line_then, lines_then, lines_from, lines_of, Conversion, refusing, converted_by}
use Rattle.convert.specs.Inner.{Poured, poured, put_byte, put_all, finished, left_over, written_to, ClauseWritten, Opened, opened, text_next}
use Rattle.convert.specs.Inner.{binary_next}
use Rattle.convert.proofs.Pouring.{put-none, put_one, put_two, left-start, left-line, left_end, long_as, written-opened}
use Rattle.convert.proofs.Clauses.{text_rest, binary_rest}

-- ---- a clause with its opening

module _ (line : Bool → List Literal → List ℕ) (prints : List Literal → List ℕ) (strikes : Bool) (w : Poured) (out : List ℕ) (body : Next)
    (r : Result Written Refusal) where
  pub opened-none : ((ls : List Literal) → line strikes ls ≡ prints ls) → ClauseWritten prints w out body r →
      ClauseWritten (line strikes) w out body r
  opened-none splits W =
      written-opened prints (line strikes) [] w splits out body r
      (subst (λ (v : Poured). ClauseWritten prints v out body r) (sym (put-none w)) W)

  pub opened_one : (a : ℕ) → ((ls : List Literal) → line strikes ls ≡ a ∷ prints ls) → (w' : Poured) → w' ≡ put_byte w a
      → ClauseWritten prints w' out body r → ClauseWritten (line strikes) w out body r
  opened_one a splits w' is W =
      written-opened prints (line strikes) (a ∷ []) w splits out body r
      (subst (λ (v : Poured). ClauseWritten prints v out body r) (is ∙ sym (put_one w a)) W)

  pub opened-two : (a c : ℕ) → ((ls : List Literal) → line strikes ls ≡ a ∷ c ∷ prints ls) → (w' w'' : Poured) → w' ≡ put_byte w a → w''
      ≡ put_byte w' c
      → ClauseWritten prints w'' out body r → ClauseWritten (line strikes) w out body r
  opened-two a c splits w' w'' is is' W =
      written-opened prints (line strikes) (a ∷ c ∷ []) w splits out body r
      (subst (λ (v : Poured). ClauseWritten prints v out body r) (is' ∙ ap (λ (v : Poured). put_byte v c) is ∙ put_two w a c) W)

-- ---- the clause that stands next

module _ (s : List ℕ) (at : ℕ) where
  pub text-striking : (from : ℕ) → from ≡ between s (at + 1) → is_word s at (100 ∷ []) ≡ true → opened true (text_rest s at from)
      ≡ text_next s at
  unfolding text_next
  text-striking from is e = rw e (ap (λ (p : ℕ). opened true (text_rest s at p)) is)

  pub text-adding : is_word s at (100 ∷ []) ≡ false → opened false (text_rest s at at) ≡ text_next s at
  unfolding text_next
  text-adding e = rw e refl

  pub binary-adding : get_or s at 0 ≡ 97 → opened false (binary_rest s at (at + 1)) ≡ binary_next s at
  unfolding binary_next
  binary-adding e = rw (eq-eqb (get_or s at 0) 97 e) refl

  pub binary-striking : get_or s at 0 ≢ 97 → get_or s at 0 ≡ 100 → opened true (binary_rest s at (at + 1)) ≡ binary_next s at
  unfolding binary_next
  binary-striking n e = rw (ne_eqb (get_or s at 0) 97 n, eq-eqb (get_or s at 0) 100 e) refl

  pub binary-unknown : get_or s at 0 ≢ 97 → get_or s at 0 ≢ 100 → opened false (refused 9 at) ≡ binary_next s at
  unfolding binary_next
  binary-unknown n e = rw (ne_eqb (get_or s at 0) 97 n, ne_eqb (get_or s at 0) 100 e) refl

-- What the clause that stands next is to the lines read there, and to what is read behind it.
abbrev pub LinesAt : Form → List ℕ → ℕ → (ℕ → ℕ) → Bool → Next → Type 0
LinesAt form s at onward strikes (closed ls first next) =
    ((k : ℕ) → lines_from (suc k) form s at ≡ line_then strikes ls (lines_from k form s (onward next))) × (at < onward next)
    × (next ≤ length s) × (onward next ≤ length s)
LinesAt form s at onward strikes (refused number place) = ((k : ℕ) → lines_from (suc k) form s at ≡ ending number place) × (number ≢ 0)
LinesAt form s at onward strikes ended = ⊥

module _ (form : Form) (s : List ℕ) (at : ℕ) (onward : ℕ → ℕ) (on : (k : ℕ) → k ≤ length s → (k ≤ onward k) × (onward k ≤ length s))
    (strikes : Bool) where
  lines_at : (x : Next) (F : ℕ → ℕ → ℕ → Type 0) (from : ℕ) → at ≤ from → ClauseIn F s 64 at from x →
      ((number place : ℕ) → F at number place → number ≢ 0)
      → ((k : ℕ) → lines_from (suc k) form s at ≡ lines_then (clause_read onward at (command_for strikes) x).command at
      (lines_from k form s (clause_read onward at (command_for strikes) x).next))
      → LinesAt form s at onward strikes x
  lines_at (closed ls first next) F from le I faulty reads =
      let o = on next I.1 in
      ((λ k. reads k ∙ go strikes (lines_from k form s (onward next))), omega (arith, I.0, o.0), I.1, o.1)
    where
      go : (b : Bool) (rest : Lines) → lines_then (command_for b ls) at rest ≡ line_then b ls rest
      go true rest = refl
      go false rest = refl
  lines_at (refused number place) F from le I faulty reads =
      let back : at + (place - at) ≡ place = omega (arith, I.0) in
      ((λ k. reads k ∙ ap (ending number) back), faulty number place I.2)
  lines_at ended F from le I faulty reads = absurd I

-- the lines read at a place, by the opening there
module _ (s : List ℕ) (at : ℕ) (inside : at < length s) where
  text-true : is_word s at (100 ∷ []) ≡ true → (k : ℕ)
      → lines_from (suc k) Text s at ≡ lines_then
      (clause_read (between s) at (command_for true) (clause_from s 64 (length s - between s (at + 1)) at (between s (at + 1)))).command
      at
      (lines_from k Text s (clause_read (between s) at (command_for true)
      (clause_from s 64 (length s - between s (at + 1)) at (between s (at + 1)))).next)
  unfolding lines_from text_read
  text-true e k = rw (lt-ltb at (length s) inside, e) refl

  text-false : is_word s at (100 ∷ []) ≡ false → (k : ℕ)
      → lines_from (suc k) Text s at ≡ lines_then
      (clause_read (between s) at (command_for false) (clause_from s 64 (length s - at) at at)).command at
      (lines_from k Text s (clause_read (between s) at (command_for false) (clause_from s 64 (length s - at) at at)).next)
  unfolding lines_from text_read
  text-false e k = rw (lt-ltb at (length s) inside, e) refl

  abbrev body_at : Next
  body_at = binary_from s 64 (length s - (at + 1)) at (at + 1)

  binary-added : eqb (get_or s at 0) 0x61 ≡ true → (k : ℕ)
      → lines_from (suc k) Binary s at ≡ lines_then (clause_read (λ next. next) at (command_for false) body_at).command at
      (lines_from k Binary s (clause_read (λ next. next) at (command_for false) body_at).next)
  unfolding lines_from binary_read
  binary-added e k = rw (lt-ltb at (length s) inside, e) refl

  binary-struck : eqb (get_or s at 0) 0x61 ≡ false → eqb (get_or s at 0) 0x64 ≡ true → (k : ℕ)
      → lines_from (suc k) Binary s at ≡ lines_then (clause_read (λ next. next) at (command_for true) body_at).command at
      (lines_from k Binary s (clause_read (λ next. next) at (command_for true) body_at).next)
  unfolding lines_from binary_read
  binary-struck e f k = rw (lt-ltb at (length s) inside, e, f) refl

  binary-other : eqb (get_or s at 0) 0x61 ≡ false → eqb (get_or s at 0) 0x64 ≡ false → (k : ℕ) → lines_from (suc k) Binary s at
      ≡ ending 9 at
  unfolding lines_from binary_read
  binary-other e f k = let here : at + 0 ≡ at = omega arith in rw (lt-ltb at (length s) inside, e, f) (ap (ending 9) here)

pub text-past : (s : List ℕ) (at k : ℕ) → length s ≤ at → lines_from (suc k) Text s at ≡ ending 0 0
unfolding lines_from text_read
text-past s at k h = rw (le-ltb at (length s) h) refl

pub binary-past : (s : List ℕ) (at k : ℕ) → length s ≤ at → lines_from (suc k) Binary s at ≡ ending 0 0
unfolding lines_from binary_read
binary-past s at k h = rw (le-ltb at (length s) h) refl

pub text-lines-at : (s : List ℕ) (at : ℕ) → at < length s → LinesAt Text s at (between s) (text_next s at).strikes (text_next s at).body
unfolding text_next
text-lines-at s at inside = go (is_word s at (100 ∷ [])) refl
  where
    on : (k : ℕ) → k ≤ length s → (k ≤ between s k) × (between s k ≤ length s)
    on k p = (between-least s k, between-most s k p)

    body : ℕ
    body = between s (at + 1)

    chosen : Bool → Opened
    chosen w = cond w (opened true (clause_from s 64 (length s - body) at body)) (opened false (clause_from s 64 (length s - at) at at))

    go : (w : Bool) → is_word s at (100 ∷ []) ≡ w → LinesAt Text s at (between s) (chosen w).strikes (chosen w).body
    go true e =
        let behind : at ≤ body = omega (arith, between-least s (at + 1)) in
        lines_at Text s at (between s) on true (clause_from s 64 (length s - body) at body) Fault body behind
        (clause-in s 64 at (length s - body) body behind (omega (arith, inside))) (λ n p f z. omega (arith, f.0))
        (λ k. text-true s at inside e k)
    go false e =
        lines_at Text s at (between s) on false (clause_from s 64 (length s - at) at at) Fault at (omega arith)
        (clause-in s 64 at (length s - at) at (omega arith) (omega (arith, inside))) (λ n p f z. omega (arith, f.0))
        (λ k. text-false s at inside e k)

pub binary-lines-at : (s : List ℕ) (at : ℕ) → at < length s → LinesAt Binary s at (λ next. next) (binary_next s at).strikes
    (binary_next s at).body
unfolding binary_next
binary-lines-at s at inside = go (eqb (get_or s at 0) 0x61) refl (eqb (get_or s at 0) 0x64) refl
  where
    on : (k : ℕ) → k ≤ length s → (k ≤ k) × (k ≤ length s)
    on k p = (omega arith, p)

    body : Next
    body = binary_from s 64 (length s - (at + 1)) at (at + 1)

    is : ClauseIn BinaryFault s 64 at (at + 1) (binary_from s 64 (length s - (at + 1)) at (at + 1))
    is = binary-clause-in s 64 at (length s - (at + 1)) (at + 1) (omega arith) (omega (arith, inside)) (omega (arith, inside))

    chosen : Bool → Bool → Opened
    chosen a d = cond a (opened false body) (cond d (opened true body) (opened false (refused 9 at)))

    go : (a : Bool) → eqb (get_or s at 0) 0x61 ≡ a → (d : Bool) → eqb (get_or s at 0) 0x64 ≡ d →
        LinesAt Binary s at (λ next. next) (chosen a d).strikes (chosen a d).body
    go true p d q =
        lines_at Binary s at (λ next. next) on false (binary_from s 64 (length s - (at + 1)) at (at + 1)) BinaryFault (at + 1) (omega arith)
        is (λ n p f z. omega (arith, f.0))
        (λ k. binary-added s at inside p k)
    go false p true q =
        lines_at Binary s at (λ next. next) on true (binary_from s 64 (length s - (at + 1)) at (at + 1)) BinaryFault (at + 1) (omega arith)
        is (λ n p f z. omega (arith, f.0))
        (λ k. binary-struck s at inside p q k)
    go false p false q = ((λ k. binary-other s at inside p q k), λ z. omega arith)

-- ---- clause after clause

-- What is to be converted is what is left from a place on, with the output so far.
pub record Remains (line : Bool → List Literal → List ℕ) (form : Form) (s : List ℕ) (whole : Conversion) (room : ℕ) (w : Poured) (at : ℕ) :
    Type 0 where
  pub steps : ℕ
  pub enough : length s < at + steps
  pub within : at ≤ length s
  pub size : length w.output ≡ room
  pub left : whole ≡ left_over line w (lines_from steps form s at)

pub remains-start : (line : Bool → List Literal → List ℕ) (form : Form) (s : List ℕ) (room : ℕ) (out : List ℕ) (at : ℕ) → out
    ≡ replicate room 0 → at ≡ start form s → at ≤ length s
    → Remains line form s (converted_by line room (lines_of form s)) room (poured out 0) at
remains-start line form s room out at zeros here within = record {
  steps = suc (length s);
  enough = omega arith;
  within = within;
  size = ap length zeros ∙ length-replicate {A = ℕ} room 0;
  left = sym (left-start line room (lines_of form s)) ∙ ap (λ (o : List ℕ). left_over line (poured o 0) (lines_of form s)) (sym zeros)
      ∙ ap (λ (p : ℕ). left_over line (poured out 0) (lines_from (suc (length s)) form s p)) (sym here);
}

-- an output that was cleared
pub cleared-long : (out : List ℕ) (n : ℕ) → out ≡ replicate n 0 → length out ≡ n
cleared-long out n e = ap length e ∙ length-replicate {A = ℕ} n 0

pub cleared-own : (out : List ℕ) (n : ℕ) → out ≡ replicate n 0 → out ≡ replicate (length out) 0
cleared-own out n e = e ∙ ap (λ (k : ℕ). replicate k 0) (sym (cleared-long out n e))

module _ (line : Bool → List Literal → List ℕ) (form : Form) (s : List ℕ) (whole : Conversion) (room : ℕ) (w : Poured) (at : ℕ)
    (R : Remains line form s whole room w at) where
  -- the first of the lines that are left
  first-line : (r : Lines) → ((k : ℕ) → lines_from (suc k) form s at ≡ r) → (k : ℕ) → length s < at + k → whole
      ≡ left_over line w (lines_from k form s at) → whole ≡ left_over line w r
  first-line r is zero enough left = absurd (omega (arith, R.within))
  first-line r is (suc k) enough left = left ∙ ap (left_over line w) (is k)

  pub remains-end : ((k : ℕ) → lines_from (suc k) form s at ≡ ending 0 0) → whole ≡ finished w
  remains-end is = first-line (ending 0 0) is R.steps R.enough R.left ∙ left_end line w (ending 0 0) refl refl

  module _ (onward : ℕ → ℕ) (strikes : Bool) (out : List ℕ) where
    pub remains-refused : (x : Next) → LinesAt form s at onward strikes x → (e : Refusal) →
        ClauseWritten (line strikes) w out x (Err e)
        → (whole ≡ refusing (length out) e.number e.place)
    remains-refused (closed ls first next) A e (many, is, _) = cc
    remains-refused ended A e W = absurd W
    remains-refused (refused k p) A e (is, long) =
        let same : e ≡ refusal_at k p = cc in
        rw same
        (first-line (ending k p) A.0 R.steps R.enough R.left
        ∙ ap (λ (b : Bool). cond b (finished (put_all w [])) (refusing (length w.output) k p)) (ne_eqb k 0 A.1)
        ∙ ap (λ (m : ℕ). refusing m k p) (sym long))

    -- behind a clause
    pub record Behind (next many : ℕ) : Type 0 where
      pub behind : next ≤ length s
      pub moves : at < onward next
      pub remains : Remains line form s whole room (poured out many) (onward next)

    pub remains-closed : (x : Next) → LinesAt form s at onward strikes x → (r : Written) →
        ClauseWritten (line strikes) w out x (Ok r) → Behind r.next r.many
    remains-closed (refused k p) A r (is, _) = cc
    remains-closed ended A r W = absurd W
    remains-closed (closed ls first end) A r (m, is, bytes) =
        let same : r ≡ written_to end m = cc in
        rw same (after R.steps R.enough R.left)
      where
        after : (k : ℕ) → length s < at + k → whole ≡ left_over line w (lines_from k form s at) → Behind end m
        after zero enough left = absurd (omega (arith, R.within))
        after (suc k) enough left = record {
          behind = A.2;
          moves = A.1;
          remains = record {
            steps = k;
            enough = omega (arith, A.1);
            within = A.3;
            size = long_as w (poured out m) (line strikes ls) bytes ∙ R.size;
            left = left ∙ ap (left_over line w) (A.0 k) ∙ left-line line w strikes ls (lines_from k form s (onward end))
                ∙ ap (λ (v : Poured). left_over line v (lines_from k form s (onward end))) (sym bytes);
          };
        }
