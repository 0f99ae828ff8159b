-- The output while it is written: byte after byte, what was put is at its start, and zeros are behind it; what is left to be converted
-- comes to what the definition says. The idea: the output is the first places of the bytes and zeros without end. Assumes nothing.
use mathlib.Core.Path.{◌≡◌, refl, sym, ap, ap₂, ◌∙◌, subst}
use mathlib.Core.Bool.{Bool, true, false, cond}
use mathlib.Core.List.{List, [], ◌∷◌, ◌++◌, append_assoc, append-nil}
use Prim.Native.Nat.{ℕ, zero, suc, ◌+◌, ◌-◌, ◌/◌, ◌%◌, ◌≤◌, ◌<◌}
use native.Mathlib.Omega.{arith}
use lib.ListN.{length, set, replicate, length-set, length-append, length-replicate}
use lib.Seq.{set_out}
use lib.Dec.{eqb, leb}
use borrow.Author.Tests.{lt-ltb, le-ltb, le-leb, leb-true, leb-false}
use Rattle.meaning.specs.Operations.{Literal}
use Rattle.dimacs.specs.Clauses.{Next, closed, ended, refused, literal_then}
use Rattle.std.specs.Prelude.{Result, Ok, Err}
use Rattle.dimacs.specs.declared.Refusal.{Refusal}
use Rattle.dimacs.specs.Inner.{refusal_at}
use Rattle.convert.specs.declared.Written.{Written}
use Rattle.convert.specs.Convert.{Lines, line_then, digits_of, code_of, groups_of, printed, Conversion, refusing, holding, converted_by}
use Rattle.convert.specs.Inner.{literal_made, spaced, Poured, poured, put_byte, put_all, finished, left_over, written_to, ClauseWritten}

-- ---- bytes put

pub put-length : (w : Poured) (bs : List ℕ) → length (put_all w bs).output ≡ length w.output
unfolding put_all
put-length w [] = refl
put-length w (b ∷ bs) = put-length (put_byte w b) bs ∙ length-set w.output w.many b

pub put-append : (w : Poured) (xs ys : List ℕ) → put_all w (xs ++ ys) ≡ put_all (put_all w xs) ys
unfolding put_all
put-append w [] ys = refl
put-append w (x ∷ xs) ys = put-append (put_byte w x) xs ys

pub put_one : (w : Poured) (b : ℕ) → put_all w (b ∷ []) ≡ put_byte w b
unfolding put_all
put_one w b = refl

pub put_two : (w : Poured) (a b : ℕ) → put_byte (put_byte w a) b ≡ put_all w (a ∷ b ∷ [])
unfolding put_all
put_two w a b = refl

pub put-none : (w : Poured) → put_all w [] ≡ w
unfolding put_all
put-none w = refl

-- one byte, as the code puts it
pub put-in : (out : List ℕ) (many b : ℕ) → many < length out → poured (set out many b) (many + 1) ≡ put_byte (poured out many) b
put-in out many b h = rw (lt-ltb many (length out) h)

pub put-past : (out : List ℕ) (many b : ℕ) → length out ≤ many → poured out (length out + 1) ≡ put_byte (poured out many) b
put-past out many b h = rw (le-ltb many (length out) h, set_out out many b h)

-- ---- what the output holds

-- The first places of bytes that zeros follow.
padded : ℕ → List ℕ → List ℕ
padded zero bs = []
padded (suc r) [] = 0 ∷ padded r []
padded (suc r) (b ∷ bs) = b ∷ padded r bs

padded-length : (r : ℕ) (bs : List ℕ) → length (padded r bs) ≡ r
unfolding padded
padded-length zero bs = refl
padded-length (suc r) [] = ap suc (padded-length r [])
padded-length (suc r) (b ∷ bs) = ap suc (padded-length r bs)

padded-zeros : (r : ℕ) → padded r [] ≡ replicate r 0
unfolding padded
padded-zeros zero = refl
padded-zeros (suc r) = ap (λ (x : List ℕ). 0 ∷ x) (padded-zeros r)

padded-fits : (r : ℕ) (bs : List ℕ) → length bs ≤ r → padded r bs ≡ bs ++ replicate (r - length bs) 0
unfolding padded
padded-fits zero [] h = refl
padded-fits zero (b ∷ bs) h = absurd (omega arith)
padded-fits (suc r) [] h = let same : suc r ≡ suc r - 0 = omega arith in padded-zeros (suc r) ∙ ap (λ (k : ℕ). replicate k 0) same
padded-fits (suc r) (b ∷ bs) h =
    let same : r - length bs ≡ suc r - suc (length bs) = omega arith in
    ap (λ (x : List ℕ). b ∷ x) (padded-fits r bs (omega arith) ∙ ap (λ (k : ℕ). bs ++ replicate k 0) same)

padded-set : (r : ℕ) (bs : List ℕ) (b : ℕ) → set (padded r bs) (length bs) b ≡ padded r (bs ++ b ∷ [])
unfolding padded
padded-set zero bs b = set_out [] (length bs) b (omega arith)
padded-set (suc r) [] b = refl
padded-set (suc r) (x ∷ bs) b = ap (λ (y : List ℕ). x ∷ y) (padded-set r bs b)

padded-past : (r : ℕ) (bs : List ℕ) (b : ℕ) → r ≤ length bs → padded r (bs ++ b ∷ []) ≡ padded r bs
unfolding padded
padded-past zero bs b h = refl
padded-past (suc r) [] b h = absurd (omega arith)
padded-past (suc r) (x ∷ bs) b h = ap (λ (y : List ℕ). x ∷ y) (padded-past r bs b (omega arith))

-- The output once those bytes were put.
holding_of : ℕ → List ℕ → Poured
holding_of r bs = poured (padded r bs) (cond (leb (length bs) r) (length bs) (r + 1))

put-holding : (r : ℕ) (bs : List ℕ) (b : ℕ) → put_byte (holding_of r bs) b ≡ holding_of r (bs ++ b ∷ [])
unfolding holding_of
put-holding r bs b = go (leb (length bs) r) refl (leb (length bs + 1) r) refl
  where
    long : length (bs ++ b ∷ []) ≡ length bs + 1
    long = length-append bs (b ∷ [])

    go : (x : Bool) → leb (length bs) r ≡ x → (y : Bool) → leb (length bs + 1) r ≡ y
        → put_byte (poured (padded r bs) (cond (leb (length bs) r) (length bs) (r + 1))) b
        ≡ poured (padded r (bs ++ b ∷ [])) (cond (leb (length (bs ++ b ∷ [])) r) (length (bs ++ b ∷ [])) (r + 1))
    go true e true f =
        let inside : length bs + 1 ≤ r = leb-true (length bs + 1) r f in
        rw (e, long, f, padded-length r bs, lt-ltb (length bs) r (omega arith))
        (ap (λ (o : List ℕ). poured o (length bs + 1)) (padded-set r bs b))
    go true e false f =
        let outside : r < length bs + 1 = leb-false (length bs + 1) r f in
        rw (e, long, f, padded-length r bs, le-ltb (length bs) r (omega arith)) (ap (λ (o : List ℕ). poured o (r + 1)) (padded-set r bs b))
    go false e true f = absurd (omega (arith, leb-false (length bs) r e, leb-true (length bs + 1) r f))
    go false e false f =
        let outside : r < length bs = leb-false (length bs) r e in
        let short : length (padded r bs) ≤ r + 1 = omega (arith, padded-length r bs) in
        rw (e, long, f, padded-length r bs, le-ltb (r + 1) r (omega arith))
        (ap (λ (o : List ℕ). poured o (r + 1)) (set_out (padded r bs) (r + 1) b short ∙ sym (padded-past r bs b (omega arith))))

put-all-holding : (r : ℕ) (xs bs : List ℕ) → put_all (holding_of r xs) bs ≡ holding_of r (xs ++ bs)
unfolding put_all
put-all-holding r xs [] = ap (holding_of r) (sym (append-nil xs))
put-all-holding r xs (b ∷ bs) =
    ap (λ (w : Poured). put_all w bs) (put-holding r xs b) ∙ put-all-holding r (xs ++ b ∷ []) bs
    ∙ ap (holding_of r) (append_assoc xs (b ∷ []) bs)

start-holding : (r : ℕ) → poured (replicate r 0) 0 ≡ holding_of r []
unfolding holding_of
start-holding r = rw (le-leb 0 r (omega arith)) (ap (λ (o : List ℕ). poured o 0) (sym (padded-zeros r)))

finished-holding : (r : ℕ) (bs : List ℕ) → finished (holding_of r bs) ≡ cond (leb (length bs) r) (holding r bs) (refusing r 7 0)
unfolding holding_of
finished-holding r bs = go (leb (length bs) r) refl
  where
    go : (x : Bool) → leb (length bs) r ≡ x → finished (poured (padded r bs) (cond (leb (length bs) r) (length bs) (r + 1)))
        ≡ cond (leb (length bs) r) (holding r bs) (refusing r 7 0)
    go true e =
        let fits : length bs ≤ r = leb-true (length bs) r e in
        rw (e, padded-length r bs, le-ltb r (length bs) fits, padded-fits r bs fits) refl
    go false e = rw (e, padded-length r bs, lt-ltb r (r + 1) (omega arith)) refl

-- ---- what is left to be converted

-- at the start
pub left-start : (line : Bool → List Literal → List ℕ) (room : ℕ) (r : Lines) → left_over line (poured (replicate room 0) 0) r
    ≡ converted_by line room r
left-start line room r =
    let bytes : List ℕ = printed line r.lines in
    let end : finished (put_all (poured (replicate room 0) 0) bytes) ≡ cond (leb (length bytes) room) (holding room bytes)
    (refusing room 7 0) =
    ap (λ (w : Poured). finished (put_all w bytes)) (start-holding room) ∙ ap finished (put-all-holding room [] bytes)
    ∙ finished-holding room bytes in
    ap₂ (λ (x : Conversion) (k : ℕ). cond (eqb r.number 0) x (refusing k r.number r.place)) end (length-replicate {A = ℕ} room 0)

-- behind a clause
pub left-line : (line : Bool → List Literal → List ℕ) (w : Poured) (b : Bool) (ls : List Literal) (rest : Lines)
    → left_over line w (line_then b ls rest) ≡ left_over line (put_all w (line b ls)) rest
left-line line w b ls rest =
    ap₂ (λ (x : Poured) (k : ℕ). cond (eqb rest.number 0) (finished x) (refusing k rest.number rest.place))
    (put-append w (line b ls) (printed line rest.lines)) (sym (put-length w (line b ls)))

-- at the end
pub left_end : (line : Bool → List Literal → List ℕ) (w : Poured) (r : Lines) → r.lines ≡ [] → r.number ≡ 0 → left_over line w r
    ≡ finished w
unfolding put_all
left_end line w r none read = rw (none, read) refl

-- ---- a clause

module _ (prints : List Literal → List ℕ) (w : Poured) where
  -- a literal's bytes are put before the rest of the clause
  pub written-literal : (l : Literal) (piece : List ℕ) → ((ls : List Literal) → prints (l ∷ ls) ≡ piece ++ prints ls) →
      (out : List ℕ) (x : Next) (r : Result Written Refusal)
      → ClauseWritten prints (put_all w piece) out x r → ClauseWritten prints w out (literal_then l x) r
  written-literal l piece splits out (closed ls first next) r (many, is, bytes) =
      (many, is, bytes ∙ sym (put-append w piece (prints ls)) ∙ ap (put_all w) (sym (splits ls)))
  written-literal l piece splits out (refused number place) r (is, long) = (is, long ∙ put-length w piece)
  written-literal l piece splits out ended r W = absurd W

-- What is known of a clause once it is known of what is left of it.
abbrev pub Leads : (List Literal → List ℕ) → Poured → Next → Poured → Next → Type 0
Leads prints w x w' y = (out : List ℕ) (r : Result Written Refusal) → ClauseWritten prints w' out y r → ClauseWritten prints w out x r

module _ (prints : List Literal → List ℕ) (w₀ : Poured) (x₀ : Next) (w : Poured) (x : Next) (L : Leads prints w₀ x₀ w x) where
  pub leads-literal : (l : Literal) (piece : List ℕ) (y : Next) → ((ls : List Literal) → prints (l ∷ ls) ≡ piece ++ prints ls) → x
      ≡ literal_then l y
      → (w' : Poured) → w' ≡ put_all w piece → Leads prints w₀ x₀ w' y
  leads-literal l piece y splits e w' is out r W =
      L out r (subst (λ (z : Next). ClauseWritten prints w out z r) (sym e)
      (written-literal prints w l piece splits out y r (subst (λ (v : Poured). ClauseWritten prints v out y r) is W)))

  pub leads-closed : (first next many : ℕ) (out : List ℕ) → x ≡ closed [] first next → poured out many ≡ put_all w (prints []) →
      ClauseWritten prints w₀ out x₀ (Ok (written_to next many))
  leads-closed first next many out e is = L out (Ok (written_to next many))
      (subst (λ (z : Next). ClauseWritten prints w out z (Ok (written_to next many))) (sym e) (many, refl, is))

  pub leads-refused : (number place : ℕ) (out : List ℕ) → x ≡ refused number place → length out ≡ length w.output →
      ClauseWritten prints w₀ out x₀ (Err (refusal_at number place))
  leads-refused number place out e long = L out (Err (refusal_at number place))
      (subst (λ (z : Next). ClauseWritten prints w out z (Err (refusal_at number place))) (sym e) (refl, long))

-- the places of an output stay
pub long_as : (w w' : Poured) (bs : List ℕ) → w' ≡ put_all w bs → length w'.output ≡ length w.output
long_as w w' bs is = ap (λ (v : Poured). length v.output) is ∙ put-length w bs

-- an opening before a clause
pub written-opened : (prints whole : List Literal → List ℕ) (opening : List ℕ) (w : Poured) →
    ((ls : List Literal) → whole ls ≡ opening ++ prints ls) → (out : List ℕ) (x : Next) (r : Result Written Refusal)
    → ClauseWritten prints (put_all w opening) out x r → ClauseWritten whole w out x r
written-opened prints whole opening w splits out (closed ls first next) r (many, is, bytes) =
    (many, is, bytes ∙ sym (put-append w opening (prints ls)) ∙ ap (put_all w) (sym (splits ls)))
written-opened prints whole opening w splits out (refused number place) r (is, long) = (is, long ∙ put-length w opening)
written-opened prints whole opening w splits out ended r W = absurd W

-- ---- what the code's functions put

module _ (w : Poured) where
  pub sign-none : (b : Bool) → b ≡ true → w ≡ put_all w (cond b [] (45 ∷ []))
  unfolding put_all
  sign-none b e = rw e refl

  pub sign-minus : (b : Bool) → b ≡ false → put_byte w 45 ≡ put_all w (cond b [] (45 ∷ []))
  unfolding put_all
  sign-minus b e = rw e refl

  pub digits-short : (v : ℕ) → v < 10 → put_byte w (48 + v) ≡ put_all w (digits_of v)
  unfolding put_all
  digits-short v h = rw (lt-ltb v 10 h) refl

  pub digits_long : (v : ℕ) → 10 ≤ v → put_byte (put_byte w (48 + v / 10)) (48 + v % 10) ≡ put_all w (digits_of v)
  unfolding put_all
  digits_long v h = rw (le-ltb v 10 h) refl

  pub literal-spaced : (v : ℕ) (b : Bool) → put_byte (put_all (put_all w (cond b [] (45 ∷ []))) (digits_of v)) 32
      ≡ put_all w (spaced (literal_made v b))
  literal-spaced v b =
      sym (put_one (put_all (put_all w (cond b [] (45 ∷ []))) (digits_of v)) 32)
      ∙ ap (λ (x : Poured). put_all x (32 ∷ [])) (sym (put-append w (cond b [] (45 ∷ [])) (digits_of v)))
      ∙ sym (put-append w (cond b [] (45 ∷ []) ++ digits_of v) (32 ∷ []))

  pub groups-short : (u : ℕ) → u < 128 → put_byte w u ≡ put_all w (groups_of u)
  unfolding put_all
  groups-short u h = rw (lt-ltb u 128 h) refl

  pub groups-long : (u : ℕ) → 128 ≤ u → u < 256 → put_byte (put_byte w u) 1 ≡ put_all w (groups_of u)
  unfolding put_all
  groups-long u h k =
      let low : 128 + u % 128 ≡ u = omega arith in
      let top : u / 128 ≡ 1 = omega arith in
      rw (le-ltb u 128 h, low, top) refl

pub code-small : (v : ℕ) (b : Bool) → v ≤ 64 → code_of (literal_made v b) < 256
code-small v true h = omega arith
code-small v false h = omega arith

-- ---- the end of a conversion

pub finish-over : (out : List ℕ) (many : ℕ) → length out < many → refusing (length out) 7 0 ≡ finished (poured out many)
finish-over out many h = rw (lt-ltb (length out) many h) refl

pub finish-fits : (out : List ℕ) (many : ℕ) → many ≤ length out → record { number = 0; place = 0; length = many; output = out }
    ≡ finished (poured out many)
finish-fits out many h = rw (le-ltb (length out) many h) refl
