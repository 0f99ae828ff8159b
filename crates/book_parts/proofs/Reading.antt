-- The records of a book's call read one by one: what the call comes to is what is left to be said from the state reached and the place of
-- the next record. The idea: a record that is taken has a byte, so that there are always steps enough. Assumes nothing.
use mathlib.Core.Path.{◌≡◌, refl, sym, ap, ap₂, ◌∙◌, subst}
use mathlib.Core.Bool.{Bool, true, false, ◌&&◌, cond}
use mathlib.Core.List.{List}
use Prim.Native.Nat.{ℕ, zero, suc, ◌+◌, ◌-◌, ◌≤◌, ◌<◌}
use native.Mathlib.Omega.{arith}
use lib.ListN.{length, get_or, take}
use lib.Seq.{length-take-le}
use lib.Dec.{ltb}
use borrow.Author.Tests.{ltb-true}
use Rattle.meaning.proofs.Booleans.{and_both}
use Rattle.walks.specs.Readable.{Roomy}
use Rattle.conflict.specs.Marks.{unmarked}
use Rattle.records.specs.declared.Record.{Record}
use Rattle.records.specs.declared.Record.TheVariants.{NodeEntry, Witness, ProofLine, Strike, SetEntry, End, CutShort, UnknownKind}
use Rattle.records.specs.declared.Record.TheVariants.{NoRecord}
use Rattle.records.specs.Records.{record_at, length_of, number_of}
use Rattle.records.proofs.Laws.{record-takes, record-within}
use Rattle.verdict.specs.Steps as steps
use Rattle.verdict.specs.Taken.{Taken}
use Rattle.verdict.proofs.Steps.{record-taken, next-form}
use Rattle.verdict.proofs.Offsets.{Offset, at-record, at-striking, behind-end, Placed, record-placed}
use Rattle.state.specs.declared.State.{State}
use Rattle.state.specs.declared.Step.{Step}
use Rattle.state.specs.declared.Step.TheVariants.{Next, Stop, Spent}
use Rattle.state.specs.States.{Lent, state_of, step_of, Held, HeldAfter, Unmoved, Stepped}
use Rattle.shares.specs.Alone as alone
use Rattle.shares.specs.Alone.{is_line, beyond_header, book_step, line_call}
use Rattle.shares.proofs.Sane.{book-next, members-same}
use Rattle.book_parts.specs.declared.line.Ending.{Ending}
use Rattle.book_parts.specs.declared.line.Ending.TheVariants as code
use Rattle.book_parts.specs.Lines.{beyond_by, ending_of, EndsHeld}

-- ---- one record

-- the header's test by the number of entries
beyond-is : (n : ℕ) (l : Lent) (st : State) → st.entries ≤ length l.scratch → (r : Record) → beyond_header n (state_of l st) r
    ≡ beyond_by n st.entries r
unfolding beyond_header
beyond-is n l st room (NodeEntry b) = ap (λ (k : ℕ). ltb k 4096 && ltb n b.variable) (length-take-le st.entries l.scratch room)
beyond-is n l st room (Witness v b) = refl
beyond-is n l st room (ProofLine rule root) = refl
beyond-is n l st room (Strike k) = refl
beyond-is n l st room (SetEntry kind b) = ap (λ (k : ℕ). ltb k 4096 && steps.beyond n b.set)
    (length-take-le st.entries l.scratch room)
beyond-is n l st room End = refl
beyond-is n l st room CutShort = refl
beyond-is n l st room UnknownKind = refl
beyond-is n l st room NoRecord = refl

module _ (n s : ℕ) (l : Lent) (st : State) (H : Held 64 l st) (more : Bool) (r : Record) where
  few : st.entries ≤ length l.scratch
  few = omega (arith, H.entries.few, H.entries.room)

  unmoved : Unmoved l l st
  unmoved = record { table = refl; members = refl; struck = refl }

  -- 12 by the header
  pub beyond-stops : beyond_by n st.entries r ≡ true → Stepped 64 l l st (book_step 64 n s (state_of l st) more r) (Stop 12 0)
  unfolding book_step
  beyond-stops e = record { says = rw (beyond-is n l st few r ∙ e); leaves = unmoved }

  module _ (within : beyond_by n st.entries r ≡ false) where
    -- 11 at the bytes behind a line
    pub line-stops : (is_line r && more) ≡ true → (k : ℕ) → k ≡ length_of r →
        Stepped 64 l l st (book_step 64 n s (state_of l st) more r) (Stop 11 k)
    unfolding book_step
    line-stops e k is = record { says = rw (beyond-is n l st few r ∙ within, e, is); leaves = unmoved }

    -- else the check's own step
    pub record-steps : (is_line r && more) ≡ false → (l' : Lent) (x : Step) →
        Stepped 64 l l' st (steps.record_step 64 s (state_of l st) more r) x
        → Stepped 64 l l' st (book_step 64 n s (state_of l st) more r) x
    unfolding book_step
    record-steps e l' x X = record { says = X.says ∙ rw (beyond-is n l st few r ∙ within, e); leaves = X.leaves }

-- ---- one step of the definition

module _ (n s : ℕ) (bytes : List ℕ) (whole : alone.Ending) where
  abbrev rec : ℕ → Record
  rec at = record_at bytes at

  abbrev more : ℕ → Bool
  more at = ltb (at + length_of (rec at)) (length bytes)

  -- What is to be said of the call is what is left to be said from the state st and the place `at` on.
  pub record Remains (st : steps.State) (at : ℕ) : Type 0 where
    pub fuel : ℕ
    pub enough : length bytes - at < fuel
    pub left : whole ≡ line_call fuel 64 n s bytes st at

  module _ (st : steps.State) (at : ℕ) where
    abbrev said : steps.Step
    said = book_step 64 n s st (more at) (rec at)

    stops-with : (k : ℕ) → length bytes - at < k → (number offset : ℕ) → said ≡ steps.stop number offset → whole
        ≡ line_call k 64 n s bytes st at
        → whole ≡ alone.ended number (at + offset) st.peak st.struck
    unfolding line_call
    stops-with zero enough number offset e left = absurd (omega arith)
    stops-with (suc k) enough number offset e left = left ∙ rw e

    spends-with : (k : ℕ) → length bytes - at < k → (number peak : ℕ) → said ≡ steps.spent number peak → whole
        ≡ line_call k 64 n s bytes st at
        → whole ≡ alone.ended number at peak st.struck
    unfolding line_call
    spends-with zero enough number peak e left = absurd (omega arith)
    spends-with (suc k) enough number peak e left = left ∙ rw e

    takes-with : (k : ℕ) → length bytes - at < k → (st' : steps.State) → said ≡ steps.next st' → is_line (rec at) ≡ true → whole
        ≡ line_call k 64 n s bytes st at → whole ≡ alone.taken st'
    unfolding line_call
    takes-with zero enough st' e line left = absurd (omega arith)
    takes-with (suc k) enough st' e line left = left ∙ rw (e, line)

    -- a record that is taken has a byte, and ends in the bytes
    goes : (st' : steps.State) → said ≡ steps.next st' → (at < at + length_of (rec at)) × (at + length_of (rec at) ≤ length bytes)
    goes st' e =
        let form = next-form 64 s st (more at) (rec at) st' (book-next n s st (more at) (rec at) st' e) in
        let takes : 1 ≤ length_of (rec at) = record-takes (rec at) form in
        (omega arith, record-within bytes at refl form)

    goes_with : (k : ℕ) → length bytes - at < k → (st' : steps.State) → said ≡ steps.next st' → is_line (rec at) ≡ false → whole
        ≡ line_call k 64 n s bytes st at
        → Remains st' (at + length_of (rec at))
    unfolding line_call
    goes_with zero enough st' e line left = absurd (omega arith)
    goes_with (suc k) enough st' e line left =
        let on = goes st' e in record { fuel = k; enough = omega (arith, on.0, on.1); left = left ∙ rw (e, line) }

    -- a record is refused at a place in the bytes
    near : at ≤ length bytes → (number offset : ℕ) → said ≡ steps.stop number offset → at + offset ≤ length bytes
    unfolding book_step
    near within number offset e = go (beyond_header n st (rec at)) (is_line (rec at) && more at) refl e
      where
        end-inside : rec at ≡ End → at + 1 ≤ length bytes
        end-inside is =
            let right : number_of (rec at) ≡ 0 = rw is in
            let one : length_of (rec at) ≡ 1 = rw is in
            omega (arith, record-within bytes at refl right)

        of-record : Offset st (rec at) number offset → at + offset ≤ length bytes
        of-record (at-record z _ _) = omega arith
        of-record (at-striking z _ _ _ _) = omega arith
        of-record (behind-end z _ is) = omega (arith, end-inside is)

        go : (x y : Bool) → (is_line (rec at) && more at) ≡ y → cond x (steps.stop 12 0)
            (cond y (steps.stop 11 (length_of (rec at))) (steps.record_step 64 s st (more at) (rec at))) ≡ steps.stop number offset
            → at + offset ≤ length bytes
        go true y q e = let z : 0 ≡ offset = cc in omega arith
        go false true q e =
            let z : length_of (rec at) ≡ offset = cc in
            let m : more at ≡ true = (and_both (is_line (rec at)) (more at) q).1 in
            omega (arith, ltb-true (at + length_of (rec at)) (length bytes) m)
        go false false q e = of-record (subst (Placed st (rec at)) e (record-placed 64 s st (more at) (rec at)))

  -- ---- the records read so far

  -- The state st is held in l, no line is accepted yet, and the next record is looked for at `at`.
  pub record Reading (m : ℕ) (l : Lent) (marks memo : List ℕ) (st : State) (at : ℕ) : Type 0 where
    pub narrow : n ≤ 64
    pub same_size : length l.vars ≡ s
    pub held : Held 64 l st
    pub none-marked : marks ≡ unmarked s
    pub room : Roomy l.vars memo
    pub within : at ≤ length bytes
    pub members : st.members ≡ m
    pub remains : Remains (state_of l st) at

  module _ (m : ℕ) (l : Lent) (marks memo : List ℕ) (st : State) (at : ℕ) (G : Reading m l marks memo st at) where
    pub reading-asks : Held 64 l st × (marks ≡ unmarked (length l.vars)) × Roomy l.vars memo × (n ≤ 64)
    reading-asks = (G.held, G.none-marked ∙ ap unmarked (sym G.same_size), G.room, G.narrow)

    -- the record comes to x and leaves l'; r, k and b are the record, the place behind it, and whether bytes follow
    module _ (r : Record) (er : r ≡ rec at) (k : ℕ) (ek : k ≡ at + length_of (rec at)) (b : Bool) (eb : b ≡ ltb k (length bytes))
        (l' : Lent) (x : Step) (X : Stepped 64 l l' st (book_step 64 n (length l.vars) (state_of l st) b r) x) where
      says : (y : Step) → x ≡ y → said (state_of l st) at ≡ step_of l' y
      says y e =
          sym (ap₂ (λ (size : ℕ) (c : Bool). book_step 64 n size (state_of l st) c (rec at)) G.same_size
          (eb ∙ ap (λ (j : ℕ). ltb j (length bytes)) ek))
          ∙ ap (book_step 64 n (length l.vars) (state_of l st) b) (sym er) ∙ sym X.says ∙ ap (step_of l') e

      leaves : (y : Step) → x ≡ y → HeldAfter 64 l l' st y
      leaves y e = subst (HeldAfter 64 l l' st) e X.leaves

      -- marks behind the members
      rest-marked : Unmoved l l' st → (i : ℕ) → m ≤ i → ◌≡◌ {A = ℕ} (get_or l'.struck i 0) 0
      rest-marked same i p = ap (λ (ks : List ℕ). get_or ks i 0) same.struck ∙ G.held.unmarked i (omega (arith, G.members))

      struck-same : Unmoved l l' st → (state_of l st).struck ≡ take m l'.struck
      struck-same same = ap₂ take G.members (sym same.struck)

      pub reading-near : (number offset : ℕ) → x ≡ Stop number offset → at + offset ≤ length bytes
      reading-near number offset e = near (state_of l st) at G.within number offset (says (Stop number offset) e)

      pub reading-stop : (number offset : ℕ) → x ≡ Stop number offset → (whole ≡ ending_of l' m (code.Ended number (at + offset) st.peak))
          × EndsHeld l' m (code.Ended number (at + offset) st.peak)
      reading-stop number offset e = (
        stops-with (state_of l st) at G.remains.fuel G.remains.enough number offset (says (Stop number offset) e) G.remains.left
            ∙ ap (alone.ended number (at + offset) st.peak) (struck-same (leaves (Stop number offset) e)),
        rest-marked (leaves (Stop number offset) e),
      )

      pub reading-spent : (number peak : ℕ) → x ≡ Spent number peak → (whole ≡ ending_of l' m (code.Ended number at peak))
          × EndsHeld l' m (code.Ended number at peak)
      reading-spent number peak e = (
        spends-with (state_of l st) at G.remains.fuel G.remains.enough number peak (says (Spent number peak) e) G.remains.left
            ∙ ap (alone.ended number at peak) (struck-same (leaves (Spent number peak) e)),
        rest-marked (leaves (Spent number peak) e),
      )

      pub reading-taken : (st' : State) → x ≡ Next st' → is_line r ≡ true → (whole ≡ ending_of l' m (code.Taken st'))
          × EndsHeld l' m (code.Taken st')
      reading-taken st' e line = (
        takes-with (state_of l st) at G.remains.fuel G.remains.enough (state_of l' st') (says (Next st') e)
            (ap is_line (sym er) ∙ line) G.remains.left,
        leaves (Next st') e,
      )

      pub reading-goes : (st' : State) → x ≡ Next st' → (at < k) × (k ≤ length bytes)
      reading-goes st' e = let on = goes (state_of l st) at (state_of l' st') (says (Next st') e) in
          (omega (arith, on.0, ek), omega (arith, on.1, ek))

      pub reading-next : (st' : State) → x ≡ Next st' → is_line r ≡ false → (marks' memo' : List ℕ) → length l'.vars ≡ length l.vars →
          marks' ≡ unmarked (length l.vars)
          → length memo' ≡ length memo → Reading m l' marks' memo' st' k
      reading-next st' e line marks' memo' sized clear long =
          let H : Held 64 l' st' = leaves (Next st') e in
          let is : is_line (rec at) ≡ false = ap is_line (sym er) ∙ line in
          let T : Taken 64 s (state_of l st) (rec at) (state_of l' st') =
          record-taken 64 s (state_of l st) (more at) (rec at) (state_of l' st')
          (book-next n s (state_of l st) (more at) (rec at) (state_of l' st') (says (Next st') e)) in
          let same : (state_of l' st').members ≡ (state_of l st).members = members-same s (state_of l st) (rec at) is (state_of l' st') T in
          let a : length (take st'.members l'.members) ≡ st'.members =
          length-take-le st'.members l'.members (omega (arith, H.many, H.lines, H.room)) in
          let b : length (take st.members l.members) ≡ st.members =
          length-take-le st.members l.members (omega (arith, G.held.many, G.held.lines, G.held.room)) in
          let c : length (take st'.members l'.members) ≡ length (take st.members l.members) = ap length same in
          record {
            narrow = G.narrow;
            same_size = sized ∙ G.same_size;
            held = H;
            none-marked = clear ∙ ap unmarked G.same_size;
            room = omega (arith, G.room, sized, long);
            within = (reading-goes st' e).1;
            members = sym a ∙ c ∙ b ∙ G.members;
            remains = subst (Remains (state_of l' st')) (sym ek)
                (goes_with (state_of l st) at G.remains.fuel G.remains.enough (state_of l' st') (says (Next st') e) is
                G.remains.left);
          }

pub reading-start : (n : ℕ) (bytes : List ℕ) (l : Lent) (marks memo : List ℕ) (st : State)
    → Held 64 l st × (marks ≡ unmarked (length l.vars)) × Roomy l.vars memo × (n ≤ 64)
    → Reading n (length l.vars) bytes (line_call (suc (length bytes)) 64 n (length l.vars) bytes (state_of l st) 0) st.members l
    marks memo st 0
reading-start n bytes l marks memo st P = record {
  narrow = P.3;
  same_size = refl;
  held = P.0;
  none-marked = P.1;
  room = P.2;
  within = omega arith;
  members = refl;
  remains = record { fuel = suc (length bytes); enough = omega arith; left = refl };
}
