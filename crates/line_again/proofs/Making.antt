-- From what the check leaves to the state before the refused command: the lists hold it as its line began; in DRAT that is the state, in
-- records the line's records done again give it, and leave members and marks. Assumes nothing.
use mathlib.Core.Path.{◌≡◌, refl, sym, ap, ap₂, ◌∙◌, subst}
use mathlib.Core.Bool.{true, false}
use mathlib.Core.List.{List, ◌++◌}
use Prim.Native.Nat.{ℕ, ◌+◌, ◌-◌, ◌≤◌, ◌<◌}
use native.Mathlib.Omega.{arith}
use lib.ListN.{length, get_or, take}
use lib.Seq.{length-take-le, get_or-take, take-append_seam, take_all, ext_get_or}
use native.Mathlib.Decide.{dec_lt}
use Rattle.table.specs.Nodes.{Node}
use Rattle.table.specs.Columns.{stored_as}
use Rattle.walks.specs.Readable.{Roomy}
use Rattle.conflict.specs.Marks.{unmarked}
use Rattle.dimacs.specs.Header.{Header, header}
use Rattle.records.specs.declared.Record.{Record}
use Rattle.records.specs.declared.Record.TheVariants.{NodeEntry, Witness, ProofLine, Strike, SetEntry, End, CutShort, UnknownKind}
use Rattle.records.specs.declared.Record.TheVariants.{NoRecord}
use Rattle.records.specs.Records.{record_at, length_of}
use Rattle.commands.specs.declared.Form.{Form}
use Rattle.commands.specs.declared.Form.TheVariants.{Records, Text, Binary}
use Rattle.commands.specs.declared.Mode.{Mode}
use Rattle.commands.specs.Commands.{is_drat, in_form}
use Rattle.verdict.specs.Steps as check
use Rattle.verdict.specs.Check.{Verdict, verdict, zeros}
use Rattle.verdict.specs.Run.{Reached}
use Rattle.verdict.proofs.Standing.{Standing}
use Rattle.verdict.proofs.Ends.{reached-in, reached-standing}
use Rattle.state.specs.declared.State.{State}
use Rattle.state.specs.States.{Lent, state_of, Held}
use Rattle.causes.specs.Explanation.{Ending, unread, ended, ending}
use Rattle.why.specs.Again.{on_line, as_begun, Redo, Retaken, done, then, line_start, Walk, again}
use Rattle.why.proofs.Again.{retaken-again}
use Rattle.remake.specs.Remade.{Remakes}
use Rattle.tell.specs.Begun.{line_state, line_rest}
use Rattle.tell.proofs.Counted.{Counted, reached-counted}
use Rattle.tell.proofs.Begun.{LeftOf, SameLine, begun-held, begun-is, start_is, start-walks, remakes, remade-same}
use Rattle.line_again.specs.declared.Again.{Again}
use Rattle.line_again.specs.Before.{SameBut, has_cause}
use Rattle.line_again.specs.Made.{LeftBy, begun_by, MadeAgain}
use Rattle.line_again.proofs.Refusals.{RefusedAt, refused-at}
use Rattle.line_again.proofs.Fresh.{Fresh, reached-fresh}

-- ---- states alike

module _ (st x : check.State) where
  -- A state that is the same but for rounds, peak and `refuted`.
  same-but : SameLine st x → x.lines ≡ st.lines → SameBut st x
  same-but S lines =
      ap₂ (λ (a : List Node) (b : ℕ). made a b x.members x.struck x.entries x.positive x.negative x.lines) S.nodes
      S.kept
      ∙ ap₂ (λ (a b : List ℕ). made st.nodes st.kept a b x.entries x.positive x.negative x.lines) S.members S.struck
      ∙ ap₂ (λ (a : List ℕ) (b : ℕ). made st.nodes st.kept st.members st.struck a b x.negative x.lines) S.entries
      S.positive
      ∙ ap₂ (λ (a b : ℕ). made st.nodes st.kept st.members st.struck st.entries st.positive a b) S.negative lines
    where
      made : List Node → ℕ → List ℕ → List ℕ → List ℕ → ℕ → ℕ → ℕ → check.State
      made a b c d e f g h = record {
        nodes = a;
        kept = b;
        members = c;
        struck = d;
        entries = e;
        positive = f;
        negative = g;
        lines = h;
        rounds = x.rounds;
        peak = x.peak;
        refuted = x.refuted;
      }

-- ---- the lines stay

redo-lines : (n s : ℕ) (st : check.State) (r : Record) (st' : check.State) → Redo n s st r st' → st'.lines ≡ st.lines
redo-lines n s st (NodeEntry b) st' T = sym (ap (λ (x : check.State). x.lines) T.is)
redo-lines n s st (Witness v b) st' T = sym (ap (λ (x : check.State). x.lines) T.is)
redo-lines n s st (SetEntry kind b) st' T = sym (ap (λ (x : check.State). x.lines) T.is)
redo-lines n s st (Strike k) st' T = sym (ap (λ (x : check.State). x.lines) T)
redo-lines n s st (ProofLine rule root) st' T = absurd T
redo-lines n s st End st' T = absurd T
redo-lines n s st CutShort st' T = absurd T
redo-lines n s st UnknownKind st' T = absurd T
redo-lines n s st NoRecord st' T = absurd T

retaken-lines : (n s : ℕ) (proof : List ℕ) (st : check.State) (at : ℕ) (st' : check.State) (to : ℕ) → Retaken n s proof st at st' to →
    st'.lines ≡ st.lines
retaken-lines n s proof st at _ _ done = refl
retaken-lines n s proof st at st' to (then {st₁ = x} form F W) =
    retaken-lines n s proof x (at + length_of (record_at proof at)) st' to W ∙ redo-lines n s st (record_at proof at) x F

-- ---- lists alike

-- Two lists with the same first places and zeros behind them.
same-list : (xs ys : List ℕ) (k : ℕ) → length xs ≡ length ys → take k xs ≡ take k ys
    → ((i : ℕ) → k ≤ i → ◌≡◌ {A = ℕ} (get_or xs i 0) 0) → ((i : ℕ) → k ≤ i → ◌≡◌ {A = ℕ} (get_or ys i 0) 0) → xs ≡ ys
same-list xs ys k len first a b = ext_get_or 0 xs ys len (λ i p. go i (dec_lt i k))
  where
    go : (i : ℕ) → Dec (i < k) → get_or xs i 0 ≡ get_or ys i 0
    go i (yes p) = sym (get_or-take k xs i 0 p) ∙ ap (λ (zs : List ℕ). get_or zs i 0) first ∙ get_or-take k ys i 0 p
    go i (no p) = a i (omega (arith, p)) ∙ sym (b i (omega (arith, p)))

-- ---- the state made again

module _ (mode : Mode) (text proof : List ℕ) (l : Lent) (count lines place : ℕ)
    (L : LeftBy (verdict mode (length l.vars) text proof) count lines l)
    (told : has_cause (verdict mode (length l.vars) text proof).number ≡ true)
    (here : place ≡ (verdict mode (length l.vars) text proof).place) where
  abbrev s : ℕ
  s = length l.vars

  abbrev v : Verdict
  v = verdict mode s text proof

  pub at_place : RefusedAt mode s text proof v
  at_place = refused-at mode s text proof told

  abbrev n : ℕ
  n = at_place.n

  abbrev st : check.State
  st = at_place.state

  standing : (n ≤ 64) × Standing s n at_place.meant st
  standing = reached-standing mode s text proof at_place.reached

  counted : Counted text n st
  counted = reached-counted mode s text proof at_place.reached

  left : LeftOf s (length l.members) (length l.scratch) st l
  left = record {
    columns = L.columns ∙ ap (stored_as s) at_place.nodes;
    members = L.members ∙ ap (λ (ms : List ℕ). ms ++ zeros (length l.members - length ms)) at_place.members;
    struck = L.struck ∙ ap (λ (ms : List ℕ). ms ++ zeros (length l.members - length ms)) at_place.struck;
    scratch = L.scratch;
  }

  pub kept-is : count ≡ st.kept
  kept-is = L.count-is ∙ ap length at_place.nodes ∙ length-take-le st.kept st.nodes standing.1.kept

  abbrev first : State
  first = line_state st.kept (length st.members) st.lines

  abbrev beginning : State → Again
  beginning q = record { variables = n; state = q }

  first-is : begun_by (header text) count lines ≡ beginning first
  first-is =
      ap (λ (h : Header). begun_by h count lines) counted.proper
      ∙ ap₂ (λ (k j : ℕ). beginning (line_state k (counted.clauses + j) j)) kept-is (L.lines-is ∙ at_place.lines)
      ∙ ap (λ (m : ℕ). beginning (line_state st.kept m st.lines)) (sym counted.counted)

  held : Held n l first
  held = begun-held s (length l.members) (length l.scratch) L.two L.most L.wide L.long n standing.0 st
      at_place.meant
      standing.1 l left

  begins-as : state_of l first ≡ on_line (line_rest l st.kept (length st.members) st.lines) (as_begun st)
  begins-as = begun-is s (length l.members) (length l.scratch) L.two L.most L.wide L.long n standing.0 st
      at_place.meant standing.1 l left

  marks-are : take (length st.members) l.struck ≡ st.struck
  marks-are =
      ap (λ (k : ℕ). take k l.struck) (sym standing.1.marks) ∙ ap (take (length st.struck)) left.struck
      ∙ take-append_seam st.struck (zeros (length l.members - length st.struck))

  -- Few enough lines.
  pub few-lines : lines ≤ 1024
  few-lines = omega (arith, L.lines-is, at_place.lines, standing.1.lines)

  -- what is made again of this ending is made again of every way to say it
  pub made_of : (l' : Lent) (r : Again) → MadeAgain n st l l' r → (n₁ : ℕ) (st₁ : check.State) (at : ℕ)
      → ending mode s text proof ≡ ended n₁ st₁ at → MadeAgain n₁ st₁ l l' r
  made_of l' r M n₁ st₁ at e = subst Made (sym at_place.is ∙ e) M
    where
      Made : Ending → Type 0
      Made unread = Unit {0}
      Made (ended n₂ st₂ at₂) = MadeAgain n₂ st₂ l l' r

  module _ (b : Again) (b-is : b ≡ begun_by (header text) count lines) where
    begun : b ≡ beginning first
    begun = b-is ∙ first-is

    -- DRAT: the state is as its line began
    pub drat-made : is_drat mode.form ≡ true → MadeAgain n st l l b
    drat-made drat = subst (MadeAgain n st l l) (sym begun) (record {
      variables = refl;
      same = same-but st (state_of l first) alike refl;
      held = held;
      members = refl;
      struck = refl;
    })
      where
        F : Fresh st
        F = reached-fresh mode s text proof drat at_place.reached

        alike : SameLine st (state_of l first)
        alike = record {
          nodes = ap (λ (x : check.State). x.nodes) begins-as ∙ take_all st.kept st.nodes (omega (arith, F.kept));
          kept = refl;
          members = ap (λ (x : check.State). x.members) begins-as;
          struck = marks-are;
          entries = sym F.entries;
          positive = sym F.positive;
          negative = sym F.negative;
        }

    module _ (records : is_drat mode.form ≡ false) where
      form-is : mode.form ≡ Records
      form-is = go mode.form records
        where
          go : (form : Form) → is_drat form ≡ false → form ≡ Records
          go Records e = refl
          go Text e = let z : ◌≡◌ {A = ℕ} 0 1 = cc in absurd (omega arith)
          go Binary e = let z : ◌≡◌ {A = ℕ} 0 1 = cc in absurd (omega arith)

      reached : Reached (in_form Records mode.consequence) s text proof n st place at_place.meant
      reached =
          subst (λ (k : ℕ). Reached (in_form Records mode.consequence) s text proof n st k at_place.meant) (sym here)
          (subst (λ (form : Form). Reached (in_form form mode.consequence) s text proof n st v.place at_place.meant) form-is
          at_place.reached)

      -- what `line_start` asks
      pub start-asks : (place ≤ length proof) × Walk proof 0 place
      start-asks = (
        reached-in (in_form Records mode.consequence) s text proof reached,
        start-walks s (length l.members) (length l.scratch) L.two L.most L.wide L.long mode.consequence text proof
            reached l left,
      )

      module _ (from : ℕ) (from_is : from ≡ line_start place proof 0 0 place) where
        remade : Remakes n s proof (state_of l first) from place
        remade =
            subst (λ (k : ℕ). Remakes n s proof (state_of l first) k place)
            (sym (from_is ∙ start_is s (length l.members) (length l.scratch) L.two L.most L.wide L.long
            mode.consequence
            text proof reached l left))
            (remakes s (length l.members) (length l.scratch) L.two L.most L.wide L.long mode.consequence text proof
            reached l left)

        -- what `remake` asks
        pub remake-asks : (marks memo : List ℕ) → marks ≡ unmarked s → Roomy l.vars memo
            → Held b.variables l b.state × (marks ≡ unmarked s) × Roomy l.vars memo × (place ≤ length proof)
            × Remakes b.variables s proof (state_of l b.state) from place
        remake-asks marks memo none room = (
          subst (λ (x : Again). Held x.variables l x.state) (sym begun) held,
          none,
          room,
          start-asks.0,
          subst (λ (x : Again). Remakes x.variables s proof (state_of l x.state) from place) (sym begun) remade,
        )

        -- what it leaves
        module _ (l' : Lent) (q : State)
            (is : state_of l' q ≡ again place b.variables s proof (state_of l b.state) from place)
            (H : Held b.variables l' q) (same-members : length l'.members ≡ length l.members)
            (same-struck : length l'.struck ≡ length l.struck) where
          again-is : state_of l' q ≡ again place n s proof (state_of l first) from place
          again-is = is ∙ ap (λ (y : Again). again place y.variables s proof (state_of l y.state) from place) begun

          held' : Held n l' q
          held' = subst (λ (y : Again). Held y.variables l' q) begun H

          alike : SameLine st (state_of l' q)
          alike =
              subst (SameLine st)
              (sym (again-is ∙ ap (λ (k : ℕ). again place n s proof (state_of l first) k place)
              (from_is ∙ start_is s (length l.members) (length l.scratch) L.two L.most L.wide L.long mode.consequence
              text proof reached l left)))
              (remade-same s (length l.members) (length l.scratch) L.two L.most L.wide L.long mode.consequence text
              proof
              reached l left)

          lines_same : q.lines ≡ st.lines
          lines_same =
              ap (λ (x : check.State). x.lines)
              (again-is ∙ retaken-again n s proof place (state_of l first) from remade.last place remade.taken (omega arith))
              ∙ retaken-lines n s proof (state_of l first) from remade.last place remade.taken

          many-same : q.members ≡ length st.members
          many-same = sym (length-take-le q.members l'.members (omega (arith, held'.many, held'.lines, held'.room)))
              ∙ ap length alike.members

          pub records-made : MadeAgain n st l l' (record { variables = b.variables; state = q })
          records-made = record {
            variables = ap (λ (y : Again). y.variables) begun;
            same = same-but st (state_of l' q) alike lines_same;
            held = held';
            members = same-list l'.members l.members (length st.members) same-members
                (ap (λ (k : ℕ). take k l'.members) (sym many-same) ∙ alike.members
                ∙ sym (ap (λ (x : check.State). x.members) begins-as))
                (λ i p. held'.rest i (omega (arith, many-same, p))) held.rest;
            struck = same-list l'.struck l.struck (length st.members) same-struck
                (ap (λ (k : ℕ). take k l'.struck) (sym many-same) ∙ alike.struck ∙ sym marks-are)
                (λ i p. held'.unmarked i (omega (arith, many-same, p))) held.unmarked;
          }
