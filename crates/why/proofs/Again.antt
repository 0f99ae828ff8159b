-- The line's entries and witness, read once more over what the check leaves, give the state before the refused record, but for marks,
-- counts and peak. The idea: no record that makes an entry or a witness looks at those; a line that is taken starts all anew. Assumes
-- nothing.
use mathlib.Core.Path.{◌≡◌, refl, sym, ap, ap₂, ◌∙◌, subst}
use mathlib.Core.Bool.{Bool, true, false, not, cond}
use mathlib.Core.List.{List, [], ◌∷◌, ◌++◌}
use Prim.Native.Nat.{ℕ, zero, suc, ◌+◌, ◌-◌, ◌≤◌, ◌<◌, max}
use native.Mathlib.Omega.{arith}
use lib.ListN.{length, take}
use lib.Seq.{take-append-le, take_all}
use borrow.Author.Tests.{lt-ltb, le-ltb}
use Rattle.meaning.proofs.Booleans.{t≢f}
use Rattle.table.specs.Nodes.{Node}
use Rattle.table.proofs.Growth.{Extends}
use Rattle.records.specs.declared.MemberNo.{MemberNo}
use Rattle.records.specs.declared.NodeBody.{NodeBody}
use Rattle.records.specs.declared.SetKind.{SetKind}
use Rattle.records.specs.declared.SetBody.{SetBody}
use Rattle.records.specs.declared.Record.{Record}
use Rattle.records.specs.declared.Record.TheVariants.{NodeEntry, Witness, ProofLine, Strike, SetEntry, End, CutShort, UnknownKind}
use Rattle.records.specs.declared.Record.TheVariants.{NoRecord}
use Rattle.records.specs.Records.{record_at, length_of, number_of}
use Rattle.records.proofs.Laws.{record-takes}
use Rattle.commands.specs.declared.Form.TheVariants.{Records}
use Rattle.commands.specs.Commands.{in_form}
use Rattle.verdict.specs.Steps.{State, with_entry, with_witness, Step, is_entry, entry_node}
use Rattle.verdict.specs.Steps.{assigned, begun, record_step}
use Rattle.verdict.specs.Taken.{Meant, Taken, NodeTaken, WitnessTaken, StrikeTaken, SetTaken}
use Rattle.verdict.specs.Run.{Reached, begins, goes}
use Rattle.verdict.proofs.Steps.{taken-record, next-form}
use Rattle.verdict.proofs.Standing.{record-extends}
use Rattle.verdict.proofs.Ends.{reached-standing}
use Rattle.why.specs.Again.{Walk, here, past, is_line, line_start, reached, again_step, again, Rest, on_line, as_begun, Redo}
use Rattle.why.specs.Again.{Retaken, done, then}

-- ---- walks over records

pub walk-most : (proof : List ℕ) (at to : ℕ) → Walk proof at to → at ≤ to
walk-most proof at _ here = omega arith
walk-most proof at to (past form W) = omega (arith, walk-most proof (at + length_of (record_at proof at)) to W)

walk-on : (proof : List ℕ) (at to : ℕ) → Walk proof at to → number_of (record_at proof to) ≡ 0 →
    Walk proof at (to + length_of (record_at proof to))
walk-on proof at _ here form = past form here
walk-on proof at to (past first W) form = past first (walk-on proof (at + length_of (record_at proof at)) to W form)

module _ (proof : List ℕ) where
  start-end : (k start at to : ℕ) → to ≤ at → line_start k proof start at to ≡ start
  unfolding line_start
  start-end zero start at to h = refl
  start-end (suc k) start at to h = rw (le-ltb at to h)

  start-step : (k start at to : ℕ) → at < to
      → line_start (suc k) proof start at to ≡ line_start k proof
      (cond (is_line (record_at proof at)) (at + length_of (record_at proof at)) start) (at + length_of (record_at proof at)) to
  unfolding line_start
  start-step k start at to h = rw (lt-ltb at to h)

  pub start-ends : (start at to : ℕ) → to ≤ at → line_start (to - at) proof start at to ≡ start
  start-ends start at to h = start-end (to - at) start at to h

  -- Enough steps are enough.
  start-fuel : (k m start at to : ℕ) → Walk proof at to → to ≤ at + k → to ≤ at + m → line_start k proof start at to
      ≡ line_start m proof start at to
  start-fuel k m start at _ here h g = start-end k start at at (omega arith) ∙ sym (start-end m start at at (omega arith))
  start-fuel zero m start at to (past form W) h g =
      absurd (omega (arith, record-takes (record_at proof at) form, walk-most proof (at + length_of (record_at proof at)) to W, h))
  start-fuel (suc k) zero start at to (past form W) h g =
      absurd (omega (arith, record-takes (record_at proof at) form, walk-most proof (at + length_of (record_at proof at)) to W, g))
  start-fuel (suc k) (suc m) start at to (past form W) h g =
      let takes : 1 ≤ length_of (record_at proof at) = record-takes (record_at proof at) form in
      let on : at + length_of (record_at proof at) ≤ to = walk-most proof (at + length_of (record_at proof at)) to W in
      start-step k start at to (omega (arith, takes, on))
      ∙ start-fuel k m _ (at + length_of (record_at proof at)) to W (omega (arith, takes, h)) (omega (arith, takes, g))
      ∙ sym (start-step m start at to (omega (arith, takes, on)))

  -- The first record of a walk, and the rest.
  pub walk_first : (at to : ℕ) → Walk proof at to → at < to → (number_of (record_at proof at) ≡ 0)
      × Walk proof (at + length_of (record_at proof at)) to
  walk_first at _ here lt = absurd (omega (arith, lt))
  walk_first at to (past form W) lt = (form, W)

  -- One step of the search for the line's start.
  pub start-goes : (start at to : ℕ) → Walk proof at to → at < to → (r : Record) → r ≡ record_at proof at → (len : ℕ) → len ≡ length_of r →
      (start' : ℕ) → start' ≡ cond (is_line r) (at + len) start
      → (1 ≤ len) × Walk proof (at + len) to × (line_start (to - at) proof start at to
      ≡ line_start (to - (at + len)) proof start' (at + len) to)
  start-goes start at to W lt r is len long start' behind =
      let (form, rest) = walk_first at to W lt in
      let takes : 1 ≤ length_of (record_at proof at) = record-takes (record_at proof at) form in
      let long-is : len ≡ length_of (record_at proof at) = long ∙ ap length_of is in
      let on : Walk proof (at + len) to = subst (λ (k : ℕ). Walk proof (at + k) to) (sym long-is) rest in
      let most : at + len ≤ to = walk-most proof (at + len) to on in
      let one_more : to - at ≡ suc (to - at - 1) = omega (arith, lt) in
      let behind-is : cond (is_line (record_at proof at)) (at + length_of (record_at proof at)) start ≡ start' =
      sym (behind ∙ ap₂ (λ (x : Record) (k : ℕ). cond (is_line x) (at + k) start) is long-is) in (
        omega (arith, takes, long-is),
        on,
        ap (λ (k : ℕ). line_start k proof start at to) one_more ∙ start-step (to - at - 1) start at to lt
            ∙ ap₂ (λ (x k : ℕ). line_start (to - at - 1) proof x (at + k) to) behind-is (sym long-is)
            ∙ start-fuel (to - at - 1) (to - (at + len)) start' (at + len) to on (omega (arith, takes, long-is, lt)) (omega (arith, most)),
      )

  -- One record more: the line's start stays, but behind a line.
  start-on : (k start at to : ℕ) → Walk proof at to → number_of (record_at proof to) ≡ 0 → to + length_of (record_at proof to) ≤ at + k
      → line_start k proof start at (to + length_of (record_at proof to))
      ≡ cond (is_line (record_at proof to)) (to + length_of (record_at proof to)) (line_start k proof start at to)
  start-on zero start at to W form enough =
      absurd (omega (arith, walk-most proof at to W, record-takes (record_at proof to) form, enough))
  start-on (suc k) start at _ here form enough =
      let takes : 1 ≤ length_of (record_at proof at) = record-takes (record_at proof at) form in
      start-step k start at (at + length_of (record_at proof at)) (omega (arith, takes))
      ∙ start-end k _ (at + length_of (record_at proof at)) (at + length_of (record_at proof at)) (omega arith)
      ∙ ap (cond (is_line (record_at proof at)) (at + length_of (record_at proof at))) (sym (start-end (suc k) start at at (omega arith)))
  start-on (suc k) start at to (past first W) form enough =
      let takes : 1 ≤ length_of (record_at proof at) = record-takes (record_at proof at) first in
      let on : at + length_of (record_at proof at) ≤ to = walk-most proof (at + length_of (record_at proof at)) to W in
      start-step k start at (to + length_of (record_at proof to)) (omega (arith, takes, on))
      ∙ start-on k (cond (is_line (record_at proof at)) (at + length_of (record_at proof at)) start) (at + length_of (record_at proof at))
      to W
      form (omega (arith, takes, enough))
      ∙ ap (cond (is_line (record_at proof to)) (to + length_of (record_at proof to)))
      (sym (start-step k start at to (omega (arith, takes, on))))

  module _ (n s : ℕ) where
    again-end : (k : ℕ) (st : State) (at to : ℕ) → to ≤ at → again k n s proof st at to ≡ st
    unfolding again
    again-end zero st at to h = refl
    again-end (suc k) st at to h = rw (le-ltb at to h)

    again-step : (k : ℕ) (st : State) (at to : ℕ) → at < to
        → again (suc k) n s proof st at to ≡ again k n s proof (again_step n s st (record_at proof at))
        (at + length_of (record_at proof at)) to
    unfolding again
    again-step k st at to h = rw (lt-ltb at to h)

-- ---- records done again

redo-again : (n s : ℕ) (st : State) (r : Record) (st' : State) → Redo n s st r st' → again_step n s st r ≡ st'
unfolding again_step record_step
redo-again n s st (NodeEntry b) st' T = ap (λ (x : Step). reached x st) (taken-record n s st false (NodeEntry b) st' T)
redo-again n s st (Witness v b) st' T = ap (λ (x : Step). reached x st) (taken-record n s st false (Witness v b) st' T)
redo-again n s st (SetEntry kind b) st' T = ap (λ (x : Step). reached x st) (taken-record n s st false (SetEntry kind b) st' T)
redo-again n s st (Strike k) st' T = T
redo-again n s st (ProofLine rule root) st' T = absurd T
redo-again n s st End st' T = absurd T
redo-again n s st CutShort st' T = absurd T
redo-again n s st UnknownKind st' T = absurd T
redo-again n s st NoRecord st' T = absurd T

module _ (n s : ℕ) (o : Rest) (st st' : State) where
  -- A taken record of an entry or of the witness does the same in the state with another rest.
  abbrev Redone : Record → Type 0
  Redone r = (o' : Rest) × Redo n s (on_line o st) r (on_line o' st')

  abbrev peaked : List Node → Rest
  peaked t = record { struck = o.struck; lines = o.lines; rounds = o.rounds; peak = max o.peak (length t); refuted = o.refuted }

  node-again : (b : NodeBody) → NodeTaken n s st b st' → Redone (NodeEntry b)
  unfolding is_entry entry_node
  node-again b T =
      let taken : NodeTaken n s (on_line o st) b (with_entry (on_line o st) T.nodes T.entry) = record {
        few = T.few;
        least = T.least;
        most = T.most;
        low = T.low;
        high = T.high;
        over-low = T.over-low;
        over-high = T.over-high;
        nodes = T.nodes;
        entry = T.entry;
        room = T.room;
        is = refl;
      } in
      (peaked T.nodes, subst (NodeTaken n s (on_line o st) b) (ap (on_line (peaked T.nodes)) T.is) taken)

  set-again : (kind : SetKind) (b : SetBody) → SetTaken n s st kind b st' → Redone (SetEntry kind b)
  set-again kind b T =
      let taken : SetTaken n s (on_line o st) kind b (with_entry (on_line o st) T.nodes T.entry) =
      record { few = T.few; within = T.within; byte = T.byte; nodes = T.nodes; entry = T.entry; room = T.room; is = refl } in
      (peaked T.nodes, subst (SetTaken n s (on_line o st) kind b) (ap (on_line (peaked T.nodes)) T.is) taken)

  witness-again : (v : ℕ) (b : Bool) → WitnessTaken n st v b st' → Redone (Witness v b)
  witness-again v b T =
      let taken : WitnessTaken n (on_line o st) v b
      (with_witness (on_line o st) (assigned b st.positive v) (assigned (not b) st.negative v)) =
      record { least = T.least; most = T.most; new-positive = T.new-positive; new-negative = T.new-negative; is = refl } in
      (o, subst (WitnessTaken n (on_line o st) v b) (ap (on_line o) T.is) taken)

  strike-again : (k : MemberNo) → StrikeTaken st k.0 st' → Redone (Strike k)
  strike-again k T = (o, ap (on_line o) T.is)

  other-again : (r : Record) → Taken n s st r st' → is_line r ≡ false → Redone r
  other-again (NodeEntry b) T e = node-again b T
  other-again (Witness v b) T e = witness-again v b T
  other-again (ProofLine rule root) T e = t≢f e
  other-again (Strike k) T e = strike-again k T
  other-again (SetEntry kind b) T e = set-again kind b T
  other-again End T e = absurd T
  other-again CutShort T e = absurd T
  other-again UnknownKind T e = absurd T
  other-again NoRecord T e = absurd T

-- One record more is done last.
retaken-on : (n s : ℕ) (proof : List ℕ) (st : State) (at : ℕ) (st₁ : State) (to : ℕ) (st₂ : State) → Retaken n s proof st at st₁ to →
    number_of (record_at proof to) ≡ 0
    → Redo n s st₁ (record_at proof to) st₂ → Retaken n s proof st at st₂ (to + length_of (record_at proof to))
retaken-on n s proof st at _ _ st₂ done form R = then form R done
retaken-on n s proof st at st₁ to st₂ (then {st₁ = x} first F W) form R =
    then first F (retaken-on n s proof x (at + length_of (record_at proof at)) st₁ to st₂ W form R)

pub retaken-walk : (n s : ℕ) (proof : List ℕ) (st : State) (at : ℕ) (st' : State) (to : ℕ) → Retaken n s proof st at st' to →
    Walk proof at to
retaken-walk n s proof st at _ _ done = here
retaken-walk n s proof st at st' to (then {st₁ = x} form F W) = past form
    (retaken-walk n s proof x (at + length_of (record_at proof at)) st' to W)

-- `again` does them.
pub retaken-again : (n s : ℕ) (proof : List ℕ) (k : ℕ) (st : State) (at : ℕ) (st' : State) (to : ℕ) → Retaken n s proof st at st' to →
    to ≤ at + k → again k n s proof st at to ≡ st'
retaken-again n s proof k st at _ _ done h = again-end proof n s k st at at (omega arith)
retaken-again n s proof zero st at st' to (then {st₁ = x} form F W) h =
    absurd (omega (
      arith,
      record-takes (record_at proof at) form,
      walk-most proof (at + length_of (record_at proof at)) to
          (retaken-walk n s proof x (at + length_of (record_at proof at)) st' to W),
      h,
    ))
retaken-again n s proof (suc k) st at st' to (then {st₁ = x} form F W) h =
    let takes : 1 ≤ length_of (record_at proof at) = record-takes (record_at proof at) form in
    let on : at + length_of (record_at proof at) ≤ to = walk-most proof (at + length_of (record_at proof at)) to
    (retaken-walk n s proof x (at + length_of (record_at proof at)) st' to W) in
    again-step proof n s k st at to (omega (arith, takes, on))
    ∙ ap (λ (y : State). again k n s proof y (at + length_of (record_at proof at)) to) (redo-again n s st (record_at proof at) x F)
    ∙ retaken-again n s proof k x (at + length_of (record_at proof at)) st' to W (omega (arith, takes, h))

-- ---- the line's beginning

-- A record that is no line keeps what stays if the line is not accepted, and the members.
same_kept : (n s : ℕ) (st st' : State) (r : Record) → Taken n s st r st' → is_line r ≡ false → (st'.kept ≡ st.kept)
    × (st'.members ≡ st.members)
same_kept n s st st' (NodeEntry b) T e = (sym (ap (λ (x : State). x.kept) T.is), sym (ap (λ (x : State). x.members) T.is))
same_kept n s st st' (Witness v b) T e = (sym (ap (λ (x : State). x.kept) T.is), sym (ap (λ (x : State). x.members) T.is))
same_kept n s st st' (ProofLine rule root) T e = t≢f e
same_kept n s st st' (Strike k) T e = (sym (ap (λ (x : State). x.kept) T.is), sym (ap (λ (x : State). x.members) T.is))
same_kept n s st st' (SetEntry kind b) T e = (sym (ap (λ (x : State). x.kept) T.is), sym (ap (λ (x : State). x.members) T.is))
same_kept n s st st' End T e = absurd T
same_kept n s st st' CutShort T e = absurd T
same_kept n s st st' UnknownKind T e = absurd T
same_kept n s st st' NoRecord T e = absurd T

begun-same : (o : Rest) (st st' : State) → (st'.kept ≡ st.kept) × (st'.members ≡ st.members) → Extends st.nodes st'.nodes →
    st.kept ≤ length st.nodes
    → on_line o (as_begun st') ≡ on_line o (as_begun st)
begun-same o st st' (kept, members) (more, grown) inside =
    ap₂ made (ap₂ (λ (k : ℕ) (t : List Node). take k t) kept grown ∙ take-append-le st.kept st.nodes more inside) kept
    ∙ ap (made₂ (take st.kept st.nodes) st.kept) members
  where
    made₂ : List Node → ℕ → List ℕ → State
    made₂ t k ms = record {
      nodes = t;
      kept = k;
      members = ms;
      struck = o.struck;
      entries = [];
      positive = 0;
      negative = 0;
      lines = o.lines;
      rounds = o.rounds;
      peak = o.peak;
      refuted = o.refuted;
    }

    made : List Node → ℕ → State
    made t k = made₂ t k st'.members

-- A line that is taken begins anew.
line-fresh : (n s : ℕ) (st st' : State) (r : Record) → Taken n s st r st' → is_line r ≡ true → (o : Rest) → on_line o (as_begun st')
    ≡ on_line o st'
line-fresh n s st st' (ProofLine rule root) T e o =
    subst (λ (x : State). on_line o (as_begun x) ≡ on_line o x) T.is
    (ap (made (st.members ++ _ ∷ [])) (take_all (length st.nodes) st.nodes (omega arith)))
  where
    made : List ℕ → List Node → State
    made ms t = record {
      nodes = t;
      kept = length st.nodes;
      members = ms;
      struck = o.struck;
      entries = [];
      positive = 0;
      negative = 0;
      lines = o.lines;
      rounds = o.rounds;
      peak = o.peak;
      refuted = o.refuted;
    }
line-fresh n s st st' (NodeEntry b) T e o = t≢f (sym e)
line-fresh n s st st' (Witness v b) T e o = t≢f (sym e)
line-fresh n s st st' (Strike k) T e o = t≢f (sym e)
line-fresh n s st st' (SetEntry kind b) T e o = t≢f (sym e)
line-fresh n s st st' End T e o = absurd T
line-fresh n s st st' CutShort T e o = absurd T
line-fresh n s st st' UnknownKind T e o = absurd T
line-fresh n s st st' NoRecord T e o = absurd T

begun_fresh : (o : Rest) (t : List Node) (ms : List ℕ) → on_line o (as_begun (begun t ms)) ≡ on_line o (begun t ms)
begun_fresh o t ms = ap made (take_all (length t) t (omega arith))
  where
    made : List Node → State
    made u = record {
      nodes = u;
      kept = length t;
      members = ms;
      struck = o.struck;
      entries = [];
      positive = 0;
      negative = 0;
      lines = o.lines;
      rounds = o.rounds;
      peak = o.peak;
      refuted = o.refuted;
    }

-- ---- every reached state

-- Where the line of a reached state starts, and that its records done again give the state.
pub record LineSoFar (n s : ℕ) (proof : List ℕ) (st : State) (at : ℕ) : Type 0 where
  pub walked : Walk proof 0 at
  pub from : ℕ
  pub starts : (k : ℕ) → at ≤ k → line_start k proof 0 0 at ≡ from
  pub redone : (o : Rest) → (o' : Rest) × Retaken n s proof (on_line o (as_begun st)) from (on_line o' st) at

so-far-on : (n s : ℕ) (proof : List ℕ) (st st' : State) (at : ℕ) → LineSoFar n s proof st at → Taken n s st (record_at proof at) st' →
    number_of (record_at proof at) ≡ 0
    → Extends st.nodes st'.nodes → st.kept ≤ length st.nodes → LineSoFar n s proof st' (at + length_of (record_at proof at))
so-far-on n s proof st st' at L T form grown inside = go (is_line (record_at proof at)) refl
  where
    to : ℕ
    to = at + length_of (record_at proof at)

    go : (b : Bool) → is_line (record_at proof at) ≡ b → LineSoFar n s proof st' to
    go true e = record {
      walked = walk-on proof 0 at L.walked form;
      from = to;
      starts = λ k enough. start-on proof k 0 0 at L.walked form (omega (arith, enough))
          ∙ ap (λ (b : Bool). cond b to (line_start k proof 0 0 at)) e;
      redone = λ o. (
        o,
        subst (λ (x : State). Retaken n s proof x to (on_line o st') to)
            (sym (line-fresh n s st st' (record_at proof at) T e o)) done,
      );
    }
    go false e = record {
      walked = walk-on proof 0 at L.walked form;
      from = L.from;
      starts = λ k enough.
          start-on proof k 0 0 at L.walked form (omega (arith, enough)) ∙ ap (λ (b : Bool). cond b to (line_start k proof 0 0 at)) e
          ∙ L.starts k (omega (arith, enough));
      redone = λ o. more o (L.redone o);
    }
      where
        more : (o : Rest) → (o' : Rest) × Retaken n s proof (on_line o (as_begun st)) L.from (on_line o' st) at
            → (o' : Rest) × Retaken n s proof (on_line o (as_begun st')) L.from (on_line o' st') to
        more o (o', W) =
            let (o'', F) = other-again n s o' st st' (record_at proof at) T e in (
              o'',
              subst (λ (x : State). Retaken n s proof x L.from (on_line o'' st') to)
                  (sym (begun-same o st st' (same_kept n s st st' (record_at proof at) T e) grown inside))
                  (retaken-on n s proof (on_line o (as_begun st)) L.from (on_line o' st) at (on_line o'' st') W form F),
            )

-- THEOREM: in every state reached the line's records done again from where the line starts give the state.
pub so_far : (profile : Bool) (s : ℕ) (text proof : List ℕ) {n : ℕ} {st : State} {at : ℕ} {m : Meant}
    → Reached (in_form Records profile) s text proof n st at m → LineSoFar n s proof st at
so_far profile s text proof {n} (begins {many} {t} {ms} M) =
    record {
      walked = here;
      from = 0;
      starts = λ k enough. start-end proof k 0 0 0 (omega arith);
      redone = λ o. (o, subst (λ (x : State). Retaken n s proof x 0 (on_line o (begun t ms)) 0) (sym (begun_fresh o t ms)) done);
    }
so_far profile s text proof {n} (goes {st} {st'} {at} R T) =
    let (narrow, S) = reached-standing (in_form Records profile) s text proof R in
    so-far-on n s proof st st' at (so_far profile s text proof R) T.1
    (next-form n s st false (record_at proof at) st' (taken-record n s st false (record_at proof at) st' T.1))
    (record-extends S narrow (record_at proof at) st' T.1) S.kept
