-- The marks of every reached state are those that the proof's bytes fix: 1 for the members that the records taken strike out, else 0. The
-- idea: a record adds its striking, a line a mark of 0; the record that is refused begins at the place that is given. Assumes nothing.
use mathlib.Core.Path.{◌≡◌, refl, sym, ap, ◌∙◌, subst}
use mathlib.Core.Logic.{◌≢◌}
use mathlib.Core.Bool.{Bool, true, false, ◌||◌, cond}
use mathlib.Core.List.{List, [], ◌∷◌, ◌++◌, append_assoc, append-nil}
use Prim.Native.Nat.{ℕ, zero, suc, ◌+◌, ◌-◌, ◌≤◌, ◌<◌}
use native.Mathlib.Omega.{arith}
use native.Mathlib.Decide.{dec_lt, ℕ_discrete}
use lib.ListN.{length, get_or, set, length-append, length-replicate, length-set, get_or-append, get_or-eq_default}
use lib.Seq.{get_or-append_seam, get_or-set_same, get_or-set_other}
use lib.Dec.{eqb, ltb}
use borrow.Author.Tests.{lt-ltb, le-ltb, ltb-true, eq-eqb, ne_eqb}
use Rattle.meaning.proofs.Booleans.{and_both}
use Rattle.table.specs.Nodes.{Node}
use Rattle.table.proofs.Zeros.{zeros-at}
use Rattle.records.specs.declared.Record.{Record}
use Rattle.records.specs.declared.Record.TheVariants.{NodeEntry, Witness, ProofLine, Strike, SetEntry, End, CutShort, UnknownKind}
use Rattle.records.specs.declared.Record.TheVariants.{NoRecord}
use Rattle.records.specs.Records.{record_at, length_of}
use Rattle.records.proofs.Laws.{record-takes, record-within}
use Rattle.commands.specs.declared.Mode.{Mode}
use Rattle.commands.specs.declared.Form.TheVariants.{Records}
use Rattle.commands.specs.Commands.{Command, recorded, added, struck_out, wrong, finished, in_form}
use Rattle.verdict.specs.Steps.{State, begun, with_entry, with_marks, stop, entry_node, is_live}
use Rattle.verdict.specs.Check.{step}
use Rattle.verdict.specs.Taken.{Meant, StrikeTaken, Taken}
use Rattle.verdict.specs.Run.{command_in, CommandTaken, Reached, begins, goes, Later, here, after}
use Rattle.verdict.specs.Marks.{struck_by, strikings_from, strikings_before, is_in, mark_of}
use Rattle.verdict.proofs.Steps.{next-form, taken-record}
use Rattle.verdict.proofs.Added.{tries-accepted}
use Rattle.verdict.proofs.Ends.{reached-standing}
use Rattle.verdict.proofs.Offsets.{Offset, at-record, at-striking, behind-end, Placed, shut-placed}

-- ---- lists

is_in-append : (k j : ℕ) (js : List ℕ) → is_in k (js ++ j ∷ []) ≡ (is_in k js || eqb k j)
unfolding is_in
is_in-append k j [] = go (eqb k j)
  where
    go : (c : Bool) → (c || false) ≡ c
    go true = refl
    go false = refl
is_in-append k j (i ∷ js) = go (eqb k i) (is_in-append k j js)
  where
    go : (c : Bool) → is_in k (js ++ j ∷ []) ≡ (is_in k js || eqb k j) → (c || is_in k (js ++ j ∷ [])) ≡ ((c || is_in k js) || eqb k j)
    go true e = refl
    go false e = e

-- ---- one record

-- So many marks, 1 for the members in the list, which are among them, else 0.
record Marked (many : ℕ) (strikings marks : List ℕ) : Type 0 where
  long : length marks ≡ many
  among : (k : ℕ) → many ≤ k → is_in k strikings ≡ false
  are : (k : ℕ) → get_or marks k 0 ≡ mark_of strikings k

-- an accepted line's
line_marked : (many : ℕ) (ks marks : List ℕ) → Marked many ks marks → Marked (suc many) ks (marks ++ 0 ∷ [])
line_marked many ks marks M = record {
  long = length-append marks (0 ∷ []) ∙ omega (arith, M.long);
  among = λ k p. M.among k (omega arith);
  are = λ k. elim (dec_lt k (length marks)) [
    | yes p ↦ get_or-append marks (0 ∷ []) 0 k p ∙ M.are k
    | no p ↦ above k (omega arith) ∙ sym (ap (λ (c : Bool). cond c 1 0) (M.among k (omega (arith, M.long))))
  ];
}
  where
    above : (k : ℕ) → length marks ≤ k → get_or (marks ++ 0 ∷ []) k 0 ≡ 0
    above k p = elim (dec_lt k (length (marks ++ 0 ∷ []))) [
      | yes q ↦ let here : k ≡ length marks = omega (arith, length-append marks (0 ∷ [])) in
          ap (λ (j : ℕ). get_or (marks ++ 0 ∷ []) j 0) here
          ∙ get_or-append_seam marks 0 [] 0
      | no q ↦ get_or-eq_default (marks ++ 0 ∷ []) 0 (omega arith)
    ]

-- a striking's
strike-marked : (many : ℕ) (ks marks : List ℕ) (j : ℕ) → j < many → Marked many ks marks → Marked many (ks ++ j ∷ []) (set marks j 1)
strike-marked many ks marks j inside M = record {
  long = length-set marks j 1 ∙ M.long;
  among = λ k p. is_in-append k j ks ∙ rw (M.among k p, ne_eqb k j (λ e. omega arith));
  are = λ k. elim (ℕ_discrete k j) [
    | yes e ↦ rw e (get_or-set_same marks j 1 0 (omega (arith, M.long)) ∙ sym (mark-in j))
    | no e ↦ get_or-set_other marks j k 1 0 e ∙ M.are k ∙ sym (mark-other k e)
  ];
}
  where
    mark-in : (k : ℕ) → mark_of (ks ++ k ∷ []) k ≡ 1
    mark-in k = go (is_in k ks) (is_in-append k k ks ∙ ap (λ (c : Bool). is_in k ks || c) (eq-eqb k k refl))
      where
        go : (c : Bool) → is_in k (ks ++ k ∷ []) ≡ (c || true) → mark_of (ks ++ k ∷ []) k ≡ 1
        go true e = rw e
        go false e = rw e

    mark-other : (k : ℕ) → k ≢ j → mark_of (ks ++ j ∷ []) k ≡ mark_of ks k
    mark-other k e = go (is_in k ks) refl (is_in-append k j ks ∙ ap (λ (c : Bool). is_in k ks || c) (ne_eqb k j e))
      where
        go : (c : Bool) → is_in k ks ≡ c → is_in k (ks ++ j ∷ []) ≡ (is_in k ks || false) → mark_of (ks ++ j ∷ []) k ≡ mark_of ks k
        go true p e = rw (e, p)
        go false p e = rw (e, p)

module _ (n s : ℕ) (st : State) (ks : List ℕ) (M : Marked (length st.members) ks st.struck) where
  -- neither member nor mark
  same-marked : (st₁ st' : State) → st₁ ≡ st' → st₁.members ≡ st.members → st₁.struck ≡ st.struck →
      Marked (length st'.members) (ks ++ []) st'.struck
  same-marked st₁ st' is m e = subst (λ (x : State). Marked (length x.members) (ks ++ []) x.struck) is (rw (append-nil ks, m, e) M)

  record-marked : (r : Record) (st' : State) → Taken n s st r st' → Marked (length st'.members) (ks ++ struck_by r) st'.struck
  unfolding is_live
  record-marked (NodeEntry b) st' T = same-marked _ st' T.is refl refl
  record-marked (Witness v b) st' T = same-marked _ st' T.is refl refl
  record-marked (ProofLine rule root) st' T =
      let g : ℕ = entry_node st root.0 in
      let more : length (st.members ++ g ∷ []) ≡ suc (length st.members) = length-append st.members (g ∷ []) ∙ omega arith in
      subst (λ (x : State). Marked (length x.members) (ks ++ []) x.struck) T.is
      (rw (append-nil ks, more) (line_marked (length st.members) ks st.struck M))
  record-marked (Strike k) st' T =
      let (inside, _) = and_both (ltb k.0 (length st.members)) _ T.live in
      subst (λ (x : State). Marked (length x.members) (ks ++ k.0 ∷ []) x.struck) T.is
      (strike-marked (length st.members) ks st.struck k.0 (ltb-true k.0 (length st.members) inside) M)
  record-marked (SetEntry kind b) st' T = same-marked _ st' T.is refl refl
  record-marked End st' T = absurd T
  record-marked CutShort st' T = absurd T
  record-marked UnknownKind st' T = absurd T
  record-marked NoRecord st' T = absurd T

-- ---- the run

-- In a reached state: the strikings so far, as the records read from the proof's start give them.
record Struck (proof : List ℕ) (st : State) (at : ℕ) : Type 0 where
  steps : ℕ
  few : steps ≤ at
  within : at ≤ length proof
  so_far : List ℕ
  marked : Marked (length st.members) so_far st.struck
  run : (j end : ℕ) → at ≤ end → strikings_from (steps + j) proof 0 end ≡ so_far ++ strikings_from j proof at end

module _ (profile : Bool) (s : ℕ) (text proof : List ℕ) where
  goes-struck : (n : ℕ) (st st' : State) (at : ℕ) → Taken n s st (record_at proof at) st' → Struck proof st at →
      Struck proof st' (at + length_of (record_at proof at))
  unfolding strikings_from
  goes-struck n st st' at T F =
      let r : Record = record_at proof at in
      let form = next-form n s st false r st' (taken-record n s st false r st' T) in
      let takes : 1 ≤ length_of r = record-takes r form in
      let inside : at + length_of r ≤ length proof = record-within proof at refl form in
      record {
        steps = suc F.steps;
        few = omega (arith, F.few);
        within = inside;
        so_far = F.so_far ++ struck_by r;
        marked = record-marked n s st F.so_far F.marked r st' T;
        run = λ j end p.
            let same : suc F.steps + j ≡ F.steps + suc j = omega arith in
            ap (λ (k : ℕ). strikings_from k proof 0 end) same ∙ F.run (suc j) end (omega arith)
            ∙ ap (λ (c : Bool). F.so_far ++ cond c (struck_by r ++ strikings_from j proof (at + length_of r) end) [])
            (lt-ltb at end (omega arith))
            ∙ sym (append_assoc F.so_far (struck_by r) (strikings_from j proof (at + length_of r) end));
      }

  begun-struck : (t : List Node) (ms : List ℕ) → Struck proof (begun t ms) 0
  unfolding is_in
  begun-struck t ms = record {
    steps = 0;
    few = omega arith;
    within = omega arith;
    so_far = [];
    marked = record { long = length-replicate (length ms) 0; among = λ k p. refl; are = λ k. zeros-at (length ms) k };
    run = λ j end p. let z : 0 + j ≡ j = omega arith in ap (λ (k : ℕ). strikings_from k proof 0 end) z;
  }

  reached-struck : {n : ℕ} {st : State} {at : ℕ} {m : Meant} → Reached (in_form Records profile) s text proof n st at m → Struck proof st at
  reached-struck (begins {many} {t} {ms} {fs} M) = begun-struck t ms
  reached-struck {n} (goes {st} {st'} {at} R T) = goes-struck n st st' at T.1 (reached-struck R)

  -- where nothing is struck out from the place on up to the end
  marks-at : {n : ℕ} {st : State} {at : ℕ} {m : Meant} → Reached (in_form Records profile) s text proof n st at m → (end : ℕ) → at ≤ end →
      ((j : ℕ) → strikings_from j proof at end ≡ [])
      → (k : ℕ) → get_or st.struck k 0 ≡ mark_of (strikings_before proof end) k
  marks-at {n} {st} {at} R end p none k =
      let F : Struck proof st at = reached-struck R in
      let rest : ℕ = length proof - F.steps in
      let all : length proof ≡ F.steps + rest = omega (arith, F.few, F.within) in
      let whole : strikings_before proof end ≡ F.so_far =
      ap (λ (j : ℕ). strikings_from j proof 0 end) all ∙ F.run rest end p ∙ ap (λ (x : List ℕ). F.so_far ++ x) (none rest)
      ∙ append-nil F.so_far in
      F.marked.are k ∙ ap (λ (x : List ℕ). mark_of x k) (sym whole)

  none_here : (at j : ℕ) → strikings_from j proof at at ≡ []
  unfolding strikings_from
  none_here at zero = refl
  none_here at (suc j) = ap (λ (c : Bool). cond c
      (struck_by (record_at proof at) ++ strikings_from j proof (at + length_of (record_at proof at)) at) []) (le-ltb at at (omega arith))

  none-at-end : (at : ℕ) → record_at proof at ≡ End → (j : ℕ) → strikings_from j proof at (at + 1) ≡ []
  unfolding strikings_from
  none-at-end at is zero = refl
  none-at-end at is (suc j) = rw (is, none_here (at + 1) j, lt-ltb at (at + 1) (omega arith))

  -- In every reached state a mark is 1 exactly where a striking that was taken has the member's number, else 0.
  pub marks-are : {n : ℕ} {st : State} {at : ℕ} {m : Meant} → Reached (in_form Records profile) s text proof n st at m → (k : ℕ) →
      get_or st.struck k 0 ≡ mark_of (strikings_before proof at) k
  marks-are {n} {st} {at} R k = marks-at R at (omega arith) (none_here at) k

  -- The same at the place where a record is refused or ends the proof, which for 11 is behind it.
  pub marks-stopped : {n : ℕ} {st : State} {at : ℕ} {m : Meant} → Reached (in_form Records profile) s text proof n st at m →
      (number offset : ℕ)
      → step profile n s st (command_in (in_form Records profile) proof n at) ≡ stop number offset → (k : ℕ) → get_or st.struck k 0
      ≡ mark_of (strikings_before proof (at + offset)) k
  unfolding step
  marks-stopped {n} {st} {at} R number offset e k =
      go (subst (Placed st (record_at proof at)) e
      (shut-placed profile n s st (ltb (at + length_of (record_at proof at)) (length proof)) (record_at proof at)))
    where
      here-are : offset ≡ 0 → get_or st.struck k 0 ≡ mark_of (strikings_before proof (at + offset)) k
      here-are z = let same : at ≡ at + offset = omega arith in marks-are R k ∙ ap (λ (p : ℕ). mark_of (strikings_before proof p) k) same

      go : Offset st (record_at proof at) number offset → get_or st.struck k 0 ≡ mark_of (strikings_before proof (at + offset)) k
      go (at-record z _ _) = here-are z
      go (at-striking z _ _ _ _) = here-are z
      go (behind-end z _ is) = rw z (marks-at R (at + 1) (omega arith) (none-at-end at is) k)

-- ---- every form

module _ (mode : Mode) (s : ℕ) (text proof : List ℕ) where
  -- As many marks as members.
  marks-long : {n : ℕ} {st : State} {at : ℕ} {m : Meant} → Reached mode s text proof n st at m → length st.struck ≡ length st.members
  marks-long R = (reached-standing mode s text proof R).1.marks

  -- No member is struck that is not there.
  pub marks-above : {n : ℕ} {st : State} {at : ℕ} {m : Meant} → Reached mode s text proof n st at m → (k : ℕ) → length st.members ≤ k →
      get_or st.struck k 0 ≡ 0
  marks-above {n} {st} R k p = get_or-eq_default st.struck 0 (omega (arith, marks-long R))

-- ---- what stays

-- "numbers are not reused, nodes stay": a striking changes the mark alone.
pub members_kept : {st st' : State} {k : ℕ} → StrikeTaken st k st' → (st'.members ≡ st.members) × (st'.nodes ≡ st.nodes)
    × (st'.entries ≡ st.entries)
members_kept T = (
  sym (ap (λ (x : State). x.members) T.is),
  sym (ap (λ (x : State). x.nodes) T.is),
  sym (ap (λ (x : State). x.entries) T.is),
)

-- "a mark [..], 1 once struck, [..] which stays"; a member's number is its own.
record Stays (k : ℕ) (st st' : State) : Type 0 where
  mark : get_or st.struck k 0 ≡ 1 → get_or st'.struck k 0 ≡ 1
  member : k < length st.members → (k < length st'.members) × (get_or st'.members k 0 ≡ get_or st.members k 0)

module _ (n s : ℕ) (k : ℕ) where
  same-stays : (st st₁ st' : State) → st₁ ≡ st' → st₁.members ≡ st.members → st₁.struck ≡ st.struck → Stays k st st'
  same-stays st st₁ st' is m e = subst (Stays k st) is (record { mark = λ one. rw e one; member = λ p. rw m (p, refl) })

  one_inside : (marks : List ℕ) (j : ℕ) → get_or marks j 0 ≡ 1 → j < length marks
  one_inside marks j one = elim (dec_lt j (length marks)) [
    | yes p ↦ p
    | no p ↦ let z : get_or marks j 0 ≡ 0 = get_or-eq_default marks 0 (omega arith) in absurd (omega arith)
  ]

  -- a member appended with a mark of 0, and one struck out
  appended : {x : State} (st : State) (g : ℕ) → x.struck ≡ st.struck ++ 0 ∷ [] → x.members ≡ st.members ++ g ∷ [] → Stays k st x
  appended st g marks members = record {
    mark = λ one. rw marks (get_or-append st.struck (0 ∷ []) 0 k (one_inside st.struck k one) ∙ one);
    member = λ p. rw members (omega (arith, length-append st.members (g ∷ [])), get_or-append st.members (g ∷ []) 0 k p);
  }

  struck-stays : (st : State) (j : ℕ) → Stays k st (with_marks st (set st.struck j 1))
  struck-stays st j = record {
    mark = λ one. elim (ℕ_discrete k j) [
      | yes e ↦ rw (sym e) (get_or-set_same st.struck k 1 0 (one_inside st.struck k one))
      | no e ↦ get_or-set_other st.struck j k 1 0 e ∙ one
    ];
    member = λ p. (p, refl);
  }

  record-stays : (st : State) (r : Record) (st' : State) → Taken n s st r st' → Stays k st st'
  record-stays st (NodeEntry b) st' T = same-stays st _ st' T.is refl refl
  record-stays st (Witness v b) st' T = same-stays st _ st' T.is refl refl
  record-stays st (ProofLine rule root) st' T = subst (Stays k st) T.is (appended st (entry_node st root.0) refl refl)
  record-stays st (Strike j) st' T = subst (Stays k st) T.is (struck-stays st j.0)
  record-stays st (SetEntry kind b) st' T = same-stays st _ st' T.is refl refl
  record-stays st End st' T = absurd T
  record-stays st CutShort st' T = absurd T
  record-stays st UnknownKind st' T = absurd T
  record-stays st NoRecord st' T = absurd T

  step_stays : (profile : Bool) (st : State) (c : Command) (st' : State) → CommandTaken profile n s st c st' → Stays k st st'
  step_stays profile st (recorded r more) st' T = record-stays st r st' T.1
  step_stays profile st (added ls) st' T =
      let (line, peak, is) = tries-accepted profile n s (with_entry st T.nodes T.node) T.node st' profile ls T.tried in
      subst (Stays k st) is (appended st T.node refl refl)
  step_stays profile st (struck_out ls) st' C = subst (Stays k st) C.is (struck-stays st C.place)
  step_stays profile st (wrong number offset) st' T = absurd T
  step_stays profile st finished st' T = absurd T

module _ (mode : Mode) (s : ℕ) (proof : List ℕ) {n : ℕ} {st : State} {at : ℕ} (k : ℕ) where
  later-stays : {st' : State} {at' : ℕ} → Later mode s proof n st at st' at' → Stays k st st'
  later-stays here = record { mark = λ one. one; member = λ p. (p, refl) }
  later-stays (after {st₁} {st₂} {at₁} L T) =
      let F : Stays k st st₁ = later-stays L in
      let G : Stays k st₁ st₂ = step_stays n s k mode.consequence st₁ (command_in mode proof n at₁) st₂ T in
      record {
        mark = λ one. G.mark (F.mark one);
        member = λ p. let (inside, same) = F.member p in ((G.member inside).0, (G.member inside).1 ∙ same);
      }

  -- A struck member stays struck,
  pub mark-stays : {st' : State} {at' : ℕ} → Later mode s proof n st at st' at' → get_or st.struck k 0 ≡ 1 → get_or st'.struck k 0 ≡ 1
  mark-stays L = (later-stays L).mark

  -- and a member's number names it to the end.
  pub member-stays : {st' : State} {at' : ℕ} → Later mode s proof n st at st' at' → k < length st.members → get_or st'.members k 0
      ≡ get_or st.members k 0
  member-stays L p = ((later-stays L).member p).1
