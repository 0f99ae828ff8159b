-- The end record's "0 line": in every state that the check reaches it has accepted a 0 line exactly where the node of one of the accepted
-- lines is 0. The idea: by the records taken; a line adds its root's node to the members. Assumes nothing.
use mathlib.Core.Path.{◌≡◌, refl, sym, ap, ◌∙◌, subst}
use mathlib.Core.Logic.{◌↔◌}
use mathlib.Core.Bool.{true, ◌||◌, Bool}
use mathlib.Core.List.{List, [], ◌∷◌, ◌++◌}
use Prim.Native.Nat.{ℕ, suc, ◌+◌}
use native.Mathlib.Omega.{arith}
use native.Mathlib.Decide.{dec_lt}
use lib.ListN.{length, get_or, length-append, length-map, get_or-append}
use lib.Dec.{eqb}
use borrow.Author.Tests.{eqb-true, eq-eqb}
use Rattle.meaning.specs.Operations.{clause_value}
use Rattle.meaning.proofs.Booleans.{t≢f, or_cases, or_left, or_right}
use Rattle.dimacs.specs.Clauses.{formula}
use Rattle.records.specs.declared.Record.{Record}
use Rattle.records.specs.declared.Record.TheVariants.{NodeEntry, Witness, ProofLine, Strike, SetEntry, End, CutShort, UnknownKind}
use Rattle.records.specs.declared.Record.TheVariants.{NoRecord}
use Rattle.commands.specs.declared.Mode.{Mode}
use Rattle.commands.specs.Commands.{Command, recorded, added, struck_out, wrong, finished}
use Rattle.verdict.specs.Steps.{State, with_entry, entry_node}
use Rattle.verdict.specs.Taken.{Meant, Taken}
use Rattle.verdict.specs.Run.{command_in, CommandTaken, Reached, begins, goes}
use Rattle.verdict.specs.Satisfies.{clauses_of}
use Rattle.verdict.proofs.Added.{tries-accepted}
use Rattle.verdict.proofs.Standing.{valued-length}
use Rattle.verdict.proofs.Values.{clause-values, clause-members}
use Rattle.demands.specs.Leaving.{ZeroLine}

last-at : (xs : List ℕ) (x : ℕ) → get_or (xs ++ x ∷ []) (length xs) 0 ≡ x
last-at [] x = refl
last-at (y ∷ xs) x = last-at xs x

-- the members are the first c and the lines'
record Flagged (c : ℕ) (st : State) : Type 0 where
  counted : length st.members ≡ c + st.lines
  to : st.refuted ≡ true → ZeroLine c st
  from : ZeroLine c st → st.refuted ≡ true

same-flagged : (c : ℕ) (st st' : State) → st.members ≡ st'.members → st.lines ≡ st'.lines → st.refuted ≡ st'.refuted → Flagged c st →
    Flagged c st'
same-flagged c st st' m l r F = record {
  counted = ap length (sym m) ∙ F.counted ∙ ap (λ (k : ℕ). c + k) l;
  to = λ e. let Z : ZeroLine c st = F.to (r ∙ e) in record
      { line = Z.line; accepted = omega (arith, Z.accepted); is_zero = ap (λ (x : List ℕ). get_or x (c + Z.line) 0) (sym m) ∙ Z.is_zero };
  from = λ Z. sym r ∙ F.from (record {
    line = Z.line;
    accepted = omega (arith, Z.accepted);
    is_zero =
        ap (λ (x : List ℕ). get_or x (c + Z.line) 0) m ∙ Z.is_zero;
  });
}

module _ (s n c : ℕ) (st : State) (F : Flagged c st) where
  -- one more member, and whether it is 0
  line-flagged : (g : ℕ) (st' x : State) → x ≡ st' → x.members ≡ st.members ++ g ∷ [] → x.lines ≡ suc st.lines → x.refuted
      ≡ (st.refuted || eqb g 0)
      → Flagged c st'
  line-flagged g st' x is members lines refuted =
      let ms : List ℕ = st.members in
      subst (Flagged c) is (record {
        counted = ap length members ∙ length-append ms (g ∷ []) ∙ omega (arith, F.counted, lines);
        to = λ e. or_cases st.refuted (eqb g 0) (sym refuted ∙ e)
            (λ y. let Z : ZeroLine c st = F.to y in
            record {
              line = Z.line;
              accepted = omega (arith, Z.accepted, lines);
              is_zero =
                  ap (λ (w : List ℕ). get_or w (c + Z.line) 0) members ∙ get_or-append ms (g ∷ []) 0 (c + Z.line)
                  (omega (arith, F.counted, Z.accepted)) ∙ Z.is_zero;
            })
            (λ y. record {
              line = st.lines;
              accepted = omega (arith, lines);
              is_zero = ap (λ (w : List ℕ). get_or w (c + st.lines) 0) members ∙ ap (λ (k : ℕ). get_or (ms ++ g ∷ []) k 0) (sym F.counted)
                  ∙ last-at ms g ∙ eqb-true g 0 y;
            });
        from = λ Z. elim (dec_lt Z.line st.lines) [
          | yes p ↦ refuted ∙ or_left st.refuted (eqb g 0) (F.from (record {
            line = Z.line;
            accepted = p;
            is_zero = sym (get_or-append ms (g ∷ []) 0 (c + Z.line) (omega (arith, F.counted)))
                ∙ sym (ap (λ (w : List ℕ). get_or w (c + Z.line) 0) members) ∙ Z.is_zero;
          }))
          | no p ↦
              let here : length ms ≡ c + Z.line = omega (arith, F.counted, Z.accepted, lines) in
              refuted ∙ or_right st.refuted (eqb g 0)
              (eq-eqb g 0 (sym (last-at ms g) ∙ ap (λ (k : ℕ). get_or (ms ++ g ∷ []) k 0) here
              ∙ sym (ap (λ (w : List ℕ). get_or w (c + Z.line) 0) members) ∙ Z.is_zero))
        ];
      })

  record-flagged : (r : Record) (st' : State) → Taken n s st r st' → Flagged c st'
  record-flagged (NodeEntry b) st' T =
      same-flagged c st st' (ap (λ (x : State). x.members) T.is) (ap (λ (x : State). x.lines) T.is)
      (ap (λ (x : State). x.refuted) T.is) F
  record-flagged (Witness v b) st' T =
      same-flagged c st st' (ap (λ (x : State). x.members) T.is) (ap (λ (x : State). x.lines) T.is)
      (ap (λ (x : State). x.refuted) T.is) F
  record-flagged (ProofLine rule root) st' T = line-flagged (entry_node st root.0) st' _ T.is refl refl refl
  record-flagged (Strike k) st' T =
      same-flagged c st st' (ap (λ (x : State). x.members) T.is) (ap (λ (x : State). x.lines) T.is)
      (ap (λ (x : State). x.refuted) T.is) F
  record-flagged (SetEntry kind b) st' T =
      same-flagged c st st' (ap (λ (x : State). x.members) T.is) (ap (λ (x : State). x.lines) T.is)
      (ap (λ (x : State). x.refuted) T.is) F
  record-flagged End st' T = absurd T
  record-flagged CutShort st' T = absurd T
  record-flagged UnknownKind st' T = absurd T
  record-flagged NoRecord st' T = absurd T

  step-flagged : (profile : Bool) (cmd : Command) (st' : State) → CommandTaken profile n s st cmd st' → Flagged c st'
  step-flagged profile (recorded r more) st' T = record-flagged r st' T.1
  step-flagged profile (added ls) st' T =
      let (line, peak, is) = tries-accepted profile n s (with_entry st T.nodes T.node) T.node st' profile ls T.tried in
      line-flagged T.node st' _ is refl refl refl
  step-flagged profile (struck_out ls) st' T =
      same-flagged c st st' (ap (λ (x : State). x.members) T.is) (ap (λ (x : State). x.lines) T.is)
      (ap (λ (x : State). x.refuted) T.is) F
  step-flagged profile (wrong number offset) st' T = absurd T
  step-flagged profile finished st' T = absurd T

module _ (mode : Mode) (s : ℕ) (text proof : List ℕ) where
  reached-flagged : {n : ℕ} {st : State} {at : ℕ} {m : Meant} → Reached mode s text proof n st at m →
      Flagged (length (clauses_of (formula text))) st
  reached-flagged (begins {many} {t} {ms} {fs} M) = record {
    counted = valued-length t (length t) ms fs (clause-values s text M) ∙ ap length (clause-members s text M)
        ∙ length-map (clauses_of (formula text)) clause_value ∙ omega arith;
    to = λ e. t≢f (sym e);
    from = λ Z. absurd (omega (arith, Z.accepted));
  }
  reached-flagged {n} (goes {st} {st'} {at} R T) = step-flagged s n (length (clauses_of (formula text))) st (reached-flagged R)
      mode.consequence (command_in mode proof n at) st' T

  -- "20: end without a 0 line": a 0 line was accepted exactly where one of the accepted lines' nodes is 0.
  pub zero-line-exactly : {n : ℕ} {st : State} {at : ℕ} {m : Meant} → Reached mode s text proof n st at m →
      (st.refuted ≡ true) ↔ ZeroLine (length (clauses_of (formula text))) st
  zero-line-exactly R = ((reached-flagged R).to, (reached-flagged R).from)
