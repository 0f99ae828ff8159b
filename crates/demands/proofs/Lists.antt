-- What the check leaves in every lent place: nothing changed, all zero, or the table in good order with the members' values as formula and
-- proof fix them. The idea: what a reached state leaves, written into the lent lists and read back. Assumes nothing.
use mathlib.Core.Path.{◌≡◌, refl, sym, ap, ◌∙◌, subst}
use mathlib.Core.Logic.{◌≢◌}
use mathlib.Core.Bool.{Bool, true, false}
use mathlib.Core.List.{List, [], ◌∷◌, ◌++◌, map}
use Prim.Native.Nat.{ℕ, zero, suc, ◌+◌, ◌-◌, ◌*◌, ◌≤◌, ◌<◌}
use native.Mathlib.Omega.{arith}
use native.Mathlib.Decide.{dec_lt}
use lib.ListN.{length, get_or, take, length-append, length-map, length-replicate, get_or-append, get_or-eq_default}
use lib.Seq.{length-take-le, get_or-take}
use lib.Dec.{eqb, leb}
use borrow.Author.Tests.{eqb-true, leb-true}
use Rattle.meaning.specs.Diagram.{Assignment, Diagram, value}
use Rattle.meaning.specs.Operations.{Literal, clause_value}
use Rattle.meaning.proofs.Booleans.{t≢f, and_both}
use Rattle.table.specs.Nodes.{Node, diagram_at}
use Rattle.table.specs.Columns.{size_fits, Columns, columns_made, stored_as}
use Rattle.table.proofs.Growth.{ordered-dropped}
use Rattle.table.proofs.Sizes.{Sized, sized}
use Rattle.table.proofs.Emptied.{stored-emptied}
use Rattle.verdict.specs.Check as verdict
use Rattle.commands.specs.declared.Form.TheVariants.{Records}
use Rattle.commands.specs.declared.Mode.{Mode}
use Rattle.commands.specs.Commands.{is_drat, in_form}
use Rattle.verdict.specs.Steps.{State, emptied as bare, Step, stop, is_entry, entry_node}
use Rattle.verdict.specs.Check.{step, Verdict, CheckOutcome, lent_fits, zeros, outcome, refused_formula, left}
use Rattle.verdict.specs.Taken.{Function, Meant, entry_meant, Valued}
use Rattle.verdict.specs.Run.{command_in, clause_functions, stands_for, Reached, ProofNumber}
use Rattle.verdict.specs.Marks.{strikings_before, mark_of}
use Rattle.verdict.proofs.Standing.{Standing, valued-length, valued-at, entry-valued}
use Rattle.verdict.proofs.Ends.{reached-standing, ended}
use Rattle.verdict.proofs.Numbers.{Closed, formula-refused, proof-ended, proof-tried, ended-closed}
use Rattle.verdict.proofs.Refuted.{reached-end}
use Rattle.verdict.proofs.Members.{lines-there, members-left}
use Rattle.verdict.proofs.Marks.{marks-above, marks-are, marks-stopped}
use Rattle.verdict.proofs.Onward.{reached-onward}
use Rattle.verdict.proofs.Peak.{Reported, peak-reported}
use Rattle.demands.specs.Calls.{nodes_of_columns, value_at}
use Rattle.demands.specs.Texts.{clauses_before}
use Rattle.demands.specs.Leaving.{Handed, checked, Fits, places, clauses_read, lines_of, Emptied, Member, Kept, Leaves, unchanged}
use Rattle.demands.specs.Leaving.{emptied, kept}
use Rattle.demands.proofs.Lent.{read_back, left-good}
use Rattle.demands.proofs.Ending.{done, fits?, checked-fits, checked-seven}
use Rattle.demands.proofs.TextMembers.{drat-matches, drat-stopped}
use Rattle.demands.proofs.Modes.{mode-is}

-- ---- lists

zero-at : (k i : ℕ) → ◌≡◌ {A = ℕ} (get_or (zeros k) i 0) 0
zero-at zero i = refl
zero-at (suc k) zero = refl
zero-at (suc k) (suc i) = zero-at k i

get_d_past : (xs : List ℕ) (k i : ℕ) → length xs ≤ i → get_or (xs ++ zeros k) i 0 ≡ 0
get_d_past [] k i p = zero-at k i
get_d_past (x ∷ xs) k zero p = absurd (omega arith)
get_d_past (x ∷ xs) k (suc i) p = get_d_past xs k i (omega arith)

pub get_or-second : (fs gs : List Function) (j : ℕ) (other : Function) → get_or (fs ++ gs) (length fs + j) other ≡ get_or gs j other
get_or-second [] gs j other = let z : 0 + j ≡ j = omega arith in ap (λ (k : ℕ). get_or gs k other) z
get_or-second (f ∷ fs) gs j other =
    let z : suc (length fs) + j ≡ suc (length fs + j) = omega arith in ap (λ (k : ℕ). get_or (f ∷ (fs ++ gs)) k other) z
    ∙ get_or-second fs gs j other

clause-at : (cs : List (List Literal)) (k : ℕ) → k < length cs → (other : Function) → get_or (map clause_value cs) k other
    ≡ clause_value (get_or cs k [])
clause-at [] k p other = absurd (omega arith)
clause-at (c ∷ cs) zero p other = refl
clause-at (c ∷ cs) (suc k) p other = clause-at cs k (omega arith) other

-- ---- sizes

pub record Sizes (i : Handed) : Type 0 where
  pub columns : Sized i.columns.vars i.columns.lows i.columns.highs i.columns.heads i.columns.links
  pub members : 2048 ≤ length i.members
  pub struck : length i.struck ≡ length i.members

pub sizes : (i : Handed) → Fits i → Sizes i
unfolding lent_fits
sizes i e =
    let (size, lists) = and_both (size_fits i.columns.vars i.columns.lows i.columns.highs i.columns.heads
    i.columns.links) _ e in
    let (members, marks) = and_both (leb 2048 (length i.members)) _ lists in
    record {
      columns = sized i.columns.vars i.columns.lows i.columns.highs i.columns.heads i.columns.links size;
      members = leb-true 2048 (length i.members) members;
      struck = eqb-true (length i.struck) (length i.members) (and_both (eqb (length i.struck) (length i.members)) _ marks).0;
    }

-- ---- a refused formula

module _ (i : Handed) (S : Sizes i) where
  zeroed : stored_as (places i) bare ≡ columns_made (zeros (places i)) (zeros (places i)) (zeros (places i)) (zeros (2 * places i))
      (zeros (places i))
  zeroed = stored-emptied (places i) S.columns.least

  refused-emptied : (number place peak : ℕ) → (1 ≤ number) × (number ≤ 8) × (number ≢ 7)
      → Reported (places i) S.columns.least i.mode i.text i.proof (refused_formula number place peak) →
      Emptied i (done i (refused_formula number place peak))
  unfolding outcome
  refused-emptied number place peak named P = record {
    number = named;
    in-formula = refl;
    lines = refl;
    rounds = refl;
    count = refl;
    peak = (P.least, P.most);
    filled = P.clause-full;
    vars = ap (λ (c : Columns). c.vars) zeroed;
    lows = ap (λ (c : Columns). c.lows) zeroed ∙ ap zeros (sym S.columns.lows);
    highs = ap (λ (c : Columns). c.highs) zeroed ∙ ap zeros (sym S.columns.highs);
    heads = ap (λ (c : Columns). c.heads) zeroed ∙ ap zeros (sym S.columns.heads);
    links = ap (λ (c : Columns). c.links) zeroed ∙ ap zeros (sym S.columns.links);
    members = let z : length i.members - 0 ≡ length i.members = omega arith in ap zeros z;
    struck = let z : length i.members - 0 ≡ length i.struck = omega (arith, S.struck) in ap zeros z;
    scratch = refl;
  }

-- ---- a proof that was judged

module _ (i : Handed) (S : Sizes i) {n : ℕ} {st : State} {at : ℕ} {m : Meant}
    (R : Reached i.mode (places i) i.text i.proof n st at m) (number place peak : ℕ) where
  abbrev t : List Node
  t = take st.kept st.nodes

  abbrev o : CheckOutcome
  o = done i (left number place peak st)

  stands : Standing (places i) n m st
  stands = (reached-standing i.mode (places i) i.text i.proof R).1

  W : Valued t (length t) st.members (stands_for i.mode i.text i.proof st.lines)
  W = members-left (places i) i.text i.mode i.proof R

  len : length t ≡ st.kept
  len = length-take-le st.kept st.nodes stands.kept

  room : length t ≤ places i
  room = omega (arith, len, stands.room S.columns.least, stands.kept)

  back : nodes_of_columns (stored_as (places i) t) (length t) ≡ t
  back = read_back (places i) t

  few : length (take st.lines (lines_of i)) ≡ st.lines
  few = length-take-le st.lines (lines_of i) (lines-there (places i) i.text i.mode i.proof R)

  many : length st.members ≡ length (clauses_read i) + st.lines
  many =
      valued-length t (length t) st.members (stands_for i.mode i.text i.proof st.lines) W
      ∙ length-append (clause_functions i.text) (take st.lines (lines_of i))
      ∙ omega (arith, few, length-map (clauses_read i) clause_value)

  -- a place of the member list, and what it stands for
  member : (k : ℕ) → k < length st.members → Member o k (get_or (stands_for i.mode i.text i.proof st.lines) k (λ a. false))
  unfolding outcome
  member k p =
      let (inside, is) = valued-at t (length t) st.members (stands_for i.mode i.text i.proof st.lines) W k p (λ a. false) in
      let same : get_or (st.members ++ zeros (length i.members - length st.members)) k 0 ≡ get_or st.members k 0 =
      get_or-append st.members _ 0 k p in
      rw (same, back) (inside, is)

  -- what the clauses' places stand for, and the lines'
  clause-there : (k : ℕ) → k < length (clauses_read i) → get_or (stands_for i.mode i.text i.proof st.lines) k (λ a. false)
      ≡ clause_value (get_or (clauses_read i) k [])
  clause-there k p =
      get_or-append (clause_functions i.text) (take st.lines (lines_of i)) (λ a. false) k
      (omega (arith, length-map (clauses_read i) clause_value))
      ∙ clause-at (clauses_read i) k p (λ a. false)

  line-there : (j : ℕ) → j < st.lines
      → get_or (stands_for i.mode i.text i.proof st.lines) (length (clauses_read i) + j) (λ a. false)
      ≡ get_or (lines_of i) j (λ a. false)
  line-there j p =
      ap (λ (k : ℕ). get_or (stands_for i.mode i.text i.proof st.lines) (k + j) (λ a. false))
      (sym (length-map (clauses_read i) clause_value))
      ∙ get_or-second (clause_functions i.text) (take st.lines (lines_of i)) j (λ a. false)
      ∙ get_or-take st.lines (lines_of i) j (λ a. false) p

  -- the marks with zeros above
  marked : (k : ℕ) → get_or (st.struck ++ zeros (length i.members - length st.struck)) k 0 ≡ get_or st.struck k 0
  marked k = elim (dec_lt k (length st.struck)) [
    | yes p ↦ get_or-append st.struck _ 0 k p
    | no p ↦ get_d_past st.struck (length i.members - length st.struck) k (omega arith)
        ∙ sym (get_or-eq_default st.struck 0 (omega arith))
  ]

  judged-kept : ProofNumber i.mode.form number →
      (i.mode.form ≡ Records → (k : ℕ) → get_or st.struck k 0 ≡ mark_of (strikings_before i.proof place) k)
      → (is_drat i.mode.form ≡ true → st.struck ≡ (clauses_before i.mode i.text i.proof place).marks) →
      Reported (places i) S.columns.least i.mode i.text i.proof (left number place peak st) → Kept i o
  unfolding outcome
  judged-kept named marks drat-marks P = record {
    number = named;
    in-proof = refl;
    peak = (P.left, P.most);
    filled = P.proof-full;
    read = reached-end i.mode (places i) i.text i.proof R;
    good = left-good (places i) t (ordered-dropped st.nodes stands.ordered st.kept stands.least stands.kept) room;
    clauses = λ k p. subst (Member o k) (clause-there k p) (member k (omega (arith, many)));
    lines = λ j p. subst (Member o (length (clauses_read i) + j)) (line-there j p)
        (member (length (clauses_read i) + j) (omega (arith, many)));
    marks = λ form k. marked k ∙ marks form k;
    drat-marks = λ form k. marked k ∙ ap (λ (x : List ℕ). get_or x k 0) (drat-marks form);
    above = λ k p. (
      get_d_past st.members (length i.members - length st.members) k (omega (arith, many)),
      marked k ∙ marks-above i.mode (places i) i.text i.proof R k (omega (arith, many)),
    );
    long = (
      length-append st.members (zeros (length i.members - length st.members))
          ∙ omega (arith, length-replicate {A = ℕ} (length i.members - length st.members) 0, stands.many, stands.lines, S.members),
      length-append st.struck (zeros (length i.members - length st.struck))
          ∙ omega (
            arith,
            length-replicate {A = ℕ} (length i.members - length st.struck) 0,
            stands.marks,
            stands.many,
            stands.lines,
            S.members,
            S.struck,
          ),
    );
    scratch = refl;
  }

-- ---- the marks, by the proof's form

module _ (i : Handed) {n : ℕ} {st : State} {at : ℕ} {m : Meant} (R : Reached i.mode (places i) i.text i.proof n st at m) where
  in-form : (mode : Mode) → i.mode ≡ mode → Reached mode (places i) i.text i.proof n st at m
  in-form mode is = subst (λ (x : Mode). Reached x (places i) i.text i.proof n st at m) is R

  abbrev Says : Mode → Step → Type 0
  Says mode x = step mode.consequence n (places i) st (command_in mode i.proof n at) ≡ x

  says-in : (mode : Mode) → i.mode ≡ mode → (x : Step) → Says i.mode x → Says mode x
  says-in mode is x q = ap (λ (y : Mode). step y.consequence n (places i) st (command_in y i.proof n at)) (sym is) ∙ q

  records-tried : i.mode.form ≡ Records → (k : ℕ) → get_or st.struck k 0 ≡ mark_of (strikings_before i.proof at) k
  records-tried form = marks-are i.mode.consequence (places i) i.text i.proof
      (in-form (in_form Records i.mode.consequence) (mode-is form))

  records-stopped : i.mode.form ≡ Records → (number offset : ℕ) → Says i.mode (stop number offset)
      → (k : ℕ) → get_or st.struck k 0 ≡ mark_of (strikings_before i.proof (at + offset)) k
  records-stopped form number offset q =
      marks-stopped i.mode.consequence (places i) i.text i.proof (in-form (in_form Records i.mode.consequence) (mode-is form))
      number offset (says-in (in_form Records i.mode.consequence) (mode-is form) (stop number offset) q)

  drat-tried : is_drat i.mode.form ≡ true → st.struck ≡ (clauses_before i.mode i.text i.proof at).marks
  drat-tried drat = (drat-matches i.mode drat (places i) i.text i.proof R).marks

  drat-ended : is_drat i.mode.form ≡ true → (number offset : ℕ) → Says i.mode (stop number offset) → st.struck
      ≡ (clauses_before i.mode i.text i.proof (at + offset)).marks
  drat-ended drat number offset q = (drat-stopped i.mode drat (places i) i.text i.proof R number offset q).marks

-- For every input: what every lent place holds after the call.
pub check-leaves : (i : Handed) → Leaves i (checked i)
check-leaves i = fits? i (Leaves i (checked i)) fit (λ other. unchanged other (checked-seven i other))
  where
    v : Verdict
    v = verdict.verdict i.mode (places i) i.text i.proof

    go : Fits i → (S : Sizes i) (v : Verdict) → Reported (places i) S.columns.least i.mode i.text i.proof v →
        Closed i.mode (places i) i.text i.proof v → Leaves i (done i v)
    go e S _ P (formula-refused {number} {place} {peak} named) = emptied e (refused-emptied i S number place peak named P)
    go e S _ P (proof-ended {n} {number} {offset} {at} {st} named R q) =
        kept e (judged-kept i S R number (at + offset) st.peak named (λ form. records-stopped i R form number offset q)
        (λ form. drat-ended i R form number offset q) P)
    go e S _ P (proof-tried {n} {number} {peak} {at} named R _) =
        kept e (judged-kept i S R number at peak named.0 (records-tried i R) (drat-tried i R) P)

    fit : Fits i → Leaves i (checked i)
    fit e =
        let S : Sizes i = sizes i e in
        subst (Leaves i) (sym (checked-fits i e))
        (go e S v (peak-reported (places i) S.columns.least i.mode i.text i.proof)
        (ended-closed i.mode (places i) i.text i.proof v (ended i.mode (places i) i.text i.proof)))

-- Where the formula was read and the proof judged: the place is in the proof.
pub check-kept : (i : Handed) → Fits i → (checked i).in_proof ≡ true → Kept i (checked i)
check-kept i fits late = go (check-leaves i)
  where
    go : Leaves i (checked i) → Kept i (checked i)
    go (unchanged other is) = absurd (other fits)
    go (emptied _ E) = t≢f (sym late ∙ E.in-formula)
    go (kept _ K) = K

-- ---- entries

module _ (i : Handed) (e : Fits i) {n : ℕ} {st : State} {at : ℕ} {m : Meant}
    (R : Reached i.mode (places i) i.text i.proof n st at m) where
  abbrev v : Verdict
  v = verdict.verdict i.mode (places i) i.text i.proof

  left-same : (value_at (checked i).columns (checked i).count ≡ value_at (done i v).columns (done i v).count)
      × ((checked i).count ≡ length v.nodes) × ((checked i).lines ≡ v.lines)
  unfolding outcome
  left-same =
      let is : checked i ≡ done i v = checked-fits i e in (
        ap (λ (o : CheckOutcome). value_at o.columns o.count) is,
        ap (λ (o : CheckOutcome). o.count) is,
        ap (λ (o : CheckOutcome). o.lines) is,
      )

  -- An entry's node that is not dropped has the entry's value in the table as left, whatever number the call says.
  pub entry-left : (entry : ℕ) → is_entry st entry ≡ true → entry_node st entry < (checked i).count
      → (a : Assignment) → value_at (checked i).columns (checked i).count (entry_node st entry) a ≡ entry_meant m entry a
  unfolding outcome
  entry-left entry there stays a =
      let S : Standing (places i) n m st = (reached-standing i.mode (places i) i.text i.proof R).1 in
      let (inside, is) = entry-valued S entry there in
      let (same, count, lines) = left-same in
      ap (λ (f : ℕ → Assignment → Bool). f (entry_node st entry) a) same
      ∙ ap (λ (x : List Node). value (diagram_at x (entry_node st entry)) a) (read_back (places i) v.nodes)
      ∙ ap (λ (D : Diagram). value D a) ((reached-onward i.mode (places i) i.text i.proof R).same (entry_node st entry) inside
      (omega arith)) ∙ is a

  -- The entries of a line that is accepted are not dropped: "with their nodes (those of all their entries)".
  pub entry-stays : (entry : ℕ) → is_entry st entry ≡ true → st.lines < (checked i).lines → entry_node st entry < (checked i).count
  entry-stays entry there accepted =
      let S : Standing (places i) n m st = (reached-standing i.mode (places i) i.text i.proof R).1 in
      let (inside, is) = entry-valued S entry there in
      let (same, count, lines) = left-same in
      let stays : length st.nodes ≤ length v.nodes = (reached-onward i.mode (places i) i.text i.proof R).stays (omega arith)
      in
      omega arith
