-- The commands read one by one: what the whole proof comes to is what is left to be said from the state reached and the place of the next
-- command. The idea: a command that is taken has a byte, so that there are always steps enough. Assumes nothing.
use Rattle.profile.specs.Admitted.{admitted}
use mathlib.Core.Path.{◌≡◌, refl, sym, ap, ap₂, ◌∙◌, subst}
use mathlib.Core.Bool.{true, Bool}
use mathlib.Core.List.{List}
use Prim.Native.Nat.{ℕ, zero, suc, ◌+◌, ◌-◌, ◌≤◌, ◌<◌}
use native.Mathlib.Omega.{arith}
use lib.ListN.{length, get_or, take}
use Rattle.table.specs.Indexed.{Table, nodes_of, Good}
use Rattle.walks.specs.Readable.{Roomy}
use Rattle.conflict.specs.Marks.{unmarked}
use Rattle.commands.specs.declared.Mode.{Mode}
use Rattle.commands.specs.Commands.{Command, recorded, added, struck_out, wrong, finished, start, command_at}
use Rattle.commands.specs.declared.Read as code_read
use Rattle.std.specs.Prelude.{Result, Ok, Err}
use Rattle.dimacs.specs.declared.Refusal.{Refusal}
use Rattle.commands.specs.Inner.{command_of, read_with}
use Rattle.commands.proofs.Answered.{read-ok, read-err}
use Rattle.verdict.specs.Steps as steps
use Rattle.verdict.specs.Check as check
use Rattle.verdict.specs.Run.{command_in, next_in}
use Rattle.verdict.proofs.Commands.{step-taken, Known, fit-known, command-fit, start-within, command-goes}
use Rattle.state.specs.declared.State.{State}
use Rattle.state.specs.declared.Step.{Step}
use Rattle.state.specs.declared.Step.TheVariants.{Next, Stop, Spent}
use Rattle.state.specs.States.{Lent, table_in, state_of, step_of, Held, HeldAfter, Unmoved, Stepped}
use Rattle.tries.specs.Commands.{CommandFits, PivotOfFits}
use Rattle.tries.proofs.Commands.{pivot-fits, says-refused}
use Rattle.replay.specs.Ends.{Ends}
use Rattle.replay.proofs.Near.{stop-near}

known-fits : (n : ℕ) (c : Command) → Known n c → CommandFits n c
known-fits n (recorded r more) known = tt
known-fits n (added ls) known = known
known-fits n (struck_out ls) known = known
known-fits n (wrong number offset) known = tt
known-fits n finished known = tt

-- ---- one step of the definition

-- What is to be said of all commands is what is left to be said from the state st and the place `at` on.
pub record Remains (mode : Mode) (n s : ℕ) (proof : List ℕ) (whole : check.Verdict) (st : steps.State) (at : ℕ) : Type 0 where
  pub steps : ℕ
  pub enough : length proof - at < steps
  pub left : whole ≡ check.commands steps mode n s proof st at

module _ (mode : Mode) (n s : ℕ) (proof : List ℕ) (whole : check.Verdict) (st : steps.State) (at : ℕ) where
  abbrev said : steps.Step
  said = check.step mode.consequence n s st (command_in mode proof n at)

  stops-with : (k : ℕ) → length proof - at < k → (number offset : ℕ) → said ≡ steps.stop number offset → whole
      ≡ check.commands k mode n s proof st at
      → whole ≡ check.left number (at + offset) st.peak st
  unfolding check.commands
  stops-with zero enough number offset e left = absurd (omega arith)
  stops-with (suc k) enough number offset e left = left ∙ rw e

  spends-with : (k : ℕ) → length proof - at < k → (number peak : ℕ) → said ≡ steps.spent number peak → whole
      ≡ check.commands k mode n s proof st at
      → whole ≡ check.left number at peak st
  unfolding check.commands
  spends-with zero enough number peak e left = absurd (omega arith)
  spends-with (suc k) enough number peak e left = left ∙ rw e

  goes_with : (k : ℕ) → length proof - at < k → (st' : steps.State) → said ≡ steps.next st' → whole ≡ check.commands k mode n s proof st at
      → at ≤ length proof → Remains mode n s proof whole st' (next_in mode proof n at)
  unfolding check.commands
  goes_with zero enough st' e left within = absurd (omega arith)
  goes_with (suc k) enough st' e left within =
      let (on, inside) = command-goes mode.consequence mode.form proof n s st st' at within
      (step-taken mode.consequence n s st (command_in mode proof n at) st' e) in
      record { steps = k; enough = omega (arith, on, inside); left = left ∙ rw e }

  module _ (R : Remains mode n s proof whole st at) where
    remains-stop : (number offset : ℕ) → said ≡ steps.stop number offset → whole ≡ check.left number (at + offset) st.peak st
    remains-stop number offset e = stops-with R.steps R.enough number offset e R.left

    remains-spent : (number peak : ℕ) → said ≡ steps.spent number peak → whole ≡ check.left number at peak st
    remains-spent number peak e = spends-with R.steps R.enough number peak e R.left

    remains-next : (st' : steps.State) → said ≡ steps.next st' → at ≤ length proof →
        Remains mode n s proof whole st' (next_in mode proof n at)
    remains-next st' e = goes_with R.steps R.enough st' e R.left

-- ---- the commands read so far

module _ (mode : Mode) (n s : ℕ) (proof : List ℕ) (whole : check.Verdict) where
  -- The state st is held in l, and the next command is looked for at `at`.
  pub record Going (l : Lent) (marks memo : List ℕ) (st : State) (at : ℕ) : Type 0 where
    pub same_size : length l.vars ≡ s
    pub held : Held n l st
    pub none-marked : marks ≡ unmarked s
    pub room : Roomy l.vars memo
    pub within : at ≤ length proof
    pub remains : Remains mode n s proof whole (state_of l st) at

  module _ (l : Lent) (marks memo : List ℕ) (st : State) (at : ℕ) (G : Going l marks memo st at) where
    held-ends : Ends l st
    held-ends = record {
      good = G.held.entries.good;
      least = G.held.least;
      kept = G.held.kept;
      room = omega (arith, G.held.many, G.held.lines, G.held.room);
      rest = G.held.rest;
      marked = G.held.marked;
      unmarked = G.held.unmarked;
    }

    -- the command is read: a clause's literals are the header's
    fits : CommandFits n (command_in mode proof n at)
    fits =
        known-fits n (command_in mode proof n at)
        (fit-known mode.form n (command_in mode proof n at) (command-fit mode.form proof n at G.within))

    -- what is read at the place
    abbrev pub Reads : Result code_read.Read Refusal → Type 0
    Reads x = x ≡ read_with at (command_at mode.form proof n at).next
        (admitted mode.consequence (command_of (command_at mode.form proof n at).command))

    module _ (r : code_read.Read) (is : Reads (Ok r)) where
      command-is : admitted mode.consequence (command_of (command_in mode proof n at)) ≡ Ok r.command
      command-is =
          (read-ok at (command_at mode.form proof n at).next
          (admitted mode.consequence (command_of (command_at mode.form proof n at).command)) r is).0

      pub next_is : r.next ≡ next_in mode proof n at
      next_is =
          (read-ok at (command_at mode.form proof n at).next
          (admitted mode.consequence (command_of (command_at mode.form proof n at).command)) r is).1

      pub going-asks : Held n l st × (marks ≡ unmarked (length l.vars)) × Roomy l.vars memo × PivotOfFits (Ok r.command)
      going-asks = (
        G.held,
        G.none-marked ∙ ap unmarked (sym G.same_size),
        G.room,
        subst PivotOfFits command-is (pivot-fits mode.consequence n G.held.entries.narrow (command_in mode proof n at) fits),
      )

      -- what the code's step says of its command it says of the definition's
      pub going-reads : (l' : Lent) (x : Step)
          → ((profile : Bool) (c : Command) → admitted profile (command_of c) ≡ Ok r.command → CommandFits n c →
          Stepped n l l' st (check.step profile n (length l.vars) (state_of l st) c) x)
          → Stepped n l l' st (check.step mode.consequence n (length l.vars) (state_of l st) (command_in mode proof n at)) x
      going-reads l' x W = W mode.consequence (command_in mode proof n at) command-is fits

    -- the command comes to x and leaves l'
    module _ (l' : Lent) (x : Step) (X : Stepped n l l' st
        (check.step mode.consequence n (length l.vars) (state_of l st) (command_in mode proof n at)) x) where
      says : (y : Step) → x ≡ y → check.step mode.consequence n s (state_of l st) (command_in mode proof n at) ≡ step_of l' y
      says y e =
          sym (ap (λ (size : ℕ). check.step mode.consequence n size (state_of l st) (command_in mode proof n at)) G.same_size)
          ∙ sym X.says ∙ ap (step_of l') e

      leaves : (y : Step) → x ≡ y → HeldAfter n l l' st y
      leaves y e = subst (HeldAfter n l l' st) e X.leaves

      -- a refused command leaves table, members and marks as they were
      left-same : (number place peak : ℕ) → Unmoved l l' st → check.left number place peak (state_of l st)
          ≡ check.left number place peak (state_of l' st)
      left-same number place peak same =
          ap₂ (λ (t : Table) (ms : List ℕ). left_of t ms l.struck) (sym same.table) (sym same.members)
          ∙ ap (left_of (table_in l' st.count) l'.members) (sym same.struck)
        where
          left_of : Table → List ℕ → List ℕ → check.Verdict
          left_of t ms ss = record {
            number = number;
            in_proof = true;
            place = place;
            lines = st.lines;
            rounds = st.rounds;
            peak = peak;
            nodes = take st.kept (nodes_of t);
            members = take st.members ms;
            struck = take st.members ss;
          }

      -- zeros behind the members
      abbrev Behind : List ℕ → Type 0
      Behind xs = (i : ℕ) → st.members ≤ i → ◌≡◌ {A = ℕ} (get_or xs i 0) 0

      ends_same : Unmoved l l' st → Ends l' st
      ends_same same = record {
        good = subst Good (sym same.table) held-ends.good;
        least = held-ends.least;
        kept = held-ends.kept;
        room = subst (λ (ms : List ℕ). st.members ≤ length ms) (sym same.members) held-ends.room;
        rest = subst Behind (sym same.members) held-ends.rest;
        marked = ap length same.struck ∙ held-ends.marked ∙ ap length (sym same.members);
        unmarked = subst Behind (sym same.struck) held-ends.unmarked;
      }

      module _ (number offset : ℕ) (e : x ≡ Stop number offset) where
        pub going-near : at + offset ≤ length proof
        going-near = stop-near mode.consequence mode.form n s (state_of l st) proof at G.within number offset
            (says (Stop number offset) e)

        pub going-stop : (whole ≡ check.left number (at + offset) st.peak (state_of l' st)) × Ends l' st
        going-stop =
            let same = leaves (Stop number offset) e in (
              remains-stop mode n s proof whole (state_of l st) at G.remains number offset (says (Stop number offset) e)
                  ∙ left-same number (at + offset) st.peak same,
              ends_same same,
            )

      pub going-spent : (number peak : ℕ) → x ≡ Spent number peak → (whole ≡ check.left number at peak (state_of l' st)) × Ends l' st
      going-spent number peak e =
          let same = leaves (Spent number peak) e in (
            remains-spent mode n s proof whole (state_of l st) at G.remains number peak (says (Spent number peak) e)
                ∙ left-same number at peak same,
            ends_same same,
          )

      module _ (st' : State) (e : x ≡ Next st') where
        pub next-in : (at < next_in mode proof n at) × (next_in mode proof n at ≤ length proof)
        next-in =
            command-goes mode.consequence mode.form proof n s (state_of l st) (state_of l' st') at G.within
            (step-taken mode.consequence n s (state_of l st) (command_in mode proof n at) (state_of l' st') (says (Next st') e))

        pub going_next : (marks' memo' : List ℕ) (at' : ℕ) → at' ≡ next_in mode proof n at → length l'.vars ≡ length l.vars → marks'
            ≡ unmarked (length l.vars) → length memo' ≡ length memo
            → Going l' marks' memo' st' at'
        going_next marks' memo' at' here size-kept marks-kept memo-kept = record {
          same_size = size-kept ∙ G.same_size;
          held = leaves (Next st') e;
          none-marked = marks-kept ∙ ap unmarked G.same_size;
          room = omega (arith, G.room, size-kept);
          within = omega (arith, here, next-in.1);
          remains = subst (Remains mode n s proof whole (state_of l' st')) (sym here)
              (remains-next mode n s proof whole (state_of l st) at G.remains (state_of l' st') (says (Next st') e) G.within);
        }

-- the command is not let in
module _ (mode : Mode) (n s : ℕ) (proof : List ℕ) (whole : check.Verdict) (l : Lent) (marks memo : List ℕ) (st : State) (at : ℕ)
    (G : Going mode n s proof whole l marks memo st at) where
  pub going-refused : (f : Refusal) → Reads mode n s proof whole l marks memo st at G (Err f)
      → (whole ≡ check.left f.number f.place st.peak (state_of l st)) × Ends l st
  going-refused f is =
      let w = read-err at (command_at mode.form proof n at).next
      (admitted mode.consequence (command_of (command_at mode.form proof n at).command)) f is in
      let W = says-refused n (length l.vars) l st w.0 mode.consequence (command_in mode proof n at) w.1 in
      let all = going-stop mode n s proof whole l marks memo st at G l (Stop w.0.number w.0.place) W w.0.number w.0.place refl in
      subst (λ (g : Refusal). (whole ≡ check.left g.number g.place st.peak (state_of l st)) × Ends l st) (sym w.2) all

pub going_start : (mode : Mode) (n : ℕ) (proof : List ℕ) (l : Lent) (marks memo : List ℕ) (st : State) (at : ℕ) → at
    ≡ start mode.form proof
    → Held n l st × (marks ≡ unmarked (length l.vars)) × Roomy l.vars memo
    → Going mode n (length l.vars) proof (check.proof_from mode n (length l.vars) proof (state_of l st)) l marks memo st at
going_start mode n proof l marks memo st at here h = record {
  same_size = refl;
  held = h.0;
  none-marked = h.1;
  room = h.2;
  within = omega (arith, start-within mode.form proof);
  remains = record {
    steps = suc (length proof);
    enough = omega arith;
    left =
        ap (check.commands (suc (length proof)) mode n (length l.vars) proof (state_of l st)) (sym here);
  };
}
