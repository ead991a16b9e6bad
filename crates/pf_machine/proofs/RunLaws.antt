-- A row's run, a step at a time, beside what the machine answers.
use Rattle.std.proofs.Common.{◌≡◌, ℕ, suc, ◌+◌, List, true, false, Ok, Err, refl, sym, ap}
use Rattle.pf_machine.specs.declared.steps.Trap.{Trap}
use Rattle.pf_machine.specs.declared.steps.Trap.TheVariants.{Outside, Spent as Overspent}
use Rattle.pf_machine.specs.declared.code.Line.{Line}
use Rattle.pf_machine.specs.declared.code.Label.{Label}
use Rattle.pf_machine.specs.Meaning.Tables.{Table}
use Rattle.pf_machine.specs.Meaning.MachineSteps.{State, Outcome, Continues, Returned, Trapped, step, run}
use Rattle.pf_machine.specs.Meaning.Machines.{AnswersStep, Ends}

-- what an answer says of the step
moved_from : (o : Outcome) (old new : State) → AnswersStep o (Ok true) old new → o ≡ Continues new
moved_from (Continues s) old new h = ap Continues (sym h.1)
moved_from Returned old new h = cc
moved_from (Trapped address count) old new h = cc

module _ {I O : Type 0} (t : Table O) (code : List (Line I O)) (labels : List Label) where
  -- a step that goes on
  pub run_on : (n m : ℕ) (s next : State) → n ≡ suc m → AnswersStep (step t code labels s) (Ok true) s next → run t code labels n s ≡ run t code labels m next
  unfolding run
  run_on n m s next e h = rw (e, moved_from (step t code labels s) s next h) refl

  returned : (o : Outcome) (s new : State) (m budget : ℕ) → AnswersStep o (Ok false) s new → o ≡ step t code labels s → Ends (run t code labels (suc m) s) budget (Ok tt) new
  unfolding run
  returned (Continues next) s new m budget h e = cc
  returned Returned s new m budget h e = rw (← e) (refl, h.1)
  returned (Trapped address count) s new m budget h e = cc

  -- a step that returns
  pub run_returns : (n m : ℕ) (s new : State) (budget : ℕ) → n ≡ suc m → AnswersStep (step t code labels s) (Ok false) s new → Ends (run t code labels n s) budget (Ok tt) new
  run_returns n m s new budget e h = rw e (returned (step t code labels s) s new m budget h refl)

  trapped : (o : Outcome) (trap : Trap) (s new : State) (m budget : ℕ) → AnswersStep o (Err trap) s new → o ≡ step t code labels s → Ends (run t code labels (suc m) s) budget (Err trap) new
  unfolding run
  trapped (Continues next) trap s new m budget h e = cc
  trapped Returned trap s new m budget h e = cc
  trapped (Trapped address count) trap s new m budget h e =
      let same : trap ≡ Outside (s.at + 1) address count = cc in
      rw (← e) (ap Err same, h.1)

  -- a step that is a trap
  pub run_traps : (n m : ℕ) (trap : Trap) (s new : State) (budget : ℕ) → n ≡ suc m → AnswersStep (step t code labels s) (Err trap) s new → Ends (run t code labels n s) budget (Err trap) new
  run_traps n m trap s new budget e h = rw e (trapped (step t code labels s) trap s new m budget h refl)

  -- no step is left
  pub run_spent : (n : ℕ) (s : State) (budget : ℕ) → n ≡ 0 → Ends (run t code labels n s) budget (Err (Overspent budget)) s
  unfolding run
  run_spent n s budget e = rw e (refl, refl)
