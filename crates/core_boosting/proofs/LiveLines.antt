-- Lines of a totalizer leave every line that was live.
use Rattle.std.proofs.Common.{◌≡◌, ℕ, false, List, [], ◌∷◌, ◌++◌, refl, sym, subst, arith}
use Rattle.std.specs.List.{All}
use Rattle.std.proofs.lemmas.List.Elements.{All-head, All-tail}
use Rattle.pb_lin.specs.Constraint.{ConstraintValue}
use Rattle.pb_lin.specs.Problem.{ProblemValue}
use Rattle.scut_base.specs.Literal.{Literal}
use Rattle.proof_laws.specs.State.{StateValue, start}
use Rattle.proof_laws.specs.Replay.{IsReplay, Leads}
use Rattle.proof_laws.specs.declared.line.Line.{Line}
use Rattle.proof_laws.specs.declared.line.Line.TheVariants.{Def, Pol, Rup, Red}
use Rattle.proof_laws.proofs.Replays.{leads_further}
use Rattle.proof_rules.specs.Recording.{Snapshot}
use Rattle.recording.specs.Advice.{IsConservative}
use Rattle.sum_outputs.specs.Adding.{Continues, IsReached, IsReady}
use Rattle.sum_outputs.proofs.LaterStates.{KeepsLive, deletes, line_keeps}
use Rattle.sum_outputs.proofs.ReplayIds.{replay_ids}
use Rattle.search_base.proofs.TurnStates.{replay_after}
use Rattle.core_boosting.specs.Counting.{HasVariablesNow, IsLiveNow}

deletes_none : (line : Line) → IsConservative line → deletes line ≡ false
deletes_none (Pol tokens) is = refl
deletes_none (Rup goal hints) is = refl
deletes_none (Red goal w proofs) is = refl
deletes_none (Def var sum) is = refl
deletes_none line is = absurd is

all_kept : (p : ProblemValue) (lines more : List Line) (s t : StateValue) → All IsConservative more → IsReplay p lines s → Leads p s more t → KeepsLive s t
all_kept p lines [] s t kinds replay leads = subst (λ (u : StateValue). KeepsLive s u) (sym leads) (record { live = λ id c is. is; vars = omega arith })
all_kept p lines (line ∷ more) s t kinds replay leads =
    let one = line_keeps s (replay_ids p lines s replay) p line leads.0 (deletes_none line (All-head IsConservative line more kinds)) leads.1 in
    let rest = all_kept p (lines ++ line ∷ []) more leads.0 t (All-tail IsConservative line more kinds)
    (leads_further p lines (start p) s leads.0 line replay leads.1) leads.2 in
    record { live = λ id c is. rest.live id c (one.live id c is); vars = let a = one.vars in let b = rest.vars in omega arith }

module _ (a b : Snapshot) (on : Continues a b) where
  pub live_on : (s t : StateValue) → IsReached a s → IsReached b t → KeepsLive s t
  live_on s t reached after =
      all_kept a.problem a.lines on.more s t on.kinds reached
      (replay_after a.problem a.lines b.lines on.more s t on.lines reached
      (subst (λ (p : ProblemValue). IsReplay p b.lines t) on.problem after))

  module _ (ready : IsReady a) where
    pub still_live : (id : ℕ) (c : ConstraintValue) → IsLiveNow a id c → IsLiveNow b id c
    still_live id c is t after = (live_on ready.state t ready.reached after).live id c (is ready.state ready.reached)

    pub still_variables : (lits : List Literal) → HasVariablesNow a lits → HasVariablesNow b lits
    still_variables lits is t after =
        let vars = (live_on ready.state t ready.reached after).vars in
        λ k d short. let here = is ready.state ready.reached k d short in (here.0, let most = here.1 in omega arith)
