-- Lines of a totalizer keep what was earned, and learn nothing.
use Rattle.std.proofs.Common.{◌≡◌, ℕ, false, Option, None, Some, List, [], ◌∷◌, ◌++◌, ap, refl, sym, subst, ◌∙◌, arith, append-nil, append_assoc}
use Rattle.std.specs.List.{All}
use Rattle.std.proofs.lemmas.List.Elements.{All-head, All-tail}
use Rattle.pb_lin.specs.Problem.{ProblemValue}
use Rattle.proof_laws.specs.State.{StateValue, start}
use Rattle.proof_laws.specs.Legal.{Makes}
use Rattle.proof_laws.specs.Replay.{IsReplay, Leads}
use Rattle.proof_laws.specs.Earned.{IsEarned, changes_learned}
use Rattle.proof_laws.specs.declared.line.Line.{Line}
use Rattle.proof_laws.specs.declared.line.Line.TheVariants.{Pol, Rup, Def, Red}
use Rattle.proof_laws.proofs.EarnedLines.{line_keeps_earned}
use Rattle.proof_laws.proofs.Replays.{leads_further}
use Rattle.proof_rules.specs.Recording.{Snapshot}
use Rattle.oracle.specs.Solving.{AreEarned, IsWithin}
use Rattle.recording.specs.Advice.{IsConservative}
use Rattle.sum_outputs.specs.Adding.{Continues}
use Rattle.sum_outputs.proofs.LaterStates.{ready_later}
use Rattle.search_base.proofs.TurnStates.{replay_after}
use Rattle.core_boosting.specs.Boosting.{MayBoost}

changes_none : (line : Line) → IsConservative line → changes_learned line ≡ false
changes_none (Def var sum) is = refl
changes_none (Pol tokens) is = refl
changes_none (Rup goal hints) is = refl
changes_none (Red goal w proofs) is = refl
changes_none line is = absurd is

still_earned : (p : ProblemValue) (n : ℕ) (more lines : List Line) (s t : StateValue) → All IsConservative more →
    IsReplay p lines s → Leads p s more t → IsEarned p lines n → IsEarned p (lines ++ more) n
still_earned p n [] lines s t kinds replay leads earned =
    subst (λ (ls : List Line). IsEarned p ls n) (sym (append-nil lines)) earned
still_earned p n (line ∷ more) lines s t kinds replay leads earned =
    let none = changes_none line (All-head IsConservative line more kinds) in
    subst (λ (ls : List Line). IsEarned p ls n) (append_assoc lines (line ∷ []) more)
    (still_earned p n more (lines ++ line ∷ []) leads.0 t (All-tail IsConservative line more kinds)
    (leads_further p lines (start p) s leads.0 line replay leads.1) leads.2
    (line_keeps_earned p lines n s leads.0 line earned replay leads.1 none))

abbrev learned_of : StateValue → ℕ
learned_of s = s.learned

learns_none : (p : ProblemValue) (s t : StateValue) (line : Line) → IsConservative line → Makes p s line t → t.learned ≡ s.learned
learns_none p s t (Pol tokens) is made = ap learned_of made.2
learns_none p s t (Def var sum) is made = ap learned_of made
learns_none p s t (Rup goal hints) is made = ap learned_of made
learns_none p s t (Red goal w proofs) is made = ap learned_of made
learns_none p s t line is made = absurd is

none_learned : (p : ProblemValue) (s t : StateValue) (more : List Line) → All IsConservative more → Leads p s more t → t.learned ≡ s.learned
none_learned p s t [] kinds leads = ap learned_of leads
none_learned p s t (line ∷ more) kinds leads =
    none_learned p leads.0 t more (All-tail IsConservative line more kinds) leads.2
    ∙ learns_none p s leads.0 line (All-head IsConservative line more kinds) leads.1.makes

still_within : (p : ProblemValue) (limit : Option ℕ) (old new : List Line) (s : StateValue) → IsReplay p old s →
    ((t : StateValue) → IsReplay p new t → t.learned ≡ s.learned) → IsWithin limit p old → IsWithin limit p new
still_within p None old new s reached same within = tt
still_within p (Some limit) old new s reached same within = λ t after. let fewer = within s reached in let e = same t after in omega arith

module _ (a b : Snapshot) (on : Continues a b) (may : MayBoost a) where
  abbrev s : StateValue
  s = may.ready.state

  leads_on : (t : StateValue) → IsReplay a.problem b.lines t → Leads a.problem s on.more t
  leads_on t after = replay_after a.problem a.lines b.lines on.more s t on.lines may.ready.reached after

  earned_on : AreEarned b.problem b.lines
  earned_on =
      let earned = may.earned in
      let has = on.states s may.ready.reached in
      let after : IsReplay a.problem b.lines has.state = subst (λ (p : ProblemValue). IsReplay p b.lines has.state) on.problem has.reached in
      subst (λ (p : ProblemValue). AreEarned p b.lines) (sym on.problem) (
        earned.0,
        subst (λ (ls : List Line). IsEarned a.problem ls earned.0) (sym on.lines)
            (still_earned a.problem earned.0 on.more a.lines s has.state on.kinds may.ready.reached (leads_on has.state after) earned.1),
      )

  within_on : IsWithin b.limit b.problem b.lines
  within_on =
      subst (λ (most : Option ℕ). IsWithin most b.problem b.lines) (sym on.limit)
      (subst (λ (p : ProblemValue). IsWithin a.limit p b.lines) (sym on.problem)
      (still_within a.problem a.limit a.lines b.lines s may.ready.reached
      (λ t after. none_learned a.problem s t on.more on.kinds (leads_on t after)) may.within))

  -- after such lines more may be boosted
  pub still_boosts : b.broken ≡ false → MayBoost b
  still_boosts whole = record { ready = ready_later a b may.ready on whole; earned = earned_on; within = within_on }
