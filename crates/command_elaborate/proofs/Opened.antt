-- What is known of a line that is refused, or that is stepped.
use Rattle.std.specs.Prelude.{◌≡◌, ◌≢◌, ℕ, false, Option, Some, None, List, [], ◌∷◌, All, fold, Result, Ok, Err, IfOk, IfErr, IfSome, IfNone, refl}
use Rattle.std.proofs.Common.{sym, subst, ap, arith}
use Rattle.std.specs.FinMap.{remove}
use Rattle.scut_base.proofs.Options.{if_some}
use Rattle.pb_lin.specs.Constraint.{ConstraintValue}
use Rattle.pb_lin.specs.LineMap.{LineMap}
use Rattle.pb_lin.specs.Problem.{ProblemValue}
use Rattle.hint_rup.specs.declared.hint.Hint.{Hint}
use Rattle.proof_laws.specs.State.{StateValue}
use Rattle.proof_laws.specs.Legal.{IsLegal, IsNext, IsRefused}
use Rattle.proof_laws.specs.WellFormed.{IsHint, IsWellFormed}
use Rattle.proof_laws.specs.declared.line.Line.{Line}
use Rattle.proof_laws.specs.declared.line.Line.TheVariants.{Pol, Rup, Learn, Def, Red, Dom, Sol, Del, Reduce, End}
use Rattle.proof_laws.specs.declared.why.Why.{Why}
use Rattle.proof_laws.specs.declared.why.Why.TheVariants.{RupOpen}
use Rattle.proof_rules.specs.Verdict.{IsReason}
use Rattle.proof_rules.specs.declared.fault.StepFault.{StepFault}
use Rattle.proof_rules.specs.declared.fault.StepFault.TheVariants.{Refused as StepRefused}
use Rattle.cdcl_state.specs.Searching.{SearchValue}
use Rattle.command_elaborate.specs.Loose.{is_unhinted, FollowsLoosely, IsElaborated, IsLooselyRefused, IsLooseNext}
use Rattle.command_elaborate.proofs.Helped.{helped, refused_alike as goal_alike}
use Rattle.command_elaborate.proofs.Replays.{elaborated_next}
use Rattle.command_elaborate.specs.Adding.{open_goal, with_hints, gone_with}
use Rattle.command_elaborate.specs.Kept.{IsFlat, IsKept, IsTaken}
use Rattle.command_elaborate.specs.Reasons.{Proves, IsAdded}
use Rattle.command_elaborate.specs.declared.fault.ElabFault.{ElabFault}
use Rattle.command_elaborate.proofs.Proving.{of_none}
use Rattle.command_elaborate.proofs.Stepped.{IsOpenGoal, open_rup, open_learn, stepped, IsStepped}

-- a line without hints that is refused as open
pub record IsOpened (p : ProblemValue) (s : StateValue) (line : Line) (goal : ConstraintValue) : Type 0 where
  pub known : IsOpenGoal s goal
  pub legal : (hints : List Hint) → Proves s goal hints → IsLegal p s (with_hints line hints)
  pub refused : (FollowsLoosely s goal → ⊥) → IsLooselyRefused p s line RupOpen
  pub elaborated : (hints : List Hint) → IsElaborated line (with_hints line hints)
  pub formed : (hints : List Hint) → All IsHint hints → IsWellFormed line → IsWellFormed (with_hints line hints)

module _ (p : ProblemValue) (s : StateValue) where
  opened_rup : (goal : ConstraintValue) → IsRefused p s (Rup goal []) RupOpen → IsOpened p s (Rup goal []) goal
  opened_rup goal is = record {
    known = open_rup p s goal is;
    legal = λ hints proves. (helped p s goal hints).rup is proves.0;
    refused = λ open'. (goal_alike p s goal RupOpen).open_rup is open';
    elaborated = λ hints. (hints, refl);
    formed = λ hints small formed. (formed.0, small);
  }

  opened_learn : (goal : ConstraintValue) → IsRefused p s (Learn goal []) RupOpen → IsOpened p s (Learn goal []) goal
  opened_learn goal is = record {
    known = open_learn p s goal is;
    legal = λ hints proves. (helped p s goal hints).learn is proves.0;
    refused = λ open'. (goal_alike p s goal RupOpen).open_learn is open';
    elaborated = λ hints. (hints, refl);
    formed = λ hints small formed. (formed.0, small);
  }

  pub opened : (line : Line) (goal : ConstraintValue) → open_goal line ≡ Some goal → IsRefused p s line RupOpen → IsOpened p s line goal
  opened (Pol tokens) goal is refused = cc
  opened (Rup g []) goal is refused = let same : g ≡ goal = cc in subst (IsOpened p s (Rup g [])) same (opened_rup g refused)
  opened (Rup g (h ∷ hints)) goal is refused = cc
  opened (Learn g []) goal is refused = let same : g ≡ goal = cc in subst (IsOpened p s (Learn g [])) same (opened_learn g refused)
  opened (Learn g (h ∷ hints)) goal is refused = cc
  opened (Def var sum) goal is refused = cc
  opened (Red g w proofs) goal is refused = cc
  opened (Dom g w proofs) goal is refused = cc
  opened (Sol model cut ids) goal is refused = cc
  opened (Del ids) goal is refused = cc
  opened (Reduce ids) goal is refused = cc
  opened (End id) goal is refused = cc

  -- one that has hints, or needs none
  pub shut : (line : Line) → open_goal line ≡ None → IsRefused p s line RupOpen → IsLooselyRefused p s line RupOpen
  shut (Pol tokens) is refused = refused
  shut (Rup g []) is refused = cc
  shut (Rup g (h ∷ hints)) is refused = refused
  shut (Learn g []) is refused = cc
  shut (Learn g (h ∷ hints)) is refused = refused
  shut (Def var sum) is refused = refused
  shut (Red g w proofs) is refused = refused
  shut (Dom g w proofs) is refused = refused
  shut (Sol model cut ids) is refused = refused
  shut (Del ids) is refused = refused
  shut (Reduce ids) is refused = refused
  shut (End id) is refused = refused

  -- any other reason
  pub refused_alike : (line : Line) (why : Why) → why ≢ RupOpen → IsRefused p s line why → IsLooselyRefused p s line why
  refused_alike (Pol tokens) why other refused = refused
  refused_alike (Rup g []) why other refused = (goal_alike p s g why).rup other refused
  refused_alike (Rup g (h ∷ hints)) why other refused = refused
  refused_alike (Learn g []) why other refused = (goal_alike p s g why).learn other refused
  refused_alike (Learn g (h ∷ hints)) why other refused = refused
  refused_alike (Def var sum) why other refused = refused
  refused_alike (Red g w proofs) why other refused = refused
  refused_alike (Dom g w proofs) why other refused = refused
  refused_alike (Sol model cut ids) why other refused = refused
  refused_alike (Del ids) why other refused = refused
  refused_alike (Reduce ids) why other refused = refused
  refused_alike (End id) why other refused = refused

-- a line stands for itself
pub elaborated_itself : (line : Line) → IsElaborated line line
elaborated_itself (Pol tokens) = refl
elaborated_itself (Rup g []) = ([], refl)
elaborated_itself (Rup g (h ∷ hints)) = refl
elaborated_itself (Learn g []) = ([], refl)
elaborated_itself (Learn g (h ∷ hints)) = refl
elaborated_itself (Def var sum) = refl
elaborated_itself (Red g w proofs) = refl
elaborated_itself (Dom g w proofs) = refl
elaborated_itself (Sol model cut ids) = refl
elaborated_itself (Del ids) = refl
elaborated_itself (Reduce ids) = refl
elaborated_itself (End id) = refl

-- what is kept after a line
pub kept_after : (p : ProblemValue) (s t : StateValue) (line : Line) (next : ℕ) (v w : SearchValue) → IsKept s next v → IsNext p s line t
    → w.store ≡ fold remove v.store (gone_with line) → w.trail.vars ≡ v.trail.vars → IsFlat w.trail → IsKept t next w
kept_after p s t line next v w kept is store vars flat =
    let after : IsStepped s t line next v.store = stepped s next v.store kept.within kept.taken p line t is in
    record {
      taken = subst (λ (m : LineMap). IsTaken t.live next m) (sym store) after.taken;
      vars = (let old = kept.vars in let more = after.vars in omega (arith, vars));
      flat = flat;
      positive = kept.positive;
      within = after.within;
    }

-- ---- as the code has them

module _ (p : ProblemValue) (s : StateValue) (line : Line) (goal : ConstraintValue) (is : open_goal line ≡ Some goal) (refused : IsRefused p s line RupOpen) where
  pub none_open : (o : Option (List Hint)) → o ≡ None → IfNone o (FollowsLoosely s goal → ⊥) → IsLooselyRefused p s line RupOpen
  none_open o none open' = (opened p s line goal is refused).refused (of_none (FollowsLoosely s goal → ⊥) o none open')

  module _ (o : Option (List Hint)) (hints : List Hint) (new : Line) (some : o ≡ Some hints) (proves : IfSome o (Proves s goal)) (told : new ≡ with_hints line hints) where
    pub new_legal : IsLegal p s new
    new_legal = subst (λ (l : Line). IsLegal p s l) (sym told) ((opened p s line goal is refused).legal hints (if_some (Proves s goal) o hints proves some))

    pub new_formed : IsWellFormed line → IsWellFormed new
    new_formed formed = let one = if_some (Proves s goal) o hints proves some in subst IsWellFormed (sym told) ((opened p s line goal is refused).formed hints one.1 formed)

    pub new_elaborated : IsElaborated line new
    new_elaborated = subst (λ (l : Line). IsElaborated line l) (sym told) ((opened p s line goal is refused).elaborated hints)

    pub new_added : IsWellFormed line → (t : StateValue) → IsNext p s new t → IsAdded p s line new t
    new_added formed t next = record { elaborated = new_elaborated; formed = new_formed formed; next = next }

    pub new_loosely : (t : StateValue) → IsNext p s new t → IsLooseNext p s line t
    new_loosely t next = elaborated_next p s t line new new_elaborated next

    -- nothing goes with a new line
    pub new_kept : (t : StateValue) (next : ℕ) (v : SearchValue) → IsKept s next v → IsNext p s new t → IsKept t next v
    new_kept t next v kept nexts = kept_after p s t new next v v kept nexts (ap (fold remove v.store) (sym (none_gone line goal is hints new told))) refl kept.flat
      where
        none_gone : (l : Line) (g : ConstraintValue) → open_goal l ≡ Some g → (hs : List Hint) (n : Line) → n ≡ with_hints l hs → gone_with n ≡ []
        none_gone (Pol tokens) g there hs n e = cc
        none_gone (Rup h old) g there hs n e = ap gone_with e
        none_gone (Learn h old) g there hs n e = ap gone_with e
        none_gone (Def var sum) g there hs n e = cc
        none_gone (Red h w proofs) g there hs n e = cc
        none_gone (Dom h w proofs) g there hs n e = cc
        none_gone (Sol model cut ids) g there hs n e = cc
        none_gone (Del ids) g there hs n e = cc
        none_gone (Reduce ids) g there hs n e = cc
        none_gone (End id) g there hs n e = cc

-- the reason that a step answers
pub refused_by : (p : ProblemValue) (s : StateValue) (line : Line) (r : Result (Unit {0}) StepFault) (f : StepFault) (why : Why) → r ≡ Err f → f ≡ StepRefused why → IfErr r (IsReason p s line) → IsRefused p s line why
refused_by p s line (Ok done) f why is fault given = cc
refused_by p s line (Err g) f why is fault given = let same : g ≡ StepRefused why = cc in subst (IsReason p s line) same given

-- a line that has hints, or needs none, is answered as it is
pub itself : (line new : Line) → is_unhinted line ≡ false → IsElaborated line new → new ≡ line
itself (Pol tokens) new hinted is = is
itself (Rup g []) new hinted is = cc
itself (Rup g (h ∷ hints)) new hinted is = is
itself (Learn g []) new hinted is = cc
itself (Learn g (h ∷ hints)) new hinted is = is
itself (Def var sum) new hinted is = is
itself (Red g w proofs) new hinted is = is
itself (Dom g w proofs) new hinted is = is
itself (Sol model cut ids) new hinted is = is
itself (Del ids) new hinted is = is
itself (Reduce ids) new hinted is = is
itself (End id) new hinted is = is

pub answered_itself : (p : ProblemValue) (s t : StateValue) (line : Line) (r : Result Line ElabFault) → is_unhinted line ≡ false → IfOk r (λ new. IsAdded p s line new t) → IfOk r (λ new. new ≡ line)
answered_itself p s t line (Ok new) hinted added = itself line new hinted added.elaborated
answered_itself p s t line (Err fault) hinted added = tt
