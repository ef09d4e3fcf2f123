-- Who waits, as a trail grows.
use Rattle.std.proofs.Common.{◌≡◌, ◌≢◌, ℕ, ◌+◌, ◌-◌, ◌<◌, ◌≤◌, max, Bool, false, not, List, [], ◌∷◌, ◌++◌, length, get_or, None, Some, arith, ap, sym, ◌∙◌, subst, ⊎_elim, get_or-set_other, get_or-set_same}
use Rattle.std.specs.Prelude.{option_map}
use Rattle.std.specs.List.{Contains}
use Rattle.std.proofs.lemmas.Bool.{cases_eq, cases_lt}
use Rattle.std.proofs.lemmas.List.{set_past, append_assoc, append-nil}
use Rattle.std.proofs.lemmas.Option.{none-some}
use Rattle.scut_base.proofs.Tracking.{none_under}
use Rattle.scut_base.specs.Literal.{Literal}
use Rattle.scut_base.specs.Assignment.{partial_truth}
use Rattle.pb_lin.specs.LineMap.{LineMap}
use Rattle.clause_prop.specs.Steps.{AreSteps, TrailValue, assigned, partial, with_step, with_true}
use Rattle.clause_prop.specs.Propagating.{Extends}
use Rattle.clause_prop.specs.declared.step.Step.{Step}
use Rattle.clause_prop.proofs.Assigned.{Values, assigned-push, length-assigned}
use Rattle.cdcl_trail.proofs.Wider.{assigned-wider, truth_wider}
use Rattle.cdcl_state.specs.Order.{IsGrown, IsOpenVar, OrderValue, OtherOpenWait, SameOrder}
use Rattle.cdcl_state.specs.Searching.{IsOrderFor}

-- a variable is open where the table has nothing for it
is_open : (t : TrailValue) (var : ℕ) → IsOpenVar t var → get_or (partial t) (var - 1) None ≡ None
is_open t var o = none_under (λ (b : Bool). b) _ o

opens : (t : TrailValue) (var : ℕ) → get_or (partial t) (var - 1) None ≡ None → IsOpenVar t var
opens t var none = ap (option_map (λ (b : Bool). b)) none

-- what is open under a step more was open before
open_before : (p : Values) (s : Step) (i : ℕ) → get_or (with_true p s) i None ≡ None → get_or p i None ≡ None
open_before p s i none = ⊎_elim
    (λ (e : i ≡ s.lit.var - 1). ⊎_elim
    (λ (inside : s.lit.var - 1 < length p). absurd (none-some (not s.lit.neg) (sym none ∙ ap (λ (j : ℕ). get_or (with_true p s) j None) e ∙ get_or-set_same p (s.lit.var - 1) (Some (not s.lit.neg)) None inside)))
    (λ (past : length p ≤ s.lit.var - 1). ap (λ (v : Values). get_or v i None) (sym (set_past p (s.lit.var - 1) (Some (not s.lit.neg)) past)) ∙ none)
    (cases_lt (s.lit.var - 1) (length p)))
    (λ (ne : i ≢ s.lit.var - 1). sym (get_or-set_other p (s.lit.var - 1) i (Some (not s.lit.neg)) None ne) ∙ none)
    (cases_eq i (s.lit.var - 1))

-- the step's own variable isn't open
not_own : (p : Values) (s : Step) → s.lit.var - 1 < length p → get_or (with_true p s) (s.lit.var - 1) None ≡ None → ⊥
not_own p s inside none = none-some (not s.lit.neg) (sym none ∙ get_or-set_same p (s.lit.var - 1) (Some (not s.lit.neg)) None inside)

after_push : (t : TrailValue) (s : Step) (var : ℕ) → IsOpenVar (with_step t s) var → get_or (with_true (partial t) s) (var - 1) None ≡ None
after_push t s var o = ap (λ (v : Values). get_or v (var - 1) None) (sym (assigned-push t.vars t.steps s)) ∙ is_open (with_step t s) var o

-- after a step more
pub order_longer : (o : OrderValue) (t : TrailValue) (s : Step) → IsOrderFor o t → IsOrderFor o (with_step t s)
order_longer o t s is = record {
  known = is.known;
  open_wait = λ var positive within open'. is.open_wait var positive within (opens t var (open_before (partial t) s (var - 1) (after_push t s var open')));
}

-- after the decision of a variable that no longer waits
pub order_decided : (o : OrderValue) (t : TrailValue) (s : Step) → t.vars ≡ length o.activities → 0 < s.lit.var → s.lit.var ≤ t.vars → OtherOpenWait o t s.lit.var → IsOrderFor o (with_step t s)
order_decided o t s known from_one inside waiting = record {
  known = known;
  open_wait = λ var positive within open'.
      let none = after_push t s var open' in
      waiting var positive within (opens t var (open_before (partial t) s (var - 1) none))
      (λ (e : var ≡ s.lit.var). not_own (partial t) s (omega (arith, length-assigned t.vars t.steps)) (subst (λ (v : ℕ). get_or (with_true (partial t) s) (v - 1) None ≡ None) e none));
}

wider_sum : (n m : ℕ) → max n m ≡ m + (n - m)
wider_sum n m = omega arith

-- a variable that is open among more was open before
open_wider : (t : TrailValue) (n var : ℕ) → AreSteps t.vars t.steps → IsOpenVar (record { vars = max n t.vars; steps = t.steps }) var → IsOpenVar t var
open_wider t n var are open' =
    let l : Literal = record { var = var; neg = false } in
    sym (truth_wider (partial t) (n - t.vars) l)
    ∙ ap (λ (v : Values). partial_truth v l) (sym (assigned-wider t.vars (n - t.vars) t.steps are))
    ∙ ap (λ (k : ℕ). partial_truth (assigned k t.steps) l) (sym (wider_sum n t.vars)) ∙ open'

-- after there came variables
pub order_grown : (o p : OrderValue) (t : TrailValue) (n : ℕ) → AreSteps t.vars t.steps → IsGrown o p n → length p.activities ≡ max n (length o.activities) → IsOrderFor o t → IsOrderFor p (record { vars = max n t.vars; steps = t.steps })
order_grown o p t n are grown long is = record {
  known = ap (max n) is.known ∙ sym long;
  open_wait = λ var positive within open'. ⊎_elim
      (λ (new : t.vars < var). grown.fresh var (omega (arith, is.known, new)) (omega (arith, within, new)))
      (λ (old : var ≤ t.vars). grown.kept var (is.open_wait var positive old (open_wider t n var are open')))
      (cases_lt t.vars var);
}

-- after some steps more
steps_longer : (o : OrderValue) (n : ℕ) (first more : List Step) → IsOrderFor o (record { vars = n; steps = first }) → IsOrderFor o (record { vars = n; steps = first ++ more })
steps_longer o n first [] is = subst (λ (ss : List Step). IsOrderFor o (record { vars = n; steps = ss })) (sym (append-nil first)) is
steps_longer o n first (s ∷ more) is =
    subst (λ (ss : List Step). IsOrderFor o (record { vars = n; steps = ss })) (append_assoc first (s ∷ []) more)
    (steps_longer o n (first ++ s ∷ []) more (order_longer o (record { vars = n; steps = first }) s is))

-- after propagation
pub order_extended : (o : OrderValue) (store : LineMap) (t u : TrailValue) → Extends store t u → IsOrderFor o t → IsOrderFor o u
order_extended o store t u more is =
    subst (λ (n : ℕ). IsOrderFor o (record { vars = n; steps = u.steps })) (sym more.vars)
    (subst (λ (ss : List Step). IsOrderFor o (record { vars = t.vars; steps = ss })) (sym more.is) (steps_longer o t.vars t.steps more.more is))

-- with other room
pub order_reserved : (o p : OrderValue) (t : TrailValue) → SameOrder o p → IsOrderFor o t → IsOrderFor p t
order_reserved o p t same is = record {
  known = is.known ∙ sym (ap length same.activities);
  open_wait = λ var positive within open'. subst (λ (ws : List ℕ). Contains ws var) (sym same.waiting) (is.open_wait var positive within open');
}
