-- Who waits, as a trail grows and shrinks.
use Rattle.std.proofs.Common.{◌≡◌, ◌≢◌, ℕ, ◌+◌, ◌-◌, ◌<◌, ◌≤◌, max, Bool, not, List, [], ◌∷◌, length, get_or, take, replicate, Option, None, Some, arith, ap, sym, ◌∙◌, subst, ⊎_elim, length-set, get_or-set_other, get_or-set_same}
use Rattle.std.proofs.lemmas.Bool.{cases_eq, cases_lt}
use Rattle.std.proofs.lemmas.List.{get_or-replicate, length-replicate, set_past}
use Rattle.std.proofs.lemmas.Option.{none-some}
use Rattle.std.specs.List.{Contains, fold}
use Rattle.std.specs.Prelude.{option_map, slice_get}
use Rattle.pb_lin.proofs.AtPlace.{All_place, take_place}
use Rattle.scut_base.proofs.Tracking.{none_under}
use Rattle.clause_prop.specs.Steps.{AreSteps, TrailValue, assigned, cut, partial, with_step, with_true}
use Rattle.clause_prop.specs.declared.step.Step.{Step}
use Rattle.clause_prop.proofs.Assigned.{Values, assigned-push, length-assigned}
use Rattle.cdcl_state.specs.Order.{AllOpenWait, IsGrown, IsOpenVar, OrderValue, OtherOpenWait, WaitsToo}

-- a variable is open where the table has nothing for it
is_open : (t : TrailValue) (var : ℕ) → IsOpenVar t var → get_or (partial t) (var - 1) None ≡ None
is_open t var o = none_under (λ (b : Bool). b) _ o

opens : (t : TrailValue) (var : ℕ) → get_or (partial t) (var - 1) None ≡ None → IsOpenVar t var
opens t var none = ap (option_map (λ (b : Bool). b)) none

-- what is open under a step more was open before
open_before : (p : Values) (s : Step) (i : ℕ) → get_or (with_true p s) i None ≡ None → get_or p i None ≡ None
open_before p s i none = ⊎_elim
    (λ (e : i ≡ s.lit.var - 1). ⊎_elim
    (λ (inside : s.lit.var - 1 < length p). absurd (none-some (not s.lit.neg) (sym none ∙ ap (λ (j : ℕ). get_or (with_true p s) j None) e ∙ get_or-set_same p (s.lit.var - 1) (Some (not s.lit.neg)) None inside)))
    (λ (past : length p ≤ s.lit.var - 1). ap (λ (v : Values). get_or v i None) (sym (set_past p (s.lit.var - 1) (Some (not s.lit.neg)) past)) ∙ none)
    (cases_lt (s.lit.var - 1) (length p)))
    (λ (ne : i ≢ s.lit.var - 1). sym (get_or-set_other p (s.lit.var - 1) i (Some (not s.lit.neg)) None ne) ∙ none)
    (cases_eq i (s.lit.var - 1))

-- the step's own variable isn't open
not_own : (p : Values) (s : Step) → s.lit.var - 1 < length p → get_or (with_true p s) (s.lit.var - 1) None ≡ None → ⊥
not_own p s inside none = none-some (not s.lit.neg) (sym none ∙ get_or-set_same p (s.lit.var - 1) (Some (not s.lit.neg)) None inside)

pushed : (t : TrailValue) (s : Step) (var : ℕ) → IsOpenVar (with_step t s) var → get_or (with_true (partial t) s) (var - 1) None ≡ None
pushed t s var o = ap (λ (v : Values). get_or v (var - 1) None) (sym (assigned-push t.vars t.steps s)) ∙ is_open (with_step t s) var o

pub waiting_longer : (o : OrderValue) (t : TrailValue) (s : Step) → AllOpenWait o t → AllOpenWait o (with_step t s)
waiting_longer o t s waiting var positive within open' = waiting var positive within (opens t var (open_before (partial t) s (var - 1) (pushed t s var open')))

pub waiting_decided : (o : OrderValue) (t : TrailValue) (s : Step) → 0 < s.lit.var → s.lit.var ≤ t.vars → OtherOpenWait o t s.lit.var → AllOpenWait o (with_step t s)
waiting_decided o t s from_one inside waiting var positive within open' =
    let none = pushed t s var open' in
    waiting var positive within (opens t var (open_before (partial t) s (var - 1) none))
    (λ (e : var ≡ s.lit.var). not_own (partial t) s (omega (arith, length-assigned t.vars t.steps)) (subst (λ (v : ℕ). get_or (with_true (partial t) s) (v - 1) None ≡ None) e none))

pub waiting_cut : (o p : OrderValue) (t : TrailValue) (k : ℕ) (s : Step) → AreSteps t.vars t.steps → slice_get t.steps k ≡ Some s → AllOpenWait o (cut t (k + 1)) → WaitsToo o p s.lit.var → AllOpenWait p (cut t k)
waiting_cut o p t k s are there waiting w var positive within open' = ⊎_elim
    (λ (e : var ≡ s.lit.var). subst (λ (v : ℕ). Contains p.waiting v) (sym e) w.here)
    (λ (ne : var ≢ s.lit.var). w.kept var (waiting var positive within (opens (cut t (k + 1)) var
    (ap (λ (ss : List Step). get_or (assigned t.vars ss) (var - 1) None) (take_place t.steps k s there)
    ∙ ap (λ (v : Values). get_or v (var - 1) None) (assigned-push t.vars (take k t.steps) s)
    ∙ get_or-set_other (partial (cut t k)) (s.lit.var - 1) (var - 1) (Some (not s.lit.neg)) None (λ e. ne (omega (arith, own)))
    ∙ is_open (cut t k) var open'))))
    (cases_eq var s.lit.var)
  where
    own : 0 < s.lit.var
    own = (All_place (λ r. (0 < r.lit.var) × (r.lit.var ≤ t.vars)) t.steps k s are.within there).0

-- two tables that agree up to n still do after the same steps
agree : (p q : Values) (steps : List Step) (n : ℕ) → length p ≡ n → n ≤ length q → ((i : ℕ) → i < n → get_or p i None ≡ get_or q i None) → (i : ℕ) → i < n → get_or (fold with_true p steps) i None ≡ get_or (fold with_true q steps) i None
agree p q [] n long longer same i less = same i less
agree p q (s ∷ steps) n long longer same i less =
    agree (with_true p s) (with_true q s) steps n (length-set p (s.lit.var - 1) (Some (not s.lit.neg)) ∙ long) (omega (arith, length-set q (s.lit.var - 1) (Some (not s.lit.neg)))) set_both i less
  where
    set_both : (j : ℕ) → j < n → get_or (with_true p s) j None ≡ get_or (with_true q s) j None
    set_both j inside = ⊎_elim
        (λ (e : j ≡ s.lit.var - 1).
        ap (λ (x : ℕ). get_or (with_true p s) x None) e ∙ get_or-set_same p (s.lit.var - 1) (Some (not s.lit.neg)) None (omega arith)
        ∙ sym (ap (λ (x : ℕ). get_or (with_true q s) x None) e ∙ get_or-set_same q (s.lit.var - 1) (Some (not s.lit.neg)) None (omega arith)))
        (λ (ne : j ≢ s.lit.var - 1). get_or-set_other p (s.lit.var - 1) j (Some (not s.lit.neg)) None ne ∙ same j inside ∙ sym (get_or-set_other q (s.lit.var - 1) j (Some (not s.lit.neg)) None ne))
        (cases_eq j (s.lit.var - 1))

pub waiting_grown : (o p : OrderValue) (t : TrailValue) (n : ℕ) → t.vars ≡ length o.activities → IsGrown o p n → AllOpenWait o t → AllOpenWait p (record { vars = max n t.vars; steps = t.steps })
waiting_grown o p t n vars g waiting var positive within open' = ⊎_elim
    (λ (new : t.vars < var). g.fresh var (omega arith) (omega arith))
    (λ (old : var ≤ t.vars). g.kept var (waiting var positive old (opens t var
    (agree (replicate t.vars None) (replicate (max n t.vars) None) t.steps t.vars (length-replicate {A = Option Bool} t.vars None) (omega (arith, length-replicate {A = Option Bool} (max n t.vars) None)) both (var - 1) (omega arith)
    ∙ is_open (record { vars = max n t.vars; steps = t.steps }) var open'))))
    (cases_lt t.vars var)
  where
    both : (i : ℕ) → i < t.vars → get_or (replicate {A = Option Bool} t.vars None) i None ≡ get_or (replicate {A = Option Bool} (max n t.vars) None) i None
    both i less = get_or-replicate {A = Option Bool} t.vars i None None less ∙ sym (get_or-replicate {A = Option Bool} (max n t.vars) i None None (omega arith))
