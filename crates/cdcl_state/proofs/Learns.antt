-- A clause that is learned after a jump back.
use Rattle.std.proofs.Common.{◌≡◌, ℕ, ◌≤◌, None, List, get_or, ap, sym, subst, inl, inr}
use Rattle.std.specs.FinMap.{insert}
use Rattle.std.proofs.lemmas.List.Elements.{All-map}
use Rattle.scut_base.specs.Literal.{Literal}
use Rattle.scut_base.specs.Assignment.{partial_truth}
use Rattle.pb_lin.specs.Constraint.{ConstraintValue, UpTo}
use Rattle.pb_lin.specs.LineMap.{LineMap}
use Rattle.proof_laws.specs.Steps.{clause}
use Rattle.clause_prop.specs.Steps.{TrailValue, partial, cut, with_step}
use Rattle.clause_prop.specs.declared.step.Step.{Step}
use Rattle.cdcl_trail.specs.SearchTrail.{IsSearchTrail}
use Rattle.cdcl_trail.specs.Learning.{IsFalseBy}
use Rattle.cdcl_trail.proofs.Truths.{var_within}
use Rattle.cdcl_trail.proofs.Jumps.{open_at, top_gone}
use Rattle.cdcl_state.specs.Searching.{IsReadyToLearn, SearchValue}

-- the clause is ready to be learned
abbrev pub Ready : ConstraintValue → ℕ → Literal → SearchValue → Type 0
Ready c level l s = (old : TrailValue) × (top : ℕ) × (lits : List Literal) × (c ≡ clause lits) × IsReadyToLearn s.store old s.trail top level lits l

-- the variable of a literal that is false
false_within : (store : LineMap) (t : TrailValue) (P : Step → Type 0) (l : Literal) → IsSearchTrail store t → IsFalseBy t P l → l.var ≤ t.vars
false_within store t P l search f = subst (λ (v : ℕ). v ≤ t.vars) (ap (λ (m : Literal). m.var) f.is) (var_within t.vars t.steps f.place f.step search.steps f.there).1

pub lit_within : (store : LineMap) (old t : TrailValue) (top level : ℕ) (lits : List Literal) (l : Literal) → IsReadyToLearn store old t top level lits l → l.var ≤ t.vars
lit_within store old t top level lits l ready = subst (λ (n : ℕ). l.var ≤ n) ready.vars (false_within store old (λ s. s.level ≡ top) l ready.search ready.asserting.at_top)

pub clause_within : (store : LineMap) (old t : TrailValue) (top level : ℕ) (lits : List Literal) (l : Literal) → IsReadyToLearn store old t top level lits l → UpTo t.vars (clause lits)
clause_within store old t top level lits l ready = All-map (λ (u : Literal × ℕ). u.0.var ≤ t.vars) (λ x. (x, 1)) lits (λ k d short. elim (ready.asserting.others k d short) [
  | inl same ↦ subst (λ (m : Literal). m.var ≤ t.vars) (sym same) (lit_within store old t top level lits l ready)
  | inr f ↦ subst (λ (n : ℕ). (get_or lits k d).var ≤ n) ready.vars (false_within store old (λ s. s.level ≤ level) (get_or lits k d) ready.search f)
])

pub lit_open : (store : LineMap) (old t : TrailValue) (top level : ℕ) (lits : List Literal) (l : Literal) → IsReadyToLearn store old t top level lits l → partial_truth (partial t) l ≡ None
lit_open store old t top level lits l ready =
    subst (λ (u : TrailValue). partial_truth (partial u) l ≡ None) (sym ready.back.is)
    (open_at old ready.back.keep (λ s. s.level ≡ top) l ready.search.steps ready.asserting.at_top (top_gone old top level ready.back.keep lits l ready.asserting ready.back.up_to))

-- the clause as the line that was stored, and the trail as it is after the jump
pub learned : (store : LineMap) (old t : TrailValue) (keep id : ℕ) (lits : List Literal) (c : ConstraintValue) (s : Step) → c ≡ clause lits → t ≡ cut old keep → IsSearchTrail (insert store id (clause lits)) (with_step (cut old keep) s) → IsSearchTrail (insert store id c) (with_step t s)
learned store old t keep id lits c s is back search =
    subst (λ (d : ConstraintValue). IsSearchTrail (insert store id d) (with_step t s)) (sym is)
    (subst (λ (u : TrailValue). IsSearchTrail (insert store id (clause lits)) (with_step u s)) (sym back) search)
