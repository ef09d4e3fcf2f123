-- The clause against the literals that are to blame for one that is false.
use Rattle.std.proofs.Common.{◌≡◌, ◌⊎◌, inl, inr, ℕ, ◌<◌, ◌≤◌, Some, List, [], ◌∷◌, map, All, AllPairs, refl, sym, ap, ◌∙◌, subst}
use Rattle.std.specs.Prelude.{Contains}
use Rattle.std.specs.FinMap.{get}
use Rattle.std.proofs.lemmas.List.Elements.{All-map, All-weaker, All-contains_itself}
use Rattle.scut_base.specs.Literal.{Literal}
use Rattle.scut_base.proofs.Lists.{Contains-from_map, Contains-map}
use Rattle.pb_lin.specs.Constraint.{literals, ones, opposite}
use Rattle.pb_lin.specs.LineMap.{LineMap}
use Rattle.pb_lin.specs.Problem.{ProblemValue}
use Rattle.pb_lin.proofs.Ones.{AllPairs-map}
use Rattle.proof_laws.specs.Steps.{clause}
use Rattle.proof_laws.specs.declared.line.Line.{Line}
use Rattle.oracle.specs.Solving.{IsClauseAgainst, IsCore, Reaches}
use Rattle.clause_prop.specs.Steps.{TrailValue}
use Rattle.cdcl_trail.specs.SearchTrail.{IsSearchTrail}
use Rattle.cdcl_trail.proofs.Truths.{var_within}
use Rattle.cdcl_state.specs.Analysis.{IsBlame, IsDecided, IsForcedFalse}
use Rattle.cdcl_state.specs.declared.lesson.Blame.{Blame}
use Rattle.cdcl_state.proofs.TrailSteps.{opposite_twice}
use Rattle.cdcl_core.proofs.NamedLines.{clause_tested}

-- ---- the clause is over the trail's variables

module _ (store : LineMap) (t : TrailValue) (l : Literal) (r : Blame) (search : IsSearchTrail store t) (falsified : IsForcedFalse t l) (blame : IsBlame store t l r) where
  variable : (m : Literal) → (m ≡ l) ⊎ IsDecided t m → (0 < m.var) × (m.var ≤ t.vars)
  variable m (inl same) = subst (λ (v : ℕ). (0 < v) × (v ≤ t.vars)) (ap (λ (x : Literal). x.var) (falsified.is ∙ ap opposite (sym same))) (var_within t.vars t.steps falsified.place falsified.step search.steps falsified.there)
  variable m (inr decided) = subst (λ (x : Literal). (0 < x.var) × (x.var ≤ t.vars)) decided.4 (var_within t.vars t.steps decided.0 decided.1 search.steps decided.2)

  pub blame_within : All (λ m. (0 < m.var) × (m.var ≤ t.vars)) (map opposite r.lits)
  blame_within = All-map (λ (m : Literal). (0 < m.var) × (m.var ≤ t.vars)) opposite r.lits
      (All-weaker (λ (m : Literal). (m ≡ l) ⊎ IsDecided t m) (λ (m : Literal). (0 < m.var) × (m.var ≤ t.vars)) variable r.lits blame.decisions)

  pub blame_rising : AllPairs (λ m n. m.var < n.var) (map opposite r.lits)
  blame_rising = AllPairs-map (λ (m n : Literal). m.var < n.var) opposite (λ m. m) r.lits blame.rising

-- ---- the clause is against the literals

literals_ones : (lits : List Literal) → literals (ones lits) ≡ lits
literals_ones [] = refl
literals_ones (l ∷ lits) = ap (λ (ls : List Literal). l ∷ ls) (literals_ones lits)

pub clause_against : (lits : List Literal) → IsClauseAgainst lits (clause (map opposite lits))
clause_against lits = record {
  clause = clause_tested (map opposite lits);
  exact = λ l. (
    (λ has. let found = Contains-from_map opposite lits l (subst (λ (ls : List Literal). Contains ls l) (literals_ones (map opposite lits)) has) in
        subst (Contains lits) (sym (opposite_twice found.0) ∙ ap opposite found.2) found.1),
    (λ has. subst (λ (ls : List Literal). Contains ls l) (sym (literals_ones (map opposite lits)))
        (subst (Contains (map opposite lits)) (opposite_twice l) (Contains-map opposite lits (opposite l) has))),
  );
}

pub core_named : (p : ProblemValue) (lines : List Line) (lits clause_lits : List Literal) (id : ℕ) → clause_lits ≡ map opposite lits → Reaches p lines (λ s. get s.live id ≡ Some (clause clause_lits)) → Reaches p lines (IsCore lits lits id)
core_named p lines lits clause_lits id same named s replay = record {
  among = All-contains_itself lits;
  line = clause (map opposite lits);
  live = named s replay ∙ ap (λ (ls : List Literal). Some (clause ls)) same;
  against = clause_against lits;
}
