-- A core of no assumptions is the line `0 >= 1`, and the line that ends the proof by it may be added.
use Rattle.std.proofs.Common.{◌≡◌, ◌⊎◌, inl, inr, ℕ, ◌^◌, ◌==◌, Bool, true, false, not, None, Some, List, [], ◌∷◌, ◌++◌, ap, refl, sym, subst, ◌∙◌, arith, eqb-true}
use Rattle.std.specs.Prelude.{Option, nat_lt}
use Rattle.std.specs.FinMap.{get}
use Rattle.std.specs.List.{Contains, list_all}
use Rattle.std.proofs.lemmas.Bool.{and_parts}
use Rattle.scut_base.specs.Literal.{Literal}
use Rattle.scut_base.proofs.Lists.{Contains-nil}
use Rattle.pb_lin.specs.Constraint.{ConstraintValue, literals, opposite}
use Rattle.pb_lin.specs.Problem.{ProblemValue}
use Rattle.proof_laws.specs.State.{StateValue}
use Rattle.proof_laws.specs.Steps.{with_end}
use Rattle.proof_laws.specs.Refusal.{FirstOf, IsRuleFault, end_fault, fault_unless, is_clause, range_fault, written}
use Rattle.proof_laws.specs.Replay.{IsReplay}
use Rattle.proof_laws.specs.declared.line.Line.{Line}
use Rattle.proof_laws.specs.declared.line.Line.TheVariants.{End}
use Rattle.proof_laws.specs.declared.why.Why.{Why}
use Rattle.proof_laws.specs.declared.why.Why.TheVariants.{AfterEnd, LogLong}
use Rattle.proof_laws.proofs.Replays.{replay_before}
use Rattle.proof_rules.specs.Recording.{Snapshot, MayBeAdded}
use Rattle.oracle.specs.Solving.{IsClauseAgainst, IsCore, Reaches}
use Rattle.representative_search.specs.Seeking.{EndsBy, HasEnded, IsOpen}

-- "0 >= 1"
abbrev contradiction : ConstraintValue
contradiction = record { terms = []; degree = 1 }

-- ---- the core

clause_degree : (c : ConstraintValue) → is_clause c ≡ true → c.degree ≡ 1
clause_degree c is =
    let parts = and_parts (list_all (λ t. t.1 == 1) c.terms) (c.degree == 1) is in
    eqb-true c.degree 1 parts.1

-- it is the clause of no literals
empty_clause : (c : ConstraintValue) → IsClauseAgainst [] c → c ≡ contradiction
empty_clause c against = by c.terms refl
  where
    by : (terms : List (Literal × ℕ)) → c.terms ≡ terms → c ≡ contradiction
    by [] is =
        ap (λ (ts : List (Literal × ℕ)). record { terms = ts; degree = c.degree }) is
        ∙ ap (λ (n : ℕ). record { terms = []; degree = n }) (clause_degree c against.clause)
    by (t ∷ terms) is =
        let there : Contains (literals c.terms) t.0 =
        subst (λ (ts : List (Literal × ℕ)). Contains (literals ts) t.0) (sym is) (0, omega arith, refl) in
        absurd (Contains-nil (opposite t.0) ((against.exact t.0).0 there))

core_is_empty : (lits : List Literal) (id : ℕ) (s : StateValue) → IsCore [] lits id s → lits ≡ []
core_is_empty [] id s core = refl
core_is_empty (l ∷ lits) id s core = absurd (Contains-nil l (core.among 0 l (omega arith)))

pub core_line : (p : ProblemValue) (lines : List Line) (lits : List Literal) (id : ℕ) → Reaches p lines (IsCore [] lits id) → Reaches p lines (λ s. get s.live id ≡ Some contradiction)
core_line p lines lits id is s reached =
    let core = is s reached in
    let against = subst (λ (ls : List Literal). IsClauseAgainst ls core.line) (core_is_empty lits id s core) core.against in
    core.live ∙ ap (λ (c : ConstraintValue). Some c) (empty_clause core.line against)

-- ---- the line that ends the proof

end_rule : (p : ProblemValue) (s : StateValue) (id : ℕ) → get s.live id ≡ Some contradiction → IsRuleFault p s (End id) None
end_rule p s id live = sym (ap (λ (o : Option ConstraintValue). end_fault o id) live)

-- the conditions of the line, by whether the proof has ended and whether there is room for a line
abbrev IsEndFault : ProblemValue → StateValue → ℕ → Bool → Bool → Option Why → Type 0
IsEndFault p s id ended short = FirstOf (fault_unless (not ended) AfterEnd)
    (FirstOf (fault_unless short LogLong) (FirstOf (range_fault s.vars (written (End id))) (IsRuleFault p s (End id))))

-- only the number of lines may stand against it
end_follows : (p : ProblemValue) (s : StateValue) (id : ℕ) → get s.live id ≡ Some contradiction → (ended short : Bool)
    → ended ≡ false → IsEndFault p s id ended short None ⊎ IsEndFault p s id ended short (Some LogLong)
end_follows p s id live true short running = cc
end_follows p s id live false true running = inl (end_rule p s id live)
end_follows p s id live false false running = inr refl

may_end : (a : Snapshot) (id : ℕ) → IsOpen a → Reaches a.problem a.lines (λ s. get s.live id ≡ Some contradiction) → MayBeAdded a.problem a.lines (End id)
may_end a id running line s reached = end_follows a.problem s id (line s reached) s.ended (nat_lt s.lines (2 ^ 61)) (running.state s reached).0

-- which line it is
end_line : (a : Snapshot) (line : Line) → EndsBy a line
    → (id : ℕ) × (line ≡ End id) × Reaches a.problem a.lines (λ s. get s.live id ≡ Some contradiction)
end_line a (End id) is = (id, refl, is)
end_line a line is = absurd is

pub may_end_by : (a : Snapshot) (line : Line) → IsOpen a → EndsBy a line → MayBeAdded a.problem a.lines line
may_end_by a line running is =
    let end = end_line a line is in
    subst (λ (l : Line). MayBeAdded a.problem a.lines l) (sym end.1) (may_end a end.0 running end.2)

-- ---- after it

with_end_line : (a : Snapshot) (id : ℕ) (s t : StateValue) → IsOpen a → IsReplay a.problem a.lines s → IsReplay a.problem (a.lines ++ End id ∷ []) t → (t.ended ≡ true) × (t.sols ≡ [])
with_end_line a id s t running before after =
    let next = replay_before a.problem a.lines (End id) s t before after in
    let made : t ≡ with_end s = next.makes in
    (ap (λ (u : StateValue). u.ended) made, ap (λ (u : StateValue). u.sols) made ∙ (running.state s before).1)

pub ended_after : (a b : Snapshot) (line : Line) (s t : StateValue) → IsOpen a → EndsBy a line → b.lines ≡ a.lines ++ line ∷ [] → b.problem ≡ a.problem
    → IsReplay a.problem a.lines s → IsReplay b.problem b.lines t → HasEnded a.problem b.lines
ended_after a b line s t running is added problem before after =
    let end = end_line a line is in
    let lines : b.lines ≡ a.lines ++ End end.0 ∷ [] = added ∙ ap (λ (l : Line). a.lines ++ l ∷ []) end.1 in
    let reached : IsReplay a.problem b.lines t = subst (λ (p : ProblemValue). IsReplay p b.lines t) problem after in
    let there : IsReplay a.problem (a.lines ++ End end.0 ∷ []) t = subst (λ (ls : List Line). IsReplay a.problem ls t) lines reached in
    let last = with_end_line a end.0 s t running before there in
    (t, reached, last.0, last.1)
