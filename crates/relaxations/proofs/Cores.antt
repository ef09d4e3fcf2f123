-- Cores: lines by which no assignment makes all assumptions true.
use Rattle.std.proofs.Common.{◌≡◌, ℕ, ◌==◌, Bool, true, Some, List, [], ◌∷◌, get_or, ap, refl, sym, subst, ◌∙◌, arith, eqb-true}
use Rattle.std.specs.FinMap.{get}
use Rattle.std.specs.List.{All, Contains, list_all}
use Rattle.std.proofs.lemmas.Bool.{and_parts}
use Rattle.std.proofs.lemmas.List.{get_or_default}
use Rattle.std.proofs.lemmas.List.Elements.{All-contains}
use Rattle.scut_base.specs.Literal.{Literal}
use Rattle.scut_base.specs.Assignment.{lit_true}
use Rattle.scut_base.proofs.Lists.{Contains-map, Contains-nil, sum_by_zero}
use Rattle.pb_lin.specs.Constraint.{ConstraintValue, Holds, literals, opposite, term_value, value}
use Rattle.proof_laws.specs.State.{StateValue}
use Rattle.proof_laws.specs.Refusal.{is_clause}
use Rattle.instance_normal.proofs.Truth.{truth-opposite}
use Rattle.oracle.specs.Solving.{IsClauseAgainst, IsCore}
use Rattle.relaxations.proofs.Excesses.{LiveHold}

-- all literals are true
abbrev AreTrue : List Bool → List Literal → Type 0
AreTrue x lits = All (λ l. lit_true x l ≡ true) lits

clause_degree : (c : ConstraintValue) → is_clause c ≡ true → c.degree ≡ 1
clause_degree c is =
    let parts = and_parts (list_all (λ t. t.1 == 1) c.terms) (c.degree == 1) is in
    eqb-true c.degree 1 parts.1

false_value : (x : List Bool) (t : Literal × ℕ) → lit_true x (opposite t.0) ≡ true → term_value x t ≡ 0
false_value x t truth = let turned = truth-opposite x t.0 in grind arith

-- a clause of which all opposites are true doesn't hold
module _ (lits : List Literal) (c : ConstraintValue) (x : List Bool)
    (against : IsClauseAgainst lits c) (all : AreTrue x lits) where
  each_false : All (λ t. term_value x t ≡ 0) c.terms
  each_false k d short =
      let t = get_or c.terms k d in
      let here : Contains c.terms t = (k, short, get_or_default c.terms k t d short) in
      let there : Contains (literals c.terms) t.0 = Contains-map (λ (u : Literal × ℕ). u.0) c.terms t here in
      let among : Contains lits (opposite t.0) = (against.exact t.0).0 there in
      false_value x t (All-contains (λ l. lit_true x l ≡ true) lits (opposite t.0) all among)

  against_fails : Holds x c → ⊥
  against_fails holds =
      let one = clause_degree c against.clause in
      let none : value x c.terms ≡ 0 = sum_by_zero (term_value x) c.terms each_false in
      omega arith

-- where live lines hold, not all literals of a core are true
pub core_fails : (assumptions lits : List Literal) (id : ℕ) (s : StateValue) (x : List Bool)
    → IsCore assumptions lits id s → LiveHold s x → AreTrue x lits → ⊥
core_fails assumptions lits id s x core hold all =
    against_fails lits core.line x core.against all (hold id core.line core.live)

-- "0 >= 1"
abbrev contradiction : ConstraintValue
contradiction = record { terms = []; degree = 1 }

-- it is the clause of no literals
empty_clause : (c : ConstraintValue) → IsClauseAgainst [] c → c ≡ contradiction
empty_clause c against = by c.terms refl
  where
    by : (terms : List (Literal × ℕ)) → c.terms ≡ terms → c ≡ contradiction
    by [] is =
        ap (λ (ts : List (Literal × ℕ)). record { terms = ts; degree = c.degree }) is
        ∙ ap (λ (n : ℕ). record { terms = []; degree = n }) (clause_degree c against.clause)
    by (t ∷ terms) is =
        let there : Contains (literals c.terms) t.0 =
        subst (λ (ts : List (Literal × ℕ)). Contains (literals ts) t.0) (sym is) (0, omega arith, refl) in
        absurd (Contains-nil (opposite t.0) ((against.exact t.0).0 there))

pub empty_core : (assumptions lits : List Literal) (id : ℕ) (s : StateValue)
    → IsCore assumptions lits id s → lits ≡ [] → get s.live id ≡ Some contradiction
empty_core assumptions lits id s core none =
    let against = subst (λ (ls : List Literal). IsClauseAgainst ls core.line) none core.against in
    core.live ∙ ap (λ (c : ConstraintValue). Some c) (empty_clause core.line against)

-- nothing is assumed: then the core is empty
pub no_core : (lits : List Literal) (id : ℕ) (s : StateValue) → IsCore [] lits id s → lits ≡ []
no_core [] id s core = refl
no_core (l ∷ lits) id s core = absurd (Contains-nil l (core.among 0 l (omega arith)))
