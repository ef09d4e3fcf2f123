-- A clause whose literals' opposites are assumed.
use Rattle.std.proofs.Common.{◌≡◌, ℕ, ◌+◌, ◌<◌, Bool, true, false, ◌||◌, Some, List, [], ◌∷◌, ◌++◌, length, get_or, map, take, refl, sym, ap, ◌∙◌, subst, ⊎_elim}
use Rattle.std.specs.Prelude.{not}
use Rattle.std.specs.List.{All, Contains, list_any}
use Rattle.std.specs.FinMap.{get}
use Rattle.std.proofs.lemmas.Bool.{cases_Bool}
use Rattle.std.proofs.lemmas.List.{take_more}
use Rattle.scut_base.specs.Literal.{Literal, is_same}
use Rattle.scut_base.proofs.Lists.{Contains-cons, Contains-from_map, Contains-head, Contains-map}
use Rattle.pb_lin.specs.Constraint.{ConstraintValue, literals, opposite}
use Rattle.pb_lin.proofs.Covers.{is_same-true}
use Rattle.proof_laws.specs.State.{StateValue}
use Rattle.proof_laws.specs.Refusal.{is_clause}
use Rattle.oracle.specs.Solving.{IsClauseAgainst, IsCore}

-- a literal that is found among others is one of them
pub found : (lits : List Literal) (l : Literal) → list_any (λ m. is_same m l) lits ≡ true → Contains lits l
found [] l is = cc
found (m ∷ lits) l is = ⊎_elim
    (λ (same : is_same m l ≡ true). subst (λ (x : Literal). Contains (m ∷ lits) x) (is_same-true m l same) (Contains-head m lits))
    (λ other. Contains-cons m l lits (found lits l (sym (ap (λ (b : Bool). b || list_any (λ n. is_same n l) lits) other) ∙ is)))
    (cases_Bool (is_same m l))

-- one element more
pub longer : (lits : List Literal) (i : ℕ) (x : Literal) → i < length lits → x ≡ get_or lits i x → take (i + 1) lits ≡ take i lits ++ x ∷ []
longer lits i x short is = take_more lits i x short ∙ ap (λ (y : Literal). take i lits ++ y ∷ []) (sym is)

opposite_twice : (l : Literal) → opposite (opposite l) ≡ l
opposite_twice l = ap (λ (b : Bool). record { var = l.var; neg = b }) (twice l.neg)
  where
    twice : (b : Bool) → not (not b) ≡ b
    twice true = refl
    twice false = refl

against : (c : ConstraintValue) → is_clause c ≡ true → IsClauseAgainst (map opposite (literals c.terms)) c
against c clause = record {
  clause = clause;
  exact = λ l. (
    (λ has. Contains-map opposite (literals c.terms) l has),
    (λ has. let found = Contains-from_map opposite (literals c.terms) (opposite l) has in
        subst (Contains (literals c.terms)) (sym (opposite_twice found.0) ∙ ap opposite found.2 ∙ opposite_twice l) found.1),
  );
}

-- such a live clause leaves the assumptions a core
pub clause_core : (s : StateValue) (assumed core : List Literal) (id : ℕ) (c : ConstraintValue) → get s.live id ≡ Some c → is_clause c ≡ true
    → core ≡ map opposite (literals c.terms) → All (Contains assumed) core → IsCore assumed core id s
clause_core s assumed core id c live clause lits among = record {
  among = among;
  line = c;
  live = live;
  against = subst (λ (ls : List Literal). IsClauseAgainst ls c) (sym lits) (against c clause);
}
