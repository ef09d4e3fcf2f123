-- What an oracle's answer says of an objective's terms.
use Rattle.std.proofs.Common.{◌≡◌, ◌≢◌, ℕ, ◌<◌, ◌==◌, Bool, true, false, not, if◌then◌else◌, Some, List, [], ◌∷◌, ◌++◌, map, length, get_or, ap, refl, sym, subst, ◌∙◌, arith}
use Rattle.std.specs.Prelude.{Contains}
use Rattle.std.specs.List.{All, AllPairs, list_all}
use Rattle.std.proofs.lemmas.Bool.{and_parts, eqb-true}
use Rattle.std.proofs.lemmas.List.{get_or-map, get_or_default, length-map}
use Rattle.std.proofs.lemmas.List.Elements.{All-nil, All-contains, All-head, All-tail, All-cons}
use Rattle.scut_base.specs.Literal.{Literal}
use Rattle.scut_base.specs.Assignment.{lit_true, value_of}
use Rattle.scut_base.proofs.Lists.{Contains-from_map, Contains-head, Contains-nil}
use Rattle.pb_lin.specs.Constraint.{ConstraintValue, IsVariable, literals, opposite}
use Rattle.pb_lin.specs.Problem.{ProblemValue}
use Rattle.cutting_planes.proofs.Terms.{Terms}
use Rattle.proof_laws.specs.State.{StateValue}
use Rattle.proof_laws.specs.Legal.{IsNext}
use Rattle.proof_laws.specs.Replay.{IsReplay, Leads}
use Rattle.proof_laws.specs.declared.line.Line.{Line}
use Rattle.proof_laws.specs.declared.line.Line.TheVariants.{Rup, Learn, Reduce}
use Rattle.oracle.specs.Solving.{AddsSearchLines, AreAssumptions, IsCore, IsSearchLine, IsSolution}
use Rattle.sum_outputs.specs.Totals.{AreWeights}
use Rattle.search_base.proofs.Cuts.{opposite_twice}
use Rattle.search_base.proofs.Places.{from_places}
use Rattle.search_base.proofs.TurnStates.{replay_after}
use Rattle.core_boosting.specs.Boosting.{IsContradicted, IsCoreLine, ReachesOffset}
use Rattle.core_boosting.proofs.Countings.{constraint_same}

abbrev pub denied : Terms → List Literal
denied terms = map opposite (literals terms)

-- ---- what is assumed

pub may_deny : (n : ℕ) (terms : Terms) → AreWeights terms → All (λ t. IsVariable n t.0.var) terms → AreAssumptions n (denied terms)
may_deny n terms weights variables = record { variables = each; apart = apart }
  where
    place : (k : ℕ) (d : Literal) → k < length (denied terms) → (k < length terms) × (get_or (denied terms) k d ≡ opposite (get_or terms k (opposite d, 0)).0)
    place k d short =
        let one = length-map (literals terms) opposite in
        let other = length-map terms (λ (t : Literal × ℕ). t.0) in (
          omega arith,
          ap (λ (e : Literal). get_or (denied terms) k e) (sym (opposite_twice d))
              ∙ get_or-map opposite (literals terms) k (opposite d) (opposite (opposite d)) (omega arith)
              ∙ ap opposite (get_or-map (λ (t : Literal × ℕ). t.0) terms k (opposite d, 0) (opposite d) (omega arith)),
        )

    each : All (λ l. IsVariable n l.var) (denied terms)
    each k d short = let at = place k d short in
        subst (λ (l : Literal). IsVariable n l.var) (sym at.1) (variables k (opposite d, 0) at.0)

    apart : AllPairs (λ l m. l.var ≢ m.var) (denied terms)
    apart i j d before short e =
        let one = place i d (omega arith) in
        let other = place j d short in
        weights.apart i j (opposite d, 0) before other.0
        (sym (ap (λ (l : Literal). l.var) one.1) ∙ e ∙ ap (λ (l : Literal). l.var) other.1)

-- ---- a solution

false_where : (x : List Bool) (l : Literal) → lit_true x (opposite l) ≡ true → lit_true x l ≡ false
false_where x l is = by (value_of x l.var) l.neg is
  where
    by : (v n : Bool) → (if not n then not v else v) ≡ true → (if n then not v else v) ≡ false
    by true true e = refl
    by true false e = cc
    by false true e = cc
    by false false e = refl

none_true : (x : List Bool) (terms : Terms) → All (λ l. lit_true x l ≡ true) (denied terms) → All (λ t. lit_true x t.0 ≡ false) terms
none_true x [] all = All-nil (λ t. lit_true x t.0 ≡ false)
none_true x (t ∷ terms) all = All-cons (λ u. lit_true x u.0 ≡ false) t terms
    (false_where x t.0 (All-head (λ l. lit_true x l ≡ true) (opposite t.0) (denied terms) all))
    (none_true x terms (All-tail (λ l. lit_true x l ≡ true) (opposite t.0) (denied terms) all))

pub reaches_offset : (p : ProblemValue) (terms : Terms) (x : List Bool) (s : StateValue) → IsSolution p (denied terms) x s → ReachesOffset p terms s
reaches_offset p terms x s is = record {
  solution = x;
  solves = record { variables = is.variables; rows = is.rows; clauses = is.clauses; assumed = All-nil (λ l. lit_true x l ≡ true) };
  none = none_true x terms is.assumed;
}

-- ---- a core

contains_at : (xs : List Literal) (k : ℕ) (d : Literal) → k < length xs → Contains xs (get_or xs k d)
contains_at xs k d short = (k, short, get_or_default xs k (get_or xs k d) d short)

module _ (terms : Terms) (lits : List Literal) (id : ℕ) (s : StateValue) (core : IsCore (denied terms) lits id s) where
  opposite_same : (l m : Literal) → opposite l ≡ opposite m → l ≡ m
  opposite_same l m e = sym (opposite_twice l) ∙ ap opposite e ∙ opposite_twice m

  among : All (Contains (literals terms)) (literals core.line.terms)
  among k d short =
      let l = get_or (literals core.line.terms) k d in
      let against = (core.against.exact l).0 (contains_at (literals core.line.terms) k d short) in
      let assumed = All-contains (Contains (denied terms)) lits (opposite l) core.among against in
      let has = Contains-from_map opposite (literals terms) (opposite l) assumed in
      subst (Contains (literals terms)) (opposite_same has.0 l has.2) has.1

  -- of some literals
  pub core_line : (l : Literal) → Contains lits l → IsCoreLine terms id s
  core_line l has =
      let there = (core.against.exact (opposite l)).1 (subst (Contains lits) (sym (opposite_twice l)) has) in
      let long = length-map core.line.terms (λ (t : Literal × ℕ). t.0) in
      let short = there.1 in
      record { line = core.line; live = core.live; clause = core.against.clause; some = omega arith; among = among }

  no_terms : (ts : Terms) → ((l : Literal) → Contains (literals ts) l → ⊥) → ts ≡ []
  no_terms [] none = refl
  no_terms (t ∷ ts) none = absurd (none t.0 (Contains-head t.0 (literals ts)))

  -- of none
  pub no_core : lits ≡ [] → IsContradicted s
  no_core none =
      let parts = and_parts (list_all (λ t. t.1 == 1) core.line.terms) (core.line.degree == 1) core.against.clause in
      let empty = no_terms core.line.terms (λ l has. Contains-nil (opposite l) (subst (λ (ls : List Literal). Contains ls (opposite l)) none ((core.against.exact l).0 has))) in
      (id, core.live ∙ ap (λ (c : ConstraintValue). Some c) (constraint_same core.line.terms [] core.line.degree 1 empty (eqb-true core.line.degree 1 parts.1)))

-- ---- lines of a search define no variable

abbrev vars_of : StateValue → ℕ
vars_of s = s.vars

search_line_vars : (p : ProblemValue) (before : List Line) (line : Line) → IsSearchLine p before line → (s t : StateValue) → IsNext p s line t → t.vars ≡ s.vars
search_line_vars p before (Learn goal hints) is s t next = ap vars_of next.makes
search_line_vars p before (Reduce ids) is s t next = ap vars_of next.makes
search_line_vars p before (Rup goal hints) is s t next = ap vars_of next.makes
search_line_vars p before line is s t next = absurd is

abbrev KeepsVars : ProblemValue → Line → Type 0
KeepsVars p line = (s t : StateValue) → IsNext p s line t → t.vars ≡ s.vars

lines_vars : (p : ProblemValue) (lines : List Line) (s t : StateValue) → All (KeepsVars p) lines → Leads p s lines t → t.vars ≡ s.vars
lines_vars p [] s t all leads = ap vars_of leads
lines_vars p (line ∷ lines) s t all leads =
    lines_vars p lines leads.0 t (All-tail (KeepsVars p) line lines all) leads.2
    ∙ All-head (KeepsVars p) line lines all s leads.0 leads.1

pub search_vars : (p : ProblemValue) (old new : List Line) (s t : StateValue) → AddsSearchLines p old new → IsReplay p old s → IsReplay p new t → t.vars ≡ s.vars
search_vars p old new s t adds before after =
    lines_vars p adds.more s t
    (from_places (KeepsVars p) adds.more (λ first line rest e. search_line_vars p (old ++ first) line (adds.kinds first line rest e)))
    (replay_after p old new adds.more s t adds.is before after)

-- some list has some element
pub some_of : (lits : List Literal) → (lits ≡ [] → ⊥) → (l : Literal) × Contains lits l
some_of [] some = absurd (some refl)
some_of (l ∷ lits) some = (l, Contains-head l lits)
