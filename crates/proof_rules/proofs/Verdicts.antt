-- Verdicts, condition by condition.
use Rattle.std.proofs.Common.{◌≡◌, ℕ, ◌<◌, ◌≤◌, ◌^◌, Bool, true, false, not, Option, Some, None, List, map, refl, ap, sym, subst, arith}
use Rattle.std.specs.Prelude.{option_map, nat_lt, Result, Ok, Err}
use Rattle.std.proofs.lemmas.Bool.Decides.{Decides-ltb}
use Rattle.std.specs.List.{find}
use Rattle.scut_base.specs.Literal.{Literal}
use Rattle.pb_lin.specs.Constraint.{ConstraintValue, total}
use Rattle.pb_lin.specs.Problem.{ProblemValue}
use Rattle.cutting_planes.specs.declared.token.PolToken.{PolToken}
use Rattle.proof_laws.specs.State.{StateValue}
use Rattle.proof_laws.specs.Refusal.{FirstOf, IsCutFault, IsSolFault, IsRuleFault, IsTokensFault, assignment_of, broken_row, contradiction_fault, fault_unless, first_fault, given_in, misplaced, range_fault, written}
use Rattle.proof_laws.specs.declared.line.Line.{Line}
use Rattle.proof_laws.specs.declared.why.Why.{Why}
use Rattle.proof_laws.specs.declared.why.Why.TheVariants.{AfterEnd, LogLong, SolRow, VarRange}
use Rattle.proof_rules.specs.Verdict.{IsEvaluated, IsReason, IsVerdict, common_fault}
use Rattle.proof_rules.specs.declared.fault.StepFault.{StepFault}
use Rattle.proof_rules.specs.declared.fault.StepFault.TheVariants.{Refused, NoMemory}

-- a fault of one judgement is one of another that it belongs to
pub stopped : (T U : Type 0) (J K : Option Why → Type 0) → ((why : Why) → J (Some why) → K (Some why)) → (fault : StepFault) → IsVerdict {T = T} J (Err fault) → IsVerdict {T = U} K (Err fault)
stopped T U J K each (Refused why) is = each why is
stopped T U J K each NoMemory is = tt

pub no_fault : {X : Type 0} (why : X → Why) (o : Option X) (Rest : Option Why → Type 0) (fault : Option Why) → o ≡ None → Rest fault → FirstOf (option_map why o) Rest fault
no_fault {X} why o Rest fault is rest = subst (λ (p : Option X). FirstOf (option_map why p) Rest fault) (sym is) rest

-- a logged model whose places, rows and cut's variables are right has the faults of its ids
pub fault_of_ids : (p : ProblemValue) (s : StateValue) (model cut : List Literal) (ids : List ℕ) (fault : Option Why) → misplaced 1 p.vars model ≡ None → broken_row (assignment_of model) p.rows ≡ None → find (λ v. nat_lt s.vars v) (map (λ (l : Literal). l.var) cut) ≡ None →
    IsCutFault s.live cut (assignment_of model) 1 p.costs ids fault → IsSolFault p s model cut ids fault
fault_of_ids p s model cut ids fault placed holds within rest =
    let last = IsCutFault s.live cut (assignment_of model) 1 p.costs ids in
    no_fault VarRange (misplaced 1 p.vars model) (FirstOf (option_map SolRow (broken_row (assignment_of model) p.rows)) (FirstOf (range_fault s.vars (map (λ (l : Literal). l.var) cut)) last)) fault placed
    (no_fault SolRow (broken_row (assignment_of model) p.rows) (FirstOf (range_fault s.vars (map (λ (l : Literal). l.var) cut)) last) fault holds
    (no_fault VarRange (find (λ v. nat_lt s.vars v) (map (λ (l : Literal). l.var) cut)) last fault within rest))

-- where the first of two judgements refuses, both together do
pub first_refused : (T U : Type 0) (o : Option Why) (Rest : Option Why → Type 0) (fault : StepFault) → IsVerdict {T = T} (λ f. f ≡ o) (Err fault) → IsVerdict {T = U} (FirstOf o Rest) (Err fault)
first_refused T U None Rest (Refused why) is = absurd cc
first_refused T U (Some own) Rest (Refused why) is = is
first_refused T U o Rest NoMemory is = tt

-- where the first finds nothing, the other decides
pub first_passed : (T : Type 0) (o : Option Why) (Rest : Option Why → Type 0) (r : Result T StepFault) → None ≡ o → IsVerdict Rest r → IsVerdict (FirstOf o Rest) r
first_passed T o Rest r none is = subst (λ (q : Option Why). IsVerdict (FirstOf q Rest) r) none is

-- the same of three that find nothing
firsts_passed : (a b c : Option Why) (Rest : Option Why → Type 0) (fault : Option Why) → None ≡ first_fault a (first_fault b c) → Rest fault → FirstOf a (FirstOf b (FirstOf c Rest)) fault
firsts_passed (Some why) b c Rest fault none rest = absurd cc
firsts_passed None (Some why) c Rest fault none rest = absurd cc
firsts_passed None None (Some why) Rest fault none rest = absurd cc
firsts_passed None None None Rest fault none rest = rest

-- a line that has no fault of every kind's is refused by its rule
pub rule_refused : (T : Type 0) (p : ProblemValue) (s : StateValue) (line : Line) (fault : StepFault) → None ≡ common_fault s line → IsVerdict {T = T} (IsRuleFault p s line) (Err fault) → IsReason p s line fault
rule_refused T p s line (Refused why) none is = firsts_passed (fault_unless (not s.ended) AfterEnd) (fault_unless (nat_lt s.lines (2 ^ 61)) LogLong) (range_fault s.vars (written line)) (IsRuleFault p s line) (Some why) none is
rule_refused T p s line NoMemory none is = tt

-- the fault of tokens that have no value
pub tokens_refused : (U : Type 0) (s : StateValue) (negated denied : ConstraintValue) (tokens : List PolToken) (otherwise : Why) (fault : StepFault) → IsEvaluated (given_in s (Some negated) (Some denied)) tokens (Err fault) → IsVerdict {T = U} (IsTokensFault s negated denied tokens otherwise) (Err fault)
tokens_refused U s negated denied tokens otherwise (Refused why) is = (Err is.0, is.1, ap (λ (w : Why). Some w) is.2)
tokens_refused U s negated denied tokens otherwise NoMemory is = tt

fault_where_false : (b : Bool) (why : Why) → (b ≡ true → ⊥) → Some why ≡ fault_unless b why
fault_where_false true why not_so = absurd (not_so refl)
fault_where_false false why not_so = refl

-- a value that is a contradiction, and one that is none
pub contradicts : (c : ConstraintValue) (otherwise : Why) → total c.terms < c.degree → None ≡ contradiction_fault otherwise (Ok c)
contradicts c otherwise below = sym (ap (λ (b : Bool). fault_unless b otherwise) ((Decides-ltb (total c.terms) c.degree).1 below))

pub contradicts_not : (c : ConstraintValue) (otherwise : Why) → c.degree ≤ total c.terms → Some otherwise ≡ contradiction_fault otherwise (Ok c)
contradicts_not c otherwise reached = fault_where_false (nat_lt (total c.terms) c.degree) otherwise (λ e. let below = (Decides-ltb (total c.terms) c.degree).0 e in absurd (omega arith))
