-- What hints lead to doesn't depend on how many more variables than the state's a partial assignment has room for.
use Rattle.std.proofs.Common.{◌≡◌, ℕ, ◌+◌, ◌-◌, ◌^◌, ◌<◌, ◌≤◌, Option, Some, None, List, [], ◌∷◌, length, slice_index_or, ap, arith, refl, subst}
use Rattle.std.proofs.lemmas.List.{length-map}
use Rattle.std.specs.Prelude.{IfSome, Result, Ok, Err}
use Rattle.std.specs.List.{All}
use Rattle.std.proofs.lemmas.List.Elements.{All-nil, All-cons, All-map, All-weaker}
use Rattle.scut_base.proofs.Options.{if_some}
use Rattle.scut_base.specs.Literal.{Literal}
use Rattle.pb_lin.specs.Constraint.{ConstraintValue, AreOnes, IsNormal, UpTo, literals, negation, opposite, opposite_terms, total}
use Rattle.pb_lin.proofs.Ones.{total_ones}
use Rattle.pb_lin.proofs.OppositeTerms.{normal-opposite}
use Rattle.pb_lin.specs.Given.{Given, GivenWithin, IsWithin}
use Rattle.pb_lin.specs.LineMap.{LineMap}
use Rattle.hint_rup.specs.Hints.{line_of, before, named, IsReplayed}
use Rattle.hint_rup.specs.declared.hint.Hint.{Hint}
use Rattle.hint_rup.specs.declared.hint.Hint.TheVariants.{Id, Negated, Denied}
use Rattle.hint_rup.specs.declared.hint.RupFault.{RupFault}
use Rattle.hint_rup.specs.declared.hint.RupFault.TheVariants.{NoSuchId, Open}
use Rattle.hint_rup.proofs.Lengths.{conflicts_at_length}
use Rattle.proof_laws.specs.State.{StateValue, IsState}
use Rattle.proof_laws.specs.Refusal.{given_in}

within_more : (n m : ℕ) → n ≤ m → (c : ConstraintValue) → IsWithin n c → IsWithin m c
within_more n m le c within = record {
  normal = within.normal;
  upto = λ k d short. let most : (slice_index_or c.terms k d).0.var ≤ n = within.upto k d short in omega arith;
}

before_within : (n : ℕ) (o : Option ConstraintValue) (cs : List ConstraintValue) → ((c : ConstraintValue) → o ≡ Some c → IsWithin n c) → All (IsWithin n) cs → All (IsWithin n) (before o cs)
before_within n None cs first rest = All-nil (IsWithin n)
before_within n (Some c) cs first rest = All-cons (IsWithin n) c cs (first c refl) rest

line_within : (n : ℕ) (given : Given) → GivenWithin n given → (h : Hint) (c : ConstraintValue) → line_of given h ≡ Some c → IsWithin n c
line_within n given within (Id id) c is = within.lines id c is
line_within n given within Negated c is = if_some (IsWithin n) given.negated c within.negated is
line_within n given within Denied c is = if_some (IsWithin n) given.denied c within.denied is

named_within : (n : ℕ) (given : Given) → GivenWithin n given → (hints : List Hint) → All (IsWithin n) (named given hints)
unfolding named
named_within n given within [] = All-nil (IsWithin n)
named_within n given within (h ∷ hints) = before_within n (line_of given h) (named given hints) (line_within n given within h) (named_within n given within hints)

module _ (m n : ℕ) (le : n ≤ m) (first : ConstraintValue) (given : Given) (hints : List Hint) (within : GivenWithin n given) (first_within : IsWithin n first) where
  abbrev all : List ConstraintValue
  all = first ∷ named given hints

  in_n : All (IsWithin n) all
  in_n = All-cons (IsWithin n) first (named given hints) first_within (named_within n given within hints)

  in_m : All (IsWithin m) all
  in_m = All-weaker (IsWithin n) (IsWithin m) (λ c. within_more n m le c) all in_n

  replayed_at : (result : Result (Unit {0}) RupFault) → IsReplayed m first given hints result → IsReplayed n first given hints result
  replayed_at (Ok done) is = conflicts_at_length m n all in_m in_n is
  replayed_at (Err (NoSuchId id)) is = ((λ found. is.0 (conflicts_at_length n m all in_n in_m found)), is.1)
  replayed_at (Err Open) is = ((λ found. is.0 (conflicts_at_length n m all in_n in_m found)), is.1)

if_both : (n : ℕ) (o : Option ConstraintValue) → IfSome o (λ c. IsNormal c.terms c.degree) → IfSome o (UpTo n) → IfSome o (IsWithin n)
if_both n None normal upto = tt
if_both n (Some c) normal upto = record { normal = normal; upto = upto }

-- what a state's lines and two more constraints are
pub given_within : (s : StateValue) → IsState s → (negated : ConstraintValue) (denied : Option ConstraintValue) → IsWithin s.vars negated → IfSome denied (λ c. IsNormal c.terms c.degree) → IfSome denied (UpTo s.vars) → GivenWithin s.vars (given_in s (Some negated) denied)
given_within s state negated denied first normal upto = record {
  lines = λ id c is. record { normal = state.normal id c is; upto = state.variables id c is };
  negated = first;
  denied = if_both s.vars denied normal upto;
}

-- what a partial assignment of the state's variables leads to, where one of m variables does
pub replayed_in : (s : StateValue) → IsState s → (lines : LineMap) → lines ≡ s.live → (m : ℕ) → s.vars ≤ m → (negated : ConstraintValue) (denied : Option ConstraintValue) (hints : List Hint) → IsWithin s.vars negated → IfSome denied (λ c. IsNormal c.terms c.degree) → IfSome denied (UpTo s.vars) →
    (result : Result (Unit {0}) RupFault) → IsReplayed m negated (record { lines = lines; negated = Some negated; denied = denied }) hints result → IsReplayed s.vars negated (given_in s (Some negated) denied) hints result
replayed_in s state lines same m le negated denied hints first normal upto result is =
    replayed_at m s.vars le negated (given_in s (Some negated) denied) hints (given_within s state negated denied first normal upto) first result
    (subst (λ (held : LineMap). IsReplayed {T = Unit {0}} m negated (record { lines = held; negated = Some negated; denied = denied }) hints result) same is)

-- the variables of a negation are those of the constraint
pub negation_upto : (n : ℕ) (c : ConstraintValue) → UpTo n c → UpTo n (negation c)
negation_upto n c upto = All-map (λ t. t.0.var ≤ n) (λ t. (opposite t.0, t.1)) c.terms upto

-- and that of a clause is no larger than its literals, which have room in memory
pub clause_negation : (c : ConstraintValue) (lits : List Literal) → IsNormal c.terms c.degree → AreOnes c.terms → c.degree ≡ 1 → lits ≡ literals c.terms → length lits < 2 ^ 64
    → IsNormal (negation c).terms (negation c).degree
clause_negation c lits normal ones degree same short =
    let few = total_ones c.terms ones in
    let long = ap length same in
    let as_many = length-map c.terms (λ t. t.0) in
    normal-opposite c.terms (opposite_terms c.terms) c.degree ((total c.terms + 1) - c.degree) normal refl (omega arith)
