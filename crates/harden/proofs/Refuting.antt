-- A row with the negation of what is left of it.
use Rattle.std.proofs.Common.{◌≡◌, ℕ, ◌+◌, ◌-◌, ◌<◌, ◌≤◌, Option, None, Some, List, [], ◌∷◌, refl, ap, arith, Ok, Err}
use Rattle.std.specs.Prelude.{◌^◌, nat_lt, MatchOption}
use Rattle.std.specs.FinMap.{get}
use Rattle.std.proofs.lemmas.Bool.{cond-false, le-ltb}
use Rattle.std.proofs.lemmas.List.Elements.{All-nil, All-cons}
use Rattle.std.proofs.lemmas.List.Sums.{sum_by-cons}
use Rattle.scut_base.specs.Literal.{Literal}
use Rattle.pb_lin.specs.Constraint.{ConstraintValue, IsNormal, negation, size, term_value, total}
use Rattle.pb_lin.specs.Given.{Given}
use Rattle.pb_lin.proofs.OppositeTerms.{value-opposite, total-opposite}
use Rattle.cutting_planes.specs.Rules.{IsSum, weakened}
use Rattle.cutting_planes.specs.Stack.{token_fault, named_fault, size_fault, IsPushed, IsStep, IsValueOn, Answer}
use Rattle.cutting_planes.specs.declared.token.PolToken.{PolToken}
use Rattle.cutting_planes.specs.declared.token.PolToken.TheVariants.{Id, Negated, Add}
use Rattle.cutting_planes.specs.declared.fault.PolFault.{PolFault}
use Rattle.cutting_planes.specs.declared.fault.PolFault.TheVariants.{Overflow}
use Rattle.proof_laws.specs.State.{StateValue}
use Rattle.proof_laws.specs.Refusal.{given_in}
use Rattle.harden.specs.Hardened.{row_tokens}
use Rattle.harden.specs.Laws.{OnlyAs, FixedRowsAreRefuted, coefficient}
use Rattle.harden.proofs.Splitting.{others, split_total, split_value}

on_none : (P : Type 0) (Q : PolFault → Type 0) (o : Option PolFault) → o ≡ None → P → MatchOption o P Q
on_none P Q None e p = p
on_none P Q (Some f) e p = cc

step : (given : Given) (token : PolToken) (stack next : List ConstraintValue) (rest : List PolToken) (answer : Answer) → token_fault given token stack ≡ None → IsStep given token stack next → IsValueOn given next rest answer → IsValueOn given stack (token ∷ rest) answer
step given token stack next rest answer fine is goes = on_none _ (λ f. answer ≡ Err f) (token_fault given token stack) fine (next, is, goes)

named_fine : (o : Option ConstraintValue) (id : ℕ) (c : ConstraintValue) → o ≡ Some c → named_fault o id ≡ None
named_fine None id c e = cc
named_fine (Some d) id c e = refl

named_pushed : (o : Option ConstraintValue) (c : ConstraintValue) (stack : List ConstraintValue) → o ≡ Some c → IsPushed o stack (c ∷ stack)
named_pushed None c stack e = cc
named_pushed (Some d) c stack e = let same : c ≡ d = cc in ap (λ (x : ConstraintValue). x ∷ stack) same

size_fine : (n : ℕ) → n ≤ 2 ^ 100 → size_fault n ≡ None
size_fine n le = cond-false (nat_lt (2 ^ 100) n) (Some Overflow) None (le-ltb (2 ^ 100) n le)

module _ (s : StateValue) (id : ℕ) (c denied : ConstraintValue) (m : Literal) (live : get s.live id ≡ Some c) (from_one : 0 < m.var) (normal : IsNormal c.terms c.degree)
    (small : size c ≤ 2 ^ 66) (only : OnlyAs m c.terms) (some : 0 < coefficient m.var c.terms) (less : coefficient m.var c.terms < c.degree) where
  abbrev left : ConstraintValue
  left = weakened m.var c

  abbrev against : ConstraintValue
  against = negation left

  abbrev sum : ConstraintValue
  sum = record { terms = (m, coefficient m.var c.terms) ∷ []; degree = (c.degree + against.degree) - total (others m.var c.terms) }

  sum_total : total sum.terms ≡ coefficient m.var c.terms
  sum_total = let one = sum_by-cons (λ (t : Literal × ℕ). t.1) (m, coefficient m.var c.terms) [] in omega arith

  sum_normal : IsNormal sum.terms sum.degree
  sum_normal = record {
    merged = record {
      positive = All-cons (λ t. 0 < t.1) (m, coefficient m.var c.terms) [] some (All-nil (λ t. 0 < t.1));
      from_one = All-cons (λ t. 0 < t.0.var) (m, coefficient m.var c.terms) [] from_one (All-nil (λ t. 0 < t.0.var));
      rising = λ i j d before short. absurd (omega arith);
    };
    small = let all = sum_total in let split = split_total m.var c.terms in omega arith;
  }

  is_sum : IsSum sum c against
  is_sum = record {
    cancelled = total (others m.var c.terms);
    same = λ x.
        let split = split_value m c.terms x only in
        let both = value-opposite x (others m.var c.terms) in
        let one = sum_by-cons (term_value x) (m, coefficient m.var c.terms) [] in
        omega arith;
    degree = refl;
    normal = sum_normal;
  }

  sizes : size c + size against ≤ 2 ^ 100
  sizes = let split = split_total m.var c.terms in let all = total-opposite (others m.var c.terms) in omega arith

  pub refuted : (r : ConstraintValue) × IsValueOn (given_in s (Some against) (Some denied)) [] (row_tokens id) (Ok r) × (total r.terms < r.degree)
  refuted =
      let given : Given = given_in s (Some against) (Some denied) in (
        sum,
        step given (Id id) [] (c ∷ []) (Negated ∷ Add ∷ []) (Ok sum) (named_fine (get s.live id) id c live) (named_pushed (get s.live id) c [] live)
            (step given Negated (c ∷ []) (against ∷ c ∷ []) (Add ∷ []) (Ok sum) refl refl
            (step given Add (against ∷ c ∷ []) (sum ∷ []) [] (Ok sum) (size_fine (size c + size against) sizes) (sum, is_sum, refl) refl)),
        let all = sum_total in omega arith,
      )

pub refuted_law : FixedRowsAreRefuted
refuted_law s id c denied m live from_one normal small only some less = refuted s id c denied m live from_one normal small only some less
