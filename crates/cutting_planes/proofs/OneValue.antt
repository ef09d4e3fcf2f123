-- Tokens have at most one value.
use Rattle.std.specs.Prelude.{◌≡◌, List, [], ◌∷◌, Option, Some, None, Err, MatchOption}
use Rattle.std.proofs.Common.{sym, ◌∙◌, ap, subst, arith}
use Rattle.std.specs.FinMap.{get}
use Rattle.pb_lin.specs.Constraint.{ConstraintValue}
use Rattle.pb_lin.specs.Given.{Given}
use Rattle.pb_lin.proofs.Unique.{equal_from}
use Rattle.cutting_planes.specs.Rules.{IsSum}
use Rattle.cutting_planes.specs.Stack.{token_fault, IsPushed, IsStep, Answer, IsValueOn}
use Rattle.cutting_planes.specs.declared.token.PolToken.{PolToken}
use Rattle.cutting_planes.specs.declared.token.PolToken.TheVariants.{Id, Axiom, Negated, Denied, Add, Mul, Div, Saturate, Weaken}
use Rattle.cutting_planes.specs.declared.fault.PolFault.{PolFault}

-- two constraints have one sum
pub same_sum : (r s p q : ConstraintValue) → IsSum r p q → IsSum s p q → r ≡ s
same_sum r s p q one other =
    equal_from r s one.normal other.normal one.cancelled other.cancelled (λ a. let here = one.same a in let there = other.same a in omega arith)
    (λ e. let left = one.degree in let right = other.degree in omega arith)

same_push : (named : Option ConstraintValue) (stack x y : List ConstraintValue) → IsPushed named stack x → IsPushed named stack y → x ≡ y
same_push None stack x y one other = absurd one
same_push (Some c) stack x y one other = one ∙ sym other

same_step : (given : Given) (token : PolToken) (stack x y : List ConstraintValue) → IsStep given token stack x → IsStep given token stack y → x ≡ y
same_step given (Id id) stack x y one other = same_push (get given.lines id) stack x y one other
same_step given (Axiom lit) stack x y one other = one ∙ sym other
same_step given Negated stack x y one other = same_push given.negated stack x y one other
same_step given Denied stack x y one other = same_push given.denied stack x y one other
same_step given Add [] x y one other = absurd one
same_step given Add (q ∷ []) x y one other = absurd one
same_step given Add (q ∷ p ∷ stack) x y one other = one.2 ∙ ap (λ (r : ConstraintValue). r ∷ stack) (same_sum one.0 other.0 p q one.1 other.1) ∙ sym other.2
same_step given (Mul k) [] x y one other = absurd one
same_step given (Mul k) (c ∷ stack) x y one other = one ∙ sym other
same_step given (Div k) [] x y one other = absurd one
same_step given (Div k) (c ∷ stack) x y one other = one ∙ sym other
same_step given Saturate [] x y one other = absurd one
same_step given Saturate (c ∷ stack) x y one other = one ∙ sym other
same_step given (Weaken var) [] x y one other = absurd one
same_step given (Weaken var) (c ∷ stack) x y one other = one ∙ sym other

-- at a fault the answer is that fault
by_same_fault : {P Q : Type 0} (fault : Option PolFault) (x y : Answer) → MatchOption fault P (λ f. x ≡ Err f) → MatchOption fault Q (λ f. y ≡ Err f) → (P → Q → x ≡ y) → x ≡ y
by_same_fault None x y one other goes_on = goes_on one other
by_same_fault (Some f) x y one other goes_on = one ∙ sym other

value_on : (given : Given) (tokens : List PolToken) (stack : List ConstraintValue) (x y : Answer) → IsValueOn given stack tokens x → IsValueOn given stack tokens y → x ≡ y
value_on given [] stack x y one other = one ∙ sym other
value_on given (token ∷ tokens) stack x y one other =
    by_same_fault (token_fault given token stack) x y one other (λ here there.
    value_on given tokens here.0 x y here.2 (subst (λ (s : List ConstraintValue). IsValueOn given s tokens y) (sym (same_step given token stack here.0 there.0 here.1 there.1)) there.2))

pub at_most_one : (given : Given) (tokens : List PolToken) (x y : Answer) → IsValueOn given [] tokens x → IsValueOn given [] tokens y → x ≡ y
at_most_one given tokens x y one other = value_on given tokens [] x y one other
