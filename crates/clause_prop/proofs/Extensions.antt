-- Trails that steps were added to.
use Rattle.std.proofs.Common.{◌≡◌, ◌⊎◌, ℕ, ◌≤◌, List, [], ◌∷◌, ◌++◌, length, refl, arith, ap, sym, ◌∙◌, subst, inl, inr, ⊎_elim, append_assoc, length-append}
use Rattle.std.specs.Prelude.{true, Some, Contains}
use Rattle.std.specs.FinMap.{get}
use Rattle.scut_base.specs.Literal.{Literal}
use Rattle.scut_base.proofs.Lists.{head_same, tail_same}
use Rattle.pb_lin.specs.Constraint.{ConstraintValue}
use Rattle.pb_lin.specs.Propagation.{is_forced}
use Rattle.pb_lin.specs.LineMap.{LineMap}
use Rattle.clause_prop.specs.Steps.{TrailValue, partial, with_step, last_level}
use Rattle.clause_prop.specs.Propagating.{IsForcedStep, Extends}
use Rattle.clause_prop.specs.declared.step.Step.{Step}

nothing_in_none : {X : Type 0} (first after : List X) (s : X) → [] ≡ first ++ (s ∷ after) → ⊥
nothing_in_none [] after s e = cc
nothing_in_none (f ∷ first) after s e = cc

-- an element of two lists is of the one or of the other
in_either : {X : Type 0} (xs ys first after : List X) (s : X) → xs ++ ys ≡ first ++ (s ∷ after)
    → ((rest : List X) × (xs ≡ first ++ (s ∷ rest))) ⊎ ((mid : List X) × (first ≡ xs ++ mid) × (ys ≡ mid ++ (s ∷ after)))
in_either [] ys first after s e = inr (first, refl, e)
in_either {X} (x ∷ xs) ys [] after s e = inl (xs, ap (λ (y : X). y ∷ xs) (head_same x s (xs ++ ys) after e))
in_either {X} (x ∷ xs) ys (f ∷ first) after s e =
    let head : x ≡ f = head_same x f (xs ++ ys) (first ++ (s ∷ after)) e in
    ⊎_elim
    (λ (l : (rest : List X) × (xs ≡ first ++ (s ∷ rest))). inl (l.0, ap (λ (y : X). y ∷ xs) head ∙ ap (λ (zs : List X). f ∷ zs) l.1))
    (λ (r : (mid : List X) × (first ≡ xs ++ mid) × (ys ≡ mid ++ (s ∷ after))). inr (r.0, ap (λ (y : X). y ∷ first) (sym head) ∙ ap (λ (zs : List X). x ∷ zs) r.1, r.2))
    (in_either xs ys first after s (tail_same x f (xs ++ ys) (first ++ (s ∷ after)) e))

-- the place of the only element
in_one : {X : Type 0} (first after : List X) (x s : X) → x ∷ [] ≡ first ++ (s ∷ after) → (first ≡ []) × (s ≡ x)
in_one [] after x s e = (refl, sym (head_same x s [] after e))
in_one (f ∷ first) after x s e = absurd (nothing_in_none first after s (tail_same x f [] (first ++ (s ∷ after)) e))

append_none : {X : Type 0} (xs : List X) → xs ++ [] ≡ xs
append_none [] = refl
append_none {X} (x ∷ xs) = ap (λ (ys : List X). x ∷ ys) (append_none xs)

-- no step
pub extends_none : (store : LineMap) (t : TrailValue) → Extends store t t
extends_none store t = record {
  vars = refl;
  more = [];
  is = sym (append_none t.steps);
  forced = λ first s after e. absurd (nothing_in_none first after s e);
}

-- one step
pub extends_step : (store : LineMap) (t : TrailValue) (s : Step) → IsForcedStep store t.vars t.steps s → Extends store t (with_step t s)
extends_step store t s forced = record {
  vars = refl;
  more = s ∷ [];
  is = refl;
  forced = λ first r after e.
      let one = in_one first after s r e in
      subst (IsForcedStep store t.vars (t.steps ++ first)) (sym one.1)
      (subst (λ (ss : List Step). IsForcedStep store t.vars ss s) (sym (ap (λ (f : List Step). t.steps ++ f) one.0 ∙ append_none t.steps)) forced);
}

-- steps, and then steps
pub extends_twice : (store : LineMap) (a b c : TrailValue) → Extends store a b → Extends store b c → Extends store a c
extends_twice store a b c one two = record {
  vars = two.vars ∙ one.vars;
  more = one.more ++ two.more;
  is = two.is ∙ ap (λ (ss : List Step). ss ++ two.more) one.is ∙ append_assoc a.steps one.more two.more;
  forced = λ first s after e. ⊎_elim
      (λ (l : (rest : List Step) × (one.more ≡ first ++ (s ∷ rest))). one.forced first s l.0 l.1)
      (λ (r : (mid : List Step) × (first ≡ one.more ++ mid) × (two.more ≡ mid ++ (s ∷ after))).
      let steps : b.steps ++ r.0 ≡ a.steps ++ first = ap (λ (ss : List Step). ss ++ r.0) one.is ∙ append_assoc a.steps one.more r.0 ∙ ap (λ (ss : List Step). a.steps ++ ss) (sym r.1) in
      subst (λ (ss : List Step). IsForcedStep store a.vars ss s) steps
      (subst (λ (n : ℕ). IsForcedStep store n (b.steps ++ r.0) s) one.vars (two.forced r.0 s after r.2)))
      (in_either one.more two.more first after s e);
}

-- steps, and then one that a line forces
pub extends_forced : (store : LineMap) (old new : TrailValue) (line : ConstraintValue) (id : ℕ) (t : Literal × ℕ) → Extends store old new → get store id ≡ Some line → Contains line.terms t → is_forced (partial new) line t ≡ true → Extends store old (with_step new (record { lit = t.0; level = last_level new.steps; reason = id }))
extends_forced store old new line id t more there among forced = extends_twice store old new _ more (extends_step store new _ (record {
  line = line;
  there = there;
  forces = record { term = t; among = among; literal = refl; forced = forced };
  level = refl;
}))

-- a trail that has as many steps is the same
pub extends_same : (store : LineMap) (a b : TrailValue) → Extends store a b → length b.steps ≡ length a.steps → b ≡ a
extends_same store a b one long =
    let none : one.more ≡ [] = no_more one.more (omega (arith, long, ap length one.is, length-append a.steps one.more)) in
    let steps : b.steps ≡ a.steps = one.is ∙ ap (λ (ss : List Step). a.steps ++ ss) none ∙ append_none a.steps in
    same_trails b a one.vars steps
  where
    no_more : (ss : List Step) → length ss ≡ 0 → ss ≡ []
    no_more [] e = refl
    no_more (s ∷ ss) e = absurd (omega (arith, e))

    same_trails : (t u : TrailValue) → t.vars ≡ u.vars → t.steps ≡ u.steps → t ≡ u
    same_trails t u vars steps = ap (λ (n : ℕ). record { vars = n; steps = t.steps }) vars ∙ ap (λ (ss : List Step). record { vars = u.vars; steps = ss }) steps

-- no step goes
pub extends_longer : (store : LineMap) (a b : TrailValue) → Extends store a b → length a.steps ≤ length b.steps
extends_longer store a b one = omega (arith, ap length one.is, length-append a.steps one.more)
