use Rattle.std.proofs.Common.{◌≡◌, ℤ, [], ◌∷◌, ◌++◌, arith, subst, sym, pos, neg_ℤ, refl, false, true}
use Rattle.std.specs.List.{All}
use Rattle.std.proofs.lemmas.Int.{ints, to_z-of_z}
use Rattle.std.proofs.lemmas.List.Elements.{All-push}
use Rattle.scut_base.specs.Literal.{Literal}
use Rattle.pb_lin.specs.Constraint.{IsVariable}
use Rattle.pb_lin.specs.Substitution.{ImageUpTo}
use Rattle.proof_rules.proofs.Falls.{decided_pushed, difference_pushed, image_upto, magnitude_pushed}
use Rattle.proof_rules.proofs.Untouched.{term_kept}
use Rattle.proof_rules.proofs.goals.push_difference.Goals as goal

pub returns-in_ok-push-in-Lit-clause-value : goal.returns-in_ok-push-in-Lit-clause-value
returns-in_ok-push-in-Lit-clause-value c = λ a.
    let first : c.push.new.self.items ≡ c.args.terms.now.items ++ (pos c.args.term.1, c.args.term.0) ∷ [] = grind (arith, ints, to_z-of_z, c.in_ok-push.ensures.items) in
    let second : c.push-in-Lit.new.self.items ≡ c.push.new.self.items ++ (neg_ℤ (pos c.args.term.1), c.in-Lit.literal) ∷ [] = grind (arith, ints, to_z-of_z, c.in_ok-push-in-Lit.ensures.items) in
    difference_pushed a c.args.w.now c.args.term.0 c.in-Lit.literal c.args.term.1 c.args.terms.now.items c.push.new.self.items c.push-in-Lit.new.self.items (c.in-Lit.ensures.truth a) first second

pub returns-in_ok-push-in-Lit-clause-variables : goal.returns-in_ok-push-in-Lit-clause-variables
returns-in_ok-push-in-Lit-clause-variables c = λ n variable images old.
    let InRange : ℤ × Literal → Type 0 = λ t. IsVariable n t.1.var in
    let own : IsVariable n c.in-Lit.literal.var = subst (ImageUpTo n) (sym c.in-Lit.ensures.value) (image_upto n c.args.w.now c.args.term.0 images variable) in
    let first = subst (All InRange) (sym c.in_ok-push.ensures.items) (All-push InRange c.args.terms.now.items _ old variable) in
    subst (All InRange) (sym c.in_ok-push-in-Lit.ensures.items) (All-push InRange c.push.new.self.items _ first own)

pub returns-in-Zero-clause-value : goal.returns-in-Zero-clause-value
returns-in-Zero-clause-value c = λ a.
    let first : c.push.new.self.items ≡ c.args.terms.now.items ++ (pos c.args.term.1, c.args.term.0) ∷ [] = grind (arith, ints, to_z-of_z, c.in_ok-push.ensures.items) in
    decided_pushed a c.args.w.now c.args.term.0 c.args.term.1 c.args.terms.now.items c.push.new.self.items false (c.in-Zero.ensures.truth a) first

pub returns-in-Zero-clause-small : goal.returns-in-Zero-clause-small
returns-in-Zero-clause-small c =
    let first : c.push.new.self.items ≡ c.args.terms.now.items ++ (pos c.args.term.1, c.args.term.0) ∷ [] = grind (arith, ints, to_z-of_z, c.in_ok-push.ensures.items) in
    let more = magnitude_pushed c.args.terms.now.items c.push.new.self.items (pos c.args.term.1) c.args.term.0 c.args.term.1 refl first in
    omega arith

pub returns-in-Zero-clause-variables : goal.returns-in-Zero-clause-variables
returns-in-Zero-clause-variables c = λ n variable images old.
    let InRange : ℤ × Literal → Type 0 = λ t. IsVariable n t.1.var in
    subst (All InRange) (sym c.in_ok-push.ensures.items) (All-push InRange c.args.terms.now.items _ old variable)

pub returns-in-One-clause-value : goal.returns-in-One-clause-value
returns-in-One-clause-value c = λ a.
    let first : c.push.new.self.items ≡ c.args.terms.now.items ++ (pos c.args.term.1, c.args.term.0) ∷ [] = grind (arith, ints, to_z-of_z, c.in_ok-push.ensures.items) in
    decided_pushed a c.args.w.now c.args.term.0 c.args.term.1 c.args.terms.now.items c.push.new.self.items true (c.in-One.ensures.truth a) first

pub returns-in-One-clause-small : goal.returns-in-One-clause-small
returns-in-One-clause-small c =
    let first : c.push.new.self.items ≡ c.args.terms.now.items ++ (pos c.args.term.1, c.args.term.0) ∷ [] = grind (arith, ints, to_z-of_z, c.in_ok-push.ensures.items) in
    let more = magnitude_pushed c.args.terms.now.items c.push.new.self.items (pos c.args.term.1) c.args.term.0 c.args.term.1 refl first in
    omega arith

pub returns-in-One-clause-variables : goal.returns-in-One-clause-variables
returns-in-One-clause-variables c = λ n variable images old.
    let InRange : ℤ × Literal → Type 0 = λ t. IsVariable n t.1.var in
    subst (All InRange) (sym c.in_ok-push.ensures.items) (All-push InRange c.args.terms.now.items _ old variable)

pub returns-in_ok-push-in-Lit-clause-small : goal.returns-in_ok-push-in-Lit-clause-small
returns-in_ok-push-in-Lit-clause-small c =
    let first : c.push.new.self.items ≡ c.args.terms.now.items ++ (pos c.args.term.1, c.args.term.0) ∷ [] = grind (arith, ints, to_z-of_z, c.in_ok-push.ensures.items) in
    let second : c.push-in-Lit.new.self.items ≡ c.push.new.self.items ++ (neg_ℤ (pos c.args.term.1), c.in-Lit.literal) ∷ [] = grind (arith, ints, to_z-of_z, c.in_ok-push-in-Lit.ensures.items) in
    let one = magnitude_pushed c.args.terms.now.items c.push.new.self.items (pos c.args.term.1) c.args.term.0 c.args.term.1 refl first in
    let two = magnitude_pushed c.push.new.self.items c.push-in-Lit.new.self.items (neg_ℤ (pos c.args.term.1)) c.in-Lit.literal c.args.term.1 (omega (arith, ints)) second in
    omega arith

pub returns-then-not-has_image-clause-value : goal.returns-then-not-has_image-clause-value
returns-then-not-has_image-clause-value c = λ a. term_kept a c.args.w.now c.args.term.0 c.args.term.1 c.args.terms.now.items (let off = c.has_image.ensures in let no = c.if-not-has_image.true in cc)
